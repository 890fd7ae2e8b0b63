use Rattle.ce_cube.specs.Crews.{serial_facts}
use Rattle.ce_script.specs.Rounds.{serial}
use Rattle.ce_run.proofs.Answering.{HasWaited, rounds_left}
use Rattle.ce_run.proofs.commands.running.recv.Given as goal

abbrev pub invariant-waiting : goal.invariant-waiting
invariant-waiting l = HasWaited serial l.initial.machine l.machine (serial_facts l.initial.crew) (serial_facts l.crew) l.has_work

abbrev pub decreases-waiting : goal.decreases-waiting
decreases-waiting l = rounds_left l.has_work l.machine (serial_facts l.crew)
