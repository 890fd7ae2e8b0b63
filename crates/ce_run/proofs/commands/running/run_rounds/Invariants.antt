use Rattle.ce_cube.specs.Crews.{serial_facts, cube_dispatches_left}
use Rattle.ce_script.specs.Rounds.{serial}
use Rattle.ce_run.proofs.Going.{HasMadeRounds}
use Rattle.ce_run.proofs.commands.running.run_rounds.Given as goal

abbrev pub invariant-rounds : goal.invariant-rounds
invariant-rounds l = HasMadeRounds serial l.initial.machine l.machine (serial_facts l.initial.crew) (serial_facts l.crew)

abbrev pub decreases-rounds : goal.decreases-rounds
decreases-rounds l = cube_dispatches_left l.machine l.crew.grant
