use Rattle.std.proofs.Common.{ap}
use Rattle.ce_host.specs.declared.answer.Answer.TheVariants.{Quiet, Spent}
use Rattle.ce_cube.specs.Crews.{serial_facts}
use Rattle.ce_script.specs.Rounds.{serial}
use Rattle.ce_script.specs.Commands.{run_reply}
use Rattle.ce_run.proofs.Going.{crew-stays}
use Rattle.ce_run.proofs.Answering.{not-busy, rests-behind-rounds, run-done}
use Rattle.ce_run.proofs.commands.running.run.Goals as goal

pub look-requires : goal.look-requires
look-requires c =
    crew-stays serial c.args.machine.now c.run_rounds.new.machine (serial_facts c.args.crew.now) (serial_facts c.run_rounds.new.crew) _
    c.in_ok-run_rounds.ensures.goes_on c.requires.crew_is

pub unreachable-requires : goal.unreachable-requires
unreachable-requires c =
    let crew = crew-stays serial c.args.machine.now c.run_rounds.new.machine (serial_facts c.args.crew.now) (serial_facts c.run_rounds.new.crew) _
    c.in_ok-run_rounds.ensures.goes_on c.requires.crew_is in
    not-busy serial c.run_rounds.new.machine c.look.new.machine (serial_facts c.run_rounds.new.crew) (serial_facts c.look.new.crew) c.in_ok-look.field-0
    crew.user.sound crew.in_step
    c.in_ok-look.ensures
    (rests-behind-rounds serial c.args.machine.now c.run_rounds.new.machine (serial_facts c.args.crew.now) (serial_facts c.run_rounds.new.crew) crew.user.sound
    c.in_ok-run_rounds.ensures) c.in-Busy.is

pub returns-in-Quiet : goal.returns-in-Quiet
returns-in-Quiet c =
    λ before first count has allowed.
    run-done serial before c.args.machine.now c.run_rounds.new.machine c.look.new.machine first (serial_facts c.args.crew.now)
    (serial_facts c.run_rounds.new.crew) (serial_facts c.look.new.crew)
    count c.in_ok-look.field-0 Quiet has.user.sound has.in_step allowed c.in_ok-run_rounds.ensures c.in_ok-look.ensures (ap run_reply c.in-Quiet.is)

pub returns-in-Spent : goal.returns-in-Spent
returns-in-Spent c =
    λ before first count has allowed.
    run-done serial before c.args.machine.now c.run_rounds.new.machine c.look.new.machine first (serial_facts c.args.crew.now)
    (serial_facts c.run_rounds.new.crew) (serial_facts c.look.new.crew)
    count c.in_ok-look.field-0 Spent has.user.sound has.in_step allowed c.in_ok-run_rounds.ensures c.in_ok-look.ensures (ap run_reply c.in-Spent.is)
