use Rattle.ce_model.specs.declared.entry.LookResult.TheVariants as look_result
use Rattle.ce_cube.specs.Crews.{serial_facts}
use Rattle.ce_script.specs.Rounds.{serial}
use Rattle.ce_run.proofs.StatesBehind.{may-look}
use Rattle.ce_run.proofs.Looking.{looked, look-ends}
use Rattle.ce_run.proofs.commands.running.look.Goals as goal

pub ask_in_cube-requires-clause-call : goal.ask_in_cube-requires-clause-call
ask_in_cube-requires-clause-call c =
    may-look c.args.machine.now.parts c.args.machine.now.history (serial_facts c.args.crew.now) c.requires.user.sound.within c.requires.user.sound.lawful c.requires.in_step.held

pub unreachable-requires : goal.unreachable-requires
unreachable-requires c =
    look-ends c.args.machine.now c.ask_in_cube.new.machine (serial_facts c.args.crew.now) (serial_facts c.ask_in_cube.new.crew) c.requires.user.sound c.requires.in_step
    c.in_ok-ask_in_cube.field-0 c.in_ok-ask_in_cube.ensures c.in_default.not-Quiet c.in_default.not-Spent c.in_default.not-Busy

pub returns-in-Quiet : goal.returns-in-Quiet
returns-in-Quiet c =
    looked c.args.machine.now c.ask_in_cube.new.machine (serial_facts c.args.crew.now) (serial_facts c.ask_in_cube.new.crew) c.requires.user.sound c.requires.in_step
    c.in_ok-ask_in_cube.field-0 c.in_ok-ask_in_cube.ensures serial look_result.Quiet c.in-Quiet.is

pub returns-in-Spent : goal.returns-in-Spent
returns-in-Spent c =
    looked c.args.machine.now c.ask_in_cube.new.machine (serial_facts c.args.crew.now) (serial_facts c.ask_in_cube.new.crew) c.requires.user.sound c.requires.in_step
    c.in_ok-ask_in_cube.field-0 c.in_ok-ask_in_cube.ensures serial look_result.Spent c.in-Spent.is

pub returns-in-Busy : goal.returns-in-Busy
returns-in-Busy c =
    looked c.args.machine.now c.ask_in_cube.new.machine (serial_facts c.args.crew.now) (serial_facts c.ask_in_cube.new.crew) c.requires.user.sound c.requires.in_step
    c.in_ok-ask_in_cube.field-0 c.in_ok-ask_in_cube.ensures serial look_result.Busy c.in-Busy.is
