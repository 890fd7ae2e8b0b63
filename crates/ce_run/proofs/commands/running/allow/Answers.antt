use Rattle.ce_cube.specs.Crews.{serial_facts}
use Rattle.ce_script.specs.Rounds.{serial}
use Rattle.ce_run.proofs.StatesBehind.{may-allow}
use Rattle.ce_run.proofs.Looking.{allowed}
use Rattle.ce_run.proofs.commands.running.allow.Goals as goal

pub ask_in_cube-requires-clause-call : goal.ask_in_cube-requires-clause-call
ask_in_cube-requires-clause-call c =
    may-allow c.args.machine.now.parts c.args.machine.now.history (serial_facts c.args.crew.now) c.requires.crew.user.sound.within c.requires.crew.user.sound.lawful c.requires.crew.in_step.held
    c.args.count c.requires.count

pub returns : goal.returns
returns c =
    allowed c.args.machine.now c.ask_in_cube.new.machine (serial_facts c.args.crew.now) (serial_facts c.ask_in_cube.new.crew) c.requires.crew.user.sound c.requires.crew.in_step
    c.in_ok-ask_in_cube.field-0 serial c.args.count c.requires.count c.in_ok-ask_in_cube.ensures
