use Rattle.ce_cube.specs.Crews.{serial_facts}
use Rattle.ce_script.specs.Rounds.{serial}
use Rattle.ce_run.proofs.StatesBehind.{may-take}
use Rattle.ce_run.proofs.Looking.{no-message, take-ends, accept-room, accept-apart, message-taken}
use Rattle.ce_run.proofs.commands.running.take_message.Goals as goal

pub ask_in_cube-requires-clause-call : goal.ask_in_cube-requires-clause-call
ask_in_cube-requires-clause-call c =
    may-take c.args.machine.now.parts c.args.machine.now.history (serial_facts c.args.crew.now) c.requires.user.sound.within c.requires.user.sound.lawful c.requires.in_step.held

pub accept-requires-clause-room : goal.accept-requires-clause-room
accept-requires-clause-room c =
    accept-room c.args.machine.now c.ask_in_cube.new.machine (serial_facts c.args.crew.now) (serial_facts c.ask_in_cube.new.crew) c.requires.user.sound c.requires.in_step
    c.in_ok-ask_in_cube.field-0 c.in_ok-ask_in_cube.ensures c.in-Mail.parcel c.in-Mail.is

pub accept-requires-clause-apart : goal.accept-requires-clause-apart
accept-requires-clause-apart c =
    accept-apart c.args.machine.now c.ask_in_cube.new.machine (serial_facts c.args.crew.now) (serial_facts c.ask_in_cube.new.crew) c.requires.user.sound c.requires.in_step
    c.in_ok-ask_in_cube.field-0 c.in_ok-ask_in_cube.ensures c.in-Mail.parcel c.in-Mail.is

pub unreachable-requires : goal.unreachable-requires
unreachable-requires c =
    take-ends c.args.machine.now c.ask_in_cube.new.machine (serial_facts c.args.crew.now) (serial_facts c.ask_in_cube.new.crew) c.requires.user.sound c.requires.in_step
    c.in_ok-ask_in_cube.field-0 c.in_ok-ask_in_cube.ensures c.in_default.not-NoMail c.in_default.not-Mail

pub returns-in-NoMail : goal.returns-in-NoMail
returns-in-NoMail c =
    no-message c.args.machine.now c.ask_in_cube.new.machine (serial_facts c.args.crew.now) (serial_facts c.ask_in_cube.new.crew) c.requires.user.sound c.requires.in_step
    c.in_ok-ask_in_cube.field-0 c.in_ok-ask_in_cube.ensures serial c.in-NoMail.is

pub returns-in-Ok : goal.returns-in-Ok
returns-in-Ok c =
    message-taken c.args.machine.now c.ask_in_cube.new.machine (serial_facts c.args.crew.now) (serial_facts c.ask_in_cube.new.crew) c.requires.user.sound c.requires.in_step
    c.in_ok-ask_in_cube.field-0 c.in_ok-ask_in_cube.ensures c.in-Mail.parcel c.in-Mail.is
    c.accept.new.self c.in-Ok.ensures.stored c.in-Ok.ensures.ids serial c.in-Ok.bytes c.in-Ok.ensures.bytes
