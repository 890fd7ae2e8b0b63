use Rattle.std.proofs.Common.{refl, ap, sym, ◌∙◌, []}
use Rattle.ce_host.specs.Hosts.{message_for_place}
use Rattle.ce_host.specs.declared.command.Command.TheVariants.{Send}
use Rattle.rk_mail.specs.declared.talk.Hearing.TheVariants.{Posted}
use Rattle.ce_cube.specs.Crews.{serial_facts}
use Rattle.ce_script.specs.Rounds.{serial}
use Rattle.ce_run.proofs.StatesBehind.{no-place-done}
use Rattle.ce_run.proofs.Sent.{none-left, nothing-done, may-send, heard-posted, send-reply, sent-done}
use Rattle.ce_run.proofs.commands.sending.send.Goals as goal

pub returns-then-not-has_place : goal.returns-then-not-has_place
returns-then-not-has_place c =
    no-place-done serial c.args.machine.now (serial_facts c.args.crew.now) c.requires.user.sound c.requires.in_step (Send c.args.to c.args.bytes.now) c.args.to refl
    (sym c.has_place.ensures ∙ c.if-not-has_place.true)

pub returns-in_default : goal.returns-in_default
returns-in_default c =
    let none = none-left c.batch.result c.args.crew.now.host.store.blocks c.args.crew.now.host c.batch.new.self c.in_default.not-Some c.batch.ensures.empty
    c.batch.ensures.unchanged in
    nothing-done c.args.machine.now (serial_facts c.args.crew.now) c.requires.user.sound c.requires.in_step c.args.to c.args.bytes.now
    (sym c.has_place.ensures ∙ c.if-not-has_place.false)
    serial c.batch.new.self none.1 none.0

pub ask_in_cube-requires-clause-call : goal.ask_in_cube-requires-clause-call
ask_in_cube-requires-clause-call c =
    may-send c.args.machine.now (serial_facts c.args.crew.now) c.requires.user.sound c.requires.in_step c.args.to c.args.bytes.now (sym c.has_place.ensures ∙ c.if-not-has_place.false)
    c.as_slice.ensures.bound c.in-Some.batch
    (c.in-Some.ensures.message ∙ ap (λ bytes. message_for_place c.args.to bytes c.args.crew.now.host.store.blocks) c.as_slice.ensures.bytes)

pub batch_of-requires : goal.batch_of-requires
batch_of-requires c =
    heard-posted c.args.machine.now (serial_facts c.args.crew.now) c.requires.user.sound c.requires.in_step c.args.to c.args.bytes.now
    (sym c.has_place.ensures ∙ c.if-not-has_place.false)
    c.as_slice.ensures.bound c.in-Some.batch
    (c.in-Some.ensures.message ∙ ap (λ bytes. message_for_place c.args.to bytes c.args.crew.now.host.store.blocks) c.as_slice.ensures.bytes)
    c.ask_in_cube.new.machine c.batch.new.self (serial_facts c.ask_in_cube.new.crew) c.in_ok-hearing.field-0 c.in_ok-hearing.ensures c.in-Heard.hearing c.in-Heard.is

pub unreachable-requires : goal.unreachable-requires
unreachable-requires c =
    c.in_default-2.not-Heard (Posted []) (send-reply c.args.machine.now (serial_facts c.args.crew.now) c.requires.user.sound c.requires.in_step c.args.to c.args.bytes.now
    (sym c.has_place.ensures ∙ c.if-not-has_place.false)
    c.as_slice.ensures.bound c.in-Some.batch
    (c.in-Some.ensures.message ∙ ap (λ bytes. message_for_place c.args.to bytes c.args.crew.now.host.store.blocks) c.as_slice.ensures.bytes)
    c.ask_in_cube.new.machine c.batch.new.self (serial_facts c.ask_in_cube.new.crew) c.in_ok-hearing.field-0 c.in_ok-hearing.ensures)

pub returns : goal.returns
returns c =
    sent-done c.args.machine.now (serial_facts c.args.crew.now) c.requires.user.sound c.requires.in_step c.args.to c.args.bytes.now (sym c.has_place.ensures ∙ c.if-not-has_place.false)
    c.as_slice.ensures.bound c.in-Some.batch
    (c.in-Some.ensures.message ∙ ap (λ bytes. message_for_place c.args.to bytes c.args.crew.now.host.store.blocks) c.as_slice.ensures.bytes)
    c.ask_in_cube.new.machine c.batch.new.self (serial_facts c.ask_in_cube.new.crew) c.in_ok-hearing.field-0 c.in_ok-hearing.ensures
    c.in-Some.ensures.rest c.in-Some.ensures.room c.regain.new.self c.regain.ensures serial
