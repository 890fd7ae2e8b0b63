use Rattle.std.proofs.Common.{ap, subst, ◌∙◌, Some}
use Rattle.rk_mail.specs.Talk.{call_of_say}
use Rattle.ce_machine.specs.declared.call.Call.TheVariants as calls
use Rattle.ce_cube.specs.Crews.{serial_facts}
use Rattle.ce_script.specs.Rounds.{serial}
use Rattle.ce_run.specs.Asking.{IsStartOrEnd}
use Rattle.ce_run.proofs.StatesBehind.{inner-same, heard-as, heard-told, reply-some, told-done}
use Rattle.ce_run.proofs.commands.sending.give_order.Goals as goal

pub answer_of_hearing-requires : goal.answer_of_hearing-requires
answer_of_hearing-requires c =
    reply-some c.args.machine.now c.ask_in_cube.new.machine (serial_facts c.args.crew.now) (serial_facts c.ask_in_cube.new.crew) (calls.Say c.args.say)
    c.in_ok-hearing.field-0 c.requires.crew.user.sound
    c.requires.crew.in_step c.requires.call c.in_ok-hearing.ensures c.in-Heard.hearing c.in-Heard.is
    (subst IsStartOrEnd (inner-same (call_of_say c.args.say) c.requires.call.inner c.requires.call.is) c.requires.said)

pub unreachable-requires : goal.unreachable-requires
unreachable-requires c =
    let told = heard-told c.args.machine.now c.ask_in_cube.new.machine (serial_facts c.args.crew.now) (serial_facts c.ask_in_cube.new.crew) (calls.Say c.args.say)
    c.in_ok-hearing.field-0 c.requires.crew.user.sound
    c.requires.crew.in_step c.requires.call c.in_ok-hearing.ensures
    (subst IsStartOrEnd (inner-same (call_of_say c.args.say) c.requires.call.inner c.requires.call.is) c.requires.said) in
    c.in_default.not-Heard told.0 told.1

pub returns : goal.returns
returns c command id request =
    let of = subst IsStartOrEnd (inner-same (call_of_say c.args.say) c.requires.call.inner c.requires.call.is) c.requires.said in
    told-done c.args.machine.now c.ask_in_cube.new.machine (serial_facts c.args.crew.now) (serial_facts c.ask_in_cube.new.crew) (calls.Say c.args.say)
    c.in_ok-hearing.field-0 c.requires.crew.user.sound
    c.requires.crew.in_step c.requires.call c.in_ok-hearing.ensures serial c.in-Heard.hearing c.answer_of_hearing.result of
    (heard-as c.args.machine.now c.ask_in_cube.new.machine (serial_facts c.args.crew.now) (serial_facts c.ask_in_cube.new.crew) (calls.Say c.args.say)
    c.in_ok-hearing.field-0 c.requires.crew.user.sound
    c.requires.crew.in_step c.requires.call c.in_ok-hearing.ensures c.in-Heard.hearing c.in-Heard.is of)
    c.answer_of_hearing.ensures command id (request ∙ ap Some c.requires.call.is)
