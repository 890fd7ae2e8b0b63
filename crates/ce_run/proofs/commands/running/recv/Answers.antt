use Rattle.std.proofs.Common.{◌≡◌, ◌<◌, false, Some, ap, sym, subst}
use Rattle.ce_model.specs.declared.entry.LookResult.TheVariants.{Busy}
use Rattle.ce_host.specs.declared.command.Command.TheVariants.{Recv}
use Rattle.ce_host.specs.declared.answer.Answer.{Answer}
use Rattle.ce_host.specs.declared.answer.Answer.TheVariants as answers
use Rattle.ce_cube.specs.Crews.{serial_facts}
use Rattle.ce_script.specs.Rounds.{serial}
use Rattle.ce_script.specs.Commands.{no_message_reply}
use Rattle.ce_run.specs.Rounds.{HasTakenNone, HasEndedCommand}
use Rattle.ce_run.proofs.Answering.{HasWaited, rounds_left, waits-first, waits-on, waits-shorter, took, took-none, message-done, none-not-busy, none-done}
use Rattle.ce_run.proofs.commands.running.recv.Goals.{In_ok-look}
use Rattle.ce_run.proofs.commands.running.recv.Goals as goal

pub waiting-init : goal.waiting-init
waiting-init c = waits-first serial c.args.machine.now (serial_facts c.args.crew.now) c.requires.crew_is.user.sound c.requires.crew_is.in_step

pub returns-in-Some : goal.returns-in-Some
returns-in-Some c =
    λ before first count has allowed.
    message-done serial before c.args.machine.now c.waiting.machine first (serial_facts c.args.crew.now) (serial_facts c.waiting.crew) count has.user.sound
    has.in_step allowed c.waiting.has_work
    c.waiting.invariant c.take_message.new.machine (serial_facts c.take_message.new.crew) c.in-Some.from c.in-Some.bytes
    (took serial c.waiting.machine c.take_message.new.machine (serial_facts c.waiting.crew) (serial_facts c.take_message.new.crew) c.in_ok-from.field-0
    c.in-Some.from c.in-Some.bytes c.in-Some.is
    c.in_ok-from.ensures)

pub waiting-smaller : goal.waiting-smaller
waiting-smaller c =
    let so_far = subst (HasWaited serial c.args.machine.now c.waiting.machine (serial_facts c.args.crew.now) (serial_facts c.waiting.crew))
    c.if-not-has_work.false c.waiting.invariant in
    let none = took-none serial c.waiting.machine c.take_message.new.machine (serial_facts c.waiting.crew) (serial_facts c.take_message.new.crew)
    c.in_ok-from.field-0 c.in_default.is
    c.in_ok-from.ensures in
    subst (λ has_work. rounds_left c.in_ok-has_work.has_work c.round_serial.new.machine (serial_facts c.round_serial.new.crew) < rounds_left has_work
    c.waiting.machine (serial_facts c.waiting.crew))
    (sym c.if-not-has_work.false)
    (waits-shorter c.args.machine.now c.waiting.machine c.take_message.new.machine c.round_serial.new.machine (serial_facts c.args.crew.now)
    (serial_facts c.waiting.crew) (serial_facts c.take_message.new.crew)
    (serial_facts c.round_serial.new.crew) c.requires.crew_is.user.sound so_far none so_far.goes_on.in_step c.in_ok-has_work.has_work c.in_ok-has_work.ensures)

pub waiting-preserved : goal.waiting-preserved
waiting-preserved c =
    waits-on serial c.args.machine.now c.waiting.machine c.take_message.new.machine c.round_serial.new.machine (serial_facts c.args.crew.now)
    (serial_facts c.waiting.crew) (serial_facts c.take_message.new.crew)
    (serial_facts c.round_serial.new.crew) c.requires.crew_is.user.sound
    (subst (HasWaited serial c.args.machine.now c.waiting.machine (serial_facts c.args.crew.now) (serial_facts c.waiting.crew)) c.if-not-has_work.false
    c.waiting.invariant)
    (took-none serial c.waiting.machine c.take_message.new.machine (serial_facts c.waiting.crew) (serial_facts c.take_message.new.crew) c.in_ok-from.field-0
    c.in_default.is c.in_ok-from.ensures)
    c.in_ok-has_work.has_work c.in_ok-has_work.ensures.made_round

-- behind the look that ends it no message waited
module _ (c : In_ok-look) where
  abbrev so_far : HasWaited serial c.args.machine.now c.waiting.machine (serial_facts c.args.crew.now) (serial_facts c.waiting.crew) false
  so_far =
      subst (HasWaited serial c.args.machine.now c.waiting.machine (serial_facts c.args.crew.now) (serial_facts c.waiting.crew)) c.if-not-has_work.true
      c.waiting.invariant

  abbrev none : HasTakenNone serial c.waiting.machine c.take_message.new.machine (serial_facts c.waiting.crew) (serial_facts c.take_message.new.crew)
  none =
      took-none serial c.waiting.machine c.take_message.new.machine (serial_facts c.waiting.crew) (serial_facts c.take_message.new.crew) c.in_ok-from.field-0
      c.in_default.is c.in_ok-from.ensures

  not-busy : c.in_ok-look.field-0 ≡ Busy → ⊥
  not-busy =
      none-not-busy serial c.args.machine.now c.waiting.machine c.take_message.new.machine c.look.new.machine (serial_facts c.args.crew.now)
      (serial_facts c.waiting.crew) (serial_facts c.take_message.new.crew)
      (serial_facts c.look.new.crew) c.in_ok-look.field-0 c.requires.crew_is.user.sound so_far none c.in_ok-look.ensures

  answered : (answer : Answer) → no_message_reply c.in_ok-look.field-0 ≡ Some answer
      → HasEndedCommand serial Recv c.args.machine.now c.look.new.machine (serial_facts c.args.crew.now) (serial_facts c.look.new.crew) answer
  answered answer reply =
      λ before first count has allowed.
      none-done serial before c.args.machine.now c.waiting.machine first (serial_facts c.args.crew.now) (serial_facts c.waiting.crew) count has.user.sound
      has.in_step allowed so_far
      c.take_message.new.machine c.look.new.machine (serial_facts c.take_message.new.crew) (serial_facts c.look.new.crew) c.in_ok-look.field-0 none
      c.in_ok-look.ensures answer reply

pub unreachable-requires : goal.unreachable-requires
unreachable-requires c = not-busy (goal.at.unreachable-requires c).In_ok-look c.in-Busy.is

pub returns-in-Quiet : goal.returns-in-Quiet
returns-in-Quiet c = answered (goal.at.returns-in-Quiet c).In_ok-look answers.None (ap no_message_reply c.in-Quiet.is)

pub returns-in-Spent : goal.returns-in-Spent
returns-in-Spent c = answered (goal.at.returns-in-Spent c).In_ok-look answers.Spent (ap no_message_reply c.in-Spent.is)
