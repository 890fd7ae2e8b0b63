use Rattle.ce_script.specs.Rounds.{serial}
use Rattle.ce_run.proofs.Peeking.{peek-fits, peek-reply, peek-done}
use Rattle.ce_run.proofs.commands.cubes.peek.Goals as goal

pub ask-requires-clause-fits : goal.ask-requires-clause-fits
ask-requires-clause-fits c = peek-fits c.args.machine.now c.args.user c.requires.user

pub unreachable-requires : goal.unreachable-requires
unreachable-requires c =
    c.in_default.not-Peeked _ (peek-reply c.args.machine.now c.ask.new.machine c.args.user c.requires.user c.in_ok-peek_result.field-0 c.in_ok-peek_result.ensures)

pub returns : goal.returns
returns c = peek-done c.args.machine.now c.ask.new.machine c.args.user c.requires.user c.in_ok-peek_result.field-0 c.in_ok-peek_result.ensures serial c.in-Peeked.peek_result c.in-Peeked.is
