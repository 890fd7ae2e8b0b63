use Rattle.ce_run.proofs.Returned.{drain-fits, drained-so, drain-ends}
use Rattle.ce_run.proofs.commands.cubes.drain.Goals as goal

pub ask-requires-clause-fits : goal.ask-requires-clause-fits
ask-requires-clause-fits c = drain-fits c.args.machine.now c.args.user c.requires.user c.requires.holds

pub unreachable-requires : goal.unreachable-requires
unreachable-requires c =
    drain-ends c.args.machine.now c.args.user c.requires.user c.requires.holds c.ask.new.machine c.in_ok-blocks.field-0 c.in_ok-blocks.ensures
    c.in_default.not-Drained

pub returns : goal.returns
returns c =
    drained-so c.args.machine.now c.args.user c.requires.user c.requires.holds c.ask.new.machine c.in_ok-blocks.field-0 c.in_ok-blocks.ensures
    c.in-Drained.blocks c.in-Drained.is
