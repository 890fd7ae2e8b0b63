use Rattle.std.proofs.Common.{sym, ◌∙◌}
use Rattle.ce_cube.specs.Crews.{serial_facts}
use Rattle.ce_script.specs.Rounds.{serial}
use Rattle.ce_run.proofs.AtOnce.{dumped}
use Rattle.ce_run.proofs.commands.looking.status.Goals as goal

pub returns : goal.returns
returns c parts history step =
    dumped parts history (serial_facts c.args.crew.now) step serial c.args.place c.status.result c.index.result.now (sym c.has_place.ensures ∙ c.if-not-has_place.false)
    c.index.ensures c.status.ensures
