use Rattle.std.proofs.Common.{Some, None, sym}
use Rattle.ce_text.proofs.Cutting.{cut_at_place}
use Rattle.ce_text.proofs.line.cut_at.Goals as goal

pub returns-in-None-clause-parts : goal.returns-in-None-clause-parts
returns-in-None-clause-parts c = sym (cut_at_place _ c.args.bytes.now None c.in-None.ensures)

pub returns-in-Some-clause-parts : goal.returns-in-Some-clause-parts
returns-in-Some-clause-parts c = sym (cut_at_place _ c.args.bytes.now (Some c.in-Some.index) c.in-Some.ensures)
