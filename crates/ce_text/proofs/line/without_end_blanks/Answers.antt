use Rattle.std.proofs.Common.{sym, ◌∙◌, arith}
use Rattle.ce_text.proofs.Cutting.{end_blank_goes, end_stays, end_empty}
use Rattle.ce_text.proofs.line.without_end_blanks.Goals as goal

pub loop-rest-preserved : goal.loop-rest-preserved
loop-rest-preserved c = end_blank_goes c.loop-rest.rest.now (omega arith) (sym c.if-not-is_blank.ensures) ∙ c.loop-rest.invariant

pub returns-in_default : goal.returns-in_default
returns-in_default c = sym (end_empty c.loop-rest.rest.now (omega arith)) ∙ c.loop-rest.invariant

pub returns-then-not-is_blank : goal.returns-then-not-is_blank
returns-then-not-is_blank c = sym (end_stays c.loop-rest.rest.now (omega arith) (sym c.if-not-is_blank.ensures)) ∙ c.loop-rest.invariant
