use Rattle.std.proofs.Common.{sym, ◌∙◌, arith}
use Rattle.ce_text.proofs.Cutting.{front_blank_goes, front_stays, front_empty}
use Rattle.ce_text.proofs.line.without_front_blanks.Goals as goal

pub loop-rest-preserved : goal.loop-rest-preserved
loop-rest-preserved c = record {
  same = front_blank_goes c.loop-rest.rest.now (omega arith) (sym c.if-not-is_blank.ensures) ∙ c.loop-rest.invariant.same;
  shorter = omega (arith, c.loop-rest.invariant.shorter);
}

pub returns-in_default-clause-value : goal.returns-in_default-clause-value
returns-in_default-clause-value c = sym (front_empty c.loop-rest.rest.now (omega arith)) ∙ c.loop-rest.invariant.same

pub returns-then-not-is_blank-clause-value : goal.returns-then-not-is_blank-clause-value
returns-then-not-is_blank-clause-value c = sym (front_stays c.loop-rest.rest.now (omega arith) (sym c.if-not-is_blank.ensures)) ∙ c.loop-rest.invariant.same
