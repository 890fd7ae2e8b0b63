use Rattle.std.proofs.Common.{sym, subst}
use Rattle.ce_model.specs.Rising.{IsRising}
use Rattle.xm_owner.specs.Tables.{is_key_before}
use Rattle.xm_owner.proofs.keys.Keys.remove_process.Goals as goal

pub invariant_of-self : goal.invariant_of-self
invariant_of-self c = record { rising = subst (IsRising is_key_before) (sym c.remove_between.ensures.left) c.range_of-first.ensures.rising }
