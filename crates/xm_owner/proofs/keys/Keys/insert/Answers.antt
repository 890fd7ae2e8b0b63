use Rattle.std.proofs.Common.{sym, subst}
use Rattle.ce_model.specs.Rising.{IsRising}
use Rattle.xm_owner.specs.Tables.{is_key_before}
use Rattle.xm_owner.proofs.KeyOrder.{rising-insert}
use Rattle.xm_owner.proofs.keys.Keys.insert.Goals as goal

pub invariant_of-self : goal.invariant_of-self
invariant_of-self c =
    let at = c.place_of-place.ensures in
    record {
      rising = subst (IsRising is_key_before) (sym c.insert_reserved.ensures.after) (rising-insert c.args.key c.args.self.now.list.items _ at.within c.args.self.now.rising c.requires.absent at.passed at.ahead);
    }
