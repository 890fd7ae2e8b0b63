use Rattle.std.proofs.Common.{sym, arith, ap, ◌∙◌}
use Rattle.std.proofs.lemmas.List.{get_or_default}
use Rattle.xm_owner.specs.Tables.{is_same_key}
use Rattle.xm_owner.proofs.KeyOrder.{position-here, position-absent}
use Rattle.xm_owner.proofs.keys.Keys.index_of.Goals as goal
use Rattle.xm_owner.proofs.keys.Keys.index_of.Goals.{else-place-len-via-then-place-len+else-eq, else-place-len-via-else-place-len}

pub returns-then-eq : goal.returns-then-eq
returns-then-eq c = sym (position-here c.args.key c.args.self.now.list.items _ c.place_of-place.ensures.passed (omega arith)
    (ap (is_same_key c.args.key) (get_or_default c.args.self.now.list.items _ _ _ (omega arith) ∙ sym c.index.ensures) ∙ sym c.if-eq.ensures))

pub returns-else-place-len : goal.returns-else-place-len
returns-else-place-len c =
    let absent = position-absent c.args.key c.args.self.now.list.items _ c.args.self.now.rising c.place_of-place.ensures.passed c.place_of-place.ensures.ahead
    (λ within. elim c.else-place-len.branch [
      | else-place-len-via-then-place-len+else-eq w ↦ ap (is_same_key c.args.key) (get_or_default c.args.self.now.list.items _ _ _ within ∙ sym w.index.ensures) ∙ sym w.if-eq.ensures
      | else-place-len-via-else-place-len w ↦ absurd (omega arith)
    ]) in omega arith
