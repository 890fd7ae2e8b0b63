use Rattle.std.proofs.Common.{◌≡◌, ◌<◌, ℕ, [], ◌∷◌, ◌++◌, map, sym, ap, ◌∙◌, subst}
use Rattle.std.specs.List.{Contains}
use Rattle.ce_lock.specs.Sitting.{who}
use Rattle.ce_tally.proofs.RowLemmas.{family_there}
use Rattle.ce_tally.proofs.row.close_both.Goals as goal

pub close-requires-clause-all : goal.close-requires-clause-all
close-requires-clause-all c f low = let first_head = c.args.meeting.first_head in let second_head = c.args.meeting.second_head in
    let items : c.push_reserved-2.new.self.items ≡ first_head ∷ second_head ∷ [] =
    c.push_reserved-2.ensures.items ∙ ap (λ l. l ++ second_head ∷ []) (c.push_reserved.ensures.items ∙ ap (λ l. l ++ first_head ∷ []) c.in-Ok.ensures.items) in
    subst (λ l. Contains (map (λ s. (who s).family) l) f) (sym items)
    (family_there first_head second_head f (ap (λ w. w.family) c.requires.first_head.actor) (ap (λ w. w.family) c.requires.second_head.actor) (subst (λ (n : ℕ). f < n) c.requires.families low))
