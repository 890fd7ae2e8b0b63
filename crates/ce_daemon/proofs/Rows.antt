-- Boxes in a row.
use Rattle.std.proofs.Common.{◌≡◌, ℕ, ◌+◌, List, [], ◌∷◌, ◌++◌, sym, ◌∙◌, subst, arith, inl, inr, length-append}
use Rattle.std.proofs.lemmas.Bool.{cases_lt}
use Rattle.std.proofs.lemmas.List.{get_or_push, get_or_append_left}
use Rattle.ce_daemon.specs.Boxes.{AreBoxes, IsNodeBox}

-- one box more
pub AreBoxes-push : {N : Type 0} (home : N → ℕ) (clean : N → Type 0) (r : ℕ) (node : ℕ → ℕ) (boxes : List N) (next : N) → AreBoxes home clean r node boxes
    → IsNodeBox home clean (node r) next → AreBoxes home clean (r + 1) node (boxes ++ next ∷ [])
AreBoxes-push {N} home clean r node boxes next are is = record {
  all = omega (arith, length-append boxes (next ∷ []), are.all);
  each = λ k other below.
      let P : ℕ → N → Type 0 = λ n one. IsNodeBox home clean (node n) one in
      elim (cases_lt k r) [
        | inl before ↦ subst (P k) (sym (get_or_append_left boxes (next ∷ []) other k (omega (arith, are.all)))) (are.each k other before)
        | inr at ↦
            let same : r ≡ k = omega arith in
            subst (P k) (sym (get_or_push boxes next other k (are.all ∙ same))) (subst (λ n. P n next) same is)
      ];
}
