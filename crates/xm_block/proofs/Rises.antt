-- Lists in order with one element more.
use Rattle.std.proofs.Common.{◌≡◌, ◌⊎◌, ℕ, zero, suc, ◌+◌, ◌-◌, ◌<◌, ◌≤◌, Bool, true, false, List, [], ◌∷◌, length, get_or, arith, refl, ap, ◌∙◌, inl, inr}
use Rattle.std.specs.List.{AllWithin, AllPairs, insert}
use Rattle.std.proofs.lemmas.List.Edits.{length-insert, get_or-insert_below, get_or-insert_at, get_or-insert_above}
use Rattle.std.proofs.lemmas.Bool.{cases_order}
use Rattle.ce_model.specs.Rising.{with_inserted}

-- the place at which an element goes in: it is before none that it passes, and before those behind
-- it
pub put_in-at : {X : Type 0} (before : X → X → Bool) (x : X) (xs : List X) (i : ℕ) → i ≤ length xs
    → AllWithin (λ y. before x y ≡ false) xs 0 i → AllWithin (λ y. before x y ≡ true) xs i (length xs)
    → insert xs i x ≡ with_inserted before x xs
put_in-at before x [] zero h passed ahead = refl
put_in-at before x [] (suc i) h passed ahead = absurd (omega arith)
put_in-at before x (y ∷ ys) zero h passed ahead = rw (ahead 0 x (omega arith) (omega arith)) refl
put_in-at before x (y ∷ ys) (suc i) h passed ahead =
    let rest = put_in-at before x ys i (omega arith)
    (λ k d low high. passed (suc k) d (omega arith) (omega arith))
    (λ k d low high. ahead (suc k) d (omega arith) (omega arith)) in
    rw (passed 0 x (omega arith) (omega arith)) (ap (λ zs. y ∷ zs) rest)

module _ {X : Type 0} (R : X → X → Type 0) (xs : List X) (i : ℕ) (x : X) (h : i ≤ length xs) where
  -- what stands behind the element that went in
  behind : (k : ℕ) (d : X) → i < k → get_or (insert xs i x) k d ≡ get_or xs (k - 1) d
  behind k d lt =
      let e : k ≡ (k - 1) + 1 = omega arith in
      ap (λ m. get_or (insert xs i x) m d) e ∙ get_or-insert_above xs i x d (k - 1) (omega arith) h

  -- a relation at elements that are the same
  joined : (a b c d : X) → a ≡ c → b ≡ d → R c d → R a b
  joined a b c d p q r = rw (p, q) r

  -- what holds of all pairs holds of them with one element more, where it does of that one and
  -- those on either side
  pub AllPairs-insert : AllPairs R xs → AllWithin (λ y. R y x) xs 0 i → AllWithin (R x) xs i (length xs) → AllPairs R (insert xs i x)
  AllPairs-insert pairs passed ahead a b d low high =
      let long : length (insert xs i x) ≡ length xs + 1 = length-insert xs i x h in
      by (omega arith) (cases_order a i) (cases_order b i)
    where
      ys : List X
      ys = insert xs i x

      by : b < length xs + 1 → (a ≡ i) ⊎ ((a < i) ⊎ (i < a)) → (b ≡ i) ⊎ ((b < i) ⊎ (i < b)) → R (get_or ys a d) (get_or ys b d)
      by high (inl p) (inl q) = absurd (omega arith)
      by high (inl p) (inr (inl q)) = absurd (omega arith)
      by high (inl p) (inr (inr q)) =
          joined _ _ _ _ (ap (λ m. get_or ys m d) p ∙ get_or-insert_at xs i x d h) (behind b d q) (ahead (b - 1) d (omega arith) (omega arith))
      by high (inr (inl p)) (inl q) =
          joined _ _ _ _ (get_or-insert_below xs i x d a p h) (ap (λ m. get_or ys m d) q ∙ get_or-insert_at xs i x d h) (passed a d (omega arith) p)
      by high (inr (inl p)) (inr (inl q)) =
          joined _ _ _ _ (get_or-insert_below xs i x d a p h) (get_or-insert_below xs i x d b q h) (pairs a b d low (omega arith))
      by high (inr (inl p)) (inr (inr q)) =
          joined _ _ _ _ (get_or-insert_below xs i x d a p h) (behind b d q) (pairs a (b - 1) d (omega arith) (omega arith))
      by high (inr (inr p)) (inl q) = absurd (omega arith)
      by high (inr (inr p)) (inr (inl q)) = absurd (omega arith)
      by high (inr (inr p)) (inr (inr q)) =
          joined _ _ _ _ (behind a d p) (behind b d q) (pairs (a - 1) (b - 1) d (omega arith) (omega arith))
