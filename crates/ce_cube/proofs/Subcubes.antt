-- Each subcube of a machine is among those that are listed.
use Rattle.std.proofs.Common.{◌≡◌, ℕ, zero, suc, ◌+◌, ◌^◌, ◌<◌, ◌≤◌, Bool, true, ◌==◌, List, [], ◌∷◌, map, filter, flat_map, refl, inl, inr, arith, subst, sym}
use Rattle.std.specs.Prelude.{Contains}
use Rattle.std.specs.List.{range_with_len}
use Rattle.std.proofs.lemmas.Bool.{cases_Bool, cases_eq, eq-eqb}
use Rattle.std.proofs.lemmas.List.Elements.{Contains-append_left, Contains-append_right}
use Rattle.ce_model.specs.declared.topology.Subcube.{Subcube}
use Rattle.ce_model.specs.Limits.{greatest_dim}
use Rattle.ce_model.specs.Subcubes.{is_base, ones_of, subcube, subcubes_with_mask, subcubes, IsSubcube}

listed_image : {X : Type 0} (image : ℕ → X) (picked : ℕ → Bool) (from count n : ℕ) → from ≤ n → n < from + count → picked n ≡ true
    → Contains (map image (filter picked (range_with_len from count))) (image n)
listed_image image picked from zero n low high good = absurd (omega arith)
listed_image image picked from (suc count) n low high good =
    elim (cases_eq from n) [
      | inl here ↦ subst (λ m. Contains (map image (filter picked (range_with_len from (suc count)))) (image m)) here
          (let passes : picked from ≡ true = subst (λ m. picked m ≡ true) (sym here) good in rw passes (0, omega arith, refl))
      | inr later ↦
          let rest = listed_image image picked (from + 1) count n (omega (arith, later)) (omega arith) good in
          elim (cases_Bool (picked from)) [ inl passes ↦ rw passes (Contains-append_right (image from ∷ []) _ (image n) rest) | inr fails ↦ rw fails rest ]
    ]

listed_among : {X : Type 0} (images : ℕ → List X) (picked : ℕ → Bool) (from count n : ℕ) (x : X) → from ≤ n → n < from + count → picked n ≡ true
    → Contains (images n) x → Contains (flat_map images (filter picked (range_with_len from count))) x
listed_among images picked from zero n x low high good is = absurd (omega arith)
listed_among images picked from (suc count) n x low high good is =
    elim (cases_eq from n) [
      | inl here ↦
          let passes : picked from ≡ true = subst (λ m. picked m ≡ true) (sym here) good in
          let there : Contains (images from) x = subst (λ m. Contains (images m) x) (sym here) is in
          rw passes (Contains-append_left (images from) _ x there)
      | inr later ↦
          let rest = listed_among images picked (from + 1) count n x (omega (arith, later)) (omega arith) good is in
          elim (cases_Bool (picked from)) [ inl passes ↦ rw passes (Contains-append_right (images from) _ x rest) | inr fails ↦ rw fails rest ]
    ]

pub subcube-listed : (dim d : ℕ) (sub : Subcube) → IsSubcube dim d sub → Contains (subcubes dim d) sub
unfolding subcubes
subcube-listed dim d sub is =
    listed_among (subcubes_with_mask (2 ^ dim)) (λ mask. ones_of greatest_dim mask == d) 0 (2 ^ dim) sub.mask sub (omega arith) (omega (arith, is.mask_within)) (eq-eqb _ _ is.dimension)
    (listed_image (subcube sub.mask) (is_base sub.mask) 0 (2 ^ dim) sub.base (omega arith) (omega (arith, is.base_within)) (eq-eqb _ _ is.apart))
