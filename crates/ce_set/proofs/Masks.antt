-- The first subcube that is free, mask by mask.
use Rattle.std.proofs.Common.{◌≡◌, ℕ, zero, suc, ◌+◌, ◌*◌, ◌/◌, ◌%◌, ◌^◌, ◌<◌, ◌==◌, Bool, true, false, Option, Some, None, refl, ap, arith, pow-suc, inl, inr}
use Rattle.std.specs.Prelude.{find, filter, flat_map, count_ones}
use Rattle.std.specs.List.{range_with_len}
use Rattle.std.proofs.lemmas.Nat.{ones_cat, ones_le_self, zero_from_ones}
use Rattle.std.proofs.lemmas.Bool.{cases_lt}
use Rattle.ce_model.specs.declared.topology.Subcube.{Subcube}
use Rattle.ce_model.specs.Limits.{greatest_dim}
use Rattle.ce_model.specs.Subcubes.{ones_of, subcubes_with_mask}
use Rattle.ce_model.proofs.Subcubes.{find-append, find-append_found}

-- the first that passes, among the subcubes of a machine of so many nodes whose masks are these
-- numbers of so many ones
abbrev pub first_subcube_from : (Subcube → Bool) → (d count mask masks_left : ℕ) → Option Subcube
first_subcube_from test d count mask masks_left =
    find test (flat_map (subcubes_with_mask count) (filter (λ m. ones_of greatest_dim m == d) (range_with_len mask masks_left)))

pub first_subcube_from-other : (test : Subcube → Bool) (d count mask masks_left fewer : ℕ) → masks_left ≡ suc fewer → (ones_of greatest_dim mask == d) ≡ false
    → first_subcube_from test d count mask masks_left ≡ first_subcube_from test d count (mask + 1) fewer
first_subcube_from-other test d count mask masks_left fewer more other = rw (more, other) refl

pub first_subcube_from-none : (test : Subcube → Bool) (d count mask masks_left fewer : ℕ) → masks_left ≡ suc fewer → (ones_of greatest_dim mask == d) ≡ true
    → find test (subcubes_with_mask count mask) ≡ None → first_subcube_from test d count mask masks_left ≡ first_subcube_from test d count (mask + 1) fewer
first_subcube_from-none test d count mask masks_left fewer more same none = rw (more, same) (find-append test (subcubes_with_mask count mask) _ none)

pub first_subcube_from-found : (test : Subcube → Bool) (d count mask masks_left fewer : ℕ) (sub : Subcube) → masks_left ≡ suc fewer → (ones_of greatest_dim mask == d) ≡ true
    → find test (subcubes_with_mask count mask) ≡ Some sub → first_subcube_from test d count mask masks_left ≡ Some sub
first_subcube_from-found test d count mask masks_left fewer sub more same found = rw (more, same) (find-append_found test (subcubes_with_mask count mask) _ sub found)

-- the count of ones that the processor gives
pub count_ones-half : (n : ℕ) → count_ones n ≡ n % 2 + count_ones (n / 2)
count_ones-half n =
    let split : n / 2 * 2 + n % 2 ≡ n = omega arith in
    let cut : count_ones (n / 2 * 2 + n % 2) ≡ count_ones (n / 2) + count_ones (n % 2) = ones_cat 1 (n / 2) (n % 2) (omega arith) in
    let low : count_ones (n % 2) ≡ n % 2 =
    elim (cases_lt (count_ones (n % 2)) 1) [ inl few ↦ omega (arith, zero_from_ones (n % 2) (omega arith)) | inr some ↦ omega (arith, ones_le_self (n % 2)) ] in
    omega (arith, ap count_ones split, cut, low)

pub count_ones-below : (bits n : ℕ) → n < 2 ^ bits → count_ones n ≡ ones_of bits n
count_ones-below zero n small = omega (arith, ones_le_self n)
count_ones-below (suc bits) n small =
    omega (arith, count_ones-half n, count_ones-below bits (n / 2) (omega (arith, pow-suc 2 bits)))
