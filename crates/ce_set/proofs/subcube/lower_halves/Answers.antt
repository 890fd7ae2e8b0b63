use Rattle.std.proofs.Common.{◌≡◌, ℕ, ◌+◌, ◌*◌, ◌/◌, ◌%◌, ◌^◌, ◌<◌, Bool, true, false, ◌&&◌, ◌==◌, refl, sym, ap, ◌∙◌, arith, bit_and, inl, inr, get_or}
use Rattle.std.proofs.lemmas.Bool.{cases_lt}
use Rattle.std.proofs.lemmas.Nat.{one_shl, pow_below}
use Rattle.ce_model.specs.Limits.{greatest_dim_lem}
use Rattle.ce_model.specs.Parcels.{is_member}
use Rattle.ce_set.proofs.WordBits.{is_member-and, is_member-down, is_member-above, is_member-clear, clear_masks}
use Rattle.ce_set.proofs.subcube.lower_halves.Goals as goal

shift : (place : ℕ) → place < 6 → 1 * 2 ^ place % 4294967296 ≡ 2 ^ place
shift place below = one_shl place 32 (omega arith)

pub overflow_shl-result : goal.overflow_shl-result
overflow_shl-result c = omega (arith, greatest_dim_lem)

pub overflow_shr-result : goal.overflow_shr-result
overflow_shr-result c =
    let below : c.args.place < 6 = omega (arith, greatest_dim_lem) in
    omega (arith, shift c.args.place below, pow_below c.args.place 6 below)

pub bounds-place : goal.bounds-place
bounds-place c = omega (arith, greatest_dim_lem)

-- the test of the place stands last in the code
turned : (a b c : Bool) → (a && b && c) ≡ (c && a && b)
turned true true true = refl
turned true true false = refl
turned true false true = refl
turned true false false = refl
turned false true true = refl
turned false true false = refl
turned false false true = refl
turned false false false = refl

-- the bit of the three words together
together : (set place n : ℕ) → set < 2 ^ 64 → place < 6
    → is_member n (bit_and (bit_and set (set / 2 ^ (2 ^ place))) (get_or clear_masks place 0))
    ≡ (n / 2 ^ place % 2 == 0 && is_member n set && is_member (n + 2 ^ place) set)
together set place n fits below =
    let both = is_member-and (bit_and set (set / 2 ^ (2 ^ place))) (get_or clear_masks place 0) n
    ∙ ap (λ (t : Bool). t && is_member n (get_or clear_masks place 0)) (is_member-and set (set / 2 ^ (2 ^ place)) n ∙ ap (λ (t : Bool). is_member n set && t) (is_member-down set (2 ^ place) n)) in
    elim (cases_lt n 64) [
      | inl within ↦
          both ∙ ap (λ (t : Bool). is_member n set && is_member (n + 2 ^ place) set && t) (is_member-clear place n below within)
          ∙ turned (is_member n set) (is_member (n + 2 ^ place) set) (n / 2 ^ place % 2 == 0)
      | inr past ↦
          let gone : is_member n set ≡ false = is_member-above set 64 n fits past in
          both ∙ rw gone (sym (both_fail (n / 2 ^ place % 2 == 0) (is_member (n + 2 ^ place) set)))
    ]
  where
    both_fail : (a b : Bool) → (a && false && b) ≡ false
    both_fail true b = refl
    both_fail false b = refl

pub returns : goal.returns
returns c = λ n.
    let below : c.args.place < 6 = omega (arith, greatest_dim_lem) in
    rw (shift c.args.place below) (together c.args.set c.args.place n c.ranges.set.fits below)
