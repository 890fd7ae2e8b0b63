use Rattle.std.proofs.Common.{◌≡◌, ℕ, suc, ◌+◌, ◌-◌, ◌/◌, ◌%◌, ◌^◌, ◌≤◌, Bool, ◌&&◌, ◌==◌, refl, sym, ap, ◌∙◌, arith}
use Rattle.std.proofs.lemmas.Bool.{and_parts, and_from, eqb-true, eq-eqb}
use Rattle.ce_model.specs.Limits.{greatest_dim, greatest_dim_lem}
use Rattle.ce_model.specs.Parcels.{is_member}
use Rattle.ce_model.specs.Subcubes.{extract, extracted_bits, deposit, ones_of, is_base, are_all_nodes, subcube}
use Rattle.ce_model.proofs.Subcubes.{all_nodes-at, all_nodes-each}
use Rattle.ce_set.proofs.Steps.{even_where_clear, odd_where_set}
use Rattle.ce_set.proofs.WordBits.{same_test}
use Rattle.ce_set.proofs.Covers.{covers, covers-one, covers-none, covers-apart, covers-each, covers-from, half_shifted}
use Rattle.ce_set.proofs.subcube.bases_within.Goals as goal

-- a mask below 2 ^ greatest_dim has no bit past its last place
pub loop-place-init : goal.loop-place-init
loop-place-init c = λ n.
    let none : greatest_dim - 6 ≡ 0 = omega (arith, greatest_dim_lem) in
    rw none refl

pub lower_halves-bases-requires : goal.lower_halves-bases-requires
lower_halves-bases-requires c = omega (arith, greatest_dim_lem)

-- the place that is done now, where the mask has a one there
one_more : (bits p place : ℕ) (test : ℕ → Bool) (mask n : ℕ) → place ≡ suc p → place ≤ bits → mask / 2 ^ p % 2 ≡ 1
    → (n / 2 ^ p % 2 == 0 && covers (bits - place) place test (mask / 2 ^ place) n && covers (bits - place) place test (mask / 2 ^ place) (n + 2 ^ p))
    ≡ covers (bits - p) p test (mask / 2 ^ p) n
one_more bits p place test mask n next below one =
    let count : bits - p ≡ suc (bits - suc p) = omega arith in
    rw (next, count) (sym (covers-one (bits - suc p) p test (mask / 2 ^ p) (mask / 2 ^ suc p) n one (half_shifted mask p)))

-- and where it has none
none_more : (bits p place : ℕ) (test : ℕ → Bool) (mask n : ℕ) → place ≡ suc p → place ≤ bits → mask / 2 ^ p % 2 ≡ 0
    → covers (bits - place) place test (mask / 2 ^ place) n ≡ covers (bits - p) p test (mask / 2 ^ p) n
none_more bits p place test mask n next below none =
    let count : bits - p ≡ suc (bits - suc p) = omega arith in
    rw (next, count) (sym (covers-none (bits - suc p) p test (mask / 2 ^ p) (mask / 2 ^ suc p) n none (half_shifted mask p)))

pub loop-place-preserved-then-mask-place-eq1 : goal.loop-place-preserved-then-mask-place-eq1
loop-place-preserved-then-mask-place-eq1 c = λ n.
    let l = c.loop-place in
    let p = l.place - 1 in
    let one = odd_where_set (c.args.mask / 2 ^ p) c.if-mask-place-eq1.true in
    c.lower_halves-bases.ensures n
    ∙ rw (l.invariant n, l.invariant (n + 2 ^ p)) (one_more greatest_dim p l.place (λ k. is_member k c.args.set) c.args.mask n (omega arith) (omega (arith, greatest_dim_lem)) one)

pub loop-place-preserved : goal.loop-place-preserved
loop-place-preserved c = λ n.
    let l = c.loop-place in
    let p = l.place - 1 in
    let none = even_where_clear (c.args.mask / 2 ^ p) c.if-mask-place-eq1.false in
    l.invariant n ∙ none_more greatest_dim p l.place (λ k. is_member k c.args.set) c.args.mask n (omega arith) (omega (arith, greatest_dim_lem)) none

-- once all places are done, the bases are those of the subcubes whose nodes all pass
covers-all : (test : ℕ → Bool) (mask n : ℕ) → covers greatest_dim 0 test mask n ≡ (is_base mask n && are_all_nodes test (ones_of greatest_dim mask) (subcube mask n))
unfolding extract deposit
covers-all test mask n =
    let d = ones_of greatest_dim mask in
    let whole : n / 1 ≡ n = omega arith in
    same_test (covers greatest_dim 0 test mask n) (is_base mask n && are_all_nodes test d (subcube mask n))
    (λ covered.
    and_from (is_base mask n) (are_all_nodes test d (subcube mask n))
    (eq-eqb (extract n mask) 0 (ap (λ k. extracted_bits greatest_dim k mask) (sym whole) ∙ covers-apart greatest_dim 0 test mask n covered))
    (all_nodes-each test d (subcube mask n) (λ r small. ap test (omega arith) ∙ covers-each greatest_dim 0 test mask n r covered small)))
    (λ both.
    let parts = and_parts (is_base mask n) (are_all_nodes test d (subcube mask n)) both in
    covers-from greatest_dim 0 test mask n (ap (λ k. extracted_bits greatest_dim k mask) whole ∙ eqb-true (extract n mask) 0 parts.0)
    (λ r small. ap test (omega arith) ∙ all_nodes-at test d (subcube mask n) r parts.1 small))

pub returns : goal.returns
returns c = λ n.
    let l = c.loop-place in
    let done : l.place ≡ 0 = omega arith in
    let all : greatest_dim - 0 ≡ greatest_dim = omega arith in
    let whole : c.args.mask / 1 ≡ c.args.mask = omega arith in
    let at_end = rw (done, all, whole) at (l.invariant n) in
    at_end ∙ covers-all (λ k. is_member k c.args.set) c.args.mask n
