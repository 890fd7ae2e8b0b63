use Rattle.std.proofs.Common.{◌≡◌, ℕ, suc, ◌+◌, ◌-◌, ◌*◌, ◌/◌, ◌%◌, ◌^◌, ◌≤◌, Bool, ◌&&◌, ◌||◌, ◌==◌, refl, sym, ap, ◌∙◌, arith, bit_or, inl, inr}
use Rattle.std.specs.Prelude.{nat_le}
use Rattle.std.proofs.lemmas.Bool.{cases_lt, cases_eq, eq-eqb, eqb-true, ne_eqb, false_from_ne_true}
use Rattle.std.proofs.lemmas.Nat.{one_shl, pow_below}
use Rattle.std.proofs.lemmas.Nat.Bits.{bit_at-pow_same, bit_at-pow_other}
use Rattle.ce_model.specs.declared.topology.Subcube.{Subcube}
use Rattle.ce_model.specs.Limits.{greatest_dim, greatest_dim_lem}
use Rattle.ce_model.specs.Parcels.{is_member}
use Rattle.ce_model.specs.Subcubes.{extract, deposit, deposited_bits, is_inside, node_of}
use Rattle.ce_model.proofs.Subcubes.{extract-below, node_of-extract, is_inside-node_of, is_inside-within}
use Rattle.ce_set.proofs.Steps.{even_where_clear, odd_where_set}
use Rattle.ce_set.proofs.WordBits.{same_test, is_member-or, is_member-up, is_member-above}
use Rattle.ce_set.proofs.Covers.{reaches, reaches-one, reaches-none, half_shifted, placed-reached, reaches-placed}
use Rattle.ce_set.proofs.subcube.nodes_of.Goals as goal

pub overflow_shl-nodes : goal.overflow_shl-nodes
overflow_shl-nodes c = omega (arith, c.requires.base_within, ap (λ n. 2 ^ n) greatest_dim_lem)

pub loop-place-init : goal.loop-place-init
loop-place-init c = λ n below.
    let base = c.args.sub.now.base in
    let none : greatest_dim - 6 ≡ 0 = omega (arith, greatest_dim_lem) in
    let one : 1 * 2 ^ base % 18446744073709551616 ≡ 2 ^ base = one_shl base 64 (omega (arith, c.requires.base_within, ap (λ k. 2 ^ k) greatest_dim_lem)) in
    rw (none, one)
    (elim (cases_eq n base) [
      | inl same ↦ rw same (ap (λ x. x == 1) (bit_at-pow_same base) ∙ sym (eq-eqb base base refl))
      | inr other ↦ ap (λ x. x == 1) (bit_at-pow_other base n other) ∙ sym (ne_eqb n base other)
    ])

pub overflow_shl-nodes-then-sub-place-eq1-2 : goal.overflow_shl-nodes-then-sub-place-eq1-2
overflow_shl-nodes-then-sub-place-eq1-2 c =
    let p = c.loop-place.place - 1 in
    omega (arith, one_shl p 32 (omega arith), pow_below p 6 (omega arith))

-- the place that is done now, where the mask has a one there
one_more : (bits p place mask base n : ℕ) → place ≡ suc p → place ≤ bits → mask / 2 ^ p % 2 ≡ 1
    → (reaches (bits - place) place (mask / 2 ^ place) base n || (nat_le (2 ^ p) n && reaches (bits - place) place (mask / 2 ^ place) base (n - 2 ^ p)))
    ≡ reaches (bits - p) p (mask / 2 ^ p) base n
one_more bits p place mask base n next below one =
    let count : bits - p ≡ suc (bits - suc p) = omega arith in
    rw (next, count) (sym (reaches-one (bits - suc p) p (mask / 2 ^ p) (mask / 2 ^ suc p) base n one (half_shifted mask p)))

-- and where it has none
none_more : (bits p place mask base n : ℕ) → place ≡ suc p → place ≤ bits → mask / 2 ^ p % 2 ≡ 0
    → reaches (bits - place) place (mask / 2 ^ place) base n ≡ reaches (bits - p) p (mask / 2 ^ p) base n
none_more bits p place mask base n next below none =
    let count : bits - p ≡ suc (bits - suc p) = omega arith in
    rw (next, count) (sym (reaches-none (bits - suc p) p (mask / 2 ^ p) (mask / 2 ^ suc p) base n none (half_shifted mask p)))

pub loop-place-preserved-then-sub-place-eq1 : goal.loop-place-preserved-then-sub-place-eq1
loop-place-preserved-then-sub-place-eq1 c = λ n below.
    let l = c.loop-place in
    let sub = c.args.sub.now in
    let p = l.place - 1 in
    let one = odd_where_set (sub.mask / 2 ^ p) c.if-sub-place-eq1.true in
    let shift : 1 * 2 ^ p % 4294967296 ≡ 2 ^ p = one_shl p 32 (omega arith) in
    let moved : is_member n (bit_or l.nodes (l.nodes * 2 ^ (2 ^ p) % 18446744073709551616)) ≡ (is_member n l.nodes || (nat_le (2 ^ p) n && is_member (n - 2 ^ p) l.nodes)) =
    is_member-or l.nodes (l.nodes * 2 ^ (2 ^ p) % 18446744073709551616) n ∙ ap (λ (t : Bool). is_member n l.nodes || t) (is_member-up l.nodes (2 ^ p) n below) in
    rw shift
    (moved
    ∙ rw (l.invariant n below, l.invariant (n - 2 ^ p) (omega arith)) (one_more greatest_dim p l.place sub.mask sub.base n (omega arith) (omega (arith, greatest_dim_lem)) one))

pub loop-place-preserved : goal.loop-place-preserved
loop-place-preserved c = λ n below.
    let l = c.loop-place in
    let sub = c.args.sub.now in
    let p = l.place - 1 in
    let none = even_where_clear (sub.mask / 2 ^ p) c.if-sub-place-eq1.false in
    l.invariant n below ∙ none_more greatest_dim p l.place sub.mask sub.base n (omega arith) (omega (arith, greatest_dim_lem)) none

-- once all places are done, the numbers that are reached are the nodes
reaches-all : (sub : Subcube) (n : ℕ) → extract sub.base sub.mask ≡ 0 → reaches greatest_dim 0 sub.mask sub.base n ≡ is_inside sub n
unfolding deposit
reaches-all sub n apart =
    same_test (reaches greatest_dim 0 sub.mask sub.base n) (is_inside sub n)
    (λ reached.
    let found = placed-reached greatest_dim 0 sub.mask sub.base n reached in
    let same : n ≡ node_of sub found.0 = omega (arith, found.2) in
    rw same (is_inside-node_of sub found.0 apart found.1))
    (λ inside.
    let r = extract n sub.mask in
    let there = reaches-placed greatest_dim 0 sub.mask sub.base r (extract-below n sub.mask) in
    let same : sub.base + 1 * deposited_bits greatest_dim r sub.mask ≡ n = omega (arith, node_of-extract sub n inside) in
    rw same at there)

pub returns : goal.returns
returns c = λ n.
    let l = c.loop-place in
    let sub = c.args.sub.now in
    let apart : extract sub.base sub.mask ≡ 0 = eqb-true _ _ c.requires.apart in
    elim (cases_lt n 64) [
      | inl below ↦
          let done : l.place ≡ 0 = omega arith in
          let all : greatest_dim - 0 ≡ greatest_dim = omega arith in
          let whole : sub.mask / 1 ≡ sub.mask = omega arith in
          let at_end = rw (done, all, whole) at (l.invariant n below) in
          at_end ∙ reaches-all sub n apart
      | inr past ↦
          is_member-above l.nodes 64 n l.auto.nodes-fits.fits past
          ∙ sym (false_from_ne_true (is_inside sub n) (λ inside.
          absurd (omega (arith, is_inside-within greatest_dim n sub c.requires.base_within c.requires.mask_within apart inside, ap (λ k. 2 ^ k) greatest_dim_lem))))
    ]
