-- The nodes stay parted by what a daemon does.
use Rattle.std.proofs.Common.{◌≡◌, ℕ, zero, suc, ◌+◌, ◌/◌, ◌%◌, ◌^◌, ◌==◌, pow-suc, ◌<◌, ◌≤◌, Bool, true, false, not, ◌&&◌, ◌||◌, List, [], ◌∷◌, ◌++◌, Some, None, refl, sym, ap, ◌∙◌, arith, inl, inr, zero-add}
use Rattle.std.specs.Prelude.{filter, find, count_by, count_ones}
use Rattle.std.specs.List.{list_any, range_with_len}
use Rattle.std.proofs.lemmas.Bool.{cases_Bool, eqb-true}
use Rattle.std.proofs.lemmas.Bool.Decides.{nat_tests}
use Rattle.std.proofs.lemmas.Nat.{shr-shr, ones_le_self}
use Rattle.ce_model.specs.declared.topology.NodeSet.{NodeSet}
use Rattle.ce_model.specs.Limits.{greatest_dim}
use Rattle.ce_model.specs.Subcubes.{has_node, is_inside, are_all_nodes, ones_of, first_free_subcube}
use Rattle.ce_model.proofs.Subcubes.{all_nodes-inside, first_free-same}
use Rattle.ce_set.proofs.Masks.{count_ones-half}
use Rattle.ce_daemon.specs.declared.grant.Grant.{Grant}
use Rattle.ce_daemon.specs.Holding.{is_grant_of, is_granted, IsPartition}
use Rattle.ce_daemon.proofs.Counting.{count_by-more, count_by-cons, list_any-none, list_any-some, filter-found, count_by-parts, truth_bit, find-count}

-- the free nodes are those of no grant
pub is_ungranted-partition : (dim : ℕ) (held : List Grant) (free : NodeSet) (node : ℕ) → IsPartition dim held free → node < 2 ^ dim
    → has_node free node ≡ not (list_any (is_granted node) held)
is_ungranted-partition dim held free node parted below =
    let one = parted node below in
    elim (cases_Bool (has_node free node)) [
      | inl free_there ↦
          free_there ∙ ap not (sym (list_any-none (is_granted node) held (omega (arith, one, ap truth_bit free_there))))
      | inr taken ↦ taken ∙ ap not (sym (list_any-some (is_granted node) held (omega (arith, one, ap truth_bit taken))))
    ]

-- so what is first among the nodes of the free set is first among those of no grant
pub first_free-partition : (dim d : ℕ) (held : List Grant) (free : NodeSet) → IsPartition dim held free
    → first_free_subcube (has_node free) dim d ≡ first_free_subcube (λ node. not (list_any (is_granted node) held)) dim d
first_free-partition dim d held free parted =
    first_free-same (has_node free) (λ node. not (list_any (is_granted node) held)) dim d (λ node below. is_ungranted-partition dim held free node parted below)

-- how many nodes the free set has
count_by-same : (p q : ℕ → Bool) (from count : ℕ) → ((node : ℕ) → node < from + count → p node ≡ q node) → count_by p (range_with_len from count) ≡ count_by q (range_with_len from count)
count_by-same p q from zero same = refl
count_by-same p q from (suc count) same =
    let rest = count_by-same p q (from + 1) count (λ node below. same node (omega arith)) in
    omega (arith, count_by-cons p from (range_with_len (from + 1) count), count_by-cons q from (range_with_len (from + 1) count), ap truth_bit (same from (omega arith)), rest)

count_by-bits : (word from count : ℕ) → word / 2 ^ from < 2 ^ count → count_ones (word / 2 ^ from) ≡ count_by (λ node. word / 2 ^ node % 2 == 1) (range_with_len from count)
count_by-bits word from zero small = omega (arith, ones_le_self (word / 2 ^ from))
count_by-bits word from (suc count) small =
    let half : word / 2 ^ from / 2 ≡ word / 2 ^ (from + 1) = shr-shr word from 1 in
    let rest = count_by-bits word (from + 1) count (omega (arith, half, pow-suc 2 count)) in
    let here : truth_bit (word / 2 ^ from % 2 == 1) ≡ word / 2 ^ from % 2 = bit_count (word / 2 ^ from % 2) (omega arith) in
    omega (arith, count_ones-half (word / 2 ^ from), ap count_ones half, rest, here, count_by-cons (λ node. word / 2 ^ node % 2 == 1) from (range_with_len (from + 1) count))
  where
    bit_count : (bit : ℕ) → bit < 2 → truth_bit (bit == 1) ≡ bit
    bit_count bit small = grind (arith, nat_tests)

pub free_count-partition : (dim : ℕ) (held : List Grant) (free : NodeSet) → IsPartition dim held free → free.0 < 2 ^ 2 ^ dim
    → count_ones free.0 ≡ count_by (λ node. not (list_any (is_granted node) held)) (range_with_len 0 (2 ^ dim))
free_count-partition dim held free parted within =
    let whole : free.0 / 1 ≡ free.0 = omega arith in
    ap count_ones (sym whole) ∙ count_by-bits free.0 0 (2 ^ dim) (omega (arith, within, whole))
    ∙ count_by-same (has_node free) (λ node. not (list_any (is_granted node) held)) 0 (2 ^ dim) (λ node below. is_ungranted-partition dim held free node parted (omega arith))

-- a grant of free nodes
pub IsPartition-granted : (dim : ℕ) (held : List Grant) (free after : NodeSet) (grant : Grant) → IsPartition dim held free
    → are_all_nodes (has_node free) grant.dim grant.sub ≡ true → ones_of greatest_dim grant.sub.mask ≡ grant.dim
    → ((node : ℕ) → has_node after node ≡ (has_node free node && not (is_inside grant.sub node))) → IsPartition dim (held ++ grant ∷ []) after
IsPartition-granted dim held free after grant parted all ones is node below =
    let one = parted node below in
    let count = count_by-more (is_granted node) held grant in
    elim (cases_Bool (is_inside grant.sub node)) [
      | inl inside ↦
          let was_free = all_nodes-inside (has_node free) grant.dim grant.sub node all ones inside in
          let now : has_node after node ≡ false = is node ∙ rw (was_free, inside) refl in
          omega (arith, one, count, ap truth_bit inside, ap truth_bit was_free, ap truth_bit now)
      | inr outside ↦
          let now : has_node after node ≡ has_node free node = is node ∙ rw outside (and_true (has_node free node)) in
          omega (arith, one, count, ap truth_bit outside, ap truth_bit now)
    ]
  where
    and_true : (b : Bool) → (b && true) ≡ b
    and_true true = refl
    and_true false = refl

-- the one grant of a user goes, and its nodes are free
pub IsPartition-freed : (dim user : ℕ) (held : List Grant) (free after : NodeSet) (grant : Grant) → IsPartition dim held free
    → count_by (is_grant_of user) held ≤ 1 → find (is_grant_of user) held ≡ Some grant
    → ((node : ℕ) → has_node after node ≡ (has_node free node || is_inside grant.sub node)) → IsPartition dim (filter (λ other. not (is_grant_of user other)) held) after
IsPartition-freed dim user held free after grant parted single found is node below =
    let one = parted node below in
    let alone = filter-found (is_grant_of user) held grant found single in
    let parts = count_by-parts (is_granted node) (is_grant_of user) held in
    let gone : count_by (is_granted node) (filter (is_grant_of user) held) ≡ truth_bit (is_inside grant.sub node) =
    ap (count_by (is_granted node)) alone ∙ zero-add (truth_bit (is_inside grant.sub node)) in
    elim (cases_Bool (is_inside grant.sub node)) [
      | inl inside ↦
          let was_taken : has_node free node ≡ false = not_both (has_node free node) (omega (arith, one, parts, gone, ap truth_bit inside)) in
          let now : has_node after node ≡ true = is node ∙ rw (was_taken, inside) refl in
          omega (arith, one, parts, gone, ap truth_bit inside, ap truth_bit was_taken, ap truth_bit now)
      | inr outside ↦
          let now : has_node after node ≡ has_node free node = is node ∙ rw outside (or_false (has_node free node)) in
          omega (arith, one, parts, gone, ap truth_bit outside, ap truth_bit now)
    ]
  where
    not_both : (b : Bool) → truth_bit b ≡ 0 → b ≡ false
    not_both true none = absurd (omega arith)
    not_both false none = refl

    or_false : (b : Bool) → (b || false) ≡ b
    or_false true = refl
    or_false false = refl

-- a user holds one grant at most
pub single-granted : (held : List Grant) (grant : Grant) (user : ℕ) → count_by (is_grant_of user) held ≤ 1 → find (is_grant_of grant.user) held ≡ None
    → count_by (is_grant_of user) (held ++ grant ∷ []) ≤ 1
single-granted held grant user single none =
    let count = count_by-more (is_grant_of user) held grant in
    elim (cases_Bool (is_grant_of user grant)) [
      | inl same ↦
          let is : grant.user ≡ user = eqb-true grant.user user same in
          let zero_of : count_by (is_grant_of user) held ≡ 0 = find-count (is_grant_of user) held (rw is at none) in
          omega (arith, count, zero_of, ap truth_bit same)
      | inr other ↦ omega (arith, single, count, ap truth_bit other)
    ]

pub single-freed : (held : List Grant) (user other : ℕ) → count_by (is_grant_of other) held ≤ 1 → count_by (is_grant_of other) (filter (λ grant. not (is_grant_of user grant)) held) ≤ 1
single-freed held user other single = omega (arith, single, count_by-parts (is_grant_of other) (is_grant_of user) held)
