-- What holds of a daemon's parts stays so.
use Rattle.std.proofs.Common.{◌≡◌, ℕ, zero, suc, ◌-◌, ◌/◌, ◌%◌, ◌^◌, ◌==◌, ◌<◌, ◌≤◌, true, false, not, ◌&&◌, ◌||◌, List, [], ◌∷◌, ◌++◌, Option, Some, None, length, get_or, map, sym, ap, ◌∙◌, subst, arith, inl, inr}
use Rattle.std.specs.Prelude.{filter, find, All, IsSomeAnd}
use Rattle.std.proofs.lemmas.Bool.{and_parts, not-true, or_cases}
use Rattle.std.proofs.lemmas.List.{length-map}
use Rattle.std.proofs.lemmas.List.Elements.{All-push, All-filter, All-nil, All-get_or}
use Rattle.std.proofs.lemmas.Nat.{pow_pos}
use Rattle.std.proofs.lemmas.Nat.Bits.{bit_at_ones}
use Rattle.ce_model.specs.declared.topology.NodeSet.{NodeSet}
use Rattle.ce_model.specs.declared.topology.Subcube.{Subcube}
use Rattle.ce_model.specs.Limits.{greatest_dim}
use Rattle.ce_model.specs.Subcubes.{has_node, is_inside, extract, first_free_subcube, ones_of, IsSubcube}
use Rattle.ce_model.proofs.Subcubes.{first_free-subcube, first_free-all_free, find-among, is_inside-within, extract-below, node_of-extract}
use Rattle.ce_set.proofs.Steps.{pow_le}
use Rattle.ce_set.proofs.WordBits.{below-is_member}
use Rattle.ce_daemon.specs.declared.grant.Grant.{Grant}
use Rattle.ce_daemon.specs.Boxes.{AreBoxes, AreGrantBoxes, HasBox, IsNodeBox}
use Rattle.ce_daemon.specs.Holding.{is_grant_of}
use Rattle.ce_daemon.specs.Sound.{IsSoundDaemon}
use Rattle.ce_daemon.proofs.Counting.{truth_bit}
use Rattle.ce_daemon.proofs.Partition.{IsPartition-granted, IsPartition-freed, single-granted, single-freed}

-- a subcube of a machine is one of each larger machine
pub IsSubcube-larger : (dim larger d : ℕ) (sub : Subcube) → dim ≤ larger → IsSubcube dim d sub → IsSubcube larger d sub
IsSubcube-larger dim larger d sub small known = record {
  mask_within = omega (arith, known.mask_within, pow_le dim larger small);
  base_within = omega (arith, known.base_within, pow_le dim larger small);
  dimension = known.dimension;
  apart = known.apart;
}

-- boxes at their places
boxes-placed : {N : Type 0} (P : ℕ → N → Type 0) (boxes : List N) (node : ℕ) → node < length boxes
    → ((r : ℕ) (other : N) → r < length boxes → P r (get_or boxes r other)) → IsSomeAnd (get_or (map Some boxes) node None) (P node)
boxes-placed P [] node below each = absurd (omega arith)
boxes-placed P (first ∷ boxes) zero below each = each 0 first (omega arith)
boxes-placed P (first ∷ boxes) (suc node) below each =
    boxes-placed (λ r. P (suc r)) boxes node (omega arith) (λ r other h. each (suc r) other (omega arith))

pub IsSound-new : {N : Type 0} (home : N → ℕ) (clean : N → Type 0) (dim : ℕ) (free : NodeSet) (boxes : List N) → dim ≤ greatest_dim
    → AreBoxes home clean (2 ^ dim) (λ node. node) boxes → free.0 ≡ 2 ^ 2 ^ dim - 1 → IsSoundDaemon home clean dim free [] (map Some boxes)
IsSound-new {N} home clean dim free boxes small are all =
    let within : free.0 < 2 ^ 2 ^ dim = omega (arith, all, pow_pos (2 ^ dim)) in
    record {
      small = small;
      within = within;
      partition = λ node below.
          let here : has_node free node ≡ true = ap (λ word. word / 2 ^ node % 2 == 1) all ∙ ap (λ x. x == 1) (bit_at_ones (2 ^ dim) node below) in
          omega (arith, ap truth_bit here);
      subcubes = All-nil (λ (g : Grant). IsSubcube dim g.dim g.sub);
      single = λ user. omega arith;
      all = length-map boxes Some ∙ are.all;
      filled = λ node here.
          let below : node < length boxes = omega (arith, are.all, below-is_member free.0 (2 ^ dim) node within here) in
          boxes-placed (λ n one. IsNodeBox home clean n one) boxes node below (λ r other h. are.each r other (omega (arith, are.all)));
    }

-- a grant of the first free subcube
pub IsSound-granted : {N : Type 0} (home : N → ℕ) (clean : N → Type 0) (dim : ℕ) (free after : NodeSet) (held : List Grant) (places left : List (Option N)) (grant : Grant)
    → IsSoundDaemon home clean dim free held places → first_free_subcube (has_node free) dim grant.dim ≡ Some grant.sub → find (is_grant_of grant.user) held ≡ None
    → after.0 ≤ free.0 → ((node : ℕ) → has_node after node ≡ (has_node free node && not (is_inside grant.sub node)))
    → ((node : ℕ) → is_inside grant.sub node ≡ false → HasBox home clean places node → HasBox home clean left node) → length left ≡ length places
    → IsSoundDaemon home clean dim after (held ++ grant ∷ []) left
IsSound-granted home clean dim free after held places left grant sound found none fewer is others all =
    let known = first_free-subcube (has_node free) dim grant.dim grant.sub found in
    let all_free = first_free-all_free (has_node free) dim grant.dim grant.sub found in
    record {
      small = sound.small;
      within = omega (arith, sound.within, fewer);
      partition = IsPartition-granted dim held free after grant sound.partition all_free known.dimension is;
      subcubes = All-push (λ (g : Grant). IsSubcube dim g.dim g.sub) held grant sound.subcubes known;
      single = λ user. single-granted held grant user (sound.single user) none;
      all = all ∙ sound.all;
      filled = λ node here.
          let parts = and_parts (has_node free node) (not (is_inside grant.sub node)) (sym (is node) ∙ here) in
          others node (not-true (is_inside grant.sub node) parts.1) (sound.filled node parts.0);
    }

-- the box of a node of the grant is at its place again
back_home : {N : Type 0} (home : N → ℕ) (clean : N → Type 0) (filled : List (Option N)) (boxes : List N) (grant : Grant) (node : ℕ) → AreGrantBoxes home clean grant boxes
    → All (λ next. HasBox home clean filled (home next)) boxes → ones_of greatest_dim grant.sub.mask ≡ grant.dim → is_inside grant.sub node ≡ true → HasBox home clean filled node
back_home home clean filled [] grant node are put ones inside = absurd (omega (arith, are.all, pow_pos grant.dim))
back_home {N} home clean filled (first ∷ boxes) grant node are put ones inside =
    let r = extract node grant.sub.mask in
    let small : r < 2 ^ grant.dim = rw (← ones) (extract-below node grant.sub.mask) in
    let box = get_or (first ∷ boxes) r first in
    let at_node : home box ≡ node = (are.each r first small).0 ∙ node_of-extract grant.sub node inside in
    let there : HasBox home clean filled (home box) = All-get_or (λ next. HasBox home clean filled (home next)) (first ∷ boxes) r first (omega (arith, are.all)) put in
    let P : ℕ → Type 0 = λ n. HasBox home clean filled n in
    subst P at_node there

-- a user's grant comes back
pub IsSound-freed : {N : Type 0} (home : N → ℕ) (clean : N → Type 0) (dim user : ℕ) (free after : NodeSet) (held : List Grant) (places filled : List (Option N)) (boxes : List N) (grant : Grant)
    → IsSoundDaemon home clean dim free held places → find (is_grant_of user) held ≡ Some grant
    → ((count : ℕ) → free.0 < 2 ^ count → ((node : ℕ) → is_inside grant.sub node ≡ true → node < count) → after.0 < 2 ^ count)
    → ((node : ℕ) → has_node after node ≡ (has_node free node || is_inside grant.sub node))
    → AreGrantBoxes home clean grant boxes → All (λ next. HasBox home clean filled (home next)) boxes
    → ((node : ℕ) → HasBox home clean places node → HasBox home clean filled node) → length filled ≡ length places
    → IsSoundDaemon home clean dim after (filter (λ other. not (is_grant_of user other)) held) filled
IsSound-freed {N} home clean dim user free after held places filled boxes grant sound found within is are put others all =
    let known = find-among (λ (g : Grant). IsSubcube dim g.dim g.sub) (is_grant_of user) held grant sound.subcubes found in
    record {
      small = sound.small;
      within = within (2 ^ dim) sound.within (λ node inside. is_inside-within dim node grant.sub known.base_within known.mask_within known.apart inside);
      partition = IsPartition-freed dim user held free after grant sound.partition (sound.single user) found is;
      subcubes = All-filter (λ other. not (is_grant_of user other)) (λ (g : Grant). IsSubcube dim g.dim g.sub) held sound.subcubes;
      single = λ other. single-freed held user other (sound.single other);
      all = all ∙ sound.all;
      filled = λ node here.
          elim (or_cases (has_node free node) (is_inside grant.sub node) (sym (is node) ∙ here)) [
            | inl was_free ↦ others node (sound.filled node was_free)
            | inr inside ↦ back_home home clean filled boxes grant node are put known.dimension inside
          ];
    }
