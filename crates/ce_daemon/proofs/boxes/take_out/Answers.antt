use Rattle.std.proofs.Common.{◌≡◌, ℕ, ◌*◌, ◌%◌, ◌^◌, ◌<◌, ◌≢◌, List, Option, None, Some, length, get_or, set, sym, ap, ◌∙◌, subst, arith, get_or-set_other, true, length-set}
use Rattle.std.specs.Prelude.{IsSomeAnd}
use Rattle.std.proofs.lemmas.Bool.{false≢true}
use Rattle.std.proofs.lemmas.List.{get_or_read}
use Rattle.std.proofs.lemmas.Nat.{one_shl}
use Rattle.ce_model.specs.Limits.{greatest_dim, greatest_dim_lem}
use Rattle.ce_model.specs.Subcubes.{node_of, is_inside, ones_of}
use Rattle.ce_model.proofs.Subcubes.{ones_of-bound, same_from_node_of, is_inside-node_of}
use Rattle.ce_daemon.specs.Boxes.{HasBox, IsNodeBox}
use Rattle.ce_daemon.proofs.Rows.{AreBoxes-push}
use Rattle.ce_daemon.proofs.boxes.take_out.Goals as goal

pub overflow_shl-r-end : goal.overflow_shl-r-end
overflow_shl-r-end g c = omega (arith, c.requires.subcube.dimension, ones_of-bound greatest_dim c.args.sub.now.mask, greatest_dim_lem)

-- how many boxes come out
count_is : (d mask : ℕ) → ones_of greatest_dim mask ≡ d → 1 * 2 ^ d % 4294967296 ≡ 2 ^ d
count_is d mask is = one_shl d 32 (omega (arith, is, ones_of-bound greatest_dim mask, greatest_dim_lem))

-- another place keeps its box
kept : {N : Type 0} (home : N → ℕ) (clean : N → Type 0) (places : List (Option N)) (node other : ℕ) (next : Option N) → other ≢ node
    → HasBox home clean places other → HasBox home clean (set places node next) other
kept home clean places node other next apart has = rw get_or-set_other has

-- what a place has is the box that is taken
is_taken : {N : Type 0} (home : N → ℕ) (clean : N → Type 0) (places : List (Option N)) (node : ℕ) (there : Option N) (taken : N)
    → HasBox home clean places node → there ≡ get_or places node None → Some taken ≡ there → IsNodeBox home clean node taken
is_taken {N} home clean places node there taken has is same =
    let P : Option N → Type 0 = λ o. IsSomeAnd o (IsNodeBox home clean node) in
    subst P (sym (same ∙ is)) has

pub loop-r-preserved : goal.loop-r-preserved
loop-r-preserved g c =
    let l = c.loop-r in
    let sub = c.args.sub.now in
    let home = g.N.Homed.home in
    let clean = g.N.Homed.clean in
    let count = count_is c.args.cube_dim sub.mask c.requires.subcube.dimension in
    let here : l.r < 2 ^ c.args.cube_dim = omega (arith, count) in
    let ones : 2 ^ ones_of greatest_dim sub.mask ≡ 2 ^ c.args.cube_dim = ap (λ n. 2 ^ n) c.requires.subcube.dimension in
    let apart = c.requires.subcube.apart in
    let index = c.node_of-node.result in
    let at_node : index ≡ node_of sub l.r = c.node_of-node.ensures in
    let within : index < length l.places.items = omega (arith, at_node, c.requires.places l.r here, l.invariant.all) in
    let there = get_or_read l.places.items index c.index_mut-place.result.now within c.index_mut-place.ensures.value None in
    let has : HasBox home clean l.places.items index = rw at_node (l.invariant.rest l.r (omega arith) here) in
    let is : IsNodeBox home clean index c.in-Some.node_box =
    is_taken home clean l.places.items index c.index_mut-place.result.now c.in-Some.node_box has there c.in-Some.ensures.value in
    record {
      out = rw c.push_reserved.ensures.items (AreBoxes-push home clean l.r (node_of sub) l.boxes.items c.in-Some.node_box l.invariant.out (rw at_node at is));
      rest = λ s past below.
          kept home clean l.places.items index (node_of sub s) c.take.new.self
          (λ same. absurd (omega (arith, same_from_node_of sub s l.r apart (omega (arith, ones)) (omega (arith, ones)) (same ∙ at_node))))
          (l.invariant.rest s (omega arith) below);
      others = λ n outside held.
          kept home clean l.places.items index n c.take.new.self
          (λ same.
          let inside : is_inside sub n ≡ true = rw (same ∙ at_node) (is_inside-node_of sub l.r apart (omega (arith, ones))) in
          absurd (false≢true (sym outside ∙ inside)))
          (l.invariant.others n outside held);
      all = length-set l.places.items _ _ ∙ l.invariant.all;
      room = omega (arith, l.invariant.room, c.push_reserved.ensures.capacity);
    }

pub returns-clause-taken : goal.returns-clause-taken
returns-clause-taken g c =
    let same : c.loop-r.r ≡ 2 ^ c.args.cube_dim = omega (arith, count_is c.args.cube_dim c.args.sub.now.mask c.requires.subcube.dimension) in
    rw same at c.loop-r.invariant.out
