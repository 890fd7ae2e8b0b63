use Rattle.std.proofs.Common.{◌≡◌, ℕ, Bool, not, ◌||◌, ◌==◌, List, Option, Some, refl, sym, ap, ◌∙◌, subst, arith, rules, tests}
use Rattle.std.specs.Prelude.{find, IsSomeAnd, All}
use Rattle.std.proofs.lemmas.Bool.{eq-eqb}
use Rattle.std.proofs.lemmas.Fn.{filter_same}
use Rattle.ce_model.specs.Limits.{greatest_dim}
use Rattle.ce_model.specs.Subcubes.{has_node, IsSubcube}
use Rattle.ce_model.proofs.Subcubes.{find-among, node_of-within}
use Rattle.ce_set.proofs.WordBits.{word-below}
use Rattle.ce_daemon.specs.declared.grant.Grant.{Grant}
use Rattle.ce_daemon.specs.Boxes.{AreGrantBoxes}
use Rattle.ce_daemon.specs.Holding.{is_grant_of}
use Rattle.ce_daemon.proofs.Sound.{IsSubcube-larger, IsSound-freed}
use Rattle.ce_daemon.proofs.daemon.Daemon.freecube.Goals as goal

-- the grant that is found is a subcube of the machine
known : (dim user : ℕ) (held : List Grant) (grant : Grant) → All (λ (one : Grant). IsSubcube dim one.dim one.sub) held → Some grant ≡ find (is_grant_of user) held
    → IsSubcube dim grant.dim grant.sub
known dim user held grant all found = find-among (λ (one : Grant). IsSubcube dim one.dim one.sub) (is_grant_of user) held grant all (sym found)

pub nodes_of-requires-clause-mask_within : goal.nodes_of-requires-clause-mask_within
nodes_of-requires-clause-mask_within g c =
    let d = c.self.inside in
    let is = known d.dim c.args.user d.grants.items c.in-Some.grant c.self.invariant.subcubes (rw (← c.self.view_is) at c.in-Some.ensures) in
    (IsSubcube-larger d.dim greatest_dim c.in-Some.grant.dim c.in-Some.grant.sub c.self.invariant.small is).mask_within

pub nodes_of-requires-clause-base_within : goal.nodes_of-requires-clause-base_within
nodes_of-requires-clause-base_within g c =
    let d = c.self.inside in
    let is = known d.dim c.args.user d.grants.items c.in-Some.grant c.self.invariant.subcubes (rw (← c.self.view_is) at c.in-Some.ensures) in
    (IsSubcube-larger d.dim greatest_dim c.in-Some.grant.dim c.in-Some.grant.sub c.self.invariant.small is).base_within

pub nodes_of-requires-clause-apart : goal.nodes_of-requires-clause-apart
nodes_of-requires-clause-apart g c =
    let d = c.self.inside in
    let is = known d.dim c.args.user d.grants.items c.in-Some.grant c.self.invariant.subcubes (rw (← c.self.view_is) at c.in-Some.ensures) in
    eq-eqb _ _ is.apart

-- the boxes are those of the grant that is found
boxes_of : {N : Type 0} (home : N → ℕ) (clean : N → Type 0) (boxes : List N) (grant : Grant) (found : Option Grant) → IsSomeAnd found (λ one. AreGrantBoxes home clean one boxes)
    → Some grant ≡ found → AreGrantBoxes home clean grant boxes
boxes_of home clean boxes grant found are same =
    let P : Option Grant → Type 0 = λ o. IsSomeAnd o (λ one. AreGrantBoxes home clean one boxes) in
    subst P (sym same) are

pub put_home-requires-clause-at_home : goal.put_home-requires-clause-at_home
put_home-requires-clause-at_home g c = λ k other below.
    let d = c.self.inside in
    let grant = c.in-Some.grant in
    let is = known d.dim c.args.user d.grants.items grant c.self.invariant.subcubes (rw (← c.self.view_is) at c.in-Some.ensures) in
    let are = boxes_of g.N.Homed.home g.N.Homed.clean c.args.boxes.items grant _ c.requires c.in-Some.ensures in
    omega (arith, (are.each k other (omega (arith, are.all))).0, node_of-within d.dim k grant.sub is.base_within is.mask_within is.apart, c.self.invariant.all)

pub invariant_of-self : goal.invariant_of-self
invariant_of-self g c =
    let d = c.self.inside in
    let grant = c.in-Some.grant in
    let found = rw (← c.self.view_is) at c.in-Some.ensures in
    let are = boxes_of g.N.Homed.home g.N.Homed.clean c.args.boxes.items grant _ c.requires c.in-Some.ensures in
    let left = filter_same _ (λ (other : Grant). not (other.user == c.args.user)) _ (λ x b q k. search (rules, tests)) _ _ c.retain.ensures.filtered in
    rw left
    (IsSound-freed g.N.Homed.home g.N.Homed.clean d.dim c.args.user d.free_nodes c.union-self-inside.result d.grants.items d.places.items c.put_home.new.places.items c.args.boxes.items grant c.self.invariant (sym found) (λ count of_free of_nodes.
    c.union-self-inside.ensures.within count of_free (word-below c.nodes_of.result.0 count (λ node there. of_nodes node (sym (c.nodes_of.ensures node) ∙ there)))) (λ node.
    c.union-self-inside.ensures.nodes node ∙ ap (λ (t : Bool). has_node d.free_nodes node || t) (c.nodes_of.ensures node)) are c.put_home.ensures.put c.put_home.ensures.others c.put_home.ensures.all)

pub returns : goal.returns
returns g c =
    let left = filter_same _ (λ (other : Grant). not (other.user == c.args.user)) _ (λ x b q k. search (rules, tests)) _ _ c.retain.ensures.filtered in
    rw (← c.self.view_is, left) refl
