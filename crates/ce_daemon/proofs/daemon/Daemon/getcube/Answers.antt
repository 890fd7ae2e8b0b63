use Rattle.std.proofs.Common.{◌≡◌, ℕ, ◌≤◌, Bool, not, ◌&&◌, Option, Some, sym, ap, ◌∙◌, arith}
use Rattle.std.proofs.lemmas.Bool.{eq-eqb}
use Rattle.std.proofs.lemmas.Nat.{one_shl}
use Rattle.ce_model.specs.declared.topology.NodeSet.{NodeSet}
use Rattle.ce_model.specs.declared.topology.Subcube.{Subcube}
use Rattle.ce_model.specs.Limits.{greatest_dim, greatest_dim_lem}
use Rattle.ce_model.specs.Subcubes.{has_node, node_of, first_free_subcube, IsSubcube}
use Rattle.ce_model.proofs.Subcubes.{all_nodes-at, first_free-subcube, first_free-all_free, node_of-within, ones_of-bound}
use Rattle.ce_daemon.proofs.Partition.{first_free-partition}
use Rattle.ce_daemon.proofs.Sound.{IsSubcube-larger, IsSound-granted}
use Rattle.ce_daemon.proofs.daemon.Daemon.getcube.Goals as goal

pub returns-in_default-clause-first : goal.returns-in_default-clause-first
returns-in_default-clause-first g c =
    let d = c.self.inside in
    rw (← c.self.view_is) (sym c.in_default.is ∙ c.first_free.ensures ∙ first_free-partition d.dim c.args.cube_dim d.grants.items d.free_nodes c.self.invariant.partition)

pub returns-clause-first : goal.returns-clause-first
returns-clause-first g c =
    let d = c.self.inside in
    rw (← c.self.view_is) (sym c.in-Some.is ∙ c.first_free.ensures ∙ first_free-partition d.dim c.args.cube_dim d.grants.items d.free_nodes c.self.invariant.partition)

-- what is found is a subcube of each machine that is as large
known : (free : NodeSet) (dim d : ℕ) (sub : Subcube) (found : Option Subcube) → dim ≤ greatest_dim → found ≡ first_free_subcube (has_node free) dim d → found ≡ Some sub → IsSubcube greatest_dim d sub
known free dim d sub found small is same = IsSubcube-larger dim greatest_dim d sub small (first_free-subcube (has_node free) dim d sub (sym is ∙ same))

few : (d : ℕ) (sub : Subcube) → IsSubcube greatest_dim d sub → d ≤ 6
few d sub is = omega (arith, is.dimension, ones_of-bound greatest_dim sub.mask, greatest_dim_lem)

pub overflow_shl-cube_dim : goal.overflow_shl-cube_dim
overflow_shl-cube_dim g c =
    let is = known c.self.inside.free_nodes c.self.inside.dim c.args.cube_dim c.in-Some.sub _ c.self.invariant.small c.first_free.ensures c.in-Some.is in
    omega (arith, few c.args.cube_dim c.in-Some.sub is)

pub nodes_of-requires-clause-mask_within : goal.nodes_of-requires-clause-mask_within
nodes_of-requires-clause-mask_within g c =
    (known c.self.inside.free_nodes c.self.inside.dim c.args.cube_dim c.in-Some.sub _ c.self.invariant.small c.first_free.ensures c.in-Some.is).mask_within

pub nodes_of-requires-clause-base_within : goal.nodes_of-requires-clause-base_within
nodes_of-requires-clause-base_within g c =
    (known c.self.inside.free_nodes c.self.inside.dim c.args.cube_dim c.in-Some.sub _ c.self.invariant.small c.first_free.ensures c.in-Some.is).base_within

pub nodes_of-requires-clause-apart : goal.nodes_of-requires-clause-apart
nodes_of-requires-clause-apart g c =
    eq-eqb _ _ (known c.self.inside.free_nodes c.self.inside.dim c.args.cube_dim c.in-Some.sub _ c.self.invariant.small c.first_free.ensures c.in-Some.is).apart

pub take_out-requires-clause-subcube : goal.take_out-requires-clause-subcube
take_out-requires-clause-subcube g c =
    known c.self.inside.free_nodes c.self.inside.dim c.args.cube_dim c.in-Some.sub _ c.self.invariant.small c.first_free.ensures c.in-Some.is

pub take_out-requires-clause-filled : goal.take_out-requires-clause-filled
take_out-requires-clause-filled g c = λ r below.
    let d = c.self.inside in
    let all = first_free-all_free (has_node d.free_nodes) d.dim c.args.cube_dim c.in-Some.sub (sym c.first_free.ensures ∙ c.in-Some.is) in
    c.self.invariant.filled (node_of c.in-Some.sub r) (all_nodes-at (has_node d.free_nodes) c.args.cube_dim c.in-Some.sub r all below)

pub take_out-requires-clause-places : goal.take_out-requires-clause-places
take_out-requires-clause-places g c = λ r below.
    let d = c.self.inside in
    let is = first_free-subcube (has_node d.free_nodes) d.dim c.args.cube_dim c.in-Some.sub (sym c.first_free.ensures ∙ c.in-Some.is) in
    omega (arith, c.self.invariant.all, node_of-within d.dim r c.in-Some.sub is.base_within is.mask_within is.apart)

pub take_out-requires-clause-room : goal.take_out-requires-clause-room
take_out-requires-clause-room g c =
    let is = known c.self.inside.free_nodes c.self.inside.dim c.args.cube_dim c.in-Some.sub _ c.self.invariant.small c.first_free.ensures c.in-Some.is in
    omega (arith, c.in_ok-boxes.ensures.exact, one_shl c.args.cube_dim 64 (omega (arith, few c.args.cube_dim c.in-Some.sub is)))

pub invariant_of-self-2 : goal.invariant_of-self-2
invariant_of-self-2 g c =
    let d = c.self.inside in
    let sub = c.in-Some.sub in
    let none = rw (← c.self.view_is) at c.requires.none_held in
    rw c.in_ok-push.ensures.items
    (IsSound-granted g.N.Homed.home g.N.Homed.clean d.dim d.free_nodes c.difference-self-inside.result d.grants.items d.places.items c.take_out.new.places.items (record {
      number = d.count;
      user = c.args.user;
      dim = c.args.cube_dim;
      sub = sub;
    }) c.self.invariant (sym c.first_free.ensures ∙ c.in-Some.is) none c.difference-self-inside.ensures.within (λ node.
    c.difference-self-inside.ensures.nodes node ∙ ap (λ (t : Bool). has_node d.free_nodes node && not t) (c.nodes_of.ensures node)) c.take_out.ensures.others c.take_out.ensures.all)
