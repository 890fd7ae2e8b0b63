use Rattle.std.proofs.Common.{◌≡◌, ◌-◌, ◌^◌}
use Rattle.ce_model.specs.Subcubes.{are_all_nodes, has_node, first_free_subcube}
use Rattle.ce_set.proofs.Masks.{first_subcube_from}
use Rattle.ce_set.proofs.subcube.first_free.Given as goal

-- the first among the masks that are left is the first of all
abbrev pub invariant-loop-mask : goal.invariant-loop-mask
invariant-loop-mask l =
    first_free_subcube (has_node l.free_nodes) l.dim l.d ≡ first_subcube_from (are_all_nodes (has_node l.free_nodes) l.d) l.d (2 ^ l.dim) l.mask (2 ^ l.dim - l.mask)
