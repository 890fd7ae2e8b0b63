use Rattle.std.proofs.Common.{◌≡◌, ◌+◌, ◌≤◌, ◌++◌, map, flat_map, length, vec_capacity}
use Rattle.ce_model.specs.Parcels.{Parcel, item_parcels}
use Rattle.ce_machine.specs.Tables.{desk_at}
use Rattle.ce_machine.specs.Desks.{AreChanged, without_items}
use Rattle.ce_machine.proofs.Loops.{nodes_from, change_at_first_nodes}
use Rattle.ce_machine.proofs.desks.drain_nodes.Given as goal

-- nothing waits at the nodes so far, and the blocks so far, in front of those that wait at the
-- others, are all
abbrev pub invariant-loop-r : goal.invariant-loop-r
invariant-loop-r l = record {
  desks : AreChanged l.initial.desks.items l.desks.items (change_at_first_nodes l.grant.sub l.r without_items);
  blocks : l.blocks.items ++ map (λ (p : Parcel). p.block) (item_parcels (flat_map (λ node. (desk_at l.initial.desks.items node).waiting_items) (nodes_from l.grant.sub l.r l.r-end)))
      ≡ l.initial.blocks.items ++ map (λ (p : Parcel). p.block) (item_parcels (flat_map (λ node. (desk_at l.initial.desks.items node).waiting_items) (nodes_from l.grant.sub 0 l.r-end)));
  room : length l.blocks.items + length (flat_map (λ node. (desk_at l.initial.desks.items node).waiting_items) (nodes_from l.grant.sub l.r l.r-end)) ≤ vec_capacity l.initial.blocks;
  capacity : vec_capacity l.blocks ≡ vec_capacity l.initial.blocks;
}
