use Rattle.std.proofs.Common.{◌≡◌, ◌+◌, ◌≤◌, ◌++◌, map, length, vec_capacity}
use Rattle.ce_model.specs.Parcels.{Parcel, item_parcels}
use Rattle.ce_machine.proofs.mail.take_blocks.Given as goal

-- the blocks so far, in front of those that wait still, are all; and so is the room
abbrev pub invariant-loop-item : goal.invariant-loop-item
invariant-loop-item l = record {
  blocks : l.blocks.items ++ map (λ (p : Parcel). p.block) (item_parcels l.mailbox.items)
      ≡ l.initial.blocks.items ++ map (λ (p : Parcel). p.block) (item_parcels l.initial.mailbox.items);
  spare : l.mailbox.spare + length l.mailbox.items ≡ l.initial.mailbox.spare + length l.initial.mailbox.items;
  room : length l.blocks.items + length l.mailbox.items ≤ vec_capacity l.initial.blocks;
  capacity : vec_capacity l.blocks ≡ vec_capacity l.initial.blocks;
}

abbrev pub decreases-loop-item : goal.decreases-loop-item
decreases-loop-item l = length l.mailbox.items
