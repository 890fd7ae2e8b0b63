use Rattle.std.proofs.Common.{◌≡◌, ◌+◌, ◌≤◌, length}
use Rattle.std.specs.Vec.Iter.{drain_items}
use Rattle.xm_block.specs.Stores.{AreBlocksApart, with_blocks}
use Rattle.xm_owner.proofs.held_blocks.give_all.Given as goal

abbrev pub invariant-loop-block : goal.invariant-loop-block
invariant-loop-block l = record {
  can_next : (goal.iterator-loop-block).can_next l.block-iterator;
  is_finite : (goal.iterator-loop-block).is_finite l.block-iterator;
  moved : with_blocks (drain_items l.block-iterator) l.store.blocks ≡ with_blocks (drain_items l.initial.block-iterator) l.initial.store.blocks;
  apart : AreBlocksApart (drain_items l.block-iterator) l.store.blocks;
  room : l.store.spare + length (drain_items l.initial.block-iterator) ≡ l.initial.store.spare + length (drain_items l.block-iterator);
  enough : length (drain_items l.block-iterator) ≤ l.store.spare;
}
