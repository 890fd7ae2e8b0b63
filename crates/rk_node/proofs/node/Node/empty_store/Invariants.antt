use Rattle.std.proofs.Common.{◌≡◌, ◌+◌, length}
use Rattle.ce_model.specs.Blocks.{with_ids}
use Rattle.ce_model.specs.Kernel.{with_store}
use Rattle.xm_block.specs.Stores.{ids_of}
use Rattle.rk_node.specs.Standing.{node_model}
use Rattle.rk_node.specs.Hearings.{AreNewToStore}
use Rattle.rk_node.proofs.node.Node.empty_store.Given as goal

abbrev pub invariant-loop-block : goal.invariant-loop-block
invariant-loop-block l = record {
  node : node_model l.self ≡ with_store (ids_of l.self.store.blocks) (node_model l.fn.self);
  moved : with_ids (ids_of l.self.store.blocks) (ids_of l.out.blocks) ≡ with_ids (ids_of l.fn.self.store.blocks) (ids_of l.fn.out.blocks);
  apart : AreNewToStore (ids_of l.self.store.blocks) l.out;
  spare : l.out.spare + length l.fn.self.store.blocks ≡ l.fn.out.spare + length l.self.store.blocks;
  batch : l.self.batch ≡ l.fn.self.batch;
  room : l.self.room ≡ l.fn.self.room;
}

abbrev pub decreases-loop-block : goal.decreases-loop-block
decreases-loop-block l = length l.self.store.blocks
