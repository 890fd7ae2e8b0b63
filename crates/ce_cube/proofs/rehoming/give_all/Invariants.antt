use Rattle.std.proofs.Common.{◌≡◌, ◌+◌, length}
use Rattle.ce_model.specs.Blocks.{with_ids}
use Rattle.xm_block.specs.Stores.{ids_of}
use Rattle.ce_cube.proofs.rehoming.give_all.Given as goal

abbrev pub invariant-loop-block : goal.invariant-loop-block
invariant-loop-block l = record {
  moved : ids_of l.store.blocks ≡ with_ids (ids_of l.yielded) (ids_of l.initial.store.blocks);
  spare : l.store.spare + length l.yielded ≡ l.initial.store.spare;
}
