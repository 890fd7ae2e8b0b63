use Rattle.std.proofs.Common.{◌≡◌, ◌+◌, drop}
use Rattle.ce_model.specs.Kernel.{with_store}
use Rattle.xm_block.specs.Stores.{ids_of}
use Rattle.xm_block.proofs.HomeBlocks.{first_names}
use Rattle.ce_cube.proofs.rehoming.send_home.Given as goal

abbrev pub invariant-loop : goal.invariant-loop
invariant-loop l = record {
  filled : l.node_box ≡ record l.initial.node_box { node = with_store (first_names l.initial.node_box.node.home l.counter) l.initial.node_box.node };
  rest : ids_of l.store.blocks ≡ drop l.counter (ids_of l.initial.store.blocks);
  spare : l.store.spare ≡ l.initial.store.spare + l.counter;
}
