use Rattle.std.proofs.Common.{◌≡◌, ◌+◌}
use Rattle.xm_block.specs.Stores.{ids_of}
use Rattle.xm_block.proofs.HomeBlocks.{first_names}
use Rattle.xm_block.proofs.store.Store.of_home.Given as goal

abbrev pub invariant-loop-index : goal.invariant-loop-index
invariant-loop-index l = record { stored : ids_of l.store.blocks ≡ first_names l.home l.index; room : l.store.spare + l.index ≡ l.room }
