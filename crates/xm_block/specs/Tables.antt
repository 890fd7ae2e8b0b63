-- How a store keeps its blocks.
use Rattle.std.specs.Prelude.{◌≤◌, ◌^◌, ◌<◌, length}
use Rattle.std.specs.VecDeque.{deque_capacity}
use Rattle.ce_model.specs.Rising.{IsRising}
use Rattle.xm_block.specs.Stores.{is_block_before}
use Rattle.xm_block.specs.declared.store.Store.TheInside.{Inside}

-- the blocks rise, and memory for all that there is room for is there
pub record IsStoreTable (store : Inside) : Type 0 where
  pub rising : IsRising is_block_before store.blocks.items
  pub within : length store.blocks.items ≤ store.room
  pub reserved : store.room ≤ deque_capacity store.blocks
  pub counted : store.room < 2 ^ 32
