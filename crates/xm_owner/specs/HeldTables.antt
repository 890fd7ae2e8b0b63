-- What always holds of the map's tables.
use Rattle.std.specs.Prelude.{◌≡◌, ◌≤◌, ◌<◌, ◌^◌, length, vec_capacity}
use Rattle.xm_owner.specs.declared.held_blocks.HeldBlocks.TheInside.{Inside}

-- each key has its block, and memory for all that there is room for is there
pub record IsHeldTable (table : Inside) : Type 0 where
  pub paired : length table.blocks.items ≡ length table.keys.list.items
  pub within : length table.keys.list.items ≤ table.room
  pub keys : table.room ≤ vec_capacity table.keys.list
  pub blocks : table.room ≤ vec_capacity table.blocks
  pub counted : table.room < 2 ^ 32
