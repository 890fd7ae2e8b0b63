-- What becomes of the boxes of a cube that begins, and of those of one that is given back.
use Rattle.std.specs.Prelude.{◌≡◌, ℕ, ◌≤◌, List, [], length, flat_map, take}
use Rattle.ce_model.specs.declared.topology.BlockId.{BlockId}
use Rattle.ce_model.specs.Limits.{home_blocks}
use Rattle.ce_model.specs.Blocks.{blocks_of_home}
use Rattle.ce_model.specs.Node.{blocks_of}
use Rattle.ce_model.specs.Kernel.{with_store}
use Rattle.rk_node.specs.Boxes.{Box, fresh_node_at, scrubbed_node}

-- the box once it became the node of this relative number, in a cube of this dimension, for so many
-- images
abbrev pub entered_box : ℕ → ℕ → ℕ → Box → Box
entered_box dim images r box = record box { node = fresh_node_at box.node.home r dim images }

-- the names of all blocks in boxes
abbrev pub names_in_boxes : List Box → List BlockId
names_in_boxes boxes = flat_map (λ box. blocks_of box.node) boxes

-- the box once its blocks were taken away: none of its processes is born, nobody polls, and no turn
-- runs
abbrev pub emptied_box : Box → Box
emptied_box box = record box { node = scrubbed_node box.node }

-- no block is in the box, and it has room for those of its home
pub record IsEmptiedBox (box : Box) : Type 0 where
  pub none : blocks_of box.node ≡ []
  pub room : home_blocks ≤ box.room

-- the box once the blocks of its home are its store
abbrev pub refilled_box : Box → Box
refilled_box box = record box { node = with_store (blocks_of_home box.node.home) box.node }

-- the names of the blocks of the boxes' homes
abbrev pub names_at_home : List Box → List BlockId
names_at_home boxes = flat_map (λ box. blocks_of_home box.node.home) boxes

-- a list of names begins with these
abbrev pub HasPrefix : List BlockId → List BlockId → Type 0
HasPrefix first ids = take (length first) ids ≡ first
