-- What the end of a cube leaves of its boxes.
use Rattle.std.specs.Prelude.{◌≡◌, ℕ, ◌≤◌, List, [], ◌∷◌}
use Rattle.ce_model.specs.declared.topology.BlockId.{BlockId}
use Rattle.ce_model.specs.Limits.{greatest_blocks}
use Rattle.ce_model.specs.Blocks.{with_id, blocks_of_home}
use Rattle.ce_model.specs.Kernel.{with_store}
use Rattle.ce_solo.proofs.Counting.{count}
use Rattle.rk_node.specs.Boxes.{Box, IsCleanBox, IsIdleBox, scrubbed_node}

-- the box once these blocks were put into its store, one after the other
abbrev pub box_with_all : List BlockId → Box → Box
box_with_all [] box = box
box_with_all (id ∷ ids) box =
    box_with_all ids (record box { node = with_store (with_id id box.node.store) box.node })

-- these are the blocks of a home, in whatever order
abbrev pub AreBlocksOfHome : ℕ → List BlockId → Type 0
AreBlocksOfHome home ids = (id : BlockId) → count id ids ≡ count id (blocks_of_home home)

-- a box with room for all blocks of the greatest cube is clean once it was scrubbed and the blocks
-- of its home were put home
abbrev pub ScrubbedIsClean : Type 0
ScrubbedIsClean =
    (box : Box) (ids : List BlockId) → IsIdleBox box → greatest_blocks ≤ box.room
    → AreBlocksOfHome box.node.home ids
    → IsCleanBox (box_with_all ids (record box { node = scrubbed_node box.node }))
