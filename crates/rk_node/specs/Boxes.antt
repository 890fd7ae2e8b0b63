-- A box as its callers see it.
use Rattle.std.specs.Prelude.{◌≡◌, ℕ, ◌<◌, ◌≤◌, [], length, replicate, None}
use Rattle.ce_model.specs.Limits.{process_count, greatest_blocks}
use Rattle.ce_model.specs.Blocks.{blocks_of_home}
use Rattle.ce_model.specs.Process.{unborn_process}
use Rattle.ce_model.specs.Node.{Node, opening_node, blocks_of}
use Rattle.rk_node.specs.declared.awaited_call.AwaitedCall.{AwaitedCall}
use Rattle.rk_node.specs.declared.awaited_call.AwaitedCall.TheVariants.{Nothing}

-- the node that it stands for, for how many blocks it has room, and which of the node's calls is
-- out
pub record Box : Type 0 where
  pub node : Node
  pub room : ℕ
  pub awaited_call : AwaitedCall

-- the home of a box
abbrev pub home_of : Box → ℕ
home_of box = box.node.home

-- no call but a Take is out of the box
abbrev pub IsIdleBox : Box → Type 0
IsIdleBox box = box.awaited_call ≡ Nothing

-- the fresh node of this number, whose blocks have another home than their number
abbrev pub fresh_node_at : ℕ → ℕ → ℕ → ℕ → Node
fresh_node_at home r dim images =
    record (opening_node r dim images) { home = home; store = blocks_of_home home }

-- no process of the box was started, its own blocks are in its store, nothing is under way, and it
-- has room for all blocks of the greatest cube
pub record IsCleanBox (box : Box) : Type 0 where
  pub node : box.node ≡ fresh_node_at box.node.home box.node.number box.node.dim box.node.images
  pub awaited_call : IsIdleBox box
  pub room : greatest_blocks ≤ box.room

-- the node of a box that is emptied: no block is there, no process was started, none polls, and
-- there is no turn
abbrev pub scrubbed_node : Node → Node
scrubbed_node node = record node {
  processes = replicate process_count unborn_process;
  store = [];
  polling_ids = [];
  turn = None;
}

-- the box has room for a block more
abbrev pub HasRoomForBlock : Box → Type 0
HasRoomForBlock box = length (blocks_of box.node) < box.room
