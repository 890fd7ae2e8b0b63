-- What a node is that can run a turn, hear an answer, or take a block more.
use Rattle.std.specs.Prelude.{◌≡◌, ◌+◌, ◌<◌, ◌≤◌, [], length, Some}
use Rattle.ce_model.specs.Node as model
use Rattle.ce_model.specs.declared.topology.BlockId.{BlockId}
use Rattle.ce_solo.proofs.Counting.{count}
use Rattle.ce_solo.proofs.Nodes.{IsWell}
use Rattle.rk_node.specs.declared.node.Node.{Node}
use Rattle.rk_node.specs.Standing.{node_model}

-- no block is at two places of the node
pub record HasBlocksOnce (node : model.Node) : Type 0 where
  pub once : (id : BlockId) → count id (model.blocks_of node) ≤ 1

-- a process of the node is in this turn, and the spare batch is here
pub record IsInTurn (node : Node) (turn : model.Turn) : Type 0 where
  pub well : IsWell (Some turn) (node_model node)
  pub batch : node.batch ≡ Some []

-- the node can hear an answer
abbrev pub IsHearing : Node → Type 0
IsHearing node = IsWell (node_model node).turn (node_model node)

-- there is room for a block more
abbrev pub HasRoom : Node → Type 0
HasRoom node = length node.store.blocks + length node.held_blocks.mappings < node.room
