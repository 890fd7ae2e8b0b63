-- What always holds of a box.
use Rattle.ce_solo.proofs.Nodes.{IsWell}
use Rattle.rk_node.specs.declared.node.Node.{Node}
use Rattle.rk_node.specs.declared.awaited_call.AwaitedCall.{AwaitedCall}
use Rattle.rk_node.specs.Standing.{node_model}
use Rattle.rk_node.specs.Wording.{HasBatch}

-- the node is well, and the spare batch is here unless a message is out
pub record IsWholeBox (node : Node) (awaited_call : AwaitedCall) : Type 0 where
  pub well : IsWell (node_model node).turn (node_model node)
  pub batch : HasBatch awaited_call node.batch
