-- Which blocks a call takes out of its node.
use Rattle.std.specs.Prelude.{◌≡◌, ◌+◌}
use Rattle.ce_model.specs.declared.topology.BlockId.{BlockId}
use Rattle.ce_model.specs.Node.{Node, Call, blocks_of}
use Rattle.ce_solo.proofs.Counting.{count}
use Rattle.ce_solo.proofs.Words.{call_ids}

-- each block that the node held is in it still or goes with the call, and no other does: what the
-- call takes out, which is nothing but for a message, was the node's
abbrev pub HasTakenOut : Node → Node → Call → Type 0
HasTakenOut old_node new_node call = (id : BlockId) → count id (blocks_of new_node)
    + count id (call_ids call) ≡ count id (blocks_of old_node)
