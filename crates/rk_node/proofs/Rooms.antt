-- How many blocks a fresh box has, and one whose blocks were taken away.
use Rattle.std.proofs.Common.{◌≡◌, ℕ, [], ◌∷◌, ◌++◌, length, ap, ◌∙◌, append-nil}
use Rattle.ce_model.specs.declared.topology.BlockId.{BlockId}
use Rattle.ce_model.specs.Limits.{process_count, home_blocks}
use Rattle.ce_model.specs.Blocks.{with_id, blocks_of_home}
use Rattle.ce_model.specs.Node.{Node, blocks_of}
use Rattle.ce_model.specs.Kernel.{with_store}
use Rattle.ce_solo.proofs.Fresh.{ids-unborn}
use Rattle.rk_node.specs.Boxes.{fresh_node_at, scrubbed_node}
use Rattle.xm_block.proofs.HomeBlocks.{length-blocks_of_home}

pub blocks-fresh : (node : Node) → node ≡ fresh_node_at node.home node.number node.dim node.images → length (blocks_of node) ≡ home_blocks
blocks-fresh node fresh =
    ap (λ (n : Node). length (blocks_of n)) fresh
    ∙ ap (λ ids. length (blocks_of_home node.home ++ ids)) (ids-unborn process_count)
    ∙ ap {B = ℕ} length (append-nil (blocks_of_home node.home)) ∙ length-blocks_of_home node.home

pub blocks-scrubbed : (node : Node) → blocks_of (scrubbed_node node) ≡ []
blocks-scrubbed node = ids-unborn process_count

pub blocks-put : (id : BlockId) (node : Node) → blocks_of (with_store (with_id id []) (scrubbed_node node)) ≡ id ∷ []
blocks-put id node = ap (λ ids. id ∷ ids) (ids-unborn process_count)
