-- What becomes of the map where the block of a window is lent out to be changed.
use Rattle.std.specs.Prelude.{ℕ, Option}
use Rattle.std.specs.Borrow.{LendsIf, MutBor, Fml}
use Rattle.ce_model.specs.Blocks.{Block}
use Rattle.xm_block.specs.contracts.block.Block as block_contracts
use Rattle.xm_owner.specs.Holdings.{MappingTable, with_block_at}
use Rattle.xm_owner.specs.contracts.held_blocks.HeldBlocks.{the_row}

-- the map holds what was left in the block; where there was none, it stays
abbrev pub LendsBlock : MutBor MappingTable → ℕ → ℕ → Option (MutBor Block) → Fml
LendsBlock table pid window loan =
    LendsIf the_row block_contracts.the_row table loan
    (λ block. record table.now { mappings = with_block_at pid window block table.now.mappings })
    table.now
