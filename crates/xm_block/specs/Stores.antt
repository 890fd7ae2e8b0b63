-- A store of message blocks.
use Rattle.std.specs.Prelude.{ℕ, Bool, List, [], ◌∷◌, ◌++◌, ◌≢◌, AllPairs, map}
use Rattle.ce_model.specs.declared.topology.BlockId.{BlockId}
use Rattle.ce_model.specs.Blocks.{Block, is_lower}
use Rattle.ce_model.specs.Rising.{with_inserted}

-- a store: its blocks by rising name, and how many more it has room for
pub record BlockStore : Type 0 where
  pub blocks : List Block
  pub spare : ℕ

-- blocks are ordered by their names
abbrev pub is_block_before : Block → Block → Bool
is_block_before a b = is_lower a.id b.id

-- the names of blocks
abbrev pub ids_of : List Block → List BlockId
ids_of blocks = map (λ block. block.id) blocks

-- blocks by rising name, with one block more in its place
abbrev pub with_block : Block → List Block → List Block
with_block = with_inserted is_block_before

-- with several blocks more, one after the other
abbrev pub with_blocks : List Block → List Block → List Block
with_blocks [] store_blocks = store_blocks
with_blocks (block ∷ blocks) store_blocks = with_blocks blocks (with_block block store_blocks)

-- the names of these blocks, and of those in a store, all differ
abbrev pub AreBlocksApart : List Block → List Block → Type 0
AreBlocksApart blocks store_blocks = AllPairs (λ a b. a ≢ b) (ids_of blocks ++ ids_of store_blocks)
