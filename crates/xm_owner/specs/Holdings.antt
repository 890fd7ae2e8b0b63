-- The blocks that the processes of a node hold: a finite map from a process and its window to the
-- block there.
use Rattle.std.specs.Prelude.{◌≡◌, ℕ, Bool, not, nat_lt, ◌==◌, ◌&&◌, ◌||◌, if◌then◌else◌, List, [], ◌∷◌, map, filter, Option, Some, None}
use Rattle.ce_model.specs.Blocks.{Block}
use Rattle.ce_model.specs.Rising.{with_inserted}

-- a block in a window of a process
pub record Mapping : Type 0 where
  pub pid : ℕ
  pub window : ℕ
  pub block : Block

-- the map: its mappings by rising process, then by window, and how many more it has room for
pub record MappingTable : Type 0 where
  pub mappings : List Mapping
  pub spare : ℕ

-- mappings are ordered by process, and those of one process by window
abbrev pub is_mapping_before : Mapping → Mapping → Bool
is_mapping_before a b = nat_lt a.pid b.pid || (a.pid == b.pid && nat_lt a.window b.window)

abbrev pub is_mapping_at : ℕ → ℕ → Mapping → Bool
is_mapping_at pid window mapping = mapping.pid == pid && mapping.window == window

-- the block that a process holds in a window, if it holds one there
abbrev pub block_held_at : List Mapping → ℕ → ℕ → Option Block
block_held_at [] pid window = None
block_held_at (mapping ∷ mappings) pid window =
    if is_mapping_at pid window mapping then Some mapping.block
    else block_held_at mappings pid window

-- the blocks that a process holds, by window
abbrev pub process_blocks : ℕ → List Mapping → List Block
process_blocks pid mappings =
    map (λ mapping. mapping.block) (filter (λ mapping. mapping.pid == pid) mappings)

-- with one mapping more, in its place
abbrev pub with_mapping : Mapping → List Mapping → List Mapping
with_mapping = with_inserted is_mapping_before

-- without the mapping of a window
abbrev pub mappings_without : ℕ → ℕ → List Mapping → List Mapping
mappings_without pid window mappings =
    filter (λ mapping. not (is_mapping_at pid window mapping)) mappings

-- without those of a process
abbrev pub without_process : ℕ → List Mapping → List Mapping
without_process pid mappings = filter (λ mapping. not (mapping.pid == pid)) mappings

-- with this block in place of the one that a window holds
abbrev pub with_block_at : ℕ → ℕ → Block → List Mapping → List Mapping
with_block_at pid window block [] = []
with_block_at pid window block (mapping ∷ mappings) =
    if is_mapping_at pid window mapping
    then record mapping { block = block } ∷ mappings
    else mapping ∷ with_block_at pid window block mappings

-- one window alone changes what it holds, and this is there afterwards
pub record HasChangedOnly (old new : List Mapping) (pid window : ℕ)
    (new_block : Option Block) : Type 0 where
  pub there_is : block_held_at new pid window ≡ new_block
  pub others : (p w : ℕ) → (p ≡ pid → w ≡ window → ⊥) → block_held_at new p w
      ≡ block_held_at old p w
