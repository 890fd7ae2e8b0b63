-- A message to several places: for each place the block that carries it there.
use Rattle.std.specs.Prelude.{◌≡◌, ℕ, List, [], ◌∷◌, All, map}
use Rattle.ce_model.specs.declared.topology.Place.{Place}
use Rattle.ce_model.specs.declared.topology.BlockId.{BlockId}
use Rattle.ce_model.specs.Blocks.{Block}

-- the bytes of the first block
abbrev pub bytes_of : List (Place × Block) → List ℕ
bytes_of [] = []
bytes_of (target ∷ targets) = target.1.bytes

-- all blocks have the bytes of the first
abbrev pub HasEqualBytes : List (Place × Block) → Type 0
HasEqualBytes targets = All (λ (target : Place × Block). target.1.bytes ≡ bytes_of targets) targets

-- a block with other bytes
abbrev pub with_bytes : List ℕ → Block → Block
with_bytes bytes block = record block { bytes = bytes }

-- the places of a message, each with the name of its block, as an entry has them
abbrev pub targets_of : List (Place × Block) → List (Place × BlockId)
targets_of targets = map (λ (target : Place × Block). (target.0, target.1.id)) targets
