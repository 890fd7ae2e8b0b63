-- The blocks of a cube that is given back: where they are, and which they are.
use Rattle.std.specs.Prelude.{◌≡◌, ℕ, ◌+◌, ◌&&◌, ◌||◌, ◌==◌, nat_lt, if◌then◌else◌, Bool, IsTrue, List, [], ◌++◌, map, filter, flat_map, count_by}
use Rattle.std.specs.List.{AllByRecursion}
use Rattle.ce_model.specs.declared.topology.BlockId.{BlockId}
use Rattle.ce_model.specs.Limits.{home_blocks, host_home}
use Rattle.ce_model.specs.Blocks.{is_same_id, with_ids, blocks_of_home}
use Rattle.ce_model.specs.Parcels.{Parcel}
use Rattle.ce_model.specs.Node.{Node, blocks_of}
use Rattle.ce_model.specs.Cube.{node_numbers}
use Rattle.ce_model.specs.Sound.{AreRisingIds}
use Rattle.ce_model.specs.Subcubes.{is_inside}
use Rattle.ce_model.specs.Renaming.{CubeGrant}

-- a home of the cube's blocks
abbrev pub is_home : CubeGrant → ℕ → Bool
is_home grant home = is_inside grant.sub home || home == host_home + grant.user

-- the block is homed at a node of the cube, or at the host of its user
abbrev pub is_block_of : CubeGrant → BlockId → Bool
is_block_of grant id = is_home grant id.home && nat_lt id.index home_blocks

-- the names that are in a cube's boxes, on the parcels that were drained, and in the host's store
abbrev pub names_in_cube : CubeGrant → (ℕ → Node) → List Parcel → List BlockId → List BlockId
names_in_cube grant box drained_parcels store = flat_map (λ r. blocks_of (box r))
    (node_numbers grant.dim) ++ (map (λ parcel. parcel.block.id) drained_parcels ++ store)

-- each block of the cube is among these once, and there is no other
pub record AreAllBlocks (grant : CubeGrant) (ids : List BlockId) : Type 0 where
  pub once : (id : BlockId) → count_by (is_same_id id) ids ≡ (if is_block_of grant id then 1 else 0)

-- each of these blocks has a home of the cube, and those of one home, put into an empty store, are
-- the store that the home begins with
pub record AreSorted (grant : CubeGrant) (ids : List BlockId) : Type 0 where
  pub own : AllByRecursion (λ id. IsTrue (is_block_of grant id)) ids
  pub at_home : (home : ℕ) → IsTrue (is_home grant home)
      → with_ids (filter (λ id. id.home == home) ids) [] ≡ blocks_of_home home

-- all blocks of a cube sort so
abbrev pub BlocksSort : Type 0
BlocksSort = (grant : CubeGrant) (ids : List BlockId) → AreAllBlocks grant ids → AreSorted grant ids

-- a store with each block of this home once, and no other, is the one that this home begins with
abbrev pub StoresAreHome : Type 0
StoresAreHome = (home : ℕ) (store : List BlockId) → AreRisingIds store
    → ((id : BlockId) → count_by (is_same_id id) store
    ≡ (if id.home == home && nat_lt id.index home_blocks then 1 else 0))
    → store ≡ blocks_of_home home
