-- Who owns a message block: what holds it, in a cube.
use Rattle.std.specs.Prelude.{◌≡◌, ◌⊎◌, ℕ, ◌^◌, ◌<◌, List, ◌++◌, length, map, filter, filter_map, flat_map, option_map}
use Rattle.std.specs.List.{enumerate_from}
use Rattle.ce_model.specs.declared.topology.TheConstants.{HOST}
use Rattle.ce_model.specs.declared.topology.BlockId.{BlockId}
use Rattle.ce_model.specs.declared.entry.Entry.{Entry}
use Rattle.ce_model.specs.Limits.{home_blocks, host_home}
use Rattle.ce_model.specs.Lists.{IsFront}
use Rattle.ce_model.specs.Blocks.{is_same_id}
use Rattle.ce_model.specs.Parcels.{Item, item_parcels}
use Rattle.ce_model.specs.Process.{Process}
use Rattle.ce_model.specs.Node.{Node}
use Rattle.ce_model.specs.Cube.{Cube, CubeState, node_numbers, state_after_trace}

-- what can hold a block: a node's store, a window of a process of a node, a parcel that waits at a
-- node or at the host, and the host's store
pub data Holder : Type 0 where
  store_holder : ℕ → Holder
  window_holder : ℕ → ℕ → ℕ → Holder
  parcel_holder : ℕ → ℕ → Holder
  hoststore_holder : Holder

-- ---- all blocks of a cube, with what holds each

abbrev pub process_holdings : ℕ → ℕ × Process → List (Holder × BlockId)
process_holdings r numbered_process =
    filter_map
    (λ window. option_map
    (λ block. (window_holder r numbered_process.0 window.0, block.id)) window.1)
    (enumerate_from 0 numbered_process.1.space.windows)

abbrev pub node_holdings : ℕ → Node → List (Holder × BlockId)
node_holdings r node = map (λ id. (store_holder r, id)) node.store
    ++ flat_map (process_holdings r) (enumerate_from 0 node.processes)

abbrev pub parcel_holdings : ℕ → List Item → List (Holder × BlockId)
parcel_holdings r items =
    map (λ parcel. (parcel_holder r parcel.number, parcel.block.id)) (item_parcels items)

unfoldable pub holdings : ℕ → CubeState → List (Holder × BlockId)
holdings dim s =
    flat_map (λ r. node_holdings r (s.node r)
    ++ parcel_holdings r (s.standing.node_record r).waiting_items) (node_numbers dim)
    ++ parcel_holdings HOST (s.standing.node_record HOST).waiting_items
    ++ map (λ id. (hoststore_holder, id)) s.hoststore

-- all that hold a block
unfoldable pub holders : ℕ → CubeState → BlockId → List Holder
holders dim s id =
    map (λ holding. holding.0) (filter (λ holding. is_same_id id holding.1) (holdings dim s))

-- ---- one owner

-- the block is one of a cube of this dimension: it is homed at a node or at the host
pub record IsBlockOf (dim : ℕ) (id : BlockId) : Type 0 where
  pub home : (id.home < 2 ^ dim) ⊎ (id.home ≡ host_home)
  pub index : id.index < home_blocks

-- each block of the cube has exactly one owner
abbrev pub HasOneOwner : ℕ → CubeState → Type 0
HasOneOwner dim s = (id : BlockId) → IsBlockOf dim id → length (holders dim s id) ≡ 1

-- after every front of the trace each block of the cube has exactly one owner
abbrev pub IsOwned : Cube → CubeState → List Entry → Type 0
IsOwned cube o t =
    (front : List Entry) → IsFront front t → HasOneOwner cube.dim (state_after_trace cube o front)
