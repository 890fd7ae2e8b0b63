-- What always holds of the tables of a node.
use Rattle.std.specs.Prelude.{◌≡◌, ℕ, ◌+◌, ◌<◌, ◌≤◌, Bool, true, ◌&&◌, ◌||◌, ◌==◌, nat_lt, List, [], ◌∷◌, length, map, slice_index_or}
use Rattle.std.specs.List.{AllByRecursion}
use Rattle.std.proofs.Props.{props}
use Rattle.ce_model.specs.Limits.{process_count}
use Rattle.ce_model.specs.Lists.{ArePairwise}
use Rattle.xm_block.specs.Stores.{BlockStore}
use Rattle.xm_owner.specs.Holdings.{MappingTable}
use Rattle.rk_process.specs.OwnStates.{OwnState, place_of, unborn_state}

-- how many windows a process has used; one that isn't there has used none
abbrev pub used_count_of : List OwnState → ℕ → ℕ
used_count_of own_states pid = (slice_index_or own_states pid unborn_state).used_count

-- each block is held in a window that its process has used
abbrev pub AreUsedWindows : List OwnState → List (ℕ × ℕ) → Type 0
AreUsedWindows own_states places =
    AllByRecursion (λ place. place.1 < used_count_of own_states place.0) places

-- windows are ordered by process, and those of one process by number
abbrev pub is_place_before : ℕ × ℕ → ℕ × ℕ → Bool
is_place_before a b = nat_lt a.0 b.0 || (a.0 == b.0 && nat_lt a.1 b.1)

abbrev pub AreRisingPlaces : List (ℕ × ℕ) → Type 0
AreRisingPlaces places = ArePairwise (λ a b. is_place_before a b ≡ true) places

-- there are as many processes as ids; held blocks are in used windows, in order; and the table of
-- held blocks and the store have each room for all that the node has room for
pub record IsStocked (room : ℕ) (own_states : List OwnState) (held_blocks : MappingTable)
    (store : BlockStore) : Type 0 where
  pub every_id : length own_states ≡ process_count
  pub windows : AreUsedWindows own_states (map place_of held_blocks.mappings)
  pub rising : AreRisingPlaces (map place_of held_blocks.mappings)
  pub held_room : length held_blocks.mappings + held_blocks.spare ≡ room
  pub store_room : length store.blocks + store.spare ≡ room
  pub within : length store.blocks + length held_blocks.mappings ≤ room

-- ---- no two proofs of it differ

AreRisingPlaces-prop : (places : List (ℕ × ℕ)) → IsProp (AreRisingPlaces places)
AreRisingPlaces-prop [] = hlevel props
AreRisingPlaces-prop (place ∷ places) = hlevel (props, AreRisingPlaces-prop places)

pub IsStocked-prop : {room : ℕ} {own_states : List OwnState} {held_blocks : MappingTable}
    {store : BlockStore} → IsProp (IsStocked room own_states held_blocks store)
IsStocked-prop {own_states = own_states} {held_blocks = held_blocks} = λ a b i. record {
  every_id = same _ _ a.every_id b.every_id i;
  windows = windows-prop a.windows b.windows i;
  rising = AreRisingPlaces-prop (map place_of held_blocks.mappings) a.rising b.rising i;
  held_room = same _ _ a.held_room b.held_room i;
  store_room = same _ _ a.store_room b.store_room i;
  within = below _ _ a.within b.within i;
}
  where
    below : (m n : ℕ) → IsProp (m ≤ n)
    below m n = hlevel props

    same : (m n : ℕ) → IsProp (m ≡ n)
    same m n = hlevel props

    windows-prop : IsProp (AreUsedWindows own_states (map place_of held_blocks.mappings))
    windows-prop = hlevel props
