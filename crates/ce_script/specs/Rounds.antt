-- Rounds: how the nodes of a cube take their turns between two entries of its host. Entries have
-- the cube's numbers for its nodes.
use Rattle.std.specs.Prelude.{◌≡◌, ℕ, ◌^◌, ◌<◌, Bool, true, false, ◌==◌, List, [], ◌∷◌, ◌++◌, filter, flat_map, Option, Some, None, is_some, IsTrue, IsFalse}
use Rattle.std.specs.List.{list_any, AllByRecursion, AllZip}
use Rattle.std.specs.Option.{option_map_or}
use Rattle.ce_model.specs.declared.entry.Entry.{Entry}
use Rattle.ce_model.specs.declared.entry.What.TheVariants.{Take}
use Rattle.ce_model.specs.declared.entry.TakeResult.{TakeResult}
use Rattle.ce_model.specs.Node.{Call, take_call}
use Rattle.ce_model.specs.Trace.{is_work}
use Rattle.ce_model.specs.Cube.{Cube, CubeState, node_numbers, next_call}

-- how the nodes take their turns in all rounds of a record: one after another, or each on a thread
-- of its own
pub data RoundKind : Type 0 where
  serial : RoundKind
  threaded : RoundKind

-- ---- turns

-- what a node is given, where the entry is a Take
abbrev pub entry_take_result : Entry → Option TakeResult
entry_take_result entry =
    elim entry.what [ Take asking dead poller given ↦ Some given | other ↦ None ]

abbrev pub is_take : Entry → Bool
is_take entry = is_some (entry_take_result entry)

-- the entry is a Take that gives work
abbrev pub is_dispatch : Entry → Bool
is_dispatch entry = option_map_or is_work (entry_take_result entry) false

-- a Take of node r, and the entries of the turn behind it
abbrev pub IsTurn : ℕ → List Entry → Type 0
IsTurn r [] = ⊥
IsTurn r (first ∷ others) =
    IsTrue (is_take first) × AllByRecursion (λ entry. IsFalse (is_take entry)) others
    × AllByRecursion (λ entry. entry.actor ≡ r) (first ∷ others)

-- several lists of entries, one behind the other
abbrev pub joined_lists : List (List Entry) → List Entry
joined_lists lists = flat_map (λ list. list) lists

-- ---- rounds

-- a node was given work
abbrev pub has_work : List Entry → Bool
has_work entries = list_any is_dispatch entries

-- a serial round: the nodes of a cube of this dimension take one turn each, by rising number
pub record IsSerialRound (dim : ℕ) (round : List Entry) : Type 0 where
  pub turns : List (List Entry)
  pub each : AllZip IsTurn (node_numbers dim) turns
  pub all : round ≡ joined_lists turns

-- a node's share of a threaded round: turns with work, and last a Take without
pub record IsShare (r : ℕ) (share : List Entry) : Type 0 where
  pub turns : List (List Entry)
  pub last : Entry
  pub each : AllByRecursion (IsTurn r) turns
  pub with_work : AllByRecursion (λ turn. IsTrue (has_work turn)) turns
  pub last_take : IsTurn r (last ∷ [])
  pub without_work : IsFalse (is_dispatch last)
  pub all : share ≡ joined_lists turns ++ last ∷ []

-- a threaded round: each node of a cube of this dimension has its share, and the entries of the
-- nodes interleave freely
pub record IsThreadedRound (dim : ℕ) (round : List Entry) : Type 0 where
  pub nodes : AllByRecursion (λ entry. entry.actor < 2 ^ dim) round
  pub shares : (r : ℕ) → r < 2 ^ dim → IsShare r (filter (λ entry. entry.actor == r) round)

abbrev pub IsRound : RoundKind → ℕ → List Entry → Type 0
IsRound serial dim round = IsSerialRound dim round
IsRound threaded dim round = IsThreadedRound dim round

abbrev pub IsRoundWithWork : RoundKind → ℕ → List Entry → Type 0
IsRoundWithWork kind dim round = IsRound kind dim round × IsTrue (has_work round)

abbrev pub IsRoundWithoutWork : RoundKind → ℕ → List Entry → Type 0
IsRoundWithoutWork kind dim round = IsRound kind dim round × IsFalse (has_work round)

-- ---- whole turns

abbrev pub asks_for_work : Call → Bool
asks_for_work (take_call asking dead poller) = true
asks_for_work other = false

-- no node of the cube is in the middle of a turn after a trace: the next call of each asks for work
abbrev pub AreTurnsOver : Cube → CubeState → List Entry → Type 0
AreTurnsOver cube o t = (r : ℕ) → r < 2 ^ cube.dim → IsTrue (asks_for_work (next_call cube o r t))
