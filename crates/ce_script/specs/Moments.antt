-- A user's part of the history of the machine: its entries, and the cube that it holds by them.
use Rattle.std.specs.Prelude.{◌≡◌, ℕ, ◌==◌, List, [], ◌∷◌, ◌++◌, map, filter, fold, Option, Some, None, option_map, is_some, IsTrue}
use Rattle.std.specs.List.{AllByRecursion}
use Rattle.ce_model.specs.declared.entry.Entry.{Entry}
use Rattle.ce_model.specs.declared.entry.What.TheVariants.{Getcube, Peek, Drain, Freecube}
use Rattle.ce_model.specs.Renaming.{CubeGrant, entry_inward}
use Rattle.ce_model.specs.Answers.{recorded_call}

-- an entry of the history, and the entries before it
pub record Moment : Type 0 where
  pub before : List Entry
  pub entry : Entry

-- the moments of a history that goes on behind these entries
abbrev pub later_moments : List Entry → List Entry → List Moment
later_moments before [] = []
later_moments before (entry ∷ behind) =
    record { before = before; entry = entry } ∷ later_moments (before ++ entry ∷ []) behind

unfoldable pub moments : List Entry → List Moment
moments history = later_moments [] history

-- the moments at which a user's host and nodes make their entries
abbrev pub user_moments : ℕ → List Entry → List Moment
user_moments user history = filter (λ moment. moment.entry.user == user) (moments history)

abbrev pub moment_entries : List Moment → List Entry
moment_entries moments = map (λ moment. moment.entry) moments

-- the entries that they make among these
abbrev pub own_entries : ℕ → List Entry → List Entry
own_entries user entries = filter (λ entry. entry.user == user) entries

-- the entry is a call of this user's cube
abbrev pub IsCallOfUser : ℕ → Entry → Type 0
IsCallOfUser user entry = (entry.user ≡ user) × IsTrue (is_some (recorded_call entry.what))

-- each of these entries is one
abbrev pub AreCallsOfUser : ℕ → List Entry → Type 0
AreCallsOfUser user = AllByRecursion (IsCallOfUser user)

-- ---- the cube that a user holds

-- a cube that a user holds, and its trace so far
pub record Holding : Type 0 where
  pub grant : CubeGrant
  pub trace : List Entry

-- the cube, once it has made an entry more
abbrev pub with_entry : Entry → Holding → Holding
with_entry entry user_holding = record user_holding {
  trace = user_holding.trace
      ++ entry_inward user_holding.grant.sub entry ∷ [];
}

-- what a user holds, once it has made an entry
abbrev pub next_holding : Option Holding → Entry → Option Holding
next_holding user_holding entry = elim entry.what [
  | Getcube dim (Some sub) ↦ Some
      (record { grant = record { user = entry.user; dim = dim; sub = sub }; trace = [] })
  | Getcube dim None ↦ user_holding
  | Peek ↦ user_holding
  | Drain ↦ user_holding
  | Freecube ↦ None
  | other ↦ option_map (with_entry entry) user_holding
]

-- the cube that a user holds by its own entries so far
unfoldable pub holding : List Entry → Option Holding
holding entries = fold next_holding None entries
