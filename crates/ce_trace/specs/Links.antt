-- The entries of each user, one linked to the next.
use Rattle.std.specs.Prelude.{◌≡◌, ℕ, ◌-◌, ◌≤◌, ◌==◌, if◌then◌else◌, List, [], ◌∷◌, ◌++◌, drop, length}
use Rattle.ce_model.specs.declared.entry.Entry.{Entry}

-- the last entries, this many
abbrev pub last_entries : ℕ → List Entry → List Entry
last_entries count history = drop (length history - count) history

-- the history from the first entry of a user on
abbrev pub entries_from_own : ℕ → List Entry → List Entry
entries_from_own user [] = []
entries_from_own user (entry ∷ later_entries) =
    if entry.user == user then entry ∷ later_entries else entries_from_own user later_entries

-- for each entry, the last one first: how many entries there are from the next one of its user on
abbrev pub links_of : List Entry → List ℕ
links_of [] = []
links_of (entry ∷ later_entries) =
    links_of later_entries ++ length (entries_from_own entry.user later_entries) ∷ []

-- the last entries, this many, begin with one of the user, where there are any
pub record IsOwnLink (history : List Entry) (user count : ℕ) : Type 0 where
  pub within : count ≤ length history
  pub begun : entries_from_own user (last_entries count history) ≡ last_entries count history
