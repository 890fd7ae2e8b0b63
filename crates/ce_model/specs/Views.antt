-- What the history of the machine is for one cube.
use Rattle.std.specs.Prelude.{ℕ, ◌-◌, List, [], ◌∷◌, map, filter, filter_map, take_while, is_some, Option, Some, None, Bool, true, false, not, ◌&&◌, ◌==◌, if◌then◌else◌}
use Rattle.std.specs.Option.{option_map_or}
use Rattle.ce_model.specs.declared.entry.Entry.{Entry}
use Rattle.ce_model.specs.declared.entry.What.{What}
use Rattle.ce_model.specs.declared.entry.What.TheVariants.{Getcube, Drain}
use Rattle.ce_model.specs.Answers.{recorded_call}
use Rattle.ce_model.specs.Renaming.{CubeGrant, entry_inward}

-- the cube that an entry of a user grants
abbrev pub request_grant : ℕ → What → Option CubeGrant
request_grant user (Getcube dim (Some sub)) = Some (record { user = user; dim = dim; sub = sub })
request_grant user other = None

abbrev pub entry_grant : Entry → Option CubeGrant
entry_grant entry = request_grant entry.user entry.what

-- the cubes that a history grants, in order
abbrev pub grants_of : List Entry → List CubeGrant
grants_of history = filter_map entry_grant history

abbrev pub is_drain : What → Bool
is_drain Drain = true
is_drain other = false

-- the calls of a cube among these entries, as the cube knows them
abbrev pub cube_entries : CubeGrant → List Entry → List Entry
cube_entries grant entries =
    map (entry_inward grant.sub)
    (filter (λ entry. entry.user == grant.user && is_some (recorded_call entry.what)) entries)

-- the trace of a cube in the history behind its grant: the calls of its user's cube up to the
-- drain, as the cube knows them
abbrev pub trace_behind : CubeGrant → List Entry → List Entry
trace_behind grant behind = cube_entries grant
    (take_while (λ entry. not (entry.user == grant.user && is_drain entry.what)) behind)

-- a grant is of this number, or a later one is
abbrev pub grant_or_later : Option CubeGrant → List Entry → ℕ
    → (ℕ → Option (CubeGrant × List Entry)) → Option (CubeGrant × List Entry)
grant_or_later None behind number later_grant = later_grant number
grant_or_later (Some grant) behind number later_grant =
    if number == 0 then Some (grant, behind) else later_grant (number - 1)

-- the grant of this number, and the history behind it
abbrev pub history_behind_grant : List Entry → ℕ → Option (CubeGrant × List Entry)
history_behind_grant [] number = None
history_behind_grant (entry ∷ behind) number =
    grant_or_later (entry_grant entry) behind number (history_behind_grant behind)

-- the trace of the cube of this number; a number that was not granted has none
unfoldable pub view : List Entry → ℕ → List Entry
view history number = option_map_or (λ grant_pair. trace_behind grant_pair.0 grant_pair.1)
    (history_behind_grant history number) []
