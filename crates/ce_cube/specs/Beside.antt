-- A history that goes on by entries of others beside those of a cube, and what that leaves of the
-- cube.
use Rattle.std.specs.Prelude.{◌≡◌, ◌≢◌, ℕ, ◌^◌, ◌<◌, false, ◌⊎◌, IsTrue, List, [], ◌++◌, is_some}
use Rattle.std.specs.List.{AllByRecursion}
use Rattle.ce_model.specs.declared.topology.TheConstants.{HOST}
use Rattle.ce_model.specs.declared.entry.Entry.{Entry}
use Rattle.ce_model.specs.Answers.{recorded_call}
use Rattle.ce_model.specs.Subcubes.{node_of}
use Rattle.ce_model.specs.Renaming.{CubeGrant}
use Rattle.ce_model.specs.Views.{view, cube_entries}
use Rattle.ce_model.specs.Machine.{MachineParts, IsLawful}
use Rattle.ce_lock.specs.Entries.{entries_of}
use Rattle.ce_machine.specs.Meanings.{MachineFacts, whose, is_alone_entry}
use Rattle.ce_script.specs.Moments.{own_entries}
use Rattle.ce_script.specs.Rounds.{RoundKind, serial, threaded}
use Rattle.ce_cube.specs.Boxes.{IsHeldAs, trace_node, trace_store}

-- the entries of one actor of a user among these
abbrev pub actor_entries : ℕ → ℕ → List Entry → List Entry
actor_entries user actor entries =
    entries_of whose (record { family = user; actor = actor }) entries

-- no entry of the user is one of a call that is made alone
abbrev pub AreNotMadeAlone : ℕ → List Entry → Type 0
AreNotMadeAlone user added_entries =
    AllByRecursion (λ entry. entry.user ≡ user → is_alone_entry entry ≡ false) added_entries

-- the entry is made by a host, or is that of a call by one of the cube's nodes; whose user it is
-- isn't said
abbrev pub IsByHostOrNode : CubeGrant → Entry → Type 0
IsByHostOrNode grant entry =
    (entry.actor ≡ HOST)
    ⊎ ((r : ℕ) × (r < 2 ^ grant.dim) × (entry.actor ≡ node_of grant.sub r)
    × IsTrue (is_some (recorded_call entry.what)))

-- The cube of this number and grant is held on behind these entries, and its trace is longer by its
-- calls among them. A node that made none of them is what it was, and so is the host's store where
-- the host made none. Each entry of its user among them is the host's, or that of a call of one of
-- its nodes.
pub record AreEntriesBeside (parts : MachineParts) (history : List Entry) (number : ℕ)
    (grant : CubeGrant) (added_entries : List Entry) : Type 0 where
  pub held : IsHeldAs (history ++ added_entries) number grant
  pub trace : view (history ++ added_entries) number ≡ view history number
      ++ cube_entries grant added_entries
  pub nodes : (r : ℕ) → r < 2 ^ grant.dim
      → actor_entries grant.user (node_of grant.sub r) added_entries ≡ []
      → trace_node parts (history ++ added_entries) number grant r
      ≡ trace_node parts history number grant r
  pub store : actor_entries grant.user HOST added_entries ≡ []
      → trace_store parts (history ++ added_entries) number grant
      ≡ trace_store parts history number grant
  pub actors : AllByRecursion
      (λ entry. entry.user ≡ grant.user → IsByHostOrNode grant entry) added_entries

-- the machine went on by entries of other users alone, and its history is lawful
pub record IsWait (user : ℕ) (old_machine new_machine : MachineFacts) : Type 0 where
  pub others : List Entry
  pub parts : new_machine.parts ≡ old_machine.parts
  pub history : new_machine.history ≡ old_machine.history ++ others
  pub foreign : AllByRecursion (λ entry. entry.user ≢ user) others
  pub lawful : IsLawful new_machine.parts new_machine.history

-- an entry that may stand in a stretch of the history in which a user acts: on one thread it is the
-- user's own
abbrev pub IsAllowedAmong : RoundKind → ℕ → Entry → Type 0
IsAllowedAmong serial user entry = entry.user ≡ user
IsAllowedAmong threaded user entry = Unit {0}

-- `user_entries` are the user's entries of the stretch `all_entries`, in order; on one thread there
-- are no others
pub record IsMix (kind : RoundKind) (user : ℕ)
    (all_entries user_entries : List Entry) : Type 0 where
  pub own : own_entries user all_entries ≡ user_entries
  pub each : AllByRecursion (IsAllowedAmong kind user) all_entries
