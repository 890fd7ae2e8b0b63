-- Turns, rounds and shares while they are made, entry by entry.
use Rattle.std.specs.Prelude.{◌≡◌, ℕ, ◌+◌, ◌-◌, ◌||◌, Bool, true, false, if◌then◌else◌, IsTrue, IsFalse, List, [], ◌∷◌, ◌++◌, ◌^◌}
use Rattle.std.specs.List.{AllByRecursion, AllZip, range_with_len}
use Rattle.ce_model.specs.declared.entry.Entry.{Entry}
use Rattle.ce_model.specs.Node.{Call}
use Rattle.ce_model.specs.Trace.{allowed_dispatches, made_dispatches}
use Rattle.ce_model.specs.Cube.{opening}
use Rattle.ce_model.specs.Renaming.{CubeGrant, entry_inward}
use Rattle.ce_model.specs.Views.{view}
use Rattle.ce_model.specs.Machine.{MachineParts, cube_of}
use Rattle.rk_mail.specs.declared.talk.Hearing.{Hearing}
use Rattle.rk_mail.specs.declared.talk.Hearing.TheVariants.{Start, Mail, Kill, Poll}
use Rattle.ce_script.specs.Rounds.{is_take, is_dispatch, has_work, asks_for_work, IsTurn, joined_lists, IsSerialRound, IsShare}

-- what is heard gives the node work
abbrev pub is_work_hearing : Hearing → Bool
is_work_hearing (Start pid image) = true
is_work_hearing (Mail parcel) = true
is_work_hearing (Kill pid) = true
is_work_hearing (Poll pid) = true
is_work_hearing other = false

-- how many dispatches are still allowed in a cube of this number
abbrev pub dispatches_left : MachineParts → List Entry → ℕ → CubeGrant → ℕ
dispatches_left parts history number grant =
    allowed_dispatches (opening (cube_of parts.images grant)).standing
    (view history number) - made_dispatches (opening (cube_of parts.images grant)).standing
    (view history number)

-- what a node's entry says in the cube's trace: it is the node's, a Take exactly where the call
-- asked for work, and a dispatch exactly where the node hears of work, which takes one of the
-- dispatches that are allowed
pub record IsEntryOfNode (parts : MachineParts) (history : List Entry) (number : ℕ)
    (grant : CubeGrant) (r : ℕ) (call : Call) (entry : Entry) (hearing : Hearing) : Type 0 where
  pub actor_is : (entry_inward grant.sub entry).actor ≡ r
  pub take : is_take (entry_inward grant.sub entry) ≡ asks_for_work call
  pub dispatch : is_dispatch (entry_inward grant.sub entry) ≡ is_work_hearing hearing
  pub left : dispatches_left parts (history ++ entry ∷ []) number grant
      + (if is_work_hearing hearing then 1 else 0) ≡ dispatches_left parts history number grant

-- the first nodes, so many, have taken a turn each, by rising number
pub record IsPartOfRound (count : ℕ) (entries : List Entry) : Type 0 where
  pub turns : List (List Entry)
  pub each : AllZip IsTurn (range_with_len 0 count) turns
  pub all : entries ≡ joined_lists turns

-- the turns so far of node r's share of a threaded round, all with work
pub record IsPartOfShare (r : ℕ) (entries : List Entry) : Type 0 where
  pub turns : List (List Entry)
  pub each : AllByRecursion (IsTurn r) turns
  pub with_work : AllByRecursion (λ turn. IsTrue (has_work turn)) turns
  pub all : entries ≡ joined_lists turns

-- how a turn, a round and a node's share begin, go on by an entry or a turn, and end; and where a
-- longer list of entries has work
pub record RoundsAreMade : Type 0 where
  pub turn_begins : (r : ℕ) (entry : Entry) → entry.actor ≡ r → IsTrue (is_take entry)
      → IsTurn r (entry ∷ [])
  pub turn_goes_on : (r : ℕ) (turn : List Entry) (entry : Entry) → IsTurn r turn → entry.actor ≡ r
      → IsFalse (is_take entry) → IsTurn r (turn ++ entry ∷ [])
  pub round_begins : IsPartOfRound 0 []
  pub round_goes_on : (r : ℕ) (entries turn : List Entry) → IsPartOfRound r entries → IsTurn r turn
      → IsPartOfRound (r + 1) (entries ++ turn)
  pub round_ends : (dim : ℕ) (entries : List Entry) → IsPartOfRound (2 ^ dim) entries
      → IsSerialRound dim entries
  pub share_begins : (r : ℕ) → IsPartOfShare r []
  pub share_goes_on : (r : ℕ) (entries turn : List Entry) → IsPartOfShare r entries → IsTurn r turn
      → IsTrue (has_work turn) → IsPartOfShare r (entries ++ turn)
  pub share_ends : (r : ℕ) (entries : List Entry) (last : Entry) → IsPartOfShare r entries
      → IsTurn r (last ∷ []) → IsFalse (is_dispatch last)
      → IsShare r (entries ++ last ∷ [])
  pub work_begins : (entry : Entry) → has_work (entry ∷ []) ≡ is_dispatch entry
  pub work_adds : (entries others : List Entry) → has_work (entries ++ others)
      ≡ (has_work entries || has_work others)
