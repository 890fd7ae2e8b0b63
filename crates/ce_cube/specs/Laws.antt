-- The laws of the boxes of a cube that is held, each in one line.
use Rattle.std.specs.Prelude.{◌≡◌, ◌⊎◌, ℕ, ◌^◌, ◌<◌, ◌≤◌, ◌==◌, ◌||◌, true, false, IsTrue, IsFalse, List, [], ◌∷◌, ◌++◌, length, map, drop, slice_get, Some}
use Rattle.ce_model.specs.declared.topology.Place.{Place}
use Rattle.ce_model.specs.declared.topology.BlockId.{BlockId}
use Rattle.ce_model.specs.declared.entry.Entry.{Entry}
use Rattle.ce_model.specs.Limits.{block_room, greatest_count}
use Rattle.ce_model.specs.Parcels.{Parcel}
use Rattle.ce_model.specs.declared.entry.What.TheVariants.{Peek, Look, HostTake}
use Rattle.ce_model.specs.declared.entry.LookResult.TheVariants.{Busy}
use Rattle.ce_model.specs.declared.topology.TheConstants.{HOST}
use Rattle.ce_model.specs.Node.{Node, Call, arm_call, send_call, mail_call, look_call, is_place}
use Rattle.ce_model.specs.Saying.{says}
use Rattle.ce_model.specs.Hearing.{node_after_hearing}
use Rattle.ce_model.specs.Subcubes.{node_of}
use Rattle.ce_model.specs.Renaming.{CubeGrant, block_outward, renamed_call_blocks, node_outward}
use Rattle.ce_model.specs.Trace.{standing}
use Rattle.ce_model.specs.Answers.{is_quiet, is_used_up}
use Rattle.ce_model.specs.Cube.{opening, node_numbers, Wish, call_of_wish, parcel_numbered}
use Rattle.ce_model.specs.Views.{view}
use Rattle.ce_model.specs.Machine.{MachineParts, IsMachine, IsLawful, IsLawfulEntry, IsCallWithinLimits, IsFitting, HasHeldCube, getcube, drain, freecube, cube_request, what_of_request, after, all_parcels, cube_of}
use Rattle.rk_mail.specs.declared.talk.Hearing.{Hearing}
use Rattle.ce_solo.specs.Laws.{OfEachTrace}
use Rattle.rk_mail.specs.Talk.{hearing_model}
use Rattle.ce_script.specs.Rounds.{is_take, is_dispatch, asks_for_work, AreTurnsOver, RoundKind, IsRoundWithoutWork}
use Rattle.ce_cube.specs.Hearable.{IsRightAnswer, calls_left}
use Rattle.ce_cube.specs.Boxes.{IsHeldAs, trace_node, IsStandIn, AreInStep, IsAccepted, IsSaidBy, IsCubeCallEntry, IsNextCubeEntry, IsHearingOfNode, IsAside, grant_entry, drain_entry, IsBegun, trace_store}
use Rattle.ce_cube.specs.Beside.{AreNotMadeAlone, AreEntriesBeside}
use Rattle.ce_cube.specs.Rounds.{dispatches_left, IsEntryOfNode}
use Rattle.ce_cube.specs.Rehoming.{names_in_cube, AreAllBlocks}

-- this holds of every cube that is held after a lawful history of a machine within its limits
abbrev pub OfEachHeld : (MachineParts → List Entry → ℕ → CubeGrant → Type 0) → Type 0
OfEachHeld P = (parts : MachineParts) (history : List Entry) (number : ℕ) (grant : CubeGrant)
    → IsMachine parts → IsLawful parts history
    → IsHeldAs history number grant → P parts history number grant

-- a getcube that was granted begins a cube
abbrev pub GrantsBegin : Type 0
GrantsBegin = (parts : MachineParts) (history : List Entry) (grant : CubeGrant) → IsMachine parts
    → IsLawful parts history
    → IsFitting parts history grant.user HOST (getcube grant.dim)
    → what_of_request parts (after history) grant.user HOST (getcube grant.dim)
    ≡ Some (grant_entry grant).what → IsBegun parts history grant

-- what a box says that stands for a node is the node's next call, which fits
abbrev pub BoxesSay : Type 0
BoxesSay = OfEachHeld (λ parts history number grant. (r : ℕ) (box : Node) → r < 2 ^ grant.dim
    → IsStandIn grant (trace_node parts history number grant r) box
    → IsSaidBy parts history number grant r box)

-- a call of the cube that fits makes an entry more of the cube's trace
abbrev pub CallsAdd : Type 0
CallsAdd = OfEachHeld
    (λ parts history number grant. (actor : ℕ) (call : Call) (entry : Entry)
    → IsFitting parts history grant.user actor (cube_request call)
    → IsCubeCallEntry parts history grant actor call entry
    → IsNextCubeEntry parts history number grant entry)

-- an entry of another user, or a look at the machine, leaves the cube as it is
abbrev pub OthersKeep : Type 0
OthersKeep =
    OfEachHeld (λ parts history number grant. (entry : Entry) → IsLawfulEntry parts history entry
    → ((entry.user == grant.user) ≡ false) ⊎ (entry.what ≡ Peek)
    → IsAside parts history number grant entry)

-- Behind entries of other users, calls of the cube and peeks of its host the cube is held still;
-- its trace has these calls more, and a node that made none of them is what it was, and so is the
-- host's store.
abbrev pub BesideKeeps : Type 0
BesideKeeps = OfEachHeld
    (λ parts history number grant. (added_entries : List Entry)
    → IsLawful parts (history ++ added_entries) → AreNotMadeAlone grant.user added_entries
    → AreEntriesBeside parts history number grant added_entries)

-- the box of the node that made an entry stands for the node behind it, once it has heard the
-- answer
abbrev pub BoxesHear : Type 0
BoxesHear = OfEachHeld
    (λ parts history number grant. (r : ℕ) (box : Node) (entry : Entry) (hearing : Hearing) → r
    < 2 ^ grant.dim
    → IsStandIn grant (trace_node parts history number grant r) box
    → IsCubeCallEntry parts history grant (node_of grant.sub r) (says box).call entry
    → IsHearingOfNode history grant r entry.what hearing
    → node_after_hearing parts.images (says box).node (hearing_model hearing)
    ≡ node_outward grant (trace_node parts (history ++ entry ∷ []) number grant r))

-- and it can hear that answer, which is one to its call
abbrev pub BoxesCanHear : Type 0
BoxesCanHear = OfEachHeld
    (λ parts history number grant. (r : ℕ) (box : Node) (entry : Entry) (hearing : Hearing) → r
    < 2 ^ grant.dim
    → IsStandIn grant (trace_node parts history number grant r) box
    → IsCubeCallEntry parts history grant (node_of grant.sub r) (says box).call entry
    → IsHearingOfNode history grant r entry.what hearing
    → IsRightAnswer parts.images (says box) hearing)

-- by each call that asks for no work a turn has fewer calls left
abbrev pub TurnsEnd : Type 0
TurnsEnd = OfEachHeld
    (λ parts history number grant. (r : ℕ) (box : Node) (entry : Entry) (hearing : Hearing) → r
    < 2 ^ grant.dim
    → IsStandIn grant (trace_node parts history number grant r) box
    → IsCubeCallEntry parts history grant (node_of grant.sub r) (says box).call entry
    → IsHearingOfNode history grant r entry.what hearing → IsFalse (asks_for_work (says box).call)
    → calls_left (node_after_hearing parts.images (says box).node (hearing_model hearing))
    < calls_left box)

-- ---- the host

-- what a user has its host do fits
abbrev pub HostsFit : Type 0
HostsFit = OfEachHeld (λ parts history number grant. (wish : Wish) (call : Call)
    → call_of_wish (cube_of parts.images grant) (trace_store parts history number grant) wish
    ≡ Some call → IsCallWithinLimits call
    → IsFitting parts history grant.user HOST
    (cube_request (renamed_call_blocks (block_outward grant) call)))

-- a message that the host sends takes the least block out of its store
abbrev pub HostsSend : Type 0
HostsSend = OfEachHeld
    (λ parts history number grant. (to : Place) (id : BlockId) (bytes : List ℕ) (entry : Entry)
    → slice_get (trace_store parts history number grant) 0 ≡ Some id → is_place grant.dim to ≡ true
    → length bytes ≤ block_room
    → IsCubeCallEntry parts history grant HOST
    (send_call 0 ((to, block_outward grant id) ∷ []) bytes) entry
    → trace_store parts (history ++ entry ∷ []) number grant
    ≡ drop 1 (trace_store parts history number grant))

-- a message that it takes puts its block in
abbrev pub HostsTake : Type 0
HostsTake = OfEachHeld
    (λ parts history number grant. (number' : ℕ) (parcel : Parcel) (entry : Entry)
    → IsCubeCallEntry parts history grant HOST mail_call entry
    → entry.what ≡ HostTake (Some number')
    → HasHeldCube history grant.user (λ cube. parcel_numbered number' cube.mail ≡ Some parcel)
    → IsAccepted parts history number grant entry parcel)

-- so many dispatches are left as the host has just allowed
abbrev pub ArmsAllow : Type 0
ArmsAllow = OfEachHeld
    (λ parts history number grant. (count : ℕ) (entry : Entry) → count ≤ greatest_count
    → IsCubeCallEntry parts history grant HOST (arm_call count) entry
    → dispatches_left parts (history ++ entry ∷ []) number grant ≡ count)

-- a cube that is held can be drained, and is given back behind that
abbrev pub DrainsFit : Type 0
DrainsFit = OfEachHeld (λ parts history number grant. IsFitting parts history grant.user HOST drain
    × IsLawful parts (history ++ drain_entry grant ∷ [])
    × IsFitting parts (history ++ drain_entry grant ∷ []) grant.user HOST freecube)

-- ---- turns and rounds

-- an entry of a node is of its turn, and takes a dispatch exactly where it gives work
abbrev pub EntriesCount : Type 0
EntriesCount = OfEachHeld
    (λ parts history number grant. (r : ℕ) (box : Node) (entry : Entry) (hearing : Hearing) → r
    < 2 ^ grant.dim
    → IsStandIn grant (trace_node parts history number grant r) box
    → IsCubeCallEntry parts history grant (node_of grant.sub r) (says box).call entry
    → IsHearingOfNode history grant r entry.what hearing
    → IsEntryOfNode parts history number grant r (says box).call entry hearing)

-- right behind a Take that gives it no work, the last entry of the trace, a node asks for work
-- again
abbrev pub IdleAsks : Type 0
IdleAsks = OfEachHeld
    (λ parts history number grant. (r : ℕ) (earlier_entries : List Entry) (entry : Entry)
    → view history number ≡ earlier_entries ++ entry ∷ []
    → entry.actor ≡ r → IsTrue (is_take entry) → IsFalse (is_dispatch entry)
    → IsTrue (asks_for_work (says (trace_node parts history number grant r)).call))

-- where all boxes are in step no turn is open
abbrev pub BoxesInStepEndTurns : Type 0
BoxesInStepEndTurns =
    (parts : MachineParts) (history : List Entry) (number : ℕ) (grant : CubeGrant) (box : ℕ → Node)
    → AreInStep parts history number grant box
    → AreTurnsOver (cube_of parts.images grant) (opening (cube_of parts.images grant))
    (view history number)

-- behind a round without work, of either kind, a cube is quiet, or its dispatches are used up
abbrev pub RoundsRest : Type 0
RoundsRest = OfEachTrace
    (λ cube o t. (kind : RoundKind) (earlier_entries round : List Entry) → t ≡ earlier_entries
    ++ round
    → IsRoundWithoutWork kind cube.dim round
    → (is_quiet (node_numbers cube.dim) (standing o.standing t)
    || is_used_up (standing o.standing t)) ≡ true)

-- so a look right behind one never finds it busy
abbrev pub LooksEnd : Type 0
LooksEnd = OfEachHeld
    (λ parts history number grant. (kind : RoundKind) (earlier_entries round : List Entry)
    (entry : Entry)
    → view history number ≡ earlier_entries ++ round → IsRoundWithoutWork kind grant.dim round
    → IsCubeCallEntry parts history grant HOST look_call entry → (entry.what ≡ Look Busy) → ⊥)

-- ---- a cube that is given back

-- where all boxes are in step, the cube's blocks are in them, on the parcels that wait and in the
-- host's store, each once, and there is no other
abbrev pub BlocksAreWhole : Type 0
BlocksAreWhole = OfEachHeld
    (λ parts history number grant. (box : ℕ → Node) → AreInStep parts history number grant box
    → HasHeldCube history grant.user
    (λ cube. AreAllBlocks grant (names_in_cube grant box (all_parcels (after history) cube)
    (map (block_outward grant) (trace_store parts history number grant)))))
