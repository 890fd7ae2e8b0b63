-- What a call is answered, by how its cube stands. The cube alone reads it off its trace, and the
-- machine off its state.
use Rattle.std.specs.Prelude.{ℕ, Bool, not, ◌&&◌, ◌==◌, if◌then◌else◌, List, find, slice_get, Option, Some, None, option_map, option_and_then}
use Rattle.std.specs.List.{list_any, list_all}
use Rattle.ce_model.specs.declared.entry.What.{What}
use Rattle.ce_model.specs.declared.entry.What.TheVariants.{Arm, Look, HostTake, Send, Spawn, Kill, Note, Take}
use Rattle.ce_model.specs.declared.entry.LookResult.{LookResult}
use Rattle.ce_model.specs.declared.entry.LookResult.TheVariants as look_result
use Rattle.ce_model.specs.declared.entry.KillResult.{KillResult}
use Rattle.ce_model.specs.declared.entry.KillResult.TheVariants.{Killed, Unused, Already}
use Rattle.ce_model.specs.declared.entry.TakeResult.{TakeResult}
use Rattle.ce_model.specs.declared.entry.TakeResult.TheVariants.{Poll, Idle, Spent}
use Rattle.ce_model.specs.Parcels.{Item, is_eligible, take_result_of, parcel_in}
use Rattle.ce_model.specs.Node.{Call, take_call, send_call, spawn_call, kill_call, note_call, arm_call, look_call, mail_call}
use Rattle.ce_model.specs.Trace.{NodeRecord, Standing}

-- the dispatches that are allowed are used up
abbrev pub is_used_up : Standing → Bool
is_used_up standing = standing.made_dispatches == standing.allowed_dispatches

-- what a node is given, by the first item that it can be given, the process that polls longest, and
-- whether the allowed dispatches are used up
abbrev pub offer_of : Option Item → Option ℕ → Bool → TakeResult
offer_of (Some item) poller is_used_up = if is_used_up then Spent else take_result_of item
offer_of None (Some pid) is_used_up = if is_used_up then Spent else Poll pid
offer_of None None is_used_up = Idle

-- an id is among those that were spawned, or whose kill was accepted
abbrev pub is_among : ℕ → List ℕ → Bool
is_among pid pids = list_any (λ other. other == pid) pids

-- what a kill of an id finds
abbrev pub kill_result : NodeRecord → ℕ → KillResult
kill_result node_record pid =
    if not (is_among pid node_record.spawned_ids) then Unused
    else (if is_among pid node_record.killed_ids then Already else Killed)

-- a node is quiet: its last entry is a Take answered Idle, or it has none, and no item that waits
-- can be given to it
abbrev pub is_quiet_node : NodeRecord → Bool
is_quiet_node node_record = node_record.mark.is_idle
    && not (list_any
    (is_eligible node_record.mark.asking node_record.mark.dead) node_record.waiting_items)

-- a cube of these nodes is quiet
unfoldable pub is_quiet : List ℕ → Standing → Bool
is_quiet nodes standing = list_all (λ r. is_quiet_node (standing.node_record r)) nodes

-- what a look finds, by whether the cube is quiet and whether the allowed dispatches are used up
abbrev pub look_result_where : Bool → Bool → LookResult
look_result_where is_quiet is_used_up = if is_quiet then look_result.Quiet
    else (if is_used_up then look_result.Spent else look_result.Busy)

-- the number of the first parcel that waits
abbrev pub first_number : List Item → Option ℕ
first_number items =
    option_map (λ parcel. parcel.number) (option_and_then parcel_in (slice_get items 0))

-- the entry that an actor's call makes, with its answer, in a cube of these nodes that stands so
unfoldable pub answer : List ℕ → Standing → ℕ → Call → What
answer nodes standing actor (take_call asking dead poller) =
    Take asking dead poller
    (offer_of
    (find (is_eligible asking dead) (standing.node_record actor).waiting_items) poller
    (is_used_up standing))
answer nodes standing actor (send_call pid to bytes) = Send pid standing.parcel_count to bytes
answer nodes standing actor (spawn_call pid image to) =
    Spawn pid image to (not (is_among to.pid (standing.node_record to.node).spawned_ids))
answer nodes standing actor (kill_call pid to) =
    Kill pid to (kill_result (standing.node_record to.node) to.pid)
answer nodes standing actor (note_call pid word) = Note pid word
answer nodes standing actor (arm_call count) = Arm count
answer nodes standing actor look_call =
    Look (look_result_where (is_quiet nodes standing) (is_used_up standing))
answer nodes standing actor mail_call =
    HostTake (first_number (standing.node_record actor).waiting_items)

-- the call of which this is the entry, where it is one of a cube
abbrev pub recorded_call : What → Option Call
recorded_call (Take asking dead poller given) = Some (take_call asking dead poller)
recorded_call (Send pid first to bytes) = Some (send_call pid to bytes)
recorded_call (Spawn pid image to fresh) = Some (spawn_call pid image to)
recorded_call (Kill pid to found) = Some (kill_call pid to)
recorded_call (Note pid word) = Some (note_call pid word)
recorded_call (Arm count) = Some (arm_call count)
recorded_call (Look found) = Some look_call
recorded_call (HostTake number) = Some mail_call
recorded_call other = None
