-- One cube alone: what its nodes become by its trace, which call each actor makes next, and the
-- traces that it gives alone.
use Rattle.std.specs.Prelude.{◌≡◌, ℕ, ◌^◌, ◌≤◌, ◌<◌, Bool, ◌&&◌, ◌==◌, nat_lt, if◌then◌else◌, List, [], ◌∷◌, ◌++◌, length, map, filter_map, find, fold, drop, slice_get, Option, Some, None, option_map, option_and_then}
use Rattle.std.specs.List.{range_with_len}
use Rattle.rv_model.specs.Image.{ImageParts}
use Rattle.ce_model.specs.declared.calls.TheConstants.{DONE, USED_ID, UNUSED_ID, KILLED_BEFORE}
use Rattle.ce_model.specs.declared.topology.TheConstants.{HOST}
use Rattle.ce_model.specs.declared.topology.Place.{Place}
use Rattle.ce_model.specs.declared.topology.BlockId.{BlockId}
use Rattle.ce_model.specs.declared.entry.Entry.{Entry}
use Rattle.ce_model.specs.declared.entry.What.{What}
use Rattle.ce_model.specs.declared.entry.What.TheVariants.{HostTake, Send, Spawn, Kill, Take}
use Rattle.ce_model.specs.declared.entry.KillResult.{KillResult}
use Rattle.ce_model.specs.declared.entry.KillResult.TheVariants.{Killed, Unused, Already}
use Rattle.ce_model.specs.declared.entry.TakeResult.{TakeResult}
use Rattle.ce_model.specs.declared.entry.TakeResult.TheVariants as take_result
use Rattle.ce_model.specs.Limits.{greatest_dim, greatest_users, greatest_images, host_home}
use Rattle.ce_model.specs.Lists.{fold_with_front}
use Rattle.ce_model.specs.Blocks.{with_id, without_id, blocks_of_home}
use Rattle.ce_model.specs.Parcels.{Parcel, Item, is_named_by, parcel_in}
use Rattle.ce_model.specs.Node.{Node, opening_node, is_place, Call, send_call, spawn_call, kill_call, arm_call, look_call, mail_call, take_call, note_call}
use Rattle.ce_model.specs.Saying.{says}
use Rattle.ce_model.specs.Hearing.{Hearing, start_of, mail_of, kill_of, poll_of, answer_of, nothing, node_after_hearing}
use Rattle.ce_model.specs.Trace.{Standing, blank_record, waiting_items, standing}
use Rattle.ce_model.specs.Answers.{answer, recorded_call}

-- a cube: whose it is, its dimension, and the images that its processes start from
pub record Cube : Type 0 where
  pub user : ℕ
  pub dim : ℕ
  pub images : List ImageParts

-- the cube is within the machine's limits
pub record IsCube (cube : Cube) : Type 0 where
  pub user : cube.user < greatest_users
  pub dim : cube.dim ≤ greatest_dim
  pub images : length cube.images ≤ greatest_images

-- the numbers of the nodes of a cube of this dimension
abbrev pub node_numbers : ℕ → List ℕ
node_numbers dim = range_with_len 0 (2 ^ dim)

abbrev pub is_node : Cube → ℕ → Bool
is_node cube r = nat_lt r (2 ^ cube.dim)

-- ---- where a trace begins

-- all that a cube is at a moment: its nodes, how it stands, and the blocks in its host's store
pub record CubeState : Type 0 where
  pub node : ℕ → Node
  pub standing : Standing
  pub hoststore : List BlockId

-- a cube that has just been granted: nothing was spawned, sent or allowed, and each block is at
-- home
abbrev pub opening : Cube → CubeState
opening cube = record {
  node = λ r. opening_node r cube.dim (length cube.images);
  standing = record {
    node_record = λ r. blank_record;
    allowed_dispatches = 0;
    made_dispatches = 0;
    parcel_count = 0;
  };
  hoststore = blocks_of_home host_home;
}

-- ---- what the nodes become

-- the parcel of this number among those that wait
abbrev pub parcel_numbered : ℕ → List Item → Option Parcel
parcel_numbered number items =
    option_and_then parcel_in (find (is_named_by (take_result.Mail 0 number)) items)

-- a parcel is handed to the node, if there is one
abbrev pub hearing_of_parcel : Option Parcel → Hearing
hearing_of_parcel None = nothing
hearing_of_parcel (Some parcel) = mail_of parcel

-- what a node hears that is given this; of a parcel the entry has the number alone
abbrev pub hearing_of_result : List Item → TakeResult → Hearing
hearing_of_result items (take_result.Start pid image) = start_of pid image
hearing_of_result items (take_result.Mail pid number) =
    hearing_of_parcel (parcel_numbered number items)
hearing_of_result items (take_result.Kill pid) = kill_of pid
hearing_of_result items (take_result.Poll pid) = poll_of pid
hearing_of_result items take_result.Idle = nothing
hearing_of_result items take_result.Spent = nothing

-- the number by which a process is told what its kill found
abbrev pub kill_answer : KillResult → ℕ
kill_answer Killed = DONE
kill_answer Unused = UNUSED_ID
kill_answer Already = KILLED_BEFORE

-- what the node hears that made this entry, with these items waiting for it
abbrev pub hearing_of_entry : List Item → What → Hearing
hearing_of_entry items (Take asking dead poller given) = hearing_of_result items given
hearing_of_entry items (Send pid first to bytes) = answer_of DONE
hearing_of_entry items (Spawn pid image to fresh) = answer_of (if fresh then DONE else USED_ID)
hearing_of_entry items (Kill pid to found) = answer_of (kill_answer found)
hearing_of_entry items other = nothing

-- node r, once the cube has made an entry behind these: by one of its own it says its call and
-- hears the answer
abbrev pub node_after_entry : Cube → CubeState → ℕ → List Entry → Node → Entry → Node
node_after_entry cube o r before node entry =
    if entry.actor == r
    then node_after_hearing cube.images (says node).node
    (hearing_of_entry (waiting_items o.standing r before) entry.what) else node

-- node r after a trace
unfoldable pub state : Cube → CubeState → ℕ → List Entry → Node
state cube o r t = fold_with_front (node_after_entry cube o r) (o.node r) t

-- node r after a trace and after its turn was run up to its next call that leaves it, and that call
abbrev pub rest : Cube → CubeState → ℕ → List Entry → Node
rest cube o r t = (says (state cube o r t)).node

abbrev pub next_call : Cube → CubeState → ℕ → List Entry → Call
next_call cube o r t = (says (state cube o r t)).call

-- a store with the block of a parcel, if there is one
abbrev pub with_parcel : List BlockId → Option Parcel → List BlockId
with_parcel store None = store
with_parcel store (Some parcel) = with_id parcel.block.id store

-- the store of the host, once its host has made an entry: the block that it sends is out of it, and
-- the block of a parcel that it takes is in it
abbrev pub store_after : List Item → List BlockId → What → List BlockId
store_after items store (Send pid first to bytes) =
    fold (λ ids target. without_id target.1 ids) store to
store_after items store (HostTake (Some number)) = with_parcel store (parcel_numbered number items)
store_after items store other = store

-- the blocks in the host's store after a trace
unfoldable pub hoststore : CubeState → List Entry → List BlockId
hoststore o t =
    fold_with_front
    (λ before store entry. if entry.actor == HOST
    then store_after (waiting_items o.standing HOST before) store entry.what
    else store) o.hoststore t

-- all that the cube is after a trace
abbrev pub state_after_trace : Cube → CubeState → List Entry → CubeState
state_after_trace cube o t = record {
  node = λ r. state cube o r t;
  standing = standing o.standing t;
  hoststore = hoststore o t;
}

-- ---- what its actors do next

-- what a user has its host do: the block of a message is not named
pub data Wish : Type 0 where
  -- send bytes to a place
  send_wish : Place → List ℕ → Wish
  -- have an image started at a place
  spawn_wish : ℕ → Place → Wish
  -- have the process at a place ended
  kill_wish : Place → Wish
  -- allow so many dispatches
  arm_wish : ℕ → Wish
  -- look whether the cube is quiet
  look_wish : Wish
  -- take the next message
  mail_wish : Wish

-- the call that a host makes of it, where it names a place and an image of the cube, and has a
-- block to send: the least of its store
abbrev pub call_of_wish : Cube → List BlockId → Wish → Option Call
call_of_wish cube store (send_wish to bytes) =
    if is_place cube.dim to
    then option_map (λ id. send_call 0 ((to, id) ∷ []) bytes) (slice_get store 0) else None
call_of_wish cube store (spawn_wish image to) =
    if is_place cube.dim to && nat_lt image (length cube.images) then Some (spawn_call 0 image to)
    else None
call_of_wish cube store (kill_wish to) =
    if is_place cube.dim to then Some (kill_call 0 to) else None
call_of_wish cube store (arm_wish count) = Some (arm_call count)
call_of_wish cube store look_wish = Some look_call
call_of_wish cube store mail_wish = Some mail_call

-- what a user had its host do that made this call
abbrev pub wish_of_call : Call → Option Wish
wish_of_call (send_call pid to bytes) =
    option_map (λ target. send_wish target.0 bytes) (slice_get to 0)
wish_of_call (spawn_call pid image to) = Some (spawn_wish image to)
wish_of_call (kill_call pid to) = Some (kill_wish to)
wish_of_call (arm_call count) = Some (arm_wish count)
wish_of_call look_call = Some look_wish
wish_of_call mail_call = Some mail_wish
wish_of_call (take_call asking dead poller) = None
wish_of_call (note_call pid word) = None

-- the call that an actor makes next: a host the one that its user asks for, a node the one that it
-- says
abbrev pub actor_call : Cube → CubeState → List Entry → ℕ → Option Wish → Option Call
actor_call cube o t actor wish =
    if actor == HOST then option_and_then (call_of_wish cube (hoststore o t)) wish
    else (if is_node cube actor then Some (next_call cube o actor t) else None)

-- the entry that a call makes after a trace
abbrev pub actor_entry : Cube → CubeState → List Entry → ℕ → Call → Entry
actor_entry cube o t actor call =
    record {
      user = cube.user;
      actor = actor;
      what = answer (node_numbers cube.dim) (standing o.standing t) actor call;
    }

-- the entry that an actor makes next
unfoldable pub next_entry : Cube → CubeState → List Entry → ℕ → Option Wish → Option Entry
next_entry cube o t actor wish =
    option_map (actor_entry cube o t actor) (actor_call cube o t actor wish)

-- ---- the cube on a machine of its own

-- the cube in the middle of its run: its trace, and what its user still asks of its host
pub record Solo : Type 0 where
  pub trace : List Entry
  pub wishes_left : List Wish

-- the cube once the next actor has made its entry
abbrev pub next_solo : Cube → CubeState → Solo → ℕ → Option Solo
next_solo cube o now actor =
    option_map
    (λ entry. record {
      trace = now.trace ++ entry ∷ [];
      wishes_left = if actor == HOST then drop 1 now.wishes_left else now.wishes_left;
    })
    (next_entry cube o now.trace actor (slice_get now.wishes_left 0))

-- the actors of a schedule act one after another
unfoldable pub continued_solo : Cube → CubeState → List Wish → List ℕ → Option Solo
continued_solo cube o wishes schedule =
    fold (λ now actor. option_and_then (λ solo. next_solo cube o solo actor) now)
    (Some (record { trace = []; wishes_left = wishes })) schedule

-- the trace, where nothing more is asked of the host
abbrev pub whole_trace : List Entry → List Wish → Option (List Entry)
whole_trace t [] = Some t
whole_trace t (wish ∷ wishes) = None

-- the trace of the cube alone, by what its user asks of its host and by the order in which its
-- actors act; none where that is too little or too much, or can't be done
unfoldable pub solo : Cube → CubeState → List Wish → List ℕ → Option (List Entry)
solo cube o wishes schedule = option_and_then (λ end. whole_trace end.trace end.wishes_left)
    (continued_solo cube o wishes schedule)

-- what was asked of the host in a trace
abbrev pub entry_wish : Entry → Option Wish
entry_wish entry =
    if entry.actor == HOST then option_and_then wish_of_call (recorded_call entry.what) else None

abbrev pub host_wishes : List Entry → List Wish
host_wishes t = filter_map entry_wish t

-- the order in which its actors acted
abbrev pub actors : List Entry → List ℕ
actors t = map (λ entry. entry.actor) t

-- the trace is the one that the cube gives alone from this state, when the same is asked of its
-- host and its actors act in the same order
abbrev pub IsAloneFrom : Cube → CubeState → List Entry → Type 0
IsAloneFrom cube o t = solo cube o (host_wishes t) (actors t) ≡ Some t

-- the trace is one that the cube gives alone
abbrev pub IsAlone : Cube → List Entry → Type 0
IsAlone cube t = IsAloneFrom cube (opening cube) t

-- the same, told by entries: each is the one that its actor makes next
abbrev pub IsNext : Cube → CubeState → List Entry → Entry → Type 0
IsNext cube o before entry = next_entry cube o before entry.actor (entry_wish entry) ≡ Some entry
