-- The physical machine: its state after a history, which call fits there and what it is answered,
-- and the histories that it allows. A history is a list of entries with the machine's own numbers
-- for its nodes.
use Rattle.std.specs.Prelude.{◌≡◌, ◌⊎◌, ℕ, ◌+◌, ◌^◌, ◌<◌, ◌≤◌, List, [], ◌∷◌, ◌++◌, Option, Some, None, Bool, true, false, not, ◌==◌, if◌then◌else◌, IsTrue, IsSomeAnd, length, map, filter, find, flat_map, fold, count_by, option_map}
use Rattle.std.specs.List.{list_any, range_with_len}
use Rattle.rv_model.specs.Image.{ImageParts}
use Rattle.ce_model.specs.declared.topology.TheConstants.{HOST}
use Rattle.ce_model.specs.declared.topology.Subcube.{Subcube}
use Rattle.ce_model.specs.declared.entry.Entry.{Entry}
use Rattle.ce_model.specs.declared.entry.What.{What}
use Rattle.ce_model.specs.declared.entry.What.TheVariants.{Getcube, Peek, Drain, Freecube}
use Rattle.ce_model.specs.declared.entry.TakeResult.{TakeResult}
use Rattle.ce_model.specs.Limits.{greatest_dim, greatest_users, greatest_images, greatest_count, block_room}
use Rattle.ce_model.specs.Lists.{without_first, EachAfter}
use Rattle.ce_model.specs.Parcels.{Parcel, Item, mail, item_parcels, is_named_by}
use Rattle.ce_model.specs.Node.{Call, send_call, arm_call}
use Rattle.ce_model.specs.Trace.{NodeRecord, Standing, blank_record, items_to, taken_result, sent_parcels, start_ids_in, kill_ids_in, mark_after, allowed_dispatches_after, made_dispatches_after}
use Rattle.ce_model.specs.Answers.{answer, recorded_call}
use Rattle.ce_model.specs.Cube.{Cube, opening, wish_of_call, actor_call, node_numbers}
use Rattle.ce_model.specs.Subcubes.{relative_number, node_of, is_inside, first_free_subcube}
use Rattle.ce_model.specs.Renaming.{CubeGrant, place_inward, place_outward, block_outward, renamed_call, renamed_call_blocks}
use Rattle.ce_model.specs.Views.{view}

-- a machine: its dimension, how many users it has, and its images
pub record MachineParts : Type 0 where
  pub dim : ℕ
  pub users : ℕ
  pub images : List ImageParts

-- the machine is within its limits
pub record IsMachine (parts : MachineParts) : Type 0 where
  pub dim : parts.dim ≤ greatest_dim
  pub some_user : 0 < parts.users
  pub users : parts.users ≤ greatest_users
  pub images : length parts.images ≤ greatest_images

-- a cube that is held: its number and its grant, whether its messages were taken away to give it
-- back, its counts, and what waits for its host
pub record HeldCube : Type 0 where
  pub number : ℕ
  pub grant : CubeGrant
  pub is_drained : Bool
  pub allowed_dispatches : ℕ
  pub made_dispatches : ℕ
  pub parcel_count : ℕ
  pub mail : List Item

-- a machine's state: how many cubes it has granted, those that are held, in the order of granting,
-- and what it keeps for each node. Items that wait have the cube's numbers for places, and the
-- machine's names for blocks
pub record MachineState : Type 0 where
  pub grant_count : ℕ
  pub cubes : List HeldCube
  pub node_record : ℕ → NodeRecord

-- a machine on which nothing is held
abbrev pub machine_opening : MachineState
machine_opening = record { grant_count = 0; cubes = []; node_record = λ node. blank_record }

-- ---- what a state says

abbrev pub is_held_by : ℕ → HeldCube → Bool
is_held_by user cube = cube.grant.user == user

-- the cube that a user holds
abbrev pub cube_held_by : MachineState → ℕ → Option HeldCube
cube_held_by state user = find (is_held_by user) state.cubes

-- a node is free where it is in no cube that is held
abbrev pub is_free : MachineState → ℕ → Bool
is_free state node = not (list_any (λ cube. is_inside cube.grant.sub node) state.cubes)

-- the nodes of a cube, in relative order
abbrev pub nodes_of : CubeGrant → List ℕ
nodes_of grant = map (node_of grant.sub) (node_numbers grant.dim)

-- what is kept for a cube's host: what waits for it
abbrev pub host_record : HeldCube → NodeRecord
host_record cube = record blank_record { waiting_items = cube.mail }

-- how a cube stands, by the machine's numbers for its nodes
abbrev pub cube_standing : MachineState → HeldCube → Standing
cube_standing state cube = record {
  node_record = λ node. if node == HOST then host_record cube else state.node_record node;
  allowed_dispatches = cube.allowed_dispatches;
  made_dispatches = cube.made_dispatches;
  parcel_count = cube.parcel_count;
}

-- the answer to a peek: how many nodes are free, and the cubes that are held, by number
abbrev pub free_count : MachineParts → MachineState → ℕ
free_count parts state = count_by (is_free state) (range_with_len 0 (2 ^ parts.dim))

abbrev pub held_grants : MachineState → List (ℕ × CubeGrant)
held_grants state = map (λ cube. (cube.number, cube.grant)) state.cubes

-- the answer to a drain: all parcels that wait in a cube, at its nodes in relative order and then
-- for its host
abbrev pub all_parcels : MachineState → HeldCube → List Parcel
all_parcels state cube = item_parcels
    (flat_map (λ node. (state.node_record node).waiting_items) (nodes_of cube.grant) ++ cube.mail)

-- ---- what an entry changes

-- an item with the machine's numbers for places, as its cube knows it
abbrev pub item_inward : Subcube → Item → Item
item_inward sub (mail parcel) =
    mail (record parcel { from = place_inward sub parcel.from; to = place_inward sub parcel.to })
item_inward sub other = other

-- what waits for an actor once it has taken an item, if any: the first of this name is gone
abbrev pub without_taken_item : Option TakeResult → List Item → List Item
without_taken_item None items = items
without_taken_item (Some given) items = without_first (is_named_by given) items

-- what waits at a number, which may be the host's, once an entry of the cube is made
abbrev pub waiting_items_after : Subcube → Entry → ℕ → List Item → List Item
waiting_items_after sub entry node items =
    (if entry.actor == node then without_taken_item (taken_result entry.what) items else items)
    ++ map (item_inward sub) (items_to node entry)

-- what is kept for a node, once an entry of its cube is made
abbrev pub record_after_entry : Subcube → Entry → ℕ → NodeRecord → NodeRecord
record_after_entry sub entry node node_record = record {
  waiting_items = waiting_items_after sub entry node node_record.waiting_items;
  spawned_ids = node_record.spawned_ids ++ start_ids_in node entry.what;
  killed_ids = node_record.killed_ids ++ kill_ids_in node entry.what;
  mark = if entry.actor == node then mark_after node_record.mark entry.what else node_record.mark;
}

-- a cube that is held, once an entry of it is made
abbrev pub cube_after_entry : Entry → HeldCube → HeldCube
cube_after_entry entry cube = record cube {
  allowed_dispatches = allowed_dispatches_after cube.allowed_dispatches entry.what;
  made_dispatches = made_dispatches_after cube.made_dispatches entry.what;
  parcel_count = cube.parcel_count + length (sent_parcels entry.actor entry.what);
  mail = waiting_items_after cube.grant.sub entry HOST cube.mail;
}

-- what is kept for a node changes where it is one of this cube, if any
abbrev pub changed_record : (HeldCube → ℕ → NodeRecord → NodeRecord) → ℕ → NodeRecord
    → Option HeldCube → NodeRecord
changed_record change node node_record None = node_record
changed_record change node node_record (Some cube) =
    if is_inside cube.grant.sub node then change cube node node_record else node_record

-- the cube that a user holds changes, and so does what is kept for its nodes; the others stay
abbrev pub with_cube : ℕ → (HeldCube → HeldCube) → (HeldCube → ℕ → NodeRecord → NodeRecord)
    → MachineState → MachineState
with_cube user change change_record state = record state {
  cubes = map (λ cube. if is_held_by user cube then change cube else cube) state.cubes;
  node_record =
      λ node. changed_record change_record node (state.node_record node) (cube_held_by state user);
}

-- a cube that was just granted
abbrev pub new_cube : ℕ → CubeGrant → HeldCube
new_cube number grant =
    record {
      number = number;
      grant = grant;
      is_drained = false;
      allowed_dispatches = 0;
      made_dispatches = 0;
      parcel_count = 0;
      mail = [];
    }

-- a cube is granted
abbrev pub with_grant : CubeGrant → MachineState → MachineState
with_grant grant state = record state {
  grant_count = state.grant_count + 1;
  cubes = state.cubes ++ new_cube state.grant_count grant ∷ [];
}

-- a user's cube is drained: nothing waits in it any longer
abbrev pub with_drained_cube : ℕ → MachineState → MachineState
with_drained_cube user state =
    with_cube user (λ cube. record cube { is_drained = true; mail = [] })
    (λ cube node node_record. record node_record { waiting_items = [] }) state

-- a user holds its cube no longer, and its nodes are free
abbrev pub without_cube : ℕ → MachineState → MachineState
without_cube user state =
    record (with_cube user (λ cube. cube)
    (λ cube node node_record. blank_record) state) {
      cubes = filter
          (λ cube. not (is_held_by user cube)) state.cubes;
    }

-- the state once a host has asked for a cube, or given its own back
abbrev pub state_after_host : ℕ → What → MachineState → MachineState
state_after_host user (Getcube dim (Some sub)) state =
    with_grant (record { user = user; dim = dim; sub = sub }) state
state_after_host user Drain state = with_drained_cube user state
state_after_host user Freecube state = without_cube user state
state_after_host user other state = state

-- the state once a call of a cube is made, or another request
abbrev pub state_after_call : Option Call → Entry → MachineState → MachineState
state_after_call (Some call) entry state = with_cube entry.user (cube_after_entry entry)
    (λ cube. record_after_entry cube.grant.sub entry) state
state_after_call None entry state = state_after_host entry.user entry.what state

-- the state once an entry is made
abbrev pub state_after_entry : MachineState → Entry → MachineState
state_after_entry state entry = state_after_call (recorded_call entry.what) entry state

-- the state that a history leaves
unfoldable pub after : List Entry → MachineState
after history = fold state_after_entry machine_opening history

-- ---- requests and answers

-- what an actor of a user asks of the machine
pub data Request : Type 0 where
  -- a cube of this dimension
  getcube : ℕ → Request
  -- which cubes are held
  peek : Request
  -- all messages that wait in the cube
  drain : Request
  -- the cube is given back
  freecube : Request
  -- a call of the cube, which has the cube's numbers for places and the machine's names for blocks
  cube_request : Call → Request

-- requests that no other actor of their user's cube may make an entry beside
abbrev pub is_alone : Request → Bool
is_alone (getcube dim) = true
is_alone drain = true
is_alone freecube = true
is_alone other = false

-- a call of a cube, with the machine's numbers for places
abbrev pub with_places_outward : CubeGrant → Call → Call
with_places_outward grant call = renamed_call (place_outward grant.sub) (λ id. id) call

-- the entry that a request makes in this state, with its answer; a call of a cube makes none where
-- no cube is held
abbrev pub what_of_request : MachineParts → MachineState → ℕ → ℕ → Request → Option What
what_of_request parts state user actor (getcube dim) =
    Some (Getcube dim (first_free_subcube (is_free state) parts.dim dim))
what_of_request parts state user actor peek = Some Peek
what_of_request parts state user actor drain = Some Drain
what_of_request parts state user actor freecube = Some Freecube
what_of_request parts state user actor (cube_request call) =
    option_map
    (λ cube. answer (nodes_of cube.grant) (cube_standing state cube) actor
    (with_places_outward cube.grant call)) (cube_held_by state user)

-- ---- what fits

-- the cube of a grant
abbrev pub cube_of : List ImageParts → CubeGrant → Cube
cube_of images grant = record { user = grant.user; dim = grant.dim; images = images }

-- the user holds a cube, of which this holds
abbrev pub HasHeldCube : List Entry → ℕ → (HeldCube → Type 0) → Type 0
HasHeldCube history user P = IsSomeAnd (cube_held_by (after history) user) P

-- the call is within the machine's limits, which a cube alone doesn't know: on what a host allows,
-- and on the bytes that it sends
abbrev pub IsCallWithinLimits : Call → Type 0
IsCallWithinLimits (arm_call count) = count ≤ greatest_count
IsCallWithinLimits (send_call pid to bytes) = length bytes ≤ block_room
IsCallWithinLimits other = Unit {0}

-- the call is, with the machine's names for blocks, the one that an actor of this cube makes next
-- after the cube's own entries: a node the one that it says, and a host one that its user may ask
-- for
pub record IsCallOf (parts : MachineParts) (history : List Entry) (actor : ℕ) (call : Call)
    (cube : HeldCube) : Type 0 where
  pub inner : Call
  pub inside : IsTrue (actor == HOST) ⊎ IsTrue (is_inside cube.grant.sub actor)
  pub next : actor_call (cube_of parts.images cube.grant)
      (opening (cube_of parts.images cube.grant)) (view history cube.number)
      (relative_number cube.grant.sub actor) (wish_of_call inner) ≡ Some inner
  pub renamed : renamed_call_blocks (block_outward cube.grant) inner ≡ call
  pub within : IsTrue (actor == HOST) → IsCallWithinLimits call
  pub not_drained : cube.is_drained ≡ false

-- what a request of an actor asks of the history before it: a host asks for a cube that holds none;
-- a drained cube is given back, and one that isn't is drained; and a call of a cube is the next one
-- of its actor
abbrev pub IsFittingIn : MachineParts → List Entry → ℕ → ℕ → Request → Type 0
IsFittingIn parts history user actor (getcube dim) =
    (actor ≡ HOST) × (dim ≤ greatest_dim) × (cube_held_by (after history) user ≡ None)
IsFittingIn parts history user actor peek = actor ≡ HOST
IsFittingIn parts history user actor drain =
    (actor ≡ HOST) × HasHeldCube history user (λ cube. cube.is_drained ≡ false)
IsFittingIn parts history user actor freecube =
    (actor ≡ HOST) × HasHeldCube history user (λ cube. cube.is_drained ≡ true)
IsFittingIn parts history user actor (cube_request call) =
    HasHeldCube history user (IsCallOf parts history actor call)

-- a request of one of the machine's users fits the history before it, whatever it is answered
abbrev pub IsFitting : MachineParts → List Entry → ℕ → ℕ → Request → Type 0
IsFitting parts history user actor request =
    (user < parts.users) × IsFittingIn parts history user actor request

-- ---- what is lawful

-- the entry is made by a request that fits the history before it, and has the answer of that state
pub record IsLawfulEntry (parts : MachineParts) (history : List Entry)
    (entry : Entry) : Type 0 where
  pub request : Request
  pub fits : IsFitting parts history entry.user entry.actor request
  pub answer : what_of_request parts (after history) entry.user entry.actor request
      ≡ Some entry.what

-- the machine allows the history
abbrev pub IsLawful : MachineParts → List Entry → Type 0
IsLawful parts history = EachAfter (IsLawfulEntry parts) [] history
