-- Sound states of a cube: what every law of a cube alone begins with. A fresh cube is in one, and
-- each entry that its actor makes next leaves one.
use Rattle.std.specs.Prelude.{◌≡◌, ℕ, ◌^◌, ◌<◌, ◌≤◌, Bool, true, false, not, ◌||◌, ◌==◌, if◌then◌else◌, IsTrue, List, [], ◌∷◌, length, map, count_by, Option, Some, None, IfSome}
use Rattle.std.specs.List.{list_any, AllByRecursion}
use Rattle.rv_model.specs.declared.limits.TheConstants.{REGISTER_COUNT}
use Rattle.ce_model.specs.declared.process.Status.{Status}
use Rattle.ce_model.specs.declared.process.Status.TheVariants.{Unborn, Running, Polling}
use Rattle.ce_model.specs.declared.topology.TheConstants.{HOST}
use Rattle.ce_model.specs.declared.topology.BlockId.{BlockId}
use Rattle.ce_model.specs.Limits.{process_count, window_count, turn_instructions, turn_calls}
use Rattle.ce_model.specs.Lists.{ArePairwise}
use Rattle.ce_model.specs.Blocks.{is_lower}
use Rattle.ce_model.specs.Parcels.{Item, start, mail, kill, item_parcels}
use Rattle.ce_model.specs.Space.{mapped_ids}
use Rattle.ce_model.specs.Process.{Process, is_stopped}
use Rattle.ce_model.specs.Node.{Turn, Node, process_at, host_place}
use Rattle.ce_model.specs.Trace.{NodeRecord}
use Rattle.ce_model.specs.Answers.{is_among}
use Rattle.ce_model.specs.Cube.{Cube, CubeState}
use Rattle.ce_model.specs.Owners.{IsBlockOf, HasOneOwner, holdings}

abbrev pub is_unborn : Status → Bool
is_unborn Unborn = true
is_unborn other = false

abbrev pub is_running : Status → Bool
is_running Running = true
is_running other = false

abbrev pub is_polling : Status → Bool
is_polling Polling = true
is_polling other = false

-- ---- what waits

abbrev pub is_start_of : ℕ → Item → Bool
is_start_of pid (start other image) = other == pid
is_start_of pid other = false

abbrev pub is_kill_of : ℕ → Item → Bool
is_kill_of pid (kill other) = other == pid
is_kill_of pid other = false

-- the start of this process waits
abbrev pub has_start : ℕ → List Item → Bool
has_start pid items = list_any (is_start_of pid) items

-- behind a kill of this process no start of it waits
abbrev pub IsStartFirst : ℕ → List Item → Type 0
IsStartFirst pid [] = Unit {0}
IsStartFirst pid (item ∷ items) =
    (IsTrue (is_kill_of pid item) → has_start pid items ≡ false) × IsStartFirst pid items

-- the numbers of the parcels that wait, in order
abbrev pub numbers_of : List Item → List ℕ
numbers_of items = map (λ parcel. parcel.number) (item_parcels items)

-- the numbers of parcels rise, and are of parcels that were sent
pub record AreNumbered (count : ℕ) (items : List Item) : Type 0 where
  pub rising : ArePairwise (λ a b. a < b) (numbers_of items)
  pub below : AllByRecursion (λ number. number < count) (numbers_of items)

-- an item that waits at node r is for one of its processes: a start is of an image of the cube and
-- of an id that was spawned, and a kill is of one whose kill was accepted
abbrev pub IsItemOf : Cube → ℕ → NodeRecord → Item → Type 0
IsItemOf cube r node_record (start pid image) =
    IsTrue (is_among pid node_record.spawned_ids) × (image < length cube.images)
IsItemOf cube r node_record (mail parcel) = (parcel.to.node ≡ r) × (parcel.to.pid < process_count)
IsItemOf cube r node_record (kill pid) = IsTrue (is_among pid node_record.killed_ids)

-- the numbers differ from one another
abbrev pub AreDistinct : List ℕ → Type 0
AreDistinct pids = ArePairwise (λ a b. (a == b) ≡ false) pids

-- what is kept for a node: the items that wait there are its own, one start and one kill of an id
-- at most, the start first; an id is spawned once, and only a spawned one is killed, once
pub record IsSoundRecord (cube : Cube) (count r : ℕ) (node_record : NodeRecord) : Type 0 where
  pub numbered : AreNumbered count node_record.waiting_items
  pub own : AllByRecursion (IsItemOf cube r node_record) node_record.waiting_items
  pub one_start : (pid : ℕ) → count_by (is_start_of pid) node_record.waiting_items ≤ 1
  pub one_kill : (pid : ℕ) → count_by (is_kill_of pid) node_record.waiting_items ≤ 1
  pub start_first : (pid : ℕ) → IsStartFirst pid node_record.waiting_items
  pub ids : AllByRecursion (λ pid. pid < process_count) node_record.spawned_ids
  pub spawned_once : AreDistinct node_record.spawned_ids
  pub killed : AllByRecursion
      (λ pid. IsTrue (is_among pid node_record.spawned_ids)) node_record.killed_ids
  pub killed_once : AreDistinct node_record.killed_ids

-- the items that wait for the host are parcels for it
abbrev pub IsHostItem : Item → Type 0
IsHostItem (mail parcel) = parcel.to ≡ host_place
IsHostItem other = ⊥

pub record IsSoundHost (count : ℕ) (items : List Item) : Type 0 where
  pub numbered : AreNumbered count items
  pub own : AllByRecursion IsHostItem items

-- ---- nodes

-- the turn, if any, is of this process
abbrev pub is_turn_of : ℕ → Option Turn → Bool
is_turn_of pid None = false
is_turn_of pid (Some turn) = turn.pid == pid

-- a process is unborn exactly where its id wasn't spawned or its start waits, and then it has used
-- no window; one that has stopped holds no block; and it runs exactly where the turn is its own
pub record IsSoundProcess (node_record : NodeRecord) (turn : Option Turn) (pid : ℕ)
    (p : Process) : Type 0 where
  pub registers : length p.registers ≡ REGISTER_COUNT
  pub windows : length p.space.windows ≤ window_count
  pub unborn : is_unborn p.status
      ≡ (not (is_among pid node_record.spawned_ids) || has_start pid node_record.waiting_items)
  pub unborn_used : IsTrue (is_unborn p.status) → p.space.windows ≡ []
  pub stopped_holds : IsTrue (is_stopped p.status) → mapped_ids p.space ≡ []
  pub running : is_running p.status ≡ is_turn_of pid turn

-- a turn is of one of the node's processes, and within its limits
pub record IsSoundTurn (turn : Turn) : Type 0 where
  pub pid : turn.pid < process_count
  pub instructions_left : turn.instructions_left ≤ turn_instructions
  pub calls : turn.calls ≤ turn_calls

-- the names of a store rise
abbrev pub AreRisingIds : List BlockId → Type 0
AreRisingIds ids = ArePairwise (λ a b. is_lower a b ≡ true) ids

-- node r of a cube; the list of those in `xrecv` has exactly the ids that poll, each once
pub record IsSoundNode (cube : Cube) (node_record : NodeRecord) (r : ℕ) (node : Node) : Type 0 where
  pub number : node.number ≡ r
  pub dim : node.dim ≡ cube.dim
  pub home : node.home ≡ r
  pub images : node.images ≡ length cube.images
  pub process_ids : length node.processes ≡ process_count
  pub processes : (pid : ℕ) → pid < process_count
      → IsSoundProcess node_record node.turn pid (process_at node pid)
  pub polling_ids : (pid : ℕ) → count_by (λ other. other == pid) node.polling_ids
      ≡ (if is_polling (process_at node pid).status then 1 else 0)
  pub turn : IfSome node.turn IsSoundTurn
  pub store : AreRisingIds node.store

-- ---- the cube

-- a state that a cube can be in: each of its blocks has one owner, and there are no others
pub record IsSound (cube : Cube) (s : CubeState) : Type 0 where
  pub nodes : (r : ℕ) → r < 2 ^ cube.dim → IsSoundNode cube (s.standing.node_record r) r (s.node r)
  pub records : (r : ℕ) → r < 2 ^ cube.dim
      → IsSoundRecord cube s.standing.parcel_count r (s.standing.node_record r)
  pub host : IsSoundHost s.standing.parcel_count (s.standing.node_record HOST).waiting_items
  pub hoststore : AreRisingIds s.hoststore
  pub owners : HasOneOwner cube.dim s
  pub blocks : AllByRecursion (λ holding. IsBlockOf cube.dim holding.1) (holdings cube.dim s)
  pub dispatches : s.standing.made_dispatches ≤ s.standing.allowed_dispatches
