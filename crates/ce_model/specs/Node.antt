-- A node: its processes, its store of blocks, and the calls that leave it.
use Rattle.std.specs.Prelude.{ℕ, ◌+◌, ◌*◌, ◌^◌, Bool, ◌&&◌, ◌==◌, nat_lt, if◌then◌else◌, List, [], ◌∷◌, ◌++◌, Option, None, flat_map, replicate, slice_get, slice_index_or, slice_set}
use Rattle.rv_model.specs.declared.stop.Stop.{Stop}
use Rattle.ce_model.specs.declared.process.Status.{Status}
use Rattle.ce_model.specs.declared.topology.TheConstants.{HOST}
use Rattle.ce_model.specs.declared.topology.Place.{Place}
use Rattle.ce_model.specs.declared.topology.BlockId.{BlockId}
use Rattle.ce_model.specs.Limits.{process_count}
use Rattle.ce_model.specs.Lists.{without_first}
use Rattle.ce_model.specs.Blocks.{with_ids, blocks_of_home}
use Rattle.ce_model.specs.Space.{mapped_ids}
use Rattle.ce_model.specs.Process.{Process, unborn_process, ended_process, is_receiving, is_stopped}

-- the turn of a process: its id, how many instructions it may still run, and how many counted calls
-- it has made
pub record Turn : Type 0 where
  pub pid : ℕ
  pub instructions_left : ℕ
  pub calls : ℕ

-- a node: its number in its cube, the cube's dimension, the home of its blocks, how many images
-- there are, its processes by id, the blocks in its store, the ids in `xrecv`, longest first, and
-- the turn that runs, if any
pub record Node : Type 0 where
  pub number : ℕ
  pub dim : ℕ
  pub home : ℕ
  pub images : ℕ
  pub processes : List Process
  pub store : List BlockId
  pub polling_ids : List ℕ
  pub turn : Option Turn

-- node r of a fresh cube: its own blocks are in its store, and nothing was spawned
abbrev pub opening_node : ℕ → ℕ → ℕ → Node
opening_node r dim images = record {
  number = r;
  dim = dim;
  home = r;
  images = images;
  processes = replicate process_count unborn_process;
  store = blocks_of_home r;
  polling_ids = [];
  turn = None;
}

-- ---- places

-- a place where a process can be: a node of a cube of this dimension, and a process id
abbrev pub is_place : ℕ → Place → Bool
is_place dim to = nat_lt to.node (2 ^ dim) && nat_lt to.pid process_count

-- the place of a cube's host
abbrev pub host_place : Place
host_place = record { node = HOST; pid = 0 }

abbrev pub is_host_place : Place → Bool
is_host_place to = to.node == HOST && to.pid == 0

-- ---- processes

abbrev pub process_at : Node → ℕ → Process
process_at node pid = slice_index_or node.processes pid unborn_process

-- the node once this process is as given
abbrev pub with_process : Node → ℕ → Process → Node
with_process node pid p = record node { processes = slice_set node.processes pid p }

-- the list of those in `xrecv`, without one
abbrev pub without_poller : ℕ → List ℕ → List ℕ
without_poller pid polling_ids = without_first (λ other. other == pid) polling_ids

-- a process stops: its blocks go to the store, it polls no longer, and the turn is over
abbrev pub with_stopped_process : Node → ℕ → Process → Stop → Node
with_stopped_process node pid p cause = record node {
  processes = slice_set node.processes pid (ended_process cause p);
  store = with_ids (mapped_ids p.space) node.store;
  polling_ids = without_poller pid node.polling_ids;
  turn = None;
}

-- the names of all blocks that a node holds: those in its store, and those in the windows of its
-- processes
abbrev pub blocks_of : Node → List BlockId
blocks_of node = node.store ++ flat_map (λ p. mapped_ids p.space) node.processes

-- ---- calls

-- a call that a node or a host makes
pub data Call : Type 0 where
  -- a node asks for work: the sets of ids that wait for a message and that have stopped, and the id
  -- longest in `xrecv`
  take_call : ℕ → ℕ → Option ℕ → Call
  -- a process sends a message: its id, the places with the block for each, and the bytes
  send_call : ℕ → List (Place × BlockId) → List ℕ → Call
  -- a process has an image started at a place: its id, the image's number, and the place
  spawn_call : ℕ → ℕ → Place → Call
  -- a process has the process at a place ended
  kill_call : ℕ → Place → Call
  -- a process leaves a word in the trace
  note_call : ℕ → ℕ → Call
  -- the host allows so many dispatches
  arm_call : ℕ → Call
  -- the host looks whether its cube is quiet
  look_call : Call
  -- the host takes its next message
  mail_call : Call

-- the processes that pass a test, as a number with one bit for each id
abbrev pub process_set : (Status → Bool) → List Process → ℕ
process_set test [] = 0
process_set test (p ∷ ps) = (if test p.status then 1 else 0) + 2 * process_set test ps

-- the call of a node without a turn
abbrev pub take_call_of : Node → Call
take_call_of node = take_call (process_set is_receiving node.processes)
    (process_set is_stopped node.processes) (slice_get node.polling_ids 0)
