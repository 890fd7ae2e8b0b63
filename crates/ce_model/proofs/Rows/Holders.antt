-- What holds a block before and after its process sends it: the window, then the parcel, and then
-- the host's store.
use Rattle.std.proofs.Common.{◌≡◌, List, [], ◌∷◌, Option, Some, None, refl}
use Rattle.ce_model.specs.declared.process.Status.TheVariants.{Running}
use Rattle.ce_model.specs.declared.topology.TheConstants.{HOST}
use Rattle.ce_model.specs.declared.topology.BlockId.{BlockId}
use Rattle.ce_model.specs.declared.entry.Entry.{Entry}
use Rattle.ce_model.specs.declared.entry.What.TheVariants.{HostTake, Send}
use Rattle.ce_model.specs.Limits.{host_home}
use Rattle.ce_model.specs.Blocks.{Block}
use Rattle.ce_model.specs.Node.{Node, host_place}
use Rattle.ce_model.specs.Trace.{blank_record, sent_items, taken_results, waiting_items, standing}
use Rattle.ce_model.specs.Cube.{CubeState, hoststore}
use Rattle.ce_model.specs.Owners.{store_holder, window_holder, parcel_holder, hoststore_holder, holdings, holders}
use Rattle.ce_model.proofs.Rows.Cubes.{row_entry, block_0, host_block}

-- a node of one process, in whose windows these blocks are mapped, and whose store has these
abbrev pub small_node : List (Option Block) → List BlockId → Node
small_node windows store = record {
  number = 0;
  dim = 0;
  home = 0;
  images = 0;
  processes = record { status = Running; registers = []; pc = 0; space = record { private = []; windows = windows } } ∷ [];
  store = store;
  polling_ids = [];
  turn = None;
}

-- a cube of one node: in its process's window is block 0, in its store block 1, and in the host's
-- store the host's block 0
abbrev pub opening_state : CubeState
opening_state = record {
  node = λ r. small_node (Some (record { id = block_0 0; bytes = 7 ∷ [] }) ∷ []) (block_0 1 ∷ []);
  standing = record { node_record = λ r. blank_record; allowed_dispatches = 0; made_dispatches = 0; parcel_count = 0 };
  hoststore = host_block 0 ∷ [];
}

abbrev pub send_entry : Entry
send_entry = row_entry 0 (Send 0 0 ((host_place, block_0 0) ∷ []) (7 ∷ []))

abbrev pub host_take_entry : Entry
host_take_entry = row_entry HOST (HostTake (Some 0))

-- the cube after these entries; what the process says, and so its node, is as given
abbrev pub state_after_entries : List Entry → CubeState
state_after_entries t = record {
  node = λ r. small_node (None ∷ []) (block_0 1 ∷ []);
  standing = standing opening_state.standing t;
  hoststore = hoststore opening_state t;
}

pub in_its_window : holders 0 opening_state (block_0 0) ≡ window_holder 0 0 0 ∷ []
unfolding holders holdings host_home
in_its_window = refl

pub in_its_parcel : holders 0 (state_after_entries (send_entry ∷ [])) (block_0 0) ≡ parcel_holder HOST 0 ∷ []
unfolding holders holdings host_home sent_items taken_results waiting_items hoststore
in_its_parcel = refl

pub in_the_hosts_store : holders 0 (state_after_entries (send_entry ∷ host_take_entry ∷ [])) (block_0 0) ≡ hoststore_holder ∷ []
unfolding holders holdings host_home sent_items taken_results waiting_items hoststore
in_the_hosts_store = refl

-- the others stay where they are
pub others_stay : holders 0 (state_after_entries (send_entry ∷ host_take_entry ∷ [])) (block_0 1) ≡ store_holder 0 ∷ []
unfolding holders holdings host_home sent_items taken_results waiting_items hoststore
others_stay = refl
