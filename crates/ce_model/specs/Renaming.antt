-- The numbers of a cube and those of the machine: how places, blocks, calls and entries are renamed
-- between the two, and nodes, of which the names of blocks alone are renamed.
use Rattle.std.specs.Prelude.{ℕ, ◌+◌, ◌==◌, nat_lt, if◌then◌else◌, List, map, option_map}
use Rattle.ce_model.specs.declared.topology.TheConstants.{HOST}
use Rattle.ce_model.specs.declared.topology.Place.{Place}
use Rattle.ce_model.specs.declared.topology.BlockId.{BlockId}
use Rattle.ce_model.specs.declared.topology.Subcube.{Subcube}
use Rattle.ce_model.specs.declared.entry.Entry.{Entry}
use Rattle.ce_model.specs.declared.entry.What.{What}
use Rattle.ce_model.specs.declared.entry.What.TheVariants.{Send, Spawn, Kill}
use Rattle.ce_model.specs.Limits.{host_home}
use Rattle.ce_model.specs.Blocks.{Block}
use Rattle.ce_model.specs.Parcels.{Parcel, Item, mail}
use Rattle.ce_model.specs.Space.{Space}
use Rattle.ce_model.specs.Process.{Process}
use Rattle.ce_model.specs.Node.{Node, Call, send_call, spawn_call, kill_call}
use Rattle.ce_model.specs.Hearing.{Hearing, mail_of}
use Rattle.ce_model.specs.Saying.{Saying}
use Rattle.ce_model.specs.Trace.{NodeRecord}
use Rattle.ce_model.specs.Subcubes.{relative_number, node_of}

-- a cube that was granted: to whom, of which dimension, and which nodes it is
pub record CubeGrant : Type 0 where
  pub user : ℕ
  pub dim : ℕ
  pub sub : Subcube

-- ---- inwards: from the machine's numbers to the cube's

abbrev pub place_inward : Subcube → Place → Place
place_inward sub place = record { node = relative_number sub place.node; pid = place.pid }

-- a block of a host is homed at the cube's own host
abbrev pub block_inward : Subcube → BlockId → BlockId
block_inward sub id = record {
  home = if nat_lt id.home host_home then relative_number sub id.home
      else host_home;
  index = id.index;
}

-- ---- outwards: from the cube's numbers to the machine's

abbrev pub number_outward : Subcube → ℕ → ℕ
number_outward sub node = if node == HOST then HOST else node_of sub node

abbrev pub place_outward : Subcube → Place → Place
place_outward sub place = record { node = number_outward sub place.node; pid = place.pid }

-- a block of the cube's host is homed at the host of the cube's user
abbrev pub block_outward : CubeGrant → BlockId → BlockId
block_outward grant id =
    record {
      home = if id.home == host_home then host_home + grant.user
          else node_of grant.sub id.home;
      index = id.index;
    }

-- ---- calls and entries

-- the targets of a message, once their places and blocks are renamed
abbrev pub renamed_targets : (Place → Place) → (BlockId → BlockId) → List (Place × BlockId)
    → List (Place × BlockId)
renamed_targets place block to = map (λ target. (place target.0, block target.1)) to

abbrev pub renamed_call : (Place → Place) → (BlockId → BlockId) → Call → Call
renamed_call place block (send_call pid to bytes) =
    send_call pid (renamed_targets place block to) bytes
renamed_call place block (spawn_call pid image to) = spawn_call pid image (place to)
renamed_call place block (kill_call pid to) = kill_call pid (place to)
renamed_call place block other = other

abbrev pub renamed_what : (Place → Place) → (BlockId → BlockId) → What → What
renamed_what place block (Send pid first to bytes) =
    Send pid first (renamed_targets place block to) bytes
renamed_what place block (Spawn pid image to fresh) = Spawn pid image (place to) fresh
renamed_what place block (Kill pid to found) = Kill pid (place to) found
renamed_what place block other = other

-- an entry of the machine, as its cube knows it
abbrev pub entry_inward : Subcube → Entry → Entry
entry_inward sub entry = record {
  user = entry.user;
  actor = relative_number sub entry.actor;
  what = renamed_what (place_inward sub) (block_inward sub) entry.what;
}

-- ---- the names of blocks alone, as the box of a node has them

abbrev pub renamed_block : (BlockId → BlockId) → Block → Block
renamed_block rename block = record block { id = rename block.id }

abbrev pub renamed_parcel : (BlockId → BlockId) → Parcel → Parcel
renamed_parcel rename parcel = record parcel { block = renamed_block rename parcel.block }

-- what waits at a node of the machine, and what it keeps for one, with its names for blocks
abbrev pub renamed_item : (BlockId → BlockId) → Item → Item
renamed_item rename (mail parcel) = mail (renamed_parcel rename parcel)
renamed_item rename other = other

abbrev pub renamed_record : (BlockId → BlockId) → NodeRecord → NodeRecord
renamed_record rename node_record =
    record node_record { waiting_items = map (renamed_item rename) node_record.waiting_items }

abbrev pub renamed_space : (BlockId → BlockId) → Space → Space
renamed_space rename space =
    record space { windows = map (option_map (renamed_block rename)) space.windows }

abbrev pub renamed_process : (BlockId → BlockId) → Process → Process
renamed_process rename p = record p { space = renamed_space rename p.space }

abbrev pub renamed_call_blocks : (BlockId → BlockId) → Call → Call
renamed_call_blocks rename call = renamed_call (λ place. place) rename call

abbrev pub renamed_hearing : (BlockId → BlockId) → Hearing → Hearing
renamed_hearing rename (mail_of parcel) = mail_of (renamed_parcel rename parcel)
renamed_hearing rename other = other

-- the node of a cube, as a box of the machine stands for it: with the machine's names for its
-- blocks and its home
abbrev pub node_outward : CubeGrant → Node → Node
node_outward grant node = record node {
  home = node_of grant.sub node.home;
  processes = map (renamed_process (block_outward grant)) node.processes;
  store = map (block_outward grant) node.store;
}

abbrev pub saying_outward : CubeGrant → Saying → Saying
saying_outward grant saying = record {
  node = node_outward grant saying.node;
  call = renamed_call_blocks (block_outward grant) saying.call;
}
