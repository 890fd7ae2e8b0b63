-- The machine's limits: a name for each, behind which no proof computes unless it asks, and a lemma
-- of its value.
use Rattle.std.specs.Prelude.{◌≡◌, ℕ, ◌^◌, refl}
use Rattle.ce_model.specs.declared.limits.TheConstants.{GREATEST_DIMENSION, GREATEST_NODES, PROCESS_COUNT, HOME_BLOCKS, GREATEST_BLOCKS, BLOCK_ROOM, WINDOW_COUNT, WINDOW_BASE, WINDOW_SIZE, GREATEST_TARGETS, TURN_INSTRUCTIONS, TURN_CALLS, GREATEST_COUNT, GREATEST_USERS, GREATEST_IMAGES, MAIL_ROOM, NODE_ROOM, GREATEST_HISTORY, HOST_HOME}

-- the greatest dimension of a machine or a cube
unfoldable pub greatest_dim : ℕ
greatest_dim = GREATEST_DIMENSION

pub greatest_dim_lem : greatest_dim ≡ 6
unfolding greatest_dim
greatest_dim_lem = refl

-- how many process ids a node has
unfoldable pub process_count : ℕ
process_count = PROCESS_COUNT

pub process_count_lem : process_count ≡ 8
unfolding process_count
process_count_lem = refl

-- how many message blocks are homed at each node and at each user's host
unfoldable pub home_blocks : ℕ
home_blocks = HOME_BLOCKS

pub home_blocks_lem : home_blocks ≡ 32
unfolding home_blocks
home_blocks_lem = refl

-- how many message blocks the greatest cube has: those that its nodes are home to, and those of its
-- host
unfoldable pub greatest_blocks : ℕ
greatest_blocks = GREATEST_BLOCKS

pub greatest_blocks_lem : greatest_blocks ≡ 2_080
unfolding greatest_blocks
greatest_blocks_lem = refl

-- how many bytes a message block can hold
unfoldable pub block_room : ℕ
block_room = BLOCK_ROOM

pub block_room_lem : block_room ≡ 4_096
unfolding block_room
block_room_lem = refl

-- how many windows a process can use in its life
unfoldable pub window_count : ℕ
window_count = WINDOW_COUNT

pub window_count_lem : window_count ≡ 32_768
unfolding window_count
window_count_lem = refl

-- the address of a process's first window
unfoldable pub window_base : ℕ
window_base = WINDOW_BASE

pub window_base_lem : window_base ≡ 0x8000_0000
unfolding window_base
window_base_lem = refl

-- how far the addresses of two windows that follow one another are apart
unfoldable pub window_size : ℕ
window_size = WINDOW_SIZE

pub window_size_lem : window_size ≡ 0x1_0000
unfolding window_size
window_size_lem = refl

-- how many places one call can send to
unfoldable pub greatest_targets : ℕ
greatest_targets = GREATEST_TARGETS

pub greatest_targets_lem : greatest_targets ≡ 64
unfolding greatest_targets
greatest_targets_lem = refl

-- how many instructions a turn may run, calls of the kernel included
unfoldable pub turn_instructions : ℕ
turn_instructions = TURN_INSTRUCTIONS

pub turn_instructions_lem : turn_instructions ≡ 4_000_000
unfolding turn_instructions
turn_instructions_lem = refl

-- how many calls that send, spawn, kill or note a turn may make
unfoldable pub turn_calls : ℕ
turn_calls = TURN_CALLS

pub turn_calls_lem : turn_calls ≡ 4_096
unfolding turn_calls
turn_calls_lem = refl

-- how many dispatches a host can allow at once
unfoldable pub greatest_count : ℕ
greatest_count = GREATEST_COUNT

pub greatest_count_lem : greatest_count ≡ 1_000_000
unfolding greatest_count
greatest_count_lem = refl

-- how many users a machine can have
unfoldable pub greatest_users : ℕ
greatest_users = GREATEST_USERS

pub greatest_users_lem : greatest_users ≡ 8
unfolding greatest_users
greatest_users_lem = refl

-- how many images a machine can have
unfoldable pub greatest_images : ℕ
greatest_images = GREATEST_IMAGES

pub greatest_images_lem : greatest_images ≡ 64
unfolding greatest_images
greatest_images_lem = refl

-- how many messages can wait in a cube: as many as the greatest cube has blocks, those of its host
-- included
unfoldable pub mail_room : ℕ
mail_room = MAIL_ROOM

pub mail_room_lem : mail_room ≡ 2_080
unfolding mail_room
mail_room_lem = refl

-- how many items can wait at a node: all messages, and a start and a kill of each process
unfoldable pub node_room : ℕ
node_room = NODE_ROOM

pub node_room_lem : node_room ≡ 2_096
unfolding node_room
node_room_lem = refl

-- how many entries a machine's history can have
unfoldable pub greatest_history : ℕ
greatest_history = GREATEST_HISTORY

pub greatest_history_lem : greatest_history ≡ 2 ^ 57
unfolding greatest_history
greatest_history_lem = refl

-- the home of the blocks of a cube's host, as the cube knows it; in the machine it is this and the
-- user's number together
unfoldable pub host_home : ℕ
host_home = HOST_HOME

pub host_home_lem : host_home ≡ 256
unfolding host_home
host_home_lem = refl

-- how many nodes a machine or a cube has at most
pub greatest_nodes_lem : 2 ^ greatest_dim ≡ GREATEST_NODES
unfolding greatest_dim
greatest_nodes_lem = refl
