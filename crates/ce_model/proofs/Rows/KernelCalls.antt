-- The worked rows `sizes`, `store` and `xmsend`, as kernel calls of one process of a small node.
use Rattle.std.proofs.Common.{◌≡◌, ℕ, List, [], ◌∷◌, ◌++◌, replicate, Option, Some, None, Err, refl}
use Rattle.rv_model.specs.declared.stop.Stop.TheVariants.{PastEnd}
use Rattle.rv_model.specs.LittleEndian.{number_at}
use Rattle.ce_model.specs.declared.process.Status.TheVariants.{Running}
use Rattle.ce_model.specs.declared.topology.Place.{Place}
use Rattle.ce_model.specs.declared.topology.BlockId.{BlockId}
use Rattle.ce_model.specs.Limits.{block_room, window_base, window_size, window_count, greatest_targets, turn_calls, process_count}
use Rattle.ce_model.specs.Blocks.{Block}
use Rattle.ce_model.specs.Space.{Space, access_site, block_named, load_result}
use Rattle.ce_model.specs.Process.{Process, argument}
use Rattle.ce_model.specs.Node.{Turn, Node, process_at, send_call, Call}
use Rattle.ce_model.specs.Kernel.{CallOutcome, continuation, departure, turn_conclusion, kernel, kernel_calls}

-- a process of this memory that makes a call: its number, and three arguments
abbrev pub calling_process : Space → ℕ → ℕ → ℕ → ℕ → Process
calling_process space number a0 a1 a2 = record {
  status = Running;
  registers = replicate 10 0 ++ a0 ∷ a1 ∷ a2 ∷ 0 ∷ 0 ∷ 0 ∷ 0 ∷ number ∷ replicate 14 0;
  pc = 0;
  space = space;
}

-- a node of a cube of one node whose process 0 has this memory, and whose store has these blocks
abbrev pub node_with : List BlockId → Node
node_with store = record { number = 0; dim = 0; home = 0; images = 1; processes = replicate 1 (calling_process (record { private = []; windows = [] }) 0 0 0 0); store = store; polling_ids = []; turn = None }

abbrev pub turn_0 : Turn
turn_0 = record { pid = 0; instructions_left = 0; calls = 0 }

-- a memory whose windows hold these
abbrev pub space_with : List (Option Block) → Space
space_with windows = record { private = []; windows = windows }

abbrev pub id : ℕ → BlockId
id index = record { home = 0; index = index }

abbrev pub block_of : ℕ → List ℕ → Block
block_of index bytes = record { id = id index; bytes = bytes }

-- what a call returned, and what it left: the windows of process 0, and the store
pub record ReturnFacts : Type 0 where
  pub value : ℕ
  pub windows : List (Option Block)
  pub store : List BlockId

abbrev pub return_facts : CallOutcome → Option ReturnFacts
return_facts (continuation node turn) =
    Some (record { value = argument (process_at node 0) 0; windows = (process_at node 0).space.windows; store = node.store })
return_facts (departure node call) = None
return_facts (turn_conclusion node) = None

-- the call that leaves the node, and what is left of the store and of the windows then
abbrev pub departure_facts : CallOutcome → Option (Call × List (Option Block) × List BlockId)
departure_facts (departure node call) = Some (call, (process_at node 0).space.windows, node.store)
departure_facts other = None

-- ---- sizes

-- a block can't be longer than a block is
pub too_long : return_facts (kernel (node_with (id 0 ∷ [])) turn_0 (calling_process (space_with []) 1 4097 0 0)) ≡ Some (record { value = 0; windows = []; store = id 0 ∷ [] })
unfolding kernel kernel_calls block_room window_base window_size window_count
too_long = refl

-- an empty block can be had, and no byte of it can be loaded
pub empty_block :
    return_facts (kernel (node_with (id 1 ∷ [])) turn_0 (calling_process (space_with (Some (block_of 0 (7 ∷ [])) ∷ [])) 1 0 0 0))
    ≡ Some (record { value = 0x8001_0000; windows = Some (block_of 0 (7 ∷ [])) ∷ Some (block_of 1 []) ∷ []; store = [] })
unfolding kernel kernel_calls block_room window_base window_size window_count
empty_block = refl

pub no_byte : load_result (space_with (Some (block_of 0 (7 ∷ [])) ∷ Some (block_of 1 []) ∷ [])) 0x8001_0000 1 ≡ Err (PastEnd 0x8001_0000)
unfolding access_site window_base window_size
no_byte = refl

-- ---- the store

-- the least block is taken, at the next window, with zero bytes
pub least_block :
    return_facts (kernel (node_with (id 3 ∷ id 5 ∷ [])) turn_0 (calling_process (space_with (None ∷ [])) 1 2 0 0))
    ≡ Some (record { value = 0x8001_0000; windows = None ∷ Some (block_of 3 (0 ∷ 0 ∷ [])) ∷ []; store = id 5 ∷ [] })
unfolding kernel kernel_calls block_room window_base window_size window_count
least_block = refl

-- an empty store gives none
pub empty_store : return_facts (kernel (node_with []) turn_0 (calling_process (space_with (None ∷ [])) 1 2 0 0)) ≡ Some (record { value = 0; windows = None ∷ []; store = [] })
unfolding kernel kernel_calls block_room window_base window_size window_count
empty_store = refl

-- a block that is freed goes back to its place in the store, and its window is never used again
pub freed :
    return_facts (kernel (node_with (id 1 ∷ id 5 ∷ [])) turn_0 (calling_process (space_with (Some (block_of 3 (9 ∷ [])) ∷ [])) 2 0x8000_0000 0 0))
    ≡ Some (record { value = 0; windows = None ∷ []; store = id 1 ∷ id 3 ∷ id 5 ∷ [] })
unfolding kernel kernel_calls block_named window_base window_size
freed = refl

-- ---- xmsend

-- a memory that lists places behind the block's own bytes: two of process 1, and one of another
-- node
abbrev pub list_bytes : List ℕ
list_bytes = 0 ∷ 0 ∷ 0 ∷ 0 ∷ 1 ∷ 0 ∷ 0 ∷ 0 ∷ 0 ∷ 0 ∷ 0 ∷ 0 ∷ 1 ∷ 0 ∷ 0 ∷ 0 ∷ 9 ∷ 0 ∷ 0 ∷ 0 ∷ 0 ∷ 0 ∷ 0 ∷ 0 ∷ []

abbrev pub sending_process : ℕ → Process
sending_process count = calling_process (space_with (Some (block_of 4 (7 ∷ [])) ∷ Some (block_of 6 list_bytes) ∷ [])) 5 0x8000_0000 count 0x8001_0000

abbrev pub place_1 : Place
place_1 = record { node = 0; pid = 1 }

-- two places: the first gets the block, the second a copy in the store's least one
pub two_places :
    departure_facts (kernel (node_with (id 0 ∷ id 1 ∷ [])) turn_0 (sending_process 2))
    ≡ Some (send_call 0 ((place_1, id 4) ∷ (place_1, id 0) ∷ []) (7 ∷ []), None ∷ Some (block_of 6 list_bytes) ∷ [], id 1 ∷ [])
unfolding kernel kernel_calls block_named access_site number_at window_base window_size greatest_targets turn_calls process_count
two_places = refl

-- a place of another node is none, and nothing is sent
pub no_place :
    return_facts (kernel (node_with (id 0 ∷ id 1 ∷ [])) turn_0 (sending_process 3))
    ≡ Some (record { value = 1; windows = (sending_process 3).space.windows; store = id 0 ∷ id 1 ∷ [] })
unfolding kernel kernel_calls block_named access_site number_at window_base window_size greatest_targets turn_calls process_count
no_place = refl

-- the store has too few blocks
pub few_blocks :
    return_facts (kernel (node_with []) turn_0 (sending_process 2)) ≡ Some (record { value = 2; windows = (sending_process 2).space.windows; store = [] })
unfolding kernel kernel_calls block_named access_site number_at window_base window_size greatest_targets turn_calls process_count
few_blocks = refl

-- too many places: the list isn't read
pub many_places :
    return_facts (kernel (node_with []) turn_0 (sending_process 65)) ≡ Some (record { value = 3; windows = (sending_process 65).space.windows; store = [] })
unfolding kernel kernel_calls block_named access_site number_at window_base window_size greatest_targets turn_calls process_count
many_places = refl

-- no place at all: the block goes to the store
pub to_nobody :
    return_facts (kernel (node_with (id 7 ∷ [])) turn_0 (sending_process 0))
    ≡ Some (record { value = 0; windows = None ∷ Some (block_of 6 list_bytes) ∷ []; store = id 4 ∷ id 7 ∷ [] })
unfolding kernel kernel_calls block_named access_site number_at window_base window_size greatest_targets turn_calls process_count
to_nobody = refl
