-- The kernel: what each of its calls does, and which of them leave the node.
use Rattle.std.specs.Prelude.{ℕ, ◌+◌, ◌-◌, ◌^◌, Bool, true, false, not, ◌||◌, ◌==◌, nat_lt, if◌then◌else◌, List, [], ◌∷◌, ◌++◌, length, take, drop, replicate, slice_get, zip, Option, Some, None, Result, Ok, Err}
use Rattle.std.specs.Option.{option_map_or}
use Rattle.std.specs.List.{list_all}
use Rattle.rv_model.specs.declared.stop.Stop.{Stop}
use Rattle.rv_model.specs.declared.stop.Stop.TheVariants.{Exited, NoCall, TurnSpent}
use Rattle.ce_model.specs.declared.calls.TheConstants.{DONE, NO_ADDRESS, NO_PLACE, TOO_FEW_BLOCKS, TOO_MANY_PLACES, NO_IMAGE}
use Rattle.ce_model.specs.declared.process.Status.{Status}
use Rattle.ce_model.specs.declared.process.Status.TheVariants.{Asking, Polling}
use Rattle.ce_model.specs.declared.topology.Place.{Place}
use Rattle.ce_model.specs.declared.topology.BlockId.{BlockId}
use Rattle.ce_model.specs.Limits.{block_room, greatest_targets, turn_calls}
use Rattle.ce_model.specs.Blocks.{Block, with_id}
use Rattle.ce_model.specs.Space.{Space, window_start, has_unused_window, mapped_space, unmapped_space, block_named, places_at}
use Rattle.ce_model.specs.Process.{Process, argument, call_number, with_answer}
use Rattle.ce_model.specs.Node.{Turn, Node, is_place, is_host_place, with_process, with_stopped_process, Call, send_call, spawn_call, kill_call, note_call}

-- what a kernel call comes to: the turn goes on, or the node makes a call that leaves it, or the
-- turn is over
pub data CallOutcome : Type 0 where
  continuation : Node → Turn → CallOutcome
  departure : Node → Call → CallOutcome
  turn_conclusion : Node → CallOutcome

-- ---- the ways in which a call comes out

-- the process of the turn is as given, and goes on
abbrev pub proceed_outcome : Node → Turn → Process → CallOutcome
proceed_outcome node turn p = continuation (with_process node turn.pid p) turn

-- the call returns at once
abbrev pub return_outcome : Node → Turn → Process → ℕ → CallOutcome
return_outcome node turn p value = proceed_outcome node turn (with_answer value p)

-- the process of the turn stops
abbrev pub stop_outcome : Node → Turn → Process → Stop → CallOutcome
stop_outcome node turn p cause = turn_conclusion (with_stopped_process node turn.pid p cause)

-- the process of the turn is as given, and its call leaves the node
abbrev pub leave_outcome : Node → Turn → Process → Call → CallOutcome
leave_outcome node turn p call =
    departure (record (with_process node turn.pid p) { turn = Some turn }) call

-- the process stops where what the call reads stops it, and else the call goes on with it
abbrev pub read_outcome : {X : Type 0} → Node → Turn → Process → Result X Stop → (X → CallOutcome)
    → CallOutcome
read_outcome node turn p (Ok x) onward = onward x
read_outcome node turn p (Err cause) onward = stop_outcome node turn p cause

-- the process waits in this state, and its turn is over
abbrev pub wait_outcome : Node → Turn → Process → Status → List ℕ → CallOutcome
wait_outcome node turn p status polling_ids = turn_conclusion
    (record (with_process node turn.pid (record p { status = status })) {
      polling_ids = polling_ids;
      turn = None;
    })

-- the memory of a process changes
abbrev pub with_space : Process → Space → Process
with_space p space = record p { space = space }

-- the block at this window leaves the process
abbrev pub process_left_behind : ℕ → Process → Process
process_left_behind window p = with_space p (unmapped_space window p.space)

-- the node's store is as given
abbrev pub with_store : List BlockId → Node → Node
with_store store node = record node { store = store }

-- ---- blocks

-- xmalloc: the store's least block is mapped at the next window, with this many zero bytes
abbrev pub map_outcome : Node → Turn → Process → ℕ → List BlockId → CallOutcome
map_outcome node turn p len [] = return_outcome node turn p NO_ADDRESS
map_outcome node turn p len (id ∷ store) =
    return_outcome (with_store store node) turn
    (with_space p (mapped_space (record { id = id; bytes = replicate len 0 }) p.space))
    (window_start (length p.space.windows))

abbrev pub xmalloc : Node → Turn → Process → CallOutcome
xmalloc node turn p =
    if nat_lt block_room (argument p 0) || not (has_unused_window p.space)
    then return_outcome node turn p NO_ADDRESS
    else map_outcome node turn p (argument p 0) node.store

-- the block that the call names goes to the store
abbrev pub free_outcome : Node → Turn → Process → ℕ × Block → CallOutcome
free_outcome node turn p mapped_block = return_outcome
    (with_store (with_id mapped_block.1.id node.store) node) turn
    (process_left_behind mapped_block.0 p) DONE

abbrev pub xfree : Node → Turn → Process → CallOutcome
xfree node turn p =
    read_outcome node turn p (block_named p.space (argument p 0)) (free_outcome node turn p)

-- the block's length is returned
abbrev pub length_outcome : Node → Turn → Process → ℕ × Block → CallOutcome
length_outcome node turn p mapped_block = return_outcome node turn p (length mapped_block.1.bytes)

abbrev pub xlength : Node → Turn → Process → CallOutcome
xlength node turn p =
    read_outcome node turn p (block_named p.space (argument p 0)) (length_outcome node turn p)

-- ---- messages

-- a message can be sent to a place of the cube, and to its host
abbrev pub is_target : Node → Place → Bool
is_target node to = is_place node.dim to || is_host_place to

-- the place that two arguments name
abbrev pub place_named : Process → ℕ → Place
place_named p k = record { node = argument p k; pid = argument p (k + 1) }

-- xsend: the block leaves the process, for one place
abbrev pub send_outcome : Node → Turn → Process → ℕ × Block → CallOutcome
send_outcome node turn p mapped_block =
    if is_target node (place_named p 1)
    then leave_outcome node turn (process_left_behind mapped_block.0 p)
    (send_call turn.pid ((place_named p 1, mapped_block.1.id) ∷ []) mapped_block.1.bytes)
    else return_outcome node turn p NO_PLACE

abbrev pub xsend : Node → Turn → Process → CallOutcome
xsend node turn p =
    read_outcome node turn p (block_named p.space (argument p 0)) (send_outcome node turn p)

-- xmsend to these places: the first gets the block, each further one a copy in the store's least
-- block, in order
abbrev pub copies_outcome : Node → Turn → Process → ℕ × Block → List Place → CallOutcome
copies_outcome node turn p mapped_block [] = free_outcome node turn p mapped_block
copies_outcome node turn p mapped_block (to ∷ others) =
    if not (list_all (is_target node) (to ∷ others)) then return_outcome node turn p NO_PLACE
    else (if nat_lt (length node.store) (length others)
    then return_outcome node turn p TOO_FEW_BLOCKS
    else leave_outcome (with_store (drop (length others) node.store) node) turn
    (process_left_behind mapped_block.0 p)
    (send_call turn.pid
    (zip (to ∷ others) (mapped_block.1.id ∷ take (length others) node.store)) mapped_block.1.bytes))

abbrev pub xmsend_block : Node → Turn → Process → ℕ × Block → CallOutcome
xmsend_block node turn p mapped_block =
    if nat_lt greatest_targets (argument p 1) then return_outcome node turn p TOO_MANY_PLACES
    else read_outcome node turn p (places_at p.space (argument p 2) (argument p 1))
    (copies_outcome node turn p mapped_block)

abbrev pub xmsend : Node → Turn → Process → CallOutcome
xmsend node turn p =
    read_outcome node turn p (block_named p.space (argument p 0)) (xmsend_block node turn p)

-- xrecv and xrecvb end the turn; who polls goes behind those that poll already
abbrev pub xrecv : Node → Turn → Process → CallOutcome
xrecv node turn p = wait_outcome node turn p Polling (node.polling_ids ++ turn.pid ∷ [])

abbrev pub xrecvb : Node → Turn → Process → CallOutcome
xrecvb node turn p = wait_outcome node turn p Asking node.polling_ids

-- ---- processes

abbrev pub spawn : Node → Turn → Process → CallOutcome
spawn node turn p =
    if not (is_place node.dim (place_named p 1)) then return_outcome node turn p NO_PLACE
    else (if nat_lt (argument p 0) node.images
    then leave_outcome node turn p (spawn_call turn.pid (argument p 0) (place_named p 1))
    else return_outcome node turn p NO_IMAGE)

abbrev pub ckill : Node → Turn → Process → CallOutcome
ckill node turn p =
    if is_place node.dim (place_named p 0)
    then leave_outcome node turn p (kill_call turn.pid (place_named p 0))
    else return_outcome node turn p NO_PLACE

abbrev pub mynode : Node → Turn → Process → CallOutcome
mynode node turn p = return_outcome node turn p node.number

abbrev pub mypid : Node → Turn → Process → CallOutcome
mypid node turn p = return_outcome node turn p turn.pid

abbrev pub nnodes : Node → Turn → Process → CallOutcome
nnodes node turn p = return_outcome node turn p (2 ^ node.dim)

abbrev pub exit : Node → Turn → Process → CallOutcome
exit node turn p = stop_outcome node turn p (Exited (argument p 0))

-- a word goes into the trace
abbrev pub note : Node → Turn → Process → CallOutcome
note node turn p = leave_outcome node turn p (note_call turn.pid (argument p 0))

-- ---- all calls

-- a kernel call: whether a turn's limit counts it, and what it does
pub record KernelCall : Type 0 where
  pub is_counted : Bool
  pub outcome : Node → Turn → Process → CallOutcome

abbrev pub counted_call : (Node → Turn → Process → CallOutcome) → KernelCall
counted_call outcome = record { is_counted = true; outcome = outcome }

abbrev pub uncounted_call : (Node → Turn → Process → CallOutcome) → KernelCall
uncounted_call outcome = record { is_counted = false; outcome = outcome }

-- the kernel calls, by their numbers from 1 on
unfoldable pub kernel_calls : List KernelCall
kernel_calls =
    uncounted_call xmalloc
    ∷ uncounted_call xfree
    ∷ uncounted_call xlength
    ∷ counted_call xsend
    ∷ counted_call xmsend
    ∷ uncounted_call xrecv
    ∷ uncounted_call xrecvb
    ∷ counted_call spawn
    ∷ counted_call ckill
    ∷ uncounted_call mynode
    ∷ uncounted_call mypid
    ∷ uncounted_call nnodes
    ∷ uncounted_call exit
    ∷ counted_call note
    ∷ []

abbrev pub kernel_call : ℕ → Option KernelCall
kernel_call number = if number == 0 then None else slice_get kernel_calls (number - 1)

-- whether a turn's limit counts the calls of this number
abbrev pub is_counted_at : ℕ → Bool
is_counted_at number = option_map_or (λ call. call.is_counted) (kernel_call number) false

-- a counted call counts whatever it returns, and the one past the turn's limit isn't made
abbrev pub counted_outcome : KernelCall → Node → Turn → Process → CallOutcome
counted_outcome call node turn p =
    if nat_lt turn.calls turn_calls
    then call.outcome node (record turn { calls = turn.calls + 1 }) p
    else stop_outcome node turn p TurnSpent

-- a call that exists is made
abbrev pub call_outcome : Option KernelCall → Node → Turn → Process → CallOutcome
call_outcome None node turn p = stop_outcome node turn p (NoCall (call_number p))
call_outcome (Some call) node turn p =
    if call.is_counted then counted_outcome call node turn p else call.outcome node turn p

-- what the call comes to that a process of the turn has made, whose pc is past it
unfoldable pub kernel : Node → Turn → Process → CallOutcome
kernel node turn p = call_outcome (kernel_call (call_number p)) node turn p
