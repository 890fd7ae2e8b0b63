-- What a node becomes by the answer to its call.
use Rattle.std.specs.Prelude.{ℕ, if◌then◌else◌, List, [], length, Option, Some, None, slice_index_or, slice_set}
use Rattle.rv_model.specs.declared.limits.TheConstants.{PRIVATE_START}
use Rattle.rv_model.specs.declared.stop.Stop.TheVariants.{Killed, WindowsSpent}
use Rattle.rv_model.specs.Image.{ImageParts}
use Rattle.ce_model.specs.declared.calls.TheConstants.{NO_ADDRESS}
use Rattle.ce_model.specs.declared.process.Status.TheVariants.{Running}
use Rattle.ce_model.specs.Limits.{turn_instructions}
use Rattle.ce_model.specs.Blocks.{with_id}
use Rattle.ce_model.specs.Parcels.{Parcel}
use Rattle.ce_model.specs.Space.{window_start, has_unused_window, mapped_space}
use Rattle.ce_model.specs.Process.{Process, started_process, with_answer, is_receiving, is_stopped}
use Rattle.ce_model.specs.Node.{Turn, Node, process_at, with_process, without_poller, with_stopped_process}

-- what a node hears in answer to its call
pub data Hearing : Type 0 where
  -- an image is to be started as a process
  start_of : ℕ → ℕ → Hearing
  -- a parcel is here
  mail_of : Parcel → Hearing
  -- a process is to be ended
  kill_of : ℕ → Hearing
  -- a process that polls is told that nothing is here
  poll_of : ℕ → Hearing
  -- the call of the turn's process is answered by this number
  answer_of : ℕ → Hearing
  -- there is nothing to do, or the word was noted
  nothing : Hearing

-- the image of a number; the machine gives no other number than those of its images
abbrev pub image_at : List ImageParts → ℕ → ImageParts
image_at images number =
    slice_index_or images number (record { entry = PRIVATE_START; loaded = []; zero = 0 })

-- a turn of this process begins
abbrev pub with_turn : Node → ℕ → Process → Node
with_turn node pid p = record node {
  processes = slice_set node.processes pid (record p { status = Running });
  polling_ids = without_poller pid node.polling_ids;
  turn = Some (record { pid = pid; instructions_left = turn_instructions; calls = 0 });
}

-- a turn begins of a process that is answered by this number
abbrev pub with_answered_turn : Node → ℕ → Process → ℕ → Node
with_answered_turn node pid p value = with_turn node pid (with_answer value p)

-- the parcel's block goes to the store
abbrev pub with_stored_parcel : Node → Parcel → Node
with_stored_parcel node parcel = record node { store = with_id parcel.block.id node.store }

-- a process that waits for a message gets the parcel: its block is mapped at the next window, and
-- its turn begins; where no window is left it stops, and this block and all its others are in the
-- store
abbrev pub with_received_parcel : Node → Parcel → Process → Node
with_received_parcel node parcel p =
    if has_unused_window p.space
    then with_answered_turn node parcel.to.pid
    (record p { space = mapped_space parcel.block p.space })
    (window_start (length p.space.windows))
    else with_stopped_process (with_stored_parcel node parcel) parcel.to.pid p WindowsSpent

-- the call of the turn's process is answered, where there is a turn
abbrev pub with_answered_call : ℕ → Node → Option Turn → Node
with_answered_call value node None = node
with_answered_call value node (Some turn) =
    with_process node turn.pid (with_answer value (process_at node turn.pid))

-- what a node that made a call becomes by the answer; mail for a process that doesn't wait for a
-- message goes to the store
unfoldable pub node_after_hearing : List ImageParts → Node → Hearing → Node
node_after_hearing images node (start_of pid image) =
    with_turn node pid (started_process (image_at images image))
node_after_hearing images node (mail_of parcel) =
    if is_receiving (process_at node parcel.to.pid).status
    then with_received_parcel node parcel (process_at node parcel.to.pid)
    else with_stored_parcel node parcel
node_after_hearing images node (kill_of pid) =
    if is_stopped (process_at node pid).status then node
    else with_stopped_process node pid (process_at node pid) Killed
node_after_hearing images node (poll_of pid) =
    with_answered_turn node pid (process_at node pid) NO_ADDRESS
node_after_hearing images node (answer_of value) = with_answered_call value node node.turn
node_after_hearing images node nothing = node
