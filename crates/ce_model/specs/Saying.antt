-- What a node says: its turn runs to the next call that leaves the node.
use Rattle.std.specs.Prelude.{ℕ, zero, suc, Option, Some, None}
use Rattle.rv_model.specs.declared.stop.Stop.TheVariants.{TurnSpent}
use Rattle.rv_model.specs.Exec.{Outcome, next_state, call_state, stop_state}
use Rattle.ce_model.specs.Space.{Space}
use Rattle.ce_model.specs.Process.{Process, moved_process, instruction_outcome}
use Rattle.ce_model.specs.Node.{Turn, Node, process_at, with_process, with_stopped_process, Call, take_call_of}
use Rattle.ce_model.specs.Kernel.{CallOutcome, continuation, departure, turn_conclusion, kernel}

-- a node, and the call that it makes
pub record Saying : Type 0 where
  pub node : Node
  pub call : Call

-- the node has no turn, and asks for work
abbrev pub idle_saying : Node → Saying
idle_saying node = record { node = node; call = take_call_of node }

-- what the node says once a kernel call came to this
abbrev pub saying_after_call : (Node → Turn → Saying) → CallOutcome → Saying
saying_after_call onward (continuation node turn) = onward node turn
saying_after_call onward (departure node call) = record { node = node; call = call }
saying_after_call onward (turn_conclusion node) = idle_saying node

-- what the node says once an instruction of its process came to this, behind which
-- `instructions_left` more may be run
abbrev pub saying_after_instruction : (Node → Turn → Saying) → ℕ → Node → Turn → Process
    → Outcome Space → Saying
saying_after_instruction onward instructions_left node turn p (next_state registers pc space) =
    onward (with_process node turn.pid (moved_process p registers pc space)) turn
saying_after_instruction onward instructions_left node turn p (call_state registers pc space) =
    saying_after_call onward
    (kernel node (record turn { instructions_left = instructions_left })
    (moved_process p registers pc space))
saying_after_instruction onward instructions_left node turn p (stop_state cause) =
    idle_saying (with_stopped_process node turn.pid p cause)

-- what a node says whose turn may run so many instructions more
unfoldable pub turn_saying : ℕ → Node → Turn → Saying
turn_saying zero node turn =
    idle_saying (with_stopped_process node turn.pid (process_at node turn.pid) TurnSpent)
turn_saying (suc instructions_left) node turn =
    saying_after_instruction (turn_saying instructions_left) instructions_left node turn
    (process_at node turn.pid) (instruction_outcome (process_at node turn.pid))

-- what a node says that is in this turn
abbrev pub saying_in : Node → Option Turn → Saying
saying_in node None = idle_saying node
saying_in node (Some turn) = turn_saying turn.instructions_left node turn

-- what a node says next: its turn runs to the next call that leaves the node, and without one it
-- asks for work
unfoldable pub says : Node → Saying
says node = saying_in node node.turn
