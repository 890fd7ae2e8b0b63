-- What a kernel call of the program comes to, as the model has it.
use Rattle.std.specs.Prelude.{◌≡◌, ℕ, ◌<◌, List, [], Option, Some, None}
use Rattle.ce_model.specs.declared.topology.Place.{Place}
use Rattle.ce_model.specs.Blocks.{Block}
use Rattle.ce_model.specs.Process.{Process}
use Rattle.ce_model.specs.Node as model
use Rattle.ce_model.specs.Kernel as kernel
use Rattle.ce_model.specs.Saying as saying
use Rattle.rk_mail.specs.Talk.{call_of_say}
use Rattle.rk_mail.specs.declared.talk.Say.{Say}
use Rattle.rk_node.specs.declared.node.Node.{Node}
use Rattle.rk_node.specs.declared.awaited_call.AwaitedCall.{AwaitedCall}
use Rattle.rk_node.specs.declared.awaited_call.AwaitedCall.TheVariants as awaited_call
use Rattle.rk_node.specs.declared.turn.CallEnd.{CallEnd}
use Rattle.rk_node.specs.declared.turn.CallEnd.TheVariants.{Continuation, Departure, TurnConclusion}
use Rattle.rk_node.specs.Standing.{node_model}
use Rattle.rk_node.specs.Ready.{IsInTurn}

-- what a call came to, with the node and the turn that it left
abbrev pub outcome_of_call_end : CallEnd → model.Node → model.Turn → kernel.CallOutcome
outcome_of_call_end Continuation node turn = kernel.continuation node turn
outcome_of_call_end (Departure say) node turn = kernel.departure node (call_of_say say)
outcome_of_call_end TurnConclusion node turn = kernel.turn_conclusion node

-- which call is out that leaves the node; a Take doesn't count, since it may be said again
abbrev pub awaited_call_of : model.Call → AwaitedCall
awaited_call_of (model.send_call pid to bytes) = awaited_call.Send
awaited_call_of (model.spawn_call pid image to) = awaited_call.Spawn
awaited_call_of (model.kill_call pid to) = awaited_call.Kill
awaited_call_of (model.note_call pid word) = awaited_call.Note
awaited_call_of other = awaited_call.Nothing

abbrev pub awaited_call_of_end : CallEnd → AwaitedCall
awaited_call_of_end (Departure say) = awaited_call_of (call_of_say say)
awaited_call_of_end other = awaited_call.Nothing

-- the spare batch is away exactly where a message is out, and else it is here and empty
abbrev pub HasBatch : AwaitedCall → Option (List (Place × Block)) → Type 0
HasBatch awaited_call.Send batch = batch ≡ None
HasBatch other batch = batch ≡ Some []

-- what the node says whose turn came to this, of which so many instructions are left
abbrev pub saying_of_end : CallEnd → model.Node → model.Turn → saying.Saying
saying_of_end call_end node turn = saying.saying_after_call
    (saying.turn_saying turn.instructions_left) (outcome_of_call_end call_end node turn)

-- what the node says whose turn came to its end
abbrev pub saying_of_say : Option Say → model.Node → saying.Saying
saying_of_say None node = saying.idle_saying node
saying_of_say (Some say) node = record { node = node; call = call_of_say say }

abbrev pub awaited_call_of_say : Option Say → AwaitedCall
awaited_call_of_say None = awaited_call.Nothing
awaited_call_of_say (Some say) = awaited_call_of (call_of_say say)

-- the call makes of a node, in this turn, what this call of the model does
pub record HasDoneCall (model_outcome : model.Node → model.Turn → Process → kernel.CallOutcome)
    (old_node new_node : Node) (turn turn' : model.Turn) (call_end : CallEnd) : Type 0 where
  pub did : outcome_of_call_end call_end (node_model new_node) turn'
      ≡ model_outcome (node_model old_node) turn (model.process_at (node_model old_node) turn.pid)
  pub batch : HasBatch (awaited_call_of_end call_end) new_node.batch
  pub room : new_node.room ≡ old_node.room

-- the turn goes on with fewer instructions left
abbrev pub HasTurnGoneOn : CallEnd → Node → model.Turn → ℕ → Type 0
HasTurnGoneOn Continuation node turn instructions_left =
    IsInTurn node turn × (turn.instructions_left < instructions_left)
HasTurnGoneOn other node turn instructions_left = Unit {0}
