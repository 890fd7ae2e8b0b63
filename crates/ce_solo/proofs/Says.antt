-- What a node says: its turn keeps all that a node keeps, but for the blocks that its call takes
-- out.
use Rattle.std.proofs.Common.{◌≡◌, ℕ, zero, suc, ◌≤◌, List, [], length, Option, Some, None, IfSome, refl, sym, ◌∙◌, subst, arith}
use Rattle.rv_model.specs.declared.stop.Stop.TheVariants.{TurnSpent}
use Rattle.rv_model.specs.Exec.{Outcome, next_state, call_state, stop_state}
use Rattle.ce_model.specs.Limits.{turn_instructions}
use Rattle.ce_model.specs.Space.{Space}
use Rattle.ce_model.specs.Process.{moved_process, instruction_outcome}
use Rattle.ce_model.specs.Node.{Turn, Node, process_at, with_process}
use Rattle.ce_model.specs.Kernel.{CallOutcome, continuation, departure, turn_conclusion, kernel}
use Rattle.ce_model.specs.Saying.{Saying, idle_saying, saying_after_call, saying_after_instruction, turn_saying, saying_in, says}
use Rattle.ce_model.specs.Sound.{IsSoundTurn}
use Rattle.ce_solo.proofs.Windows.{IsSameHeld, same_held}
use Rattle.ce_solo.proofs.Instructions.{IsLed, step_outcome-led}
use Rattle.ce_solo.proofs.Nodes.{IsWell, HasBecome, well-turn, became-same, became-then}
use Rattle.ce_solo.proofs.Words.{IsInItsTurn, HasMadeCall, HasEndedTurn, IsDone, in_turn-windows, goes-done, stops-done}
use Rattle.ce_solo.proofs.Calls.{kernel-done}

-- a saying is one that the node can make
pub record IsSaid (node : Node) (saying : Saying) : Type 0 where
  pub leaves : HasMadeCall node saying.node saying.call

asks-said : (node node' : Node) → HasEndedTurn node node' → IsSaid node (idle_saying node')
asks-said node node' ends = record {
  leaves = record {
    became = subst (λ turn. HasBecome turn node node' [] []) (sym ends.turn) ends.became;
    turn = subst (λ turn. IfSome turn IsSoundTurn) (sym ends.turn) tt;
    of_node = (refl, ends.turn);
  };
}

said-then : (turn : Option Turn) (a b : Node) (saying : Saying) → HasBecome turn a b [] [] → IsSaid b saying → IsSaid a saying
said-then turn a b saying first said = record {
  leaves = record {
    became = became-then first said.leaves.became;
    turn = said.leaves.turn;
    of_node = said.leaves.of_node;
  };
}

-- the same turn, of which so many instructions are left
abbrev with_left : ℕ → Turn → Turn
with_left left turn = record turn { instructions_left = left }

-- the process of a turn as it stands
pub now_in_turn : (node : Node) (turn : Turn) → IsWell (Some turn) node → IsSoundTurn turn → IsInItsTurn node turn (process_at node turn.pid)
now_in_turn node turn well sound = record {
  well = well;
  sound = sound;
  registers = (well.processes turn.pid sound.pid).registers;
  held = same_held (process_at node turn.pid).space;
  status = refl;
}

-- what is said once a kernel call came to this
call-said : (left : ℕ) (node : Node) (did : CallOutcome)
    → ((node' : Node) (turn' : Turn) → IsWell (Some turn') node' → IsSoundTurn turn' → IsSaid node' (turn_saying left node' turn'))
    → IsDone node did → IsSaid node (saying_after_call (turn_saying left) did)
call-said left node (continuation node' turn') onward done =
    said-then (Some turn') node node' (turn_saying left node' turn') done.became (onward node' turn' done.became.well done.sound)
call-said left node (departure node' call) onward done = record { leaves = done }
call-said left node (turn_conclusion node') onward done = asks-said node node' done

moved_in_turn : (node : Node) (turn : Turn) (left : ℕ) (registers : List ℕ) (pc : ℕ) (space : Space) → IsWell (Some turn) node → IsSoundTurn turn → left ≤ turn_instructions
    → length registers ≡ length (process_at node turn.pid).registers → IsSameHeld (process_at node turn.pid).space space
    → IsInItsTurn node (with_left left turn) (moved_process (process_at node turn.pid) registers pc space)
moved_in_turn node turn left registers pc space well sound enough long held = record {
  well = well-turn node turn left turn.calls well;
  sound = record { pid = sound.pid; instructions_left = enough; calls = sound.calls };
  registers = long ∙ (well.processes turn.pid sound.pid).registers;
  held = held;
  status = refl;
}

instruction-said : (left : ℕ) (node : Node) (turn : Turn) (outcome : Outcome Space) → left ≤ turn_instructions
    → ((node' : Node) (turn' : Turn) → IsWell (Some turn') node' → IsSoundTurn turn' → IsSaid node' (turn_saying left node' turn'))
    → IsWell (Some turn) node → IsSoundTurn turn → IsLed (process_at node turn.pid).registers (process_at node turn.pid).space outcome
    → IsSaid node (saying_after_instruction (turn_saying left) left node turn (process_at node turn.pid) outcome)
instruction-said left node turn (next_state registers pc space) enough onward well sound led =
    let c = moved_in_turn node turn left registers pc space well sound enough led.0 led.1 in
    let p = moved_process (process_at node turn.pid) registers pc space in
    let went_on = goes-done node (with_left left turn) p c p node.store refl c.registers (in_turn-windows node (with_left left turn) p c) well.store (λ id. refl) in
    said-then (Some (with_left left turn)) node (with_process node turn.pid p) (turn_saying left (with_process node turn.pid p) turn) went_on.became
    (onward (with_process node turn.pid p) turn (well-turn (with_process node turn.pid p) (with_left left turn) turn.instructions_left turn.calls went_on.became.well) sound)
instruction-said left node turn (call_state registers pc space) enough onward well sound led =
    call-said left node (kernel node (with_left left turn) (moved_process (process_at node turn.pid) registers pc space)) onward
    (kernel-done node (with_left left turn) (moved_process (process_at node turn.pid) registers pc space) (moved_in_turn node turn left registers pc space well sound enough led.0 led.1))
instruction-said left node turn (stop_state cause) enough onward well sound led =
    asks-said node _ (stops-done node turn (process_at node turn.pid) (now_in_turn node turn well sound) cause)

pub runs-said : (left : ℕ) (node : Node) (turn : Turn) → left ≤ turn_instructions → IsWell (Some turn) node → IsSoundTurn turn → IsSaid node (turn_saying left node turn)
unfolding turn_saying
runs-said zero node turn enough well sound =
    asks-said node _ (stops-done node turn (process_at node turn.pid) (now_in_turn node turn well sound) TurnSpent)
runs-said (suc left) node turn enough well sound =
    instruction-said left node turn (instruction_outcome (process_at node turn.pid)) (omega (arith, enough))
    (λ node' turn' well' sound'. runs-said left node' turn' (omega (arith, enough)) well' sound') well sound
    (step_outcome-led (process_at node turn.pid).registers (process_at node turn.pid).pc (process_at node turn.pid).space)

saying_in-said : (node : Node) (turn : Option Turn) → node.turn ≡ turn → IsWell turn node → IfSome turn IsSoundTurn → IsSaid node (saying_in node turn)
saying_in-said node None none well sound = asks-said node node (record { became = became-same None node well; turn = none })
saying_in-said node (Some turn) is well sound = runs-said turn.instructions_left node turn sound.instructions_left well sound

-- a node that is well says a call that it can make, and is well
pub says-said : (node : Node) → IsWell node.turn node → IfSome node.turn IsSoundTurn → IsSaid node (says node)
unfolding says
says-said node well sound = saying_in-said node node.turn refl well sound
