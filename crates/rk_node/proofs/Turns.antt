-- One part of a turn in the code: a run of its process, and the kernel call at its end.
use Rattle.std.proofs.Common.{◌≡◌, ◌<◌, ◌≤◌, ℕ, [], length, Some, None, option_map, ap, sym, subst, ◌∙◌, arith}
use Rattle.rv_model.specs.declared.stop.Stop.{Stop}
use Rattle.ce_model.specs.Process.{Process, call_end, stop_end, turn_end}
use Rattle.ce_model.specs.Node as model
use Rattle.ce_model.specs.Kernel as kernel
use Rattle.ce_model.specs.Saying.{saying_after_call, turn_saying, idle_saying, saying_in, says}
use Rattle.ce_solo.proofs.Nodes.{IsWell}
use Rattle.ce_solo.proofs.Words.{IsDone}
use Rattle.ce_solo.proofs.Calls.{kernel-done}
use Rattle.ce_solo.proofs.Says.{now_in_turn}
use Rattle.rk_process.specs.declared.pause.Pause.{Pause}
use Rattle.rk_process.specs.declared.pause.Pause.TheVariants.{Call, Stopped}
use Rattle.rk_process.specs.Runs.{turn_end_of}
use Rattle.rk_node.specs.declared.node.Node.{Node}
use Rattle.rk_node.specs.declared.turn.Turn.{Turn}
use Rattle.rk_node.specs.declared.turn.CallEnd.{CallEnd}
use Rattle.rk_node.specs.declared.turn.CallEnd.TheVariants.{Continuation, Departure, TurnConclusion}
use Rattle.rk_node.specs.Standing.{node_model, turn_model}
use Rattle.rk_node.specs.Ready.{IsInTurn, IsHearing}
use Rattle.rk_node.specs.Wording.{outcome_of_call_end, saying_of_end, awaited_call_of_end, HasBatch, HasDoneCall, HasTurnGoneOn}
use Rattle.rk_node.proofs.Limits.{sound_of}
use Rattle.rk_node.proofs.Processes.{length-processes}
use Rattle.rk_node.proofs.Running.{saying_of_turn_end, IsKept, IsKeptBy, kernel-apart, with_stopped-apart, runs-reached, reached-kept, well-after}

within : (node : Node) (turn : Turn) → turn.pid.number < length (node_model node).processes
within node turn = omega (arith, length-processes node, turn.pid.within)

-- what a run keeps, whatever it came to
kept_at : (n : ℕ) (p : Process) (paused : Pause) (left : ℕ) (p' : Process) → IsKeptBy n p (turn_end_of paused left p') → IsKept p p' × (left ≤ n)
kept_at n p Call left p' kept = (kept.0, let less = kept.1 in omega (arith, less))
kept_at n p (Stopped cause) left p' kept = kept

-- so it leaves no more instructions than there were
pub left-kept : (n left : ℕ) (p p' : Process) (paused : Pause) → turn_end n p ≡ turn_end_of paused left p' → left ≤ n
left-kept n left p p' paused came = (kept_at n p paused left p' (subst (IsKeptBy n p) came (reached-kept n p))).1

module _ (before after : Node) (turn turn' : Turn) (ready : IsInTurn before (turn_model turn))
    (same : node_model after ≡ model.with_process (node_model before) turn.pid.number (model.process_at (node_model after) turn.pid.number))
    (same_pid : turn'.pid ≡ turn.pid) (same_calls : turn'.calls ≡ turn.calls) where
  abbrev p' : Process
  p' = model.process_at (node_model after) turn.pid.number

  abbrev at : model.Turn
  at = record (turn_model turn) { instructions_left = turn'.instructions_left }

  at_is : turn_model turn' ≡ at
  at_is = λ i. record { pid = (same_pid i).number; instructions_left = turn'.instructions_left; calls = same_calls i }

  pub in_turn-run : (paused : Pause) → turn_end turn.instructions_left (model.process_at (node_model before) turn.pid.number) ≡ turn_end_of paused turn'.instructions_left p'
      → after.batch ≡ before.batch → IsInTurn after (turn_model turn')
  in_turn-run paused came batch =
      let p = model.process_at (node_model before) turn.pid.number in
      let kept = kept_at turn.instructions_left p paused turn'.instructions_left p' (subst (IsKeptBy turn.instructions_left p) came (reached-kept turn.instructions_left p)) in
      let well = well-after (node_model before) (turn_model turn) turn'.instructions_left p' ready.well (sound_of turn) kept.1 kept.0 in
      let well' : IsWell (Some at) (node_model after) = subst (IsWell (Some at)) (sym same) well in
      record {
        well = subst (λ (t : model.Turn). IsWell (Some t) (node_model after)) (sym at_is) well';
        batch = batch ∙ ready.batch;
      }

  pub said-called : (last : Node) (turn'' : Turn) (outcome : CallEnd) → turn_end turn.instructions_left (model.process_at (node_model before) turn.pid.number) ≡ call_end turn'.instructions_left p'
      → HasDoneCall kernel.kernel after last (turn_model turn') (turn_model turn'') outcome → turn''.instructions_left ≡ turn'.instructions_left
      → saying_of_end outcome (node_model last) (turn_model turn'') ≡ turn_saying turn.instructions_left (node_model before) (turn_model turn)
  said-called last turn'' outcome came made same_left =
      ap (λ n. saying_after_call (turn_saying n) (outcome_of_call_end outcome (node_model last) (turn_model turn''))) same_left
      ∙ ap (saying_after_call (turn_saying turn'.instructions_left))
      (made.did
      ∙ ap (λ (t : model.Turn). kernel.kernel (node_model after) t (model.process_at (node_model after) t.pid)) at_is
      ∙ ap (λ n. kernel.kernel n at p') same
      ∙ kernel-apart p' (node_model before) at p')
      ∙ sym (runs-reached turn.instructions_left (node_model before) (turn_model turn) (within before turn) ∙ ap (saying_of_turn_end (node_model before) (turn_model turn)) came)

  pub said-stopped : (last : Node) (outcome : CallEnd) (cause : Stop) → turn_end turn.instructions_left (model.process_at (node_model before) turn.pid.number) ≡ stop_end turn'.instructions_left p' cause
      → HasDoneCall (λ node turn p. kernel.stop_outcome node turn p cause) after last (turn_model turn') (turn_model turn') outcome
      → saying_of_end outcome (node_model last) (turn_model turn') ≡ turn_saying turn.instructions_left (node_model before) (turn_model turn)
  said-stopped last outcome cause came made =
      ap (saying_after_call (turn_saying turn'.instructions_left)) made.did
      ∙ ap (λ (t : model.Turn). idle_saying (model.with_stopped_process (node_model after) t.pid (model.process_at (node_model after) t.pid) cause)) at_is
      ∙ ap (λ n. idle_saying (model.with_stopped_process n turn.pid.number p' cause)) same
      ∙ ap idle_saying (with_stopped-apart p' (node_model before) turn.pid.number p' cause)
      ∙ sym (runs-reached turn.instructions_left (node_model before) (turn_model turn) (within before turn) ∙ ap (saying_of_turn_end (node_model before) (turn_model turn)) came)

goes_on-done : (after last : Node) (turn' : model.Turn) (left : ℕ) (outcome : CallEnd) → IsDone (node_model after) (outcome_of_call_end outcome (node_model last) turn')
    → HasBatch (awaited_call_of_end outcome) last.batch → turn'.instructions_left < left → HasTurnGoneOn outcome last turn' left
goes_on-done after last turn' left Continuation done batch less =
    (record { well = done.became.well; batch = batch }, less)
goes_on-done after last turn' left (Departure say) done batch less = tt
goes_on-done after last turn' left TurnConclusion done batch less = tt

pub goes_on-called : (after last : Node) (turn' turn'' : Turn) (left : ℕ) (outcome : CallEnd) → IsInTurn after (turn_model turn')
    → HasDoneCall kernel.kernel after last (turn_model turn') (turn_model turn'') outcome → turn''.instructions_left ≡ turn'.instructions_left → turn'.instructions_left < left
    → HasTurnGoneOn outcome last (turn_model turn'') left
goes_on-called after last turn' turn'' left outcome ready made same less =
    let node = node_model after in
    let turn = turn_model turn' in
    goes_on-done after last (turn_model turn'') left outcome
    (subst (IsDone node) (sym made.did) (kernel-done node turn (model.process_at node turn.pid) (now_in_turn node turn ready.well (sound_of turn'))))
    made.batch (omega (arith, same, less))

pub goes_on-stopped : (after last : Node) (turn : model.Turn) (left : ℕ) (outcome : CallEnd) (cause : Stop)
    → HasDoneCall (λ node turn p. kernel.stop_outcome node turn p cause) after last turn turn outcome → HasTurnGoneOn outcome last turn left
goes_on-stopped after last turn left Continuation cause made = let never = made.did in absurd (cc)
goes_on-stopped after last turn left (Departure say) cause made = tt
goes_on-stopped after last turn left TurnConclusion cause made = tt

-- a run that comes to a call takes an instruction at least
pub left-called : (n left : ℕ) (p q : Process) → turn_end n p ≡ call_end left q → left < n
left-called n left p q came = (subst (IsKeptBy n p) came (reached-kept n p)).1

-- ---- what a node says, with a turn and without

pub ready-turn : (node : Node) (turn : Turn) → node.turn ≡ Some turn → IsHearing node → node.batch ≡ Some [] → IsInTurn node (turn_model turn)
ready-turn node turn is ready batch = record {
  well = subst (λ t. IsWell (option_map turn_model t) (node_model node)) is ready;
  batch = batch;
}

pub says-turn : (node : Node) (turn : Turn) → node.turn ≡ Some turn → says (node_model node) ≡ turn_saying turn.instructions_left (node_model node) (turn_model turn)
unfolding says
says-turn node turn is = ap (λ t. saying_in (node_model node) (option_map turn_model t)) is

pub says-idle : (node : Node) → node.turn ≡ None → says (node_model node) ≡ idle_saying (node_model node)
unfolding says
says-idle node is = ap (λ t. saying_in (node_model node) (option_map turn_model t)) is
