-- A turn makes a counted call by each call that leaves its node.
use Rattle.std.proofs.Common.{◌≡◌, ◌⊎◌, ℕ, zero, suc, ◌+◌, ◌<◌, ◌≤◌, Bool, true, false, not, ◌||◌, nat_lt, List, [], ◌∷◌, length, Option, Some, None, IfSome, Result, Ok, Err, refl, ap, inl, inr, arith}
use Rattle.std.specs.List.{list_all, AllByRecursion}
use Rattle.std.proofs.lemmas.Bool.{cond_both, ltb-true}
use Rattle.rv_model.specs.declared.stop.Stop.{Stop}
use Rattle.rv_model.specs.declared.stop.Stop.TheVariants.{TurnSpent}
use Rattle.rv_model.specs.Exec.{Outcome, next_state, call_state, stop_state}
use Rattle.ce_model.specs.declared.topology.Place.{Place}
use Rattle.ce_model.specs.declared.topology.BlockId.{BlockId}
use Rattle.ce_model.specs.Limits.{block_room, greatest_targets, turn_calls}
use Rattle.ce_model.specs.Blocks.{Block}
use Rattle.ce_model.specs.Space.{Space, has_unused_window, block_named, places_at}
use Rattle.ce_model.specs.Process.{Process, argument, call_number, moved_process, instruction_outcome}
use Rattle.ce_model.specs.Node.{Turn, Node, is_place, with_process, send_call, spawn_call, kill_call, process_at}
use Rattle.ce_model.specs.Kernel.{CallOutcome, continuation, departure, turn_conclusion, return_outcome, stop_outcome, leave_outcome, read_outcome, process_left_behind, map_outcome, xmalloc, free_outcome, xfree, xlength, is_target, place_named, send_outcome, xsend, copies_outcome, xmsend_block, xmsend, spawn, ckill, KernelCall, kernel_calls, kernel_call, call_outcome, kernel}
use Rattle.ce_model.specs.Saying.{Saying, saying_after_call, saying_after_instruction, turn_saying, saying_in, says}
use Rattle.ce_solo.proofs.Calls.{call_numbered}
use Rattle.ce_script.specs.Rounds.{asks_for_work}

-- ---- one kernel call

-- a call in this turn leaves the turn as it is, and only a counted one leaves the node; it doesn't
-- ask for work
abbrev IsOf : Bool → Turn → CallOutcome → Type 0
IsOf is_counted turn (continuation node turn') = turn' ≡ turn
IsOf is_counted turn (departure node call) = (is_counted ≡ true) × (node.turn ≡ Some turn) × (asks_for_work call ≡ false)
IsOf is_counted turn (turn_conclusion node) = Unit {0}

module _ (b : Bool) (node : Node) (turn : Turn) (p : Process) where
  reading-of : {X : Type 0} (read : Result X Stop) (onward : X → CallOutcome) → ((x : X) → IsOf b turn (onward x)) → IsOf b turn (read_outcome node turn p read onward)
  reading-of (Ok x) onward each = each x
  reading-of (Err cause) onward each = tt

  maps-of : (len : ℕ) (store : List BlockId) → IsOf b turn (map_outcome node turn p len store)
  maps-of len [] = refl
  maps-of len (id ∷ store) = refl

  xmalloc-of : IsOf b turn (xmalloc node turn p)
  xmalloc-of =
      cond_both (nat_lt block_room (argument p 0) || not (has_unused_window p.space)) (return_outcome node turn p 0) (map_outcome node turn p (argument p 0) node.store)
      (IsOf b turn) (λ t. refl) (λ f. maps-of (argument p 0) node.store)

  xfree-of : IsOf b turn (xfree node turn p)
  xfree-of = reading-of (block_named p.space (argument p 0)) (free_outcome node turn p) (λ found. refl)

  xlength-of : IsOf b turn (xlength node turn p)
  xlength-of = reading-of (block_named p.space (argument p 0)) (λ found. return_outcome node turn p (length found.1.bytes)) (λ found. refl)

module _ (node : Node) (turn : Turn) (p : Process) where
  xsend-of : IsOf true turn (xsend node turn p)
  xsend-of =
      reading-of true node turn p (block_named p.space (argument p 0)) (send_outcome node turn p)
      (λ found. cond_both (is_target node (place_named p 1))
      (leave_outcome node turn (process_left_behind found.0 p) (send_call turn.pid ((place_named p 1, found.1.id) ∷ []) found.1.bytes)) (return_outcome node turn p 1)
      (IsOf true turn) (λ t. (refl, refl, refl)) (λ f. refl))

  copies-of : (found : ℕ × Block) (places : List Place) → IsOf true turn (copies_outcome node turn p found places)
  copies-of found [] = refl
  copies-of found (to ∷ others) =
      cond_both (not (list_all (is_target node) (to ∷ others))) (return_outcome node turn p 1) _ (IsOf true turn) (λ t. refl)
      (λ all. cond_both (nat_lt (length node.store) (length others)) (return_outcome node turn p 2) _ (IsOf true turn) (λ t. refl) (λ f. (refl, refl, refl)))

  xmsend-of : IsOf true turn (xmsend node turn p)
  xmsend-of =
      reading-of true node turn p (block_named p.space (argument p 0)) (xmsend_block node turn p)
      (λ found. cond_both (nat_lt greatest_targets (argument p 1)) (return_outcome node turn p 3)
      (read_outcome node turn p (places_at p.space (argument p 2) (argument p 1)) (copies_outcome node turn p found)) (IsOf true turn) (λ t. refl)
      (λ f. reading-of true node turn p (places_at p.space (argument p 2) (argument p 1)) (copies_outcome node turn p found) (copies-of found)))

  spawn-of : IsOf true turn (spawn node turn p)
  spawn-of =
      cond_both (not (is_place node.dim (place_named p 1))) (return_outcome node turn p 1) _ (IsOf true turn) (λ t. refl)
      (λ at. cond_both (nat_lt (argument p 0) node.images) (leave_outcome node turn p (spawn_call turn.pid (argument p 0) (place_named p 1)))
      (return_outcome node turn p 3) (IsOf true turn) (λ t. (refl, refl, refl)) (λ f. refl))

  ckill-of : IsOf true turn (ckill node turn p)
  ckill-of =
      cond_both (is_place node.dim (place_named p 0)) (leave_outcome node turn p (kill_call turn.pid (place_named p 0))) (return_outcome node turn p 1)
      (IsOf true turn) (λ t. (refl, refl, refl)) (λ f. refl)

-- ---- all kernel calls

abbrev IsGood : KernelCall → Type 0
IsGood call = (node : Node) (turn : Turn) (p : Process) → IsOf call.is_counted turn (call.outcome node turn p)

all_good : AllByRecursion IsGood kernel_calls
unfolding kernel_calls
all_good = (
  xmalloc-of false,
  (
    xfree-of false,
    (
      xlength-of false,
      (
        xsend-of,
        (
          xmsend-of,
          (
            (λ node turn p. tt),
            (
              (λ node turn p. tt),
              (
                spawn-of,
                (
                  ckill-of,
                  ((λ node turn p. refl), ((λ node turn p. refl), ((λ node turn p. refl), ((λ node turn p. tt), ((λ node turn p. (refl, refl, refl)), tt))))),
                ),
              ),
            ),
          ),
        ),
      ),
    ),
  ),
)

-- a turn goes on with so many calls made, or more, or it has made one more than it had; or the node
-- asks for work
abbrev IsSpent : ℕ → CallOutcome → Type 0
IsSpent calls (continuation node turn) = calls ≤ turn.calls
IsSpent calls (departure node call) = (turn : Turn) × (node.turn ≡ Some turn) × (calls < turn.calls) × (turn.calls ≤ turn_calls) × (asks_for_work call ≡ false)
IsSpent calls (turn_conclusion node) = Unit {0}

counted-spent : (turn : Turn) (did : CallOutcome) → turn.calls < turn_calls → IsOf true (record turn { calls = turn.calls + 1 }) did → IsSpent turn.calls did
counted-spent turn (continuation node turn') room is = omega (arith, ap (λ (t : Turn). t.calls) is)
counted-spent turn (departure node call) room is = (record turn { calls = turn.calls + 1 }, is.1, omega arith, omega (arith, room), is.2)
counted-spent turn (turn_conclusion node) room is = tt

plain-spent : (turn : Turn) (did : CallOutcome) → IsOf false turn did → IsSpent turn.calls did
plain-spent turn (continuation node turn') is = omega (arith, ap (λ (t : Turn). t.calls) is)
plain-spent turn (departure node call) is = absurd (cc)
plain-spent turn (turn_conclusion node) is = tt

made-spent : (is_counted : Bool) (does : Node → Turn → Process → CallOutcome) (node : Node) (turn : Turn) (p : Process)
    → ((turn : Turn) → IsOf is_counted turn (does node turn p)) → IsSpent turn.calls (call_outcome (Some (record { is_counted = is_counted; outcome = does })) node turn p)
made-spent true does node turn p good =
    cond_both (nat_lt turn.calls turn_calls) (does node (record turn { calls = turn.calls + 1 }) p) (stop_outcome node turn p TurnSpent) (IsSpent turn.calls)
    (λ room. counted-spent turn (does node (record turn { calls = turn.calls + 1 }) p) (ltb-true _ _ room) (good (record turn { calls = turn.calls + 1 })))
    (λ spent. tt)
made-spent false does node turn p good = plain-spent turn (does node turn p) (good turn)

does-spent : (found : Option KernelCall) (node : Node) (turn : Turn) (p : Process) → IfSome found IsGood
    → IsSpent turn.calls (call_outcome found node turn p)
does-spent None node turn p good = tt
does-spent (Some call) node turn p good = made-spent call.is_counted call.outcome node turn p (λ turn. good node turn p)

kernel-spent : (node : Node) (turn : Turn) (p : Process) → IsSpent turn.calls (kernel node turn p)
unfolding kernel
kernel-spent node turn p = does-spent (kernel_call (call_number p)) node turn p (call_numbered IsGood (call_number p) all_good)

-- ---- a turn

-- a turn that has made so many calls asks for work, or has made one more by the call that it says
pub record HasSaidTurnCall (calls : ℕ) (saying : Saying) : Type 0 where
  pub turn : Turn
  pub is : saying.node.turn ≡ Some turn
  pub more : calls < turn.calls
  pub within : turn.calls ≤ turn_calls

abbrev pub IsSpending : ℕ → Saying → Type 0
IsSpending calls saying = (asks_for_work saying.call ≡ true) ⊎ HasSaidTurnCall calls saying

less-spending : (calls calls' : ℕ) (saying : Saying) → calls ≤ calls' → IsSpending calls' saying → IsSpending calls saying
less-spending calls calls' saying less (inl asks) = inl asks
less-spending calls calls' saying less (inr more) = inr (record { turn = more.turn; is = more.is; more = omega (arith, more.more); within = more.within })

call-spending : (left calls : ℕ) (did : CallOutcome) → ((node : Node) (turn : Turn) → IsSpending turn.calls (turn_saying left node turn)) → IsSpent calls did
    → IsSpending calls (saying_after_call (turn_saying left) did)
call-spending left calls (continuation node turn) onward is = less-spending calls turn.calls (turn_saying left node turn) is (onward node turn)
call-spending left calls (departure node call) onward is = inr (record { turn = is.0; is = is.1; more = is.2; within = is.3 })
call-spending left calls (turn_conclusion node) onward is = inl refl

instruction-spending : (left : ℕ) (node : Node) (turn : Turn) (p : Process) (outcome : Outcome Space) → ((node : Node) (turn : Turn) → IsSpending turn.calls (turn_saying left node turn))
    → IsSpending turn.calls (saying_after_instruction (turn_saying left) left node turn p outcome)
instruction-spending left node turn p (next_state registers pc space) onward = onward (with_process node turn.pid (moved_process p registers pc space)) turn
instruction-spending left node turn p (call_state registers pc space) onward =
    call-spending left turn.calls (kernel node (record turn { instructions_left = left }) (moved_process p registers pc space)) onward
    (kernel-spent node (record turn { instructions_left = left }) (moved_process p registers pc space))
instruction-spending left node turn p (stop_state cause) onward = inl refl

runs-spending : (left : ℕ) (node : Node) (turn : Turn) → IsSpending turn.calls (turn_saying left node turn)
unfolding turn_saying
runs-spending zero node turn = inl refl
runs-spending (suc left) node turn =
    instruction-spending left node turn (process_at node turn.pid) (instruction_outcome (process_at node turn.pid)) (λ node turn. runs-spending left node turn)

-- a node that doesn't ask for work was in a turn, and is in it
pub record IsCalling (node : Node) (saying : Saying) : Type 0 where
  pub turn : Turn
  pub was : node.turn ≡ Some turn
  pub called : HasSaidTurnCall turn.calls saying

said-by : (node : Node) (turn : Option Turn) → node.turn ≡ turn → asks_for_work (saying_in node turn).call ≡ false → IsCalling node (saying_in node turn)
said-by node None is other = absurd (cc)
said-by node (Some turn) is other =
    elim (runs-spending turn.instructions_left node turn) [
      | inl work ↦ absurd (cc)
      | inr more ↦ record { turn = turn; was = is; called = more }
    ]

pub says-calling : (node : Node) → asks_for_work (says node).call ≡ false → IsCalling node (says node)
unfolding says
says-calling node other = said-by node node.turn refl other
