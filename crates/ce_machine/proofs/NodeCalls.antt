-- The calls that nodes and hosts make: a node never arms, looks or takes a host's mail, a host
-- never takes or notes, and one message goes to so many places at most.
use Rattle.std.proofs.Common.{◌≡◌, ℕ, zero, suc, ◌+◌, ◌-◌, ◌≤◌, true, not, ◌&&◌, ◌||◌, ◌==◌, nat_lt, List, [], ◌∷◌, length, take, drop, zip, slice_get, Option, Some, None, Result, Ok, Err, IfOk, option_map, option_and_then, refl, subst, arith}
use Rattle.std.specs.List.{AllByRecursion, list_all}
use Rattle.std.proofs.lemmas.Bool.{cond_both, ltb-false, and_parts}
use Rattle.rv_model.specs.declared.stop.Stop.{Stop}
use Rattle.rv_model.specs.Word.{wrapping_sum}
use Rattle.rv_model.specs.Exec.{Outcome, next_state, call_state, stop_state}
use Rattle.ce_model.specs.declared.topology.Place.{Place}
use Rattle.ce_model.specs.declared.topology.BlockId.{BlockId}
use Rattle.ce_model.specs.Limits.{block_room, greatest_targets, greatest_targets_lem, turn_calls}
use Rattle.ce_model.specs.Blocks.{Block}
use Rattle.ce_model.specs.Space.{Space, has_unused_window, block_named, result_map, and_then, places_at, memory_place}
use Rattle.ce_model.specs.Process.{Process, argument, call_number, moved_process, instruction_outcome}
use Rattle.ce_model.specs.Node.{Turn, Node, process_at, is_place, Call, take_call, send_call, spawn_call, kill_call, note_call, arm_call, look_call, mail_call}
use Rattle.ce_model.specs.Kernel.{CallOutcome, continuation, departure, turn_conclusion, return_outcome, leave_outcome, read_outcome, process_left_behind, with_store, map_outcome, xmalloc, free_outcome, xfree, xlength, is_target, place_named, send_outcome, xsend, copies_outcome, xmsend_block, xmsend, spawn, ckill, KernelCall, kernel_calls, counted_outcome, call_outcome, kernel}
use Rattle.ce_model.specs.Saying.{Saying, saying_after_call, saying_after_instruction, turn_saying, saying_in, says}
use Rattle.ce_model.specs.Cube.{Cube, Wish, send_wish, spawn_wish, kill_wish, arm_wish, look_wish, mail_wish, call_of_wish}

-- ---- nodes

-- a call that a node can make
abbrev pub IsNodeActorCall : Call → Type 0
IsNodeActorCall (send_call pid to bytes) = length to ≤ greatest_targets
IsNodeActorCall (arm_call count) = ⊥
IsNodeActorCall look_call = ⊥
IsNodeActorCall mail_call = ⊥
IsNodeActorCall other = Unit {0}

abbrev IsGood : CallOutcome → Type 0
IsGood (continuation node turn) = Unit {0}
IsGood (departure node call) = IsNodeActorCall call
IsGood (turn_conclusion node) = Unit {0}

reading-good : {X : Type 0} (node : Node) (turn : Turn) (p : Process) (read : Result X Stop) (P : X → Type 0) (onward : X → CallOutcome) → IfOk read P
    → ((x : X) → P x → IsGood (onward x)) → IsGood (read_outcome node turn p read onward)
reading-good node turn p (Ok x) P onward is good = good x is
reading-good node turn p (Err cause) P onward is good = tt

any_ok : {X : Type 0} (read : Result X Stop) → IfOk read (λ x. Unit {0})
any_ok (Ok x) = tt
any_ok (Err cause) = tt

-- as many places are read as were asked for
places-more : (place : Place) (count : ℕ) (read : Result (List Place) Stop) → IfOk read (λ places. length places ≡ count)
    → IfOk (result_map (λ places. place ∷ places) read) (λ places. length places ≡ suc count)
places-more place count (Ok places) e = omega (arith, e)
places-more place count (Err cause) e = tt

places-then : (count : ℕ) (first : Result Place Stop) (read : Result (List Place) Stop) → IfOk read (λ places. length places ≡ count)
    → IfOk (and_then first (λ place. result_map (λ places. place ∷ places) read)) (λ places. length places ≡ suc count)
places-then count (Ok place) read e = places-more place count read e
places-then count (Err cause) read e = tt

places-count : (space : Space) (a count : ℕ) → IfOk (places_at space a count) (λ places. length places ≡ count)
places-count space a zero = refl
places-count space a (suc count) = places-then count (memory_place space a) (places_at space (wrapping_sum a 8) count) (places-count space (wrapping_sum a 8) count)

zip-most : {X Y : Type 0} (xs : List X) (ys : List Y) → length (zip xs ys) ≤ length xs
zip-most [] ys = omega arith
zip-most (x ∷ xs) [] = omega arith
zip-most (x ∷ xs) (y ∷ ys) = omega (arith, zip-most xs ys)

module _ (node : Node) (turn : Turn) (p : Process) where
  xmalloc-good : IsGood (xmalloc node turn p)
  xmalloc-good =
      cond_both (nat_lt block_room (argument p 0) || not (has_unused_window p.space)) (return_outcome node turn p 0) (map_outcome node turn p (argument p 0) node.store) IsGood
      (λ t. tt) (λ f. by_store node.store)
    where
      by_store : (store : List BlockId) → IsGood (map_outcome node turn p (argument p 0) store)
      by_store [] = tt
      by_store (id ∷ store) = tt

  xfree-good : IsGood (xfree node turn p)
  xfree-good =
      reading-good node turn p (block_named p.space (argument p 0)) (λ x. Unit {0}) (free_outcome node turn p) (any_ok (block_named p.space (argument p 0))) (λ x u. tt)

  xlength-good : IsGood (xlength node turn p)
  xlength-good =
      reading-good node turn p (block_named p.space (argument p 0)) (λ x. Unit {0}) _ (any_ok (block_named p.space (argument p 0))) (λ x u. tt)

  xsend-good : IsGood (xsend node turn p)
  xsend-good =
      reading-good node turn p (block_named p.space (argument p 0)) (λ x. Unit {0}) (send_outcome node turn p) (any_ok (block_named p.space (argument p 0)))
      (λ found u. cond_both (is_target node (place_named p 1)) _ (return_outcome node turn p 1) IsGood (λ t. omega (arith, greatest_targets_lem)) (λ f. tt))

  copies_outcome-good : (found : ℕ × Block) (places : List Place) → length places ≤ greatest_targets → IsGood (copies_outcome node turn p found places)
  copies_outcome-good found [] few = tt
  copies_outcome-good found (to ∷ others) few =
      cond_both (not (list_all (is_target node) (to ∷ others))) (return_outcome node turn p 1) _ IsGood (λ t. tt)
      (λ all. cond_both (nat_lt (length node.store) (length others)) (return_outcome node turn p 2)
      (leave_outcome (with_store (drop (length others) node.store) node) turn (process_left_behind found.0 p)
      (send_call turn.pid (zip (to ∷ others) (found.1.id ∷ take (length others) node.store)) found.1.bytes)) IsGood (λ t. tt)
      (λ enough. omega (arith, few, zip-most (to ∷ others) (found.1.id ∷ take (length others) node.store))))

  xmsend-good : IsGood (xmsend node turn p)
  xmsend-good =
      reading-good node turn p (block_named p.space (argument p 0)) (λ x. Unit {0}) (xmsend_block node turn p) (any_ok (block_named p.space (argument p 0)))
      (λ found u. cond_both (nat_lt greatest_targets (argument p 1)) (return_outcome node turn p 3) _ IsGood (λ t. tt)
      (λ few. reading-good node turn p (places_at p.space (argument p 2) (argument p 1)) (λ places. length places ≡ argument p 1) (copies_outcome node turn p found)
      (places-count p.space (argument p 2) (argument p 1)) (λ places e. copies_outcome-good found places (omega (arith, e, ltb-false _ _ few)))))

  spawn-good : IsGood (spawn node turn p)
  spawn-good =
      cond_both (not (is_place node.dim (place_named p 1))) (return_outcome node turn p 1) _ IsGood (λ t. tt)
      (λ at. cond_both (nat_lt (argument p 0) node.images) (leave_outcome node turn p (spawn_call turn.pid (argument p 0) (place_named p 1))) (return_outcome node turn p 3) IsGood (λ t. tt) (λ f. tt))

  ckill-good : IsGood (ckill node turn p)
  ckill-good = cond_both (is_place node.dim (place_named p 0)) (leave_outcome node turn p (kill_call turn.pid (place_named p 0))) (return_outcome node turn p 1) IsGood (λ t. tt) (λ f. tt)

abbrev IsGoodCall : KernelCall → Type 0
IsGoodCall call = (node : Node) (turn : Turn) (p : Process) → IsGood (call.outcome node turn p)

calls-good : AllByRecursion IsGoodCall kernel_calls
unfolding kernel_calls
calls-good = (
  xmalloc-good,
  (
    xfree-good,
    (
      xlength-good,
      (
        xsend-good,
        (
          xmsend-good,
          (
            (λ node turn p. tt),
            (
              (λ node turn p. tt),
              (
                spawn-good,
                (
                  ckill-good,
                  ((λ node turn p. tt), ((λ node turn p. tt), ((λ node turn p. tt), ((λ node turn p. tt), ((λ node turn p. tt), tt))))),
                ),
              ),
            ),
          ),
        ),
      ),
    ),
  ),
)

found-good : (calls : List KernelCall) (k : ℕ) → AllByRecursion IsGoodCall calls → (node : Node) (turn : Turn) (p : Process) → IsGood (call_outcome (slice_get calls k) node turn p)
found-good [] k all node turn p = tt
found-good (call ∷ calls) zero all node turn p =
    cond_both call.is_counted (counted_outcome call node turn p) (call.outcome node turn p) IsGood
    (λ t. cond_both (nat_lt turn.calls turn_calls) _ _ IsGood (λ t. all.0 node (record turn { calls = turn.calls + 1 }) p) (λ f. tt)) (λ f. all.0 node turn p)
found-good (call ∷ calls) (suc k) all node turn p = found-good calls k all.1 node turn p

kernel-good : (node : Node) (turn : Turn) (p : Process) → IsGood (kernel node turn p)
unfolding kernel
kernel-good node turn p =
    cond_both (call_number p == 0) None (slice_get kernel_calls (call_number p - 1)) (λ found. IsGood (call_outcome found node turn p))
    (λ t. tt) (λ f. found-good kernel_calls (call_number p - 1) calls-good node turn p)

did-good : (onward : Node → Turn → Saying) (did : CallOutcome) → ((node : Node) (turn : Turn) → IsNodeActorCall (onward node turn).call) → IsGood did
    → IsNodeActorCall (saying_after_call onward did).call
did-good onward (continuation node turn) good is = good node turn
did-good onward (departure node call) good is = is
did-good onward (turn_conclusion node) good is = tt

instruction-good : (onward : Node → Turn → Saying) (left : ℕ) (node : Node) (turn : Turn) (p : Process) (outcome : Outcome Space)
    → ((node : Node) (turn : Turn) → IsNodeActorCall (onward node turn).call) → IsNodeActorCall (saying_after_instruction onward left node turn p outcome).call
instruction-good onward left node turn p (next_state registers pc space) good = good _ turn
instruction-good onward left node turn p (call_state registers pc space) good =
    let turn' = record turn { instructions_left = left } in
    did-good onward (kernel node turn' (moved_process p registers pc space)) good (kernel-good node turn' (moved_process p registers pc space))
instruction-good onward left node turn p (stop_state cause) good = tt

runs-good : (left : ℕ) (node : Node) (turn : Turn) → IsNodeActorCall (turn_saying left node turn).call
unfolding turn_saying
runs-good zero node turn = tt
runs-good (suc left) node turn =
    instruction-good (turn_saying left) left node turn (process_at node turn.pid) (instruction_outcome (process_at node turn.pid)) (runs-good left)

-- what a node says is a call that a node can make
pub says-node_call : (node : Node) → IsNodeActorCall (says node).call
unfolding says
says-node_call node = by_turn node.turn
  where
    by_turn : (turn : Option Turn) → IsNodeActorCall (saying_in node turn).call
    by_turn None = tt
    by_turn (Some turn) = runs-good turn.instructions_left node turn

-- ---- hosts

-- a call that a host of a cube of this dimension can make
abbrev pub IsHostActorCall : ℕ → Call → Type 0
IsHostActorCall d (send_call pid to bytes) = (length to ≤ greatest_targets) × AllByRecursion (λ target. is_place d target.0 ≡ true) to
IsHostActorCall d (spawn_call pid image to) = is_place d to ≡ true
IsHostActorCall d (kill_call pid to) = is_place d to ≡ true
IsHostActorCall d (take_call asking dead poller) = ⊥
IsHostActorCall d (note_call pid word) = ⊥
IsHostActorCall d other = Unit {0}

abbrev IfHostCall : ℕ → Option Call → Type 0
IfHostCall d None = Unit {0}
IfHostCall d (Some call) = IsHostActorCall d call

host-good : (cube : Cube) (store : List BlockId) (wish : Option Wish) → IfHostCall cube.dim (option_and_then (call_of_wish cube store) wish)
host-good cube store None = tt
host-good cube store (Some (send_wish to bytes)) =
    cond_both (is_place cube.dim to) (option_map (λ id. send_call 0 ((to, id) ∷ []) bytes) (slice_get store 0)) None (IfHostCall cube.dim) (λ t. by_block (slice_get store 0) t) (λ f. tt)
  where
    by_block : (least : Option BlockId) → is_place cube.dim to ≡ true → IfHostCall cube.dim (option_map (λ id. send_call 0 ((to, id) ∷ []) bytes) least)
    by_block None place = tt
    by_block (Some id) place = (omega (arith, greatest_targets_lem), (place, tt))
host-good cube store (Some (spawn_wish image to)) =
    cond_both (is_place cube.dim to && nat_lt image (length cube.images)) (Some (spawn_call 0 image to)) None (IfHostCall cube.dim)
    (λ t. (and_parts (is_place cube.dim to) (nat_lt image (length cube.images)) t).0) (λ f. tt)
host-good cube store (Some (kill_wish to)) = cond_both (is_place cube.dim to) (Some (kill_call 0 to)) None (IfHostCall cube.dim) (λ t. t) (λ f. tt)
host-good cube store (Some (arm_wish count)) = tt
host-good cube store (Some look_wish) = tt
host-good cube store (Some mail_wish) = tt

-- what a host makes of what its user asks is a call that a host can make
pub wish-call_of_wish : (cube : Cube) (store : List BlockId) (wish : Option Wish) (call : Call) → option_and_then (call_of_wish cube store) wish ≡ Some call
    → IsHostActorCall cube.dim call
wish-call_of_wish cube store wish call e = subst (IfHostCall cube.dim) e (host-good cube store wish)
