-- The kernel's calls to several places, those that wait and those of processes, and all calls by
-- their numbers.
use Rattle.std.proofs.Common.{◌≡◌, ℕ, suc, ◌+◌, ◌-◌, ◌^◌, ◌<◌, Bool, true, false, not, ◌==◌, nat_lt, if◌then◌else◌, List, [], ◌∷◌, ◌++◌, length, map, take, drop, zip, slice_get, Option, Some, None, IfSome, refl, ap, sym, ◌∙◌, arith}
use Rattle.std.specs.List.{AllByRecursion, list_all}
use Rattle.std.proofs.lemmas.Bool.{cond_both, eq-eqb, ne_eqb, ltb-true, ltb-false, and_parts, not-false, both_ways}
use Rattle.std.proofs.lemmas.List.{length-take}
use Rattle.rv_model.specs.declared.stop.Stop.TheVariants.{Exited, NoCall, TurnSpent}
use Rattle.ce_model.specs.declared.topology.Place.{Place}
use Rattle.ce_model.specs.declared.topology.BlockId.{BlockId}
use Rattle.ce_model.specs.declared.process.Status.{Status}
use Rattle.ce_model.specs.declared.process.Status.TheVariants.{Asking, Polling}
use Rattle.ce_model.specs.Limits.{greatest_targets, turn_calls}
use Rattle.ce_model.specs.Blocks.{Block}
use Rattle.ce_model.specs.Space.{block_named, places_at}
use Rattle.ce_model.specs.Process.{Process, argument, call_number, is_stopped}
use Rattle.ce_model.specs.Node.{Turn, Node, is_place, Call, send_call, spawn_call, kill_call, note_call}
use Rattle.ce_model.specs.Kernel.{return_outcome, leave_outcome, stop_outcome, read_outcome, wait_outcome, process_left_behind, with_store, is_target, place_named, copies_outcome, xmsend_block, xmsend, xrecv, xrecvb, spawn, ckill, KernelCall, kernel_calls, kernel_call, counted_outcome, call_outcome, kernel}
use Rattle.ce_model.specs.Sound.{is_unborn, is_running, is_polling}
use Rattle.ce_solo.proofs.Counting.{count, count-nil, count-cons, count-take-drop, rising-drop}
use Rattle.ce_solo.proofs.Lists.{all-get}
use Rattle.ce_solo.proofs.Instructions.{any_ok}
use Rattle.ce_solo.proofs.Windows.{count-unmapped, named-of}
use Rattle.ce_solo.proofs.Nodes.{polls, well-turn, polls-more, changed_to, change-became}
use Rattle.ce_solo.proofs.Words.{IsInItsTurn, call_ids, IsCallOfNode, IsDone, in_turn-windows, born_before, going_before, polls_before, returns-done, leaves-done, stops-done, reading-done, process_without-windows, frees-done, xmalloc-done, xfree-done, xlength-done, xsend-done}

-- ---- several places

zip-seconds : {X : Type 0} (xs : List X) (ids : List BlockId) → length xs ≡ length ids → map (λ (pair : X × BlockId). pair.1) (zip xs ids) ≡ ids
zip-seconds [] [] e = refl
zip-seconds [] (id ∷ ids) e = absurd (omega (arith, e))
zip-seconds (x ∷ xs) [] e = absurd (omega (arith, e))
zip-seconds (x ∷ xs) (id ∷ ids) e = ap (λ rest. id ∷ rest) (zip-seconds xs ids (omega (arith, e)))

zip-firsts : {X : Type 0} (test : X → Bool) (xs : List X) (ids : List BlockId) → list_all test xs ≡ true
    → AllByRecursion (λ (pair : X × BlockId). test pair.0 ≡ true) (zip xs ids)
zip-firsts test [] ids all = tt
zip-firsts test (x ∷ xs) [] all = tt
zip-firsts test (x ∷ xs) (id ∷ ids) all =
    let parts = and_parts (test x) (list_all test xs) all in (parts.0, zip-firsts test xs ids parts.1)

module _ (node : Node) (turn : Turn) (p : Process) (c : IsInItsTurn node turn p) where
  copies_outcome-done : (found : ℕ × Block) → slice_get p.space.windows found.0 ≡ Some (Some found.1) → (places : List Place)
      → IsDone node (copies_outcome node turn p found places)
  copies_outcome-done found at [] = frees-done node turn p c found at
  copies_outcome-done found at (to ∷ others) =
      let ids = found.1.id ∷ take (length others) node.store in
      let call = send_call turn.pid (zip (to ∷ others) ids) found.1.bytes in
      cond_both (not (list_all (is_target node) (to ∷ others))) (return_outcome node turn p 1) _ (IsDone node) (λ t. returns-done node turn p c 1)
      (λ all. cond_both (nat_lt (length node.store) (length others)) (return_outcome node turn p 2)
      (leave_outcome (with_store (drop (length others) node.store) node) turn (process_left_behind found.0 p) call) (IsDone node)
      (λ t. returns-done node turn p c 2)
      (λ enough.
      let long : length others ≡ length (take (length others) node.store) = omega (arith, length-take (length others) node.store, ltb-false _ _ enough) in
      let same : map (λ (pair : Place × BlockId). pair.1) (zip (to ∷ others) ids) ≡ ids = zip-seconds (to ∷ others) ids (ap suc long) in
      leaves-done node turn p c (process_left_behind found.0 p) (drop (length others) node.store) call refl c.registers (process_without-windows node turn p c found.0)
      (rising-drop (length others) node.store c.well.store)
      (λ id. omega (arith, count-unmapped id p.space.windows found.0 found.1 at, ap (count id) same, count-cons id found.1.id (take (length others) node.store), count-take-drop id (length others) node.store))
      (zip-firsts (is_target node) (to ∷ others) ids (not-false _ all))))

  xmsend_block-done : (found : ℕ × Block) → slice_get p.space.windows found.0 ≡ Some (Some found.1) → IsDone node (xmsend_block node turn p found)
  xmsend_block-done found at =
      cond_both (nat_lt greatest_targets (argument p 1)) (return_outcome node turn p 3)
      (read_outcome node turn p (places_at p.space (argument p 2) (argument p 1)) (copies_outcome node turn p found)) (IsDone node)
      (λ t. returns-done node turn p c 3)
      (λ f. reading-done node turn p c (places_at p.space (argument p 2) (argument p 1)) (λ x. Unit {0}) (copies_outcome node turn p found)
      (any_ok (places_at p.space (argument p 2) (argument p 1))) (λ places u. copies_outcome-done found at places))

  xmsend-done : IsDone node (xmsend node turn p)
  xmsend-done = reading-done node turn p c (block_named p.space (argument p 0)) _ (xmsend_block node turn p) (named-of p.space (argument p 0)) xmsend_block-done

  -- ---- calls that wait

  waits-done : (status : Status) (polling : List ℕ) → is_unborn status ≡ false → is_running status ≡ false → is_stopped status ≡ false
      → polls turn.pid polling ≡ (if is_polling status then 1 else 0) → ((q : ℕ) → (q ≡ turn.pid → ⊥) → polls q polling ≡ polls q node.polling_ids)
      → IsDone node (wait_outcome node turn p status polling)
  waits-done status polling born rests going poll others = record {
    became = change-became (Some turn) None None node turn.pid (record p { status = status }) node.store polling [] []
        (record {
          well = c.well;
          within = c.sound.pid;
          process = record {
            registers = c.registers;
            windows = in_turn-windows node turn p c;
            unborn_used = λ h. absurd (both_ways _ born h);
            stopped_holds = λ h. absurd (both_ways _ going h);
            running = rests;
          };
          turns = λ q differ. sym (ne_eqb turn.pid q (λ e. differ (sym e)));
          rising = c.well.store;
          poll = poll;
          others_poll = others;
          blocks = λ id. omega (arith, ap (count id) c.held.ids, count-nil id);
          once = λ id. omega (arith, c.well.once id, count-nil id);
        })
        (born ∙ sym (born_before node turn p c)) (λ h. absurd (both_ways _ (going_before node turn p c) h));
    turn = refl;
  }

  xrecv-done : IsDone node (xrecv node turn p)
  xrecv-done =
      waits-done Polling (node.polling_ids ++ turn.pid ∷ []) refl refl refl
      (omega (arith, polls-more turn.pid turn.pid node.polling_ids, polls_before node turn p c, ap {B = ℕ} (λ b. if b then 1 else 0) (eq-eqb turn.pid turn.pid refl)))
      (λ q differ. omega (arith, polls-more turn.pid q node.polling_ids, ap {B = ℕ} (λ b. if b then 1 else 0) (ne_eqb turn.pid q (λ e. differ (sym e)))))

  xrecvb-done : IsDone node (xrecvb node turn p)
  xrecvb-done = waits-done Asking node.polling_ids refl refl refl (polls_before node turn p c) (λ q differ. refl)

  -- ---- processes

  says-done : (call : Call) → call_ids call ≡ [] → IsCallOfNode (changed_to node turn.pid p node.store node.polling_ids (Some turn)) call
      → IsDone node (leave_outcome node turn p call)
  says-done call none of_node =
      leaves-done node turn p c p node.store call refl c.registers (in_turn-windows node turn p c) c.well.store
      (λ id. omega (arith, ap (count id) none, count-nil id)) of_node

  spawn-done : IsDone node (spawn node turn p)
  spawn-done =
      cond_both (not (is_place node.dim (place_named p 1))) (return_outcome node turn p 1) _ (IsDone node) (λ t. returns-done node turn p c 1)
      (λ at. cond_both (nat_lt (argument p 0) node.images) (leave_outcome node turn p (spawn_call turn.pid (argument p 0) (place_named p 1))) (return_outcome node turn p 3)
      (IsDone node) (λ t. says-done (spawn_call turn.pid (argument p 0) (place_named p 1)) refl (ltb-true _ _ t, not-false _ at))
      (λ f. returns-done node turn p c 3))

  ckill-done : IsDone node (ckill node turn p)
  ckill-done =
      cond_both (is_place node.dim (place_named p 0)) (leave_outcome node turn p (kill_call turn.pid (place_named p 0))) (return_outcome node turn p 1)
      (IsDone node) (λ t. says-done (kill_call turn.pid (place_named p 0)) refl t) (λ f. returns-done node turn p c 1)

-- ---- all calls

-- a call does what is said here of its node
abbrev pub IsGood : KernelCall → Type 0
IsGood call = (node : Node) (turn : Turn) (p : Process) → IsInItsTurn node turn p → IsDone node (call.outcome node turn p)

all_good : AllByRecursion IsGood kernel_calls
unfolding kernel_calls
all_good = (
  xmalloc-done,
  (
    xfree-done,
    (
      xlength-done,
      (
        xsend-done,
        (
          xmsend-done,
          (
            xrecv-done,
            (
              xrecvb-done,
              (
                spawn-done,
                (
                  ckill-done,
                  (
                    (λ node turn p c. returns-done node turn p c node.number),
                    (
                      (λ node turn p c. returns-done node turn p c turn.pid),
                      (
                        (λ node turn p c. returns-done node turn p c (2 ^ node.dim)),
                        (
                          (λ node turn p c. stops-done node turn p c (Exited (argument p 0))),
                          (
                            (λ node turn p c. says-done node turn p c (note_call turn.pid (argument p 0)) refl tt),
                            tt,
                          ),
                        ),
                      ),
                    ),
                  ),
                ),
              ),
            ),
          ),
        ),
      ),
    ),
  ),
)

-- what holds of each call holds of the one that has the number
pub call_numbered : (P : KernelCall → Type 0) (number : ℕ) → AllByRecursion P kernel_calls → IfSome (kernel_call number) P
call_numbered P number all =
    cond_both (number == 0) None (slice_get kernel_calls (number - 1)) (λ call. IfSome call P) (λ t. tt) (λ f. all-get P kernel_calls (number - 1) all)

-- the turn with one counted call more
abbrev pub one_call_more : Turn → Turn
one_call_more turn = record turn { calls = turn.calls + 1 }

in_turn-more : (node : Node) (turn : Turn) (p : Process) → IsInItsTurn node turn p → turn.calls < turn_calls → IsInItsTurn node (one_call_more turn) p
in_turn-more node turn p c room = record {
  well = well-turn node turn turn.instructions_left (turn.calls + 1) c.well;
  sound = record { pid = c.sound.pid; instructions_left = c.sound.instructions_left; calls = omega (arith, room) };
  registers = c.registers;
  held = c.held;
  status = c.status;
}

done-by : (node : Node) (turn : Turn) (p : Process) → IsInItsTurn node turn p → (found : Option KernelCall) → IfSome found IsGood
    → IsDone node (call_outcome found node turn p)
done-by node turn p c None good = stops-done node turn p c (NoCall (call_number p))
done-by node turn p c (Some call) good =
    cond_both call.is_counted (counted_outcome call node turn p) (call.outcome node turn p) (IsDone node)
    (λ t. cond_both (nat_lt turn.calls turn_calls) (call.outcome node (one_call_more turn) p) (stop_outcome node turn p TurnSpent) (IsDone node)
    (λ room. good node (one_call_more turn) p (in_turn-more node turn p c (ltb-true _ _ room)))
    (λ spent. stops-done node turn p c TurnSpent))
    (λ f. good node turn p c)

-- what each kernel call makes of a node whose process has come to it
pub kernel-done : (node : Node) (turn : Turn) (p : Process) → IsInItsTurn node turn p → IsDone node (kernel node turn p)
unfolding kernel
kernel-done node turn p c = done-by node turn p c (kernel_call (call_number p)) (call_numbered IsGood (call_number p) all_good)
