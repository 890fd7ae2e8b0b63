-- A turn by whole runs: up to a kernel call or a stop, the node changes in one process alone.
use Rattle.std.proofs.Common.{◌≡◌, ℕ, zero, suc, ◌^◌, ◌<◌, ◌≤◌, Bool, true, false, not, ◌||◌, nat_lt, if◌then◌else◌, List, [], ◌∷◌, ◌++◌, length, take, drop, zip, replicate, Option, Some, None, IfSome, Result, Ok, Err, refl, ap, ◌∙◌, arith, length-set}
use Rattle.std.specs.List.{AllByRecursion, list_all}
use Rattle.std.proofs.lemmas.List.{get_or-set_same}
use Rattle.rv_model.specs.declared.stop.Stop.{Stop}
use Rattle.rv_model.specs.declared.stop.Stop.TheVariants.{Exited, NoCall, TurnSpent}
use Rattle.rv_model.specs.Exec.{Outcome, next_state, call_state, stop_state, step_outcome}
use Rattle.ce_model.specs.declared.process.Status.{Status}
use Rattle.ce_model.specs.declared.process.Status.TheVariants.{Asking, Polling}
use Rattle.ce_model.specs.declared.topology.Place.{Place}
use Rattle.ce_model.specs.declared.topology.BlockId.{BlockId}
use Rattle.ce_model.specs.Limits.{block_room, greatest_targets, turn_calls}
use Rattle.ce_model.specs.Blocks.{Block, with_id}
use Rattle.ce_model.specs.Space.{Space, process_access, window_start, has_unused_window, mapped_space, block_named, places_at}
use Rattle.ce_model.specs.Process.{Process, argument, call_number, with_answer, moved_process, unborn_process, TurnEnd, call_end, stop_end, end_after, turn_end, instruction_outcome}
use Rattle.ce_model.specs.Node.{Turn, Node, is_place, process_at, with_process, with_stopped_process, Call, send_call, spawn_call, kill_call, note_call}
use Rattle.ce_model.specs.Kernel.{CallOutcome, continuation, departure, turn_conclusion, return_outcome, stop_outcome, leave_outcome, read_outcome, wait_outcome, with_space, process_left_behind, with_store, map_outcome, xmalloc, free_outcome, xfree, xlength, is_target, place_named, send_outcome, xsend, copies_outcome, xmsend_block, xmsend, xrecv, xrecvb, spawn, ckill, KernelCall, kernel_calls, kernel_call, call_outcome, kernel}
use Rattle.ce_model.specs.Saying.{Saying, idle_saying, saying_after_call, saying_after_instruction, turn_saying}
use Rattle.ce_model.specs.Sound.{IsSoundTurn}
use Rattle.ce_solo.proofs.Windows.{IsSameHeld, same_held}
use Rattle.ce_solo.proofs.Instructions.{IsLed, step_outcome-led}
use Rattle.ce_solo.proofs.Nodes.{IsWell, well-turn}
use Rattle.ce_solo.proofs.Words.{IsInItsTurn, goes-done, in_turn-windows}
use Rattle.ce_solo.proofs.Calls.{call_numbered, one_call_more}
use Rattle.rk_node.proofs.Processes.{set-twice}

-- ---- the process of a turn is given apart from its node's place for it

module _ (q : Process) where
  -- a node whose process is another meanwhile
  abbrev other : Node → ℕ → Node
  other node pid = with_process node pid q

  with_process-apart : (node : Node) (pid : ℕ) (p : Process) → with_process (other node pid) pid p ≡ with_process node pid p
  with_process-apart node pid p = ap (λ ps. record node { processes = ps }) (set-twice node.processes pid q p)

  returns-apart : (node : Node) (turn : Turn) (p : Process) (value : ℕ) → return_outcome (other node turn.pid) turn p value ≡ return_outcome node turn p value
  returns-apart node turn p value = ap (λ n. continuation n turn) (with_process-apart node turn.pid (with_answer value p))

  leave_outcome-apart : (node : Node) (turn : Turn) (p : Process) (call : Call) → leave_outcome (other node turn.pid) turn p call ≡ leave_outcome node turn p call
  leave_outcome-apart node turn p call = ap (λ (n : Node). departure (record n { turn = Some turn }) call) (with_process-apart node turn.pid p)

  pub with_stopped-apart : (node : Node) (pid : ℕ) (p : Process) (cause : Stop) → with_stopped_process (other node pid) pid p cause ≡ with_stopped_process node pid p cause
  with_stopped-apart node pid p cause = ap (λ ps. record (with_stopped_process node pid p cause) { processes = ps }) (set-twice node.processes pid q _)

  stops-apart : (node : Node) (turn : Turn) (p : Process) (cause : Stop) → stop_outcome (other node turn.pid) turn p cause ≡ stop_outcome node turn p cause
  stops-apart node turn p cause = ap turn_conclusion (with_stopped-apart node turn.pid p cause)

  waits-apart : (node : Node) (turn : Turn) (p : Process) (status : Status) (polling : List ℕ) → wait_outcome (other node turn.pid) turn p status polling ≡ wait_outcome node turn p status polling
  waits-apart node turn p status polling = ap (λ (n : Node). turn_conclusion (record n { polling_ids = polling; turn = None })) (with_process-apart node turn.pid (record p { status = status }))

  reading-apart : {X : Type 0} (node : Node) (turn : Turn) (p : Process) (r : Result X Stop) (f g : X → CallOutcome) → ((x : X) → f x ≡ g x)
      → read_outcome (other node turn.pid) turn p r f ≡ read_outcome node turn p r g
  reading-apart node turn p (Ok x) f g same = same x
  reading-apart node turn p (Err cause) f g same = stops-apart node turn p cause

  either : (b : Bool) (a a' c c' : CallOutcome) → a ≡ a' → c ≡ c' → (if b then a else c) ≡ (if b then a' else c')
  either true a a' c c' first next = first
  either false a a' c c' first next = next

  map_outcome-apart : (node : Node) (turn : Turn) (p : Process) (len : ℕ) (store : List BlockId) → map_outcome (other node turn.pid) turn p len store ≡ map_outcome node turn p len store
  map_outcome-apart node turn p len [] = returns-apart node turn p 0
  map_outcome-apart node turn p len (id ∷ store) =
      returns-apart (with_store store node) turn (with_space p (mapped_space (record { id = id; bytes = replicate len 0 }) p.space)) (window_start (length p.space.windows))

  -- a call that doesn't look at that place
  abbrev IsApart : (Node → Turn → Process → CallOutcome) → Type 0
  IsApart does = (node : Node) (turn : Turn) (p : Process) → does (other node turn.pid) turn p ≡ does node turn p

  xmalloc-apart : IsApart xmalloc
  xmalloc-apart node turn p =
      either (nat_lt block_room (argument p 0) || not (has_unused_window p.space)) _ _ _ _ (returns-apart node turn p 0) (map_outcome-apart node turn p (argument p 0) node.store)

  frees-apart : (node : Node) (turn : Turn) (p : Process) (found : ℕ × Block) → free_outcome (other node turn.pid) turn p found ≡ free_outcome node turn p found
  frees-apart node turn p found = returns-apart (with_store (with_id found.1.id node.store) node) turn (process_left_behind found.0 p) 0

  xfree-apart : IsApart xfree
  xfree-apart node turn p = reading-apart node turn p (block_named p.space (argument p 0)) _ _ (frees-apart node turn p)

  xlength-apart : IsApart xlength
  xlength-apart node turn p = reading-apart node turn p (block_named p.space (argument p 0)) _ _ (λ found. returns-apart node turn p (length found.1.bytes))

  send_outcome-apart : (node : Node) (turn : Turn) (p : Process) (found : ℕ × Block) → send_outcome (other node turn.pid) turn p found ≡ send_outcome node turn p found
  send_outcome-apart node turn p found =
      either (is_target node (place_named p 1)) _ _ _ _
      (leave_outcome-apart node turn (process_left_behind found.0 p) (send_call turn.pid ((place_named p 1, found.1.id) ∷ []) found.1.bytes)) (returns-apart node turn p 1)

  xsend-apart : IsApart xsend
  xsend-apart node turn p = reading-apart node turn p (block_named p.space (argument p 0)) _ _ (send_outcome-apart node turn p)

  copies_outcome-apart : (node : Node) (turn : Turn) (p : Process) (found : ℕ × Block) (places : List Place)
      → copies_outcome (other node turn.pid) turn p found places ≡ copies_outcome node turn p found places
  copies_outcome-apart node turn p found [] = frees-apart node turn p found
  copies_outcome-apart node turn p found (to ∷ others) =
      either (not (list_all (is_target node) (to ∷ others))) _ _ _ _ (returns-apart node turn p 1)
      (either (nat_lt (length node.store) (length others)) _ _ _ _ (returns-apart node turn p 2)
      (leave_outcome-apart (with_store (drop (length others) node.store) node) turn (process_left_behind found.0 p)
      (send_call turn.pid (zip (to ∷ others) (found.1.id ∷ take (length others) node.store)) found.1.bytes)))

  xmsend_block-apart : (node : Node) (turn : Turn) (p : Process) (found : ℕ × Block) → xmsend_block (other node turn.pid) turn p found ≡ xmsend_block node turn p found
  xmsend_block-apart node turn p found =
      either (nat_lt greatest_targets (argument p 1)) _ _ _ _ (returns-apart node turn p 3)
      (reading-apart node turn p (places_at p.space (argument p 2) (argument p 1)) _ _ (copies_outcome-apart node turn p found))

  xmsend-apart : IsApart xmsend
  xmsend-apart node turn p = reading-apart node turn p (block_named p.space (argument p 0)) _ _ (xmsend_block-apart node turn p)

  xrecv-apart : IsApart xrecv
  xrecv-apart node turn p = waits-apart node turn p Polling (node.polling_ids ++ turn.pid ∷ [])

  xrecvb-apart : IsApart xrecvb
  xrecvb-apart node turn p = waits-apart node turn p Asking node.polling_ids

  spawn-apart : IsApart spawn
  spawn-apart node turn p =
      either (not (is_place node.dim (place_named p 1))) _ _ _ _ (returns-apart node turn p 1)
      (either (nat_lt (argument p 0) node.images) _ _ _ _ (leave_outcome-apart node turn p (spawn_call turn.pid (argument p 0) (place_named p 1))) (returns-apart node turn p 3))

  ckill-apart : IsApart ckill
  ckill-apart node turn p =
      either (is_place node.dim (place_named p 0)) _ _ _ _ (leave_outcome-apart node turn p (kill_call turn.pid (place_named p 0))) (returns-apart node turn p 1)

  all_apart : AllByRecursion (λ (call : KernelCall). IsApart call.outcome) kernel_calls
  unfolding kernel_calls
  all_apart = (
    xmalloc-apart,
    (
      xfree-apart,
      (
        xlength-apart,
        (
          xsend-apart,
          (
            xmsend-apart,
            (
              xrecv-apart,
              (
                xrecvb-apart,
                (
                  spawn-apart,
                  (
                    ckill-apart,
                    (
                      (λ node turn p. returns-apart node turn p node.number),
                      (
                        (λ node turn p. returns-apart node turn p turn.pid),
                        (
                          (λ node turn p. returns-apart node turn p (2 ^ node.dim)),
                          ((λ node turn p. stops-apart node turn p (Exited (argument p 0))), ((λ node turn p. leave_outcome-apart node turn p (note_call turn.pid (argument p 0))), tt)),
                        ),
                      ),
                    ),
                  ),
                ),
              ),
            ),
          ),
        ),
      ),
    ),
  )

  does-apart : (node : Node) (turn : Turn) (p : Process) (found : Option KernelCall) → IfSome found (λ call. IsApart call.outcome)
      → call_outcome found (other node turn.pid) turn p ≡ call_outcome found node turn p
  does-apart node turn p None each = stops-apart node turn p (NoCall (call_number p))
  does-apart node turn p (Some call) each =
      either call.is_counted _ _ _ _
      (either (nat_lt turn.calls turn_calls) _ _ _ _ (each node (one_call_more turn) p) (stops-apart node turn p TurnSpent))
      (each node turn p)

  pub kernel-apart : (node : Node) (turn : Turn) (p : Process) → kernel (with_process node turn.pid q) turn p ≡ kernel node turn p
  unfolding kernel
  kernel-apart node turn p = does-apart node turn p (kernel_call (call_number p)) (call_numbered (λ call. IsApart call.outcome) (call_number p) all_apart)

-- ---- whole runs

-- what the node says whose process came to this
abbrev pub saying_of_turn_end : Node → Turn → TurnEnd → Saying
saying_of_turn_end node turn (call_end left p) = saying_after_call (turn_saying left) (kernel node (record turn { instructions_left = left }) p)
saying_of_turn_end node turn (stop_end left p cause) = idle_saying (with_stopped_process node turn.pid p cause)

came_to-apart : (q : Process) (node : Node) (turn : Turn) (r : TurnEnd) → saying_of_turn_end (with_process node turn.pid q) turn r ≡ saying_of_turn_end node turn r
came_to-apart q node turn (call_end left p) = ap (saying_after_call (turn_saying left)) (kernel-apart q node (record turn { instructions_left = left }) p)
came_to-apart q node turn (stop_end left p cause) = ap idle_saying (with_stopped-apart q node turn.pid p cause)

runs-led : (n : ℕ) (node : Node) (turn : Turn) (outcome : Outcome Space) → turn.pid < length node.processes
    → ((node' : Node) → turn.pid < length node'.processes → turn_saying n node' turn ≡ saying_of_turn_end node' turn (turn_end n (process_at node' turn.pid)))
    → saying_after_instruction (turn_saying n) n node turn (process_at node turn.pid) outcome ≡ saying_of_turn_end node turn (end_after (turn_end n) n (process_at node turn.pid) outcome)
runs-led n node turn (next_state registers pc space) h each =
    let p = moved_process (process_at node turn.pid) registers pc space in
    let node' = with_process node turn.pid p in
    each node' (omega (arith, length-set node.processes turn.pid p))
    ∙ ap (λ q. saying_of_turn_end node' turn (turn_end n q)) (get_or-set_same node.processes turn.pid p unborn_process h)
    ∙ came_to-apart p node turn (turn_end n p)
runs-led n node turn (call_state registers pc space) h each = refl
runs-led n node turn (stop_state cause) h each = refl

-- a turn is a run to the next kernel call, and that call
pub runs-reached : (n : ℕ) (node : Node) (turn : Turn) → turn.pid < length node.processes → turn_saying n node turn ≡ saying_of_turn_end node turn (turn_end n (process_at node turn.pid))
unfolding turn_saying turn_end
runs-reached zero node turn h = refl
runs-reached (suc n) node turn h = runs-led n node turn (instruction_outcome (process_at node turn.pid)) h (λ node' h'. runs-reached n node' turn h')

-- ---- what a run keeps

-- a process that has run on holds the same blocks
pub record IsKept (before after : Process) : Type 0 where
  pub held : IsSameHeld before.space after.space
  pub registers : length after.registers ≡ length before.registers
  pub status : after.status ≡ before.status

abbrev pub IsKeptBy : ℕ → Process → TurnEnd → Type 0
IsKeptBy n p (call_end left p') = IsKept p p' × (left < n)
IsKeptBy n p (stop_end left p' cause) = IsKept p p' × (left ≤ n)

kept_same : (p : Process) → IsKept p p
kept_same p = record { held = same_held p.space; registers = refl; status = refl }

kept_then : (a b d : Process) → IsKept a b → IsKept b d → IsKept a d
kept_then a b d first next = record {
  held = record { ids = next.held.ids ∙ first.held.ids; windows = next.held.windows ∙ first.held.windows };
  registers = next.registers ∙ first.registers;
  status = next.status ∙ first.status;
}

kept_on : (n : ℕ) (p q : Process) (r : TurnEnd) → IsKept p q → IsKeptBy n q r → IsKeptBy (suc n) p r
kept_on n p q (call_end left p') first next = (kept_then p q p' first next.0, let less = next.1 in omega (arith, less))
kept_on n p q (stop_end left p' cause) first next = (kept_then p q p' first next.0, let less = next.1 in omega (arith, less))

led-kept : (n : ℕ) (p : Process) (outcome : Outcome Space) → IsLed p.registers p.space outcome → ((q : Process) → IsKeptBy n q (turn_end n q))
    → IsKeptBy (suc n) p (end_after (turn_end n) n p outcome)
led-kept n p (next_state registers pc space) led each =
    kept_on n p (moved_process p registers pc space) (turn_end n (moved_process p registers pc space)) (record { held = led.1; registers = led.0; status = refl }) (each (moved_process p registers pc space))
led-kept n p (call_state registers pc space) led each = (record { held = led.1; registers = led.0; status = refl }, omega arith)
led-kept n p (stop_state cause) led each = (kept_same p, omega arith)

pub reached-kept : (n : ℕ) (p : Process) → IsKeptBy n p (turn_end n p)
unfolding turn_end
reached-kept zero p = (kept_same p, omega arith)
reached-kept (suc n) p = led-kept n p (step_outcome process_access p.registers p.pc p.space) (step_outcome-led p.registers p.pc p.space) (λ q. reached-kept n q)

-- the node is in its turn still
pub well-after : (node : Node) (turn : Turn) (left : ℕ) (p : Process) → IsWell (Some turn) node → IsSoundTurn turn → left ≤ turn.instructions_left → IsKept (process_at node turn.pid) p
    → IsWell (Some (record turn { instructions_left = left })) (with_process node turn.pid p)
well-after node turn left p well sound less kept =
    let turn' : Turn = record turn { instructions_left = left } in
    let c : IsInItsTurn node turn' p = record {
      well = well-turn node turn left turn.calls well;
      sound = record { pid = sound.pid; instructions_left = omega (arith, sound.instructions_left, less); calls = sound.calls };
      registers = kept.registers ∙ (well.processes turn.pid sound.pid).registers;
      held = kept.held;
      status = kept.status;
    } in
    (goes-done node turn' p c p node.store refl c.registers (in_turn-windows node turn' p c) well.store (λ id. refl)).became.well
