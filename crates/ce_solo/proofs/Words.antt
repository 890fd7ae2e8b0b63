-- The kernel, word by word: what each call of a process in its turn makes of its node.
use Rattle.std.proofs.Common.{◌≡◌, ℕ, ◌+◌, ◌<◌, ◌≤◌, true, false, not, ◌||◌, ◌==◌, nat_lt, if◌then◌else◌, List, [], ◌∷◌, length, map, replicate, slice_get, Option, Some, None, Result, Ok, Err, IfOk, IfSome, refl, ap, sym, ◌∙◌, subst, arith, length-set, length-append}
use Rattle.std.specs.List.{AllByRecursion}
use Rattle.std.proofs.lemmas.Bool.{cond_both, eq-eqb, ne_eqb, ltb-true, or_parts, not-false, both_ways}
use Rattle.rv_model.specs.declared.limits.TheConstants.{REGISTER_COUNT}
use Rattle.rv_model.specs.declared.stop.Stop.{Stop}
use Rattle.ce_model.specs.declared.topology.BlockId.{BlockId}
use Rattle.ce_model.specs.declared.process.Status.{Status}
use Rattle.ce_model.specs.declared.process.Status.TheVariants.{Unborn, Running, Asking, Polling, Stopped}
use Rattle.ce_model.specs.Limits.{window_count, block_room}
use Rattle.ce_model.specs.Blocks.{Block, with_id}
use Rattle.ce_model.specs.Space.{window_start, has_unused_window, mapped_space, mapped_ids, block_named}
use Rattle.ce_model.specs.Process.{Process, argument, with_answer, is_stopped}
use Rattle.ce_model.specs.Node.{Turn, Node, process_at, is_place, with_stopped_process, Call, take_call, send_call, spawn_call, kill_call, note_call, take_call_of}
use Rattle.ce_model.specs.Kernel.{CallOutcome, continuation, departure, turn_conclusion, return_outcome, leave_outcome, read_outcome, with_space, process_left_behind, map_outcome, xmalloc, free_outcome, xfree, xlength, is_target, place_named, send_outcome, xsend}
use Rattle.ce_model.specs.Sound.{is_unborn, is_running, is_polling, IsSoundTurn, AreRisingIds}
use Rattle.ce_solo.proofs.Counting.{hit-self, count, count-nil, count-one, count-cons, count-append, count-put, rising-put}
use Rattle.ce_solo.proofs.Windows.{IsSameHeld, ids-mapped, count-unmapped, named-of}
use Rattle.ce_solo.proofs.Nodes.{polls, IsWell, HasBecome, changed_to, change-became, once_together, stop-became}

-- ---- a process in its turn

-- a process that has come to a kernel call in this turn of its node
pub record IsInItsTurn (node : Node) (turn : Turn) (p : Process) : Type 0 where
  pub well : IsWell (Some turn) node
  pub sound : IsSoundTurn turn
  pub registers : length p.registers ≡ REGISTER_COUNT
  pub held : IsSameHeld (process_at node turn.pid).space p.space
  pub status : p.status ≡ (process_at node turn.pid).status

pub running_is : (s : Status) → is_running s ≡ true → (is_unborn s ≡ false) × (is_stopped s ≡ false) × (is_polling s ≡ false)
running_is Unborn h = (absurd (cc), (refl), (refl))
running_is Running h = (refl, refl, refl)
running_is Asking h = absurd (cc)
running_is Polling h = absurd (cc)
running_is (Stopped cause) h = absurd (cc)

-- the blocks that a call takes out of its node
abbrev pub call_ids : Call → List BlockId
call_ids (send_call pid to bytes) = map (λ target. target.1) to
call_ids other = []

-- a call that this node can make
abbrev pub IsCallOfNode : Node → Call → Type 0
IsCallOfNode node (take_call asking dead poller) = (take_call asking dead poller ≡ take_call_of node) × (node.turn ≡ None)
IsCallOfNode node (send_call pid to bytes) = AllByRecursion (λ target. is_target node target.0 ≡ true) to
IsCallOfNode node (spawn_call pid image to) = (image < node.images) × (is_place node.dim to ≡ true)
IsCallOfNode node (kill_call pid to) = is_place node.dim to ≡ true
IsCallOfNode node (note_call pid word) = Unit {0}
IsCallOfNode node other = ⊥

-- what a node becomes that makes a call
pub record HasMadeCall (node node' : Node) (call : Call) : Type 0 where
  pub became : HasBecome node'.turn node node' [] (call_ids call)
  pub turn : IfSome node'.turn IsSoundTurn
  pub of_node : IsCallOfNode node' call

-- what a node becomes whose turn goes on
pub record IsGoingOn (node node' : Node) (turn' : Turn) : Type 0 where
  pub became : HasBecome (Some turn') node node' [] []
  pub sound : IsSoundTurn turn'

pub record HasEndedTurn (node node' : Node) : Type 0 where
  pub became : HasBecome None node node' [] []
  pub turn : node'.turn ≡ None

abbrev pub IsDone : Node → CallOutcome → Type 0
IsDone node (continuation node' turn') = IsGoingOn node node' turn'
IsDone node (departure node' call) = HasMadeCall node node' call
IsDone node (turn_conclusion node') = HasEndedTurn node node'

module _ (node : Node) (turn : Turn) (p : Process) (c : IsInItsTurn node turn p) where
  pub in_turn-running : is_running p.status ≡ true
  in_turn-running = ap is_running c.status ∙ (c.well.processes turn.pid c.sound.pid).running ∙ eq-eqb turn.pid turn.pid refl

  pub in_turn-windows : length p.space.windows ≤ window_count
  in_turn-windows = omega (arith, c.held.windows, (c.well.processes turn.pid c.sound.pid).windows)

  pub born_before : is_unborn (process_at node turn.pid).status ≡ false
  born_before = ap is_unborn (sym c.status) ∙ (running_is p.status in_turn-running).0

  pub going_before : is_stopped (process_at node turn.pid).status ≡ false
  going_before = ap is_stopped (sym c.status) ∙ (running_is p.status in_turn-running).1

  pub polls_before : polls turn.pid node.polling_ids ≡ 0
  polls_before = c.well.polling_ids turn.pid ∙ ap {B = ℕ} (λ s. if is_polling s then 1 else 0) (sym c.status) ∙ ap {B = ℕ} (λ b. if b then 1 else 0) (running_is p.status in_turn-running).2

  -- the process runs on with other registers and another memory, and the store is as given
  pub runs-became : (turn' : Turn) (turn'' : Option Turn) (p' : Process) (store : List BlockId) (gone : List BlockId) → turn'.pid ≡ turn.pid
      → p'.status ≡ p.status → length p'.registers ≡ REGISTER_COUNT → length p'.space.windows ≤ window_count → AreRisingIds store
      → ((id : BlockId) → count id store + count id (mapped_ids p'.space) + count id gone ≡ count id node.store + count id (mapped_ids p.space))
      → HasBecome (Some turn') node (changed_to node turn.pid p' store node.polling_ids turn'') [] gone
  runs-became turn' turn'' p' store gone same status registers windows rising blocks =
      let going : is_running p'.status ≡ true = ap is_running status ∙ in_turn-running in
      let not_others = running_is p'.status going in
      change-became (Some turn) (Some turn') turn'' node turn.pid p' store node.polling_ids [] gone
      (record {
        well = c.well;
        within = c.sound.pid;
        process = record {
          registers = registers;
          windows = windows;
          unborn_used = λ h. absurd (both_ways _ not_others.0 h);
          stopped_holds = λ h. absurd (both_ways _ not_others.1 h);
          running = going ∙ sym (eq-eqb turn'.pid turn.pid same);
        };
        turns = λ q differ. ap (λ k. k == q) same;
        rising = rising;
        poll = polls_before ∙ sym (ap {B = ℕ} (λ b. if b then 1 else 0) not_others.2);
        others_poll = λ q differ. refl;
        blocks = λ id. omega (arith, blocks id, ap (count id) c.held.ids, count-nil id);
        once = λ id. omega (arith, c.well.once id, count-nil id);
      })
      (not_others.0 ∙ sym born_before) (λ h. absurd (both_ways _ going_before h))

  pub goes-done : (p' : Process) (store : List BlockId) → p'.status ≡ p.status → length p'.registers ≡ REGISTER_COUNT → length p'.space.windows ≤ window_count
      → AreRisingIds store → ((id : BlockId) → count id store + count id (mapped_ids p'.space) ≡ count id node.store + count id (mapped_ids p.space))
      → IsGoingOn node (changed_to node turn.pid p' store node.polling_ids node.turn) turn
  goes-done p' store status registers windows rising blocks = record {
    became = runs-became turn node.turn p' store [] refl status registers windows rising (λ id. omega (arith, blocks id, count-nil id));
    sound = c.sound;
  }

  answered_length : (value : ℕ) (q : Process) → length q.registers ≡ REGISTER_COUNT → length (with_answer value q).registers ≡ REGISTER_COUNT
  answered_length value q h = length-set q.registers 10 value ∙ h

  pub returns-done : (value : ℕ) → IsDone node (return_outcome node turn p value)
  returns-done value =
      goes-done (with_answer value p) node.store refl (answered_length value p c.registers) in_turn-windows c.well.store (λ id. refl)

  pub leaves-done : (p' : Process) (store : List BlockId) (call : Call) → p'.status ≡ p.status → length p'.registers ≡ REGISTER_COUNT
      → length p'.space.windows ≤ window_count → AreRisingIds store
      → ((id : BlockId) → count id store + count id (mapped_ids p'.space) + count id (call_ids call) ≡ count id node.store + count id (mapped_ids p.space))
      → IsCallOfNode (changed_to node turn.pid p' store node.polling_ids (Some turn)) call
      → HasMadeCall node (changed_to node turn.pid p' store node.polling_ids (Some turn)) call
  leaves-done p' store call status registers windows rising blocks of_node = record {
    became = runs-became turn (Some turn) p' store (call_ids call) refl status registers windows rising blocks;
    turn = c.sound;
    of_node = of_node;
  }

  pub stops-done : (cause : Stop) → HasEndedTurn node (with_stopped_process node turn.pid p cause)
  stops-done cause = record {
    became = stop-became (Some turn) node turn.pid p cause c.well c.sound.pid c.registers in_turn-windows c.held
        (λ q differ. ne_eqb turn.pid q (λ e. differ (sym e))) born_before;
    turn = refl;
  }

  pub reading-done : {X : Type 0} (r : Result X Stop) (P : X → Type 0) (onward : X → CallOutcome) → IfOk r P
      → ((x : X) → P x → IsDone node (onward x)) → IsDone node (read_outcome node turn p r onward)
  reading-done (Ok x) P onward of done = done x of
  reading-done (Err cause) P onward of done = stops-done cause

  -- ---- blocks

  maps-done : (len : ℕ) (store : List BlockId) → node.store ≡ store → length p.space.windows < window_count → IsDone node (map_outcome node turn p len store)
  maps-done len [] e room = returns-done 0
  maps-done len (id ∷ store) e room =
      let block : Block = record { id = id; bytes = replicate len 0 } in
      let p' : Process = with_answer (window_start (length p.space.windows)) (with_space p (mapped_space block p.space)) in
      goes-done p' store refl (answered_length (window_start (length p.space.windows)) p c.registers)
      (omega (arith, length-append p.space.windows (Some block ∷ []))) (subst AreRisingIds e c.well.store).1
      (λ name. omega (arith, ap (count name) e, count-cons name id store, ap (count name) (ids-mapped block p.space), count-append name (mapped_ids p.space) (id ∷ []), count-one name id))

  pub xmalloc-done : IsDone node (xmalloc node turn p)
  xmalloc-done =
      cond_both (nat_lt block_room (argument p 0) || not (has_unused_window p.space)) (return_outcome node turn p 0) (map_outcome node turn p (argument p 0) node.store)
      (IsDone node) (λ t. returns-done 0)
      (λ f. maps-done (argument p 0) node.store refl (ltb-true _ _ (not-false _ (or_parts _ _ f).1)))

  pub process_without-windows : (k : ℕ) → length (process_left_behind k p).space.windows ≤ window_count
  process_without-windows k = omega (arith, length-set p.space.windows k None, in_turn-windows)

  pub frees-done : (found : ℕ × Block) → slice_get p.space.windows found.0 ≡ Some (Some found.1) → IsDone node (free_outcome node turn p found)
  frees-done found at =
      goes-done (with_answer 0 (process_left_behind found.0 p)) (with_id found.1.id node.store) refl (answered_length 0 p c.registers) (process_without-windows found.0)
      (rising-put found.1.id node.store c.well.store
      (omega (arith, once_together (Some turn) node turn.pid found.1.id c.well c.sound.pid, ap (count found.1.id) c.held.ids, count-unmapped found.1.id p.space.windows found.0 found.1 at, hit-self found.1.id)))
      (λ id. omega (arith, count-put id found.1.id node.store, count-unmapped id p.space.windows found.0 found.1 at))

  pub xfree-done : IsDone node (xfree node turn p)
  xfree-done = reading-done (block_named p.space (argument p 0)) _ (free_outcome node turn p) (named-of p.space (argument p 0)) frees-done

  pub xlength-done : IsDone node (xlength node turn p)
  xlength-done =
      reading-done (block_named p.space (argument p 0)) _ (λ found. return_outcome node turn p (length found.1.bytes)) (named-of p.space (argument p 0))
      (λ found at. returns-done (length found.1.bytes))

  -- ---- messages

  send_outcome-done : (found : ℕ × Block) → slice_get p.space.windows found.0 ≡ Some (Some found.1) → IsDone node (send_outcome node turn p found)
  send_outcome-done found at =
      cond_both (is_target node (place_named p 1))
      (leave_outcome node turn (process_left_behind found.0 p) (send_call turn.pid ((place_named p 1, found.1.id) ∷ []) found.1.bytes)) (return_outcome node turn p 1)
      (IsDone node)
      (λ t. leaves-done (process_left_behind found.0 p) node.store (send_call turn.pid ((place_named p 1, found.1.id) ∷ []) found.1.bytes) refl c.registers (process_without-windows found.0) c.well.store
      (λ id. omega (arith, count-unmapped id p.space.windows found.0 found.1 at, count-one id found.1.id)) (t, tt))
      (λ f. returns-done 1)

  pub xsend-done : IsDone node (xsend node turn p)
  xsend-done = reading-done (block_named p.space (argument p 0)) _ (send_outcome node turn p) (named-of p.space (argument p 0)) send_outcome-done
