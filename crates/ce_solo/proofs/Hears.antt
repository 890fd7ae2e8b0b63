-- What a node becomes by the answer to its call.
use Rattle.std.proofs.Common.{◌≡◌, ℕ, ◌+◌, ◌<◌, ◌≤◌, true, false, List, [], ◌∷◌, length, flat_map, Option, Some, None, IfSome, refl, ap, sym, ◌∙◌, subst, arith, length-set, length-append, replicate}
use Rattle.std.proofs.lemmas.Bool.{cond_both, eq-eqb, ne_eqb, ltb-true, both_ways}
use Rattle.std.proofs.lemmas.List.{get_or-set_same, get_or-set_other}
use Rattle.rv_model.specs.declared.stop.Stop.TheVariants.{Killed, WindowsSpent}
use Rattle.rv_model.specs.Image.{ImageParts}
use Rattle.rv_model.specs.declared.limits.TheConstants.{PRIVATE_END, REGISTER_COUNT}
use Rattle.ce_model.specs.declared.topology.BlockId.{BlockId}
use Rattle.ce_model.specs.declared.process.Status.TheVariants.{Unborn, Running, Asking, Polling, Stopped}
use Rattle.ce_model.specs.declared.process.Status.{Status}
use Rattle.ce_model.specs.Limits.{process_count, window_count, turn_instructions}
use Rattle.ce_model.specs.Blocks.{with_id}
use Rattle.ce_model.specs.Parcels.{Parcel}
use Rattle.ce_model.specs.Space.{window_start, has_unused_window, mapped_space, mapped_ids}
use Rattle.ce_model.specs.Process.{Process, started_process, with_answer, unborn_process, is_receiving, is_stopped}
use Rattle.ce_model.specs.Node.{Turn, Node, process_at, with_process, without_poller, with_stopped_process, blocks_of}
use Rattle.ce_model.specs.Hearing.{start_of, mail_of, kill_of, poll_of, answer_of, nothing, image_at, with_turn, with_answered_turn, with_stored_parcel, with_received_parcel, with_answered_call, node_after_hearing}
use Rattle.ce_model.specs.Sound.{is_unborn, IsSoundTurn}
use Rattle.ce_solo.proofs.Counting.{hit-self, count, count-nil, count-one, count-append, count-put, rising-put}
use Rattle.ce_solo.proofs.Windows.{same_held, ids-mapped}
use Rattle.ce_solo.proofs.Nodes.{polls-other, polls-without, IsWell, HasBecome, became-same, became-then, IsChange, change-blocks, change-well, change-became, stop-became, polls-once}
use Rattle.ce_solo.proofs.Words.{runs-became, in_turn-windows}
use Rattle.ce_solo.proofs.Says.{now_in_turn}

-- a node has become another by an answer
pub record HasHeardAnswer (node node' : Node) (come : List BlockId) : Type 0 where
  pub became : HasBecome node'.turn node node' come []
  pub turn : IfSome node'.turn IsSoundTurn

-- a process of the node was started
pub record HasStarted (node node' : Node) (pid : ℕ) : Type 0 where
  pub number : node'.number ≡ node.number
  pub dim : node'.dim ≡ node.dim
  pub home : node'.home ≡ node.home
  pub images : node'.images ≡ node.images
  pub well : IsWell node'.turn node'
  pub turn : IfSome node'.turn IsSoundTurn
  pub blocks : (id : BlockId) → count id (blocks_of node') ≡ count id (blocks_of node)
  pub born : is_unborn (process_at node' pid).status ≡ false
  pub others : (q : ℕ) → (q ≡ pid → ⊥) → process_at node' q ≡ process_at node q

-- the turn that begins
abbrev pub new_turn : ℕ → Turn
new_turn pid = record { pid = pid; instructions_left = turn_instructions; calls = 0 }

pub new_turn-sound : (pid : ℕ) → pid < process_count → IsSoundTurn (new_turn pid)
new_turn-sound pid within = record { pid = within; instructions_left = omega arith; calls = omega arith }

-- a turn begins in a node without one
begins-change : (node : Node) (pid : ℕ) (p : Process) (come : List BlockId) → IsWell None node → pid < process_count → length p.registers ≡ REGISTER_COUNT
    → length p.space.windows ≤ window_count
    → ((id : BlockId) → count id (mapped_ids p.space) ≡ count id (mapped_ids (process_at node pid).space) + count id come)
    → ((id : BlockId) → count id (blocks_of node) + count id come ≤ 1)
    → IsChange None (Some (new_turn pid)) node pid (record p { status = Running }) node.store (without_poller pid node.polling_ids) come []
begins-change node pid p come well within registers windows blocks once = record {
  well = well;
  within = within;
  process = record {
    registers = registers;
    windows = windows;
    unborn_used = λ h. absurd (both_ways _ refl h);
    stopped_holds = λ h. absurd (both_ways _ refl h);
    running = sym (eq-eqb pid pid refl);
  };
  turns = λ q differ. ne_eqb pid q (λ e. differ (sym e));
  rising = well.store;
  poll = polls-without pid node.polling_ids (polls-once None node pid well within);
  others_poll = λ q differ. polls-other pid q node.polling_ids differ;
  blocks = λ id. omega (arith, blocks id, count-nil id);
  once = once;
}

begins-hears : (node : Node) (pid : ℕ) (p : Process) (come : List BlockId) → IsWell None node → pid < process_count → length p.registers ≡ REGISTER_COUNT
    → length p.space.windows ≤ window_count → is_unborn (process_at node pid).status ≡ false → is_stopped (process_at node pid).status ≡ false
    → ((id : BlockId) → count id (mapped_ids p.space) ≡ count id (mapped_ids (process_at node pid).space) + count id come)
    → ((id : BlockId) → count id (blocks_of node) + count id come ≤ 1)
    → HasHeardAnswer node (with_turn node pid p) come
begins-hears node pid p come well within registers windows born going blocks once = record {
  became = change-became None (Some (new_turn pid)) (Some (new_turn pid)) node pid (record p { status = Running }) node.store (without_poller pid node.polling_ids) come []
      (begins-change node pid p come well within registers windows blocks once) (sym born) (λ h. absurd (both_ways _ going h));
  turn = new_turn-sound pid within;
}

-- a process that receives is neither unborn nor stopped
pub receiving_is : (s : Status) → is_receiving s ≡ true → (is_unborn s ≡ false) × (is_stopped s ≡ false)
receiving_is Unborn h = absurd (both_ways _ refl h)
receiving_is Running h = absurd (both_ways _ refl h)
receiving_is Asking h = (refl, refl)
receiving_is Polling h = (refl, refl)
receiving_is (Stopped cause) h = absurd (both_ways _ refl h)

-- a process that was not started is one that is unborn
pub unborn-is : (status : Status) → is_unborn status ≡ true → status ≡ Unborn
unborn-is Unborn is = refl
unborn-is Running is = absurd (cc)
unborn-is Asking is = absurd (cc)
unborn-is Polling is = absurd (cc)
unborn-is (Stopped cause) is = absurd (cc)

pub born-is : (status : Status) → is_unborn status ≡ false → ¬ (status ≡ Unborn)
born-is status born e = absurd (both_ways (is_unborn status) born (ap is_unborn e))

-- ---- mail

stored-hears : (node : Node) (parcel : Parcel) → IsWell None node → node.turn ≡ None
    → ((id : BlockId) → count id (blocks_of node) + count id (parcel.block.id ∷ []) ≤ 1)
    → HasBecome None node (with_stored_parcel node parcel) (parcel.block.id ∷ []) []
stored-hears node parcel well none once =
    let others = flat_map (λ (q : Process). mapped_ids q.space) node.processes in
    let blocks : (id : BlockId) → count id (blocks_of (with_stored_parcel node parcel)) ≡ count id (blocks_of node) + count id (parcel.block.id ∷ []) =
    λ id. omega (arith, count-append id (with_id parcel.block.id node.store) others, count-append id node.store others, count-put id parcel.block.id node.store, count-one id parcel.block.id) in
    record {
      number = refl;
      dim = refl;
      home = refl;
      images = refl;
      well = record {
        process_ids = well.process_ids;
        processes = well.processes;
        polling_ids = well.polling_ids;
        store = rising-put parcel.block.id node.store well.store
            (omega (arith, once parcel.block.id, count-one parcel.block.id parcel.block.id, hit-self parcel.block.id, count-append parcel.block.id node.store others));
        once = λ id. omega (arith, blocks id, once id);
      };
      blocks = λ id. omega (arith, blocks id, count-nil id);
      unborn = λ pid. refl;
      stopped = λ pid h. h;
    }

gets-hears : (node : Node) (parcel : Parcel) → IsWell None node → node.turn ≡ None → parcel.to.pid < process_count
    → ((id : BlockId) → count id (blocks_of node) + count id (parcel.block.id ∷ []) ≤ 1)
    → is_receiving (process_at node parcel.to.pid).status ≡ true → HasHeardAnswer node (with_received_parcel node parcel (process_at node parcel.to.pid)) (parcel.block.id ∷ [])
gets-hears node parcel well none within once receives =
    let pid = parcel.to.pid in
    let p = process_at node pid in
    let is = receiving_is p.status receives in
    let of = well.processes pid within in
    cond_both (has_unused_window p.space)
    (with_answered_turn node pid (record p { space = mapped_space parcel.block p.space }) (window_start (length p.space.windows)))
    (with_stopped_process (with_stored_parcel node parcel) pid p WindowsSpent) (λ node'. HasHeardAnswer node node' (parcel.block.id ∷ []))
    (λ room.
    begins-hears node pid (with_answer (window_start (length p.space.windows)) (record p { space = mapped_space parcel.block p.space })) (parcel.block.id ∷ []) well within
    (length-set p.registers 10 (window_start (length p.space.windows)) ∙ of.registers)
    (omega (arith, ltb-true _ _ room, length-append p.space.windows (Some parcel.block ∷ []))) is.0 is.1
    (λ id. omega (arith, ap (count id) (ids-mapped parcel.block p.space), count-append id (mapped_ids p.space) (parcel.block.id ∷ []))) once)
    (λ full.
    let stored = stored-hears node parcel well none once in
    record {
      became = became-then stored
          (stop-became None (with_stored_parcel node parcel) pid p WindowsSpent stored.well within of.registers of.windows (same_held p.space) (λ q differ. refl) is.0);
      turn = tt;
    })

pub mail-hears : (images : List ImageParts) (node : Node) (parcel : Parcel) → IsWell None node → node.turn ≡ None → parcel.to.pid < process_count
    → ((id : BlockId) → count id (blocks_of node) + count id (parcel.block.id ∷ []) ≤ 1) → HasHeardAnswer node (node_after_hearing images node (mail_of parcel)) (parcel.block.id ∷ [])
unfolding node_after_hearing
mail-hears images node parcel well none within once =
    cond_both (is_receiving (process_at node parcel.to.pid).status) (with_received_parcel node parcel (process_at node parcel.to.pid)) (with_stored_parcel node parcel)
    (λ node'. HasHeardAnswer node node' (parcel.block.id ∷ [])) (gets-hears node parcel well none within once)
    (λ f. record {
      became = subst (λ turn. HasBecome turn node (with_stored_parcel node parcel) (parcel.block.id ∷ []) []) (sym none) (stored-hears node parcel well none once);
      turn = subst (λ turn. IfSome turn IsSoundTurn) (sym none) tt;
    })

-- ---- the other answers

same-hears : (node : Node) → IsWell node.turn node → IfSome node.turn IsSoundTurn → HasHeardAnswer node node []
same-hears node well sound = record { became = became-same node.turn node well; turn = sound }

none-hears : (node : Node) → IsWell None node → node.turn ≡ None → HasHeardAnswer node node []
none-hears node well none = same-hears node (subst (λ turn. IsWell turn node) (sym none) well) (subst (λ turn. IfSome turn IsSoundTurn) (sym none) tt)

pub nothing-hears : (images : List ImageParts) (node : Node) → IsWell node.turn node → IfSome node.turn IsSoundTurn → HasHeardAnswer node (node_after_hearing images node nothing) []
unfolding node_after_hearing
nothing-hears images node well sound = same-hears node well sound

pub kill-hears : (images : List ImageParts) (node : Node) (pid : ℕ) → IsWell None node → node.turn ≡ None → pid < process_count
    → is_unborn (process_at node pid).status ≡ false → HasHeardAnswer node (node_after_hearing images node (kill_of pid)) []
unfolding node_after_hearing
kill-hears images node pid well none within born =
    let of = well.processes pid within in
    cond_both (is_stopped (process_at node pid).status) node (with_stopped_process node pid (process_at node pid) Killed) (λ node'. HasHeardAnswer node node' [])
    (λ t. none-hears node well none)
    (λ f. record {
      became = stop-became None node pid (process_at node pid) Killed well within of.registers of.windows (same_held (process_at node pid).space) (λ q differ. refl) born;
      turn = tt;
    })

pub poll-hears : (images : List ImageParts) (node : Node) (pid : ℕ) → IsWell None node → pid < process_count
    → is_unborn (process_at node pid).status ≡ false → is_stopped (process_at node pid).status ≡ false → HasHeardAnswer node (node_after_hearing images node (poll_of pid)) []
unfolding node_after_hearing
poll-hears images node pid well within born going =
    let of = well.processes pid within in
    begins-hears node pid (with_answer 0 (process_at node pid)) [] well within (length-set (process_at node pid).registers 10 0 ∙ of.registers) of.windows born going
    (λ id. omega (arith, count-nil id)) (λ id. omega (arith, well.once id, count-nil id))

told-in : (node : Node) (value : ℕ) (turn : Option Turn) → node.turn ≡ turn → IsWell turn node → IfSome turn IsSoundTurn → HasHeardAnswer node (with_answered_call value node turn) []
told-in node value None is well sound = none-hears node well is
told-in node value (Some turn) is well sound =
    let p = process_at node turn.pid in
    let c = now_in_turn node turn well sound in
    record {
      became = subst (λ now. HasBecome now node (with_process node turn.pid (with_answer value p)) [] []) (sym is)
          (runs-became node turn p c turn node.turn (with_answer value p) node.store [] refl refl (length-set p.registers 10 value ∙ c.registers)
          (in_turn-windows node turn p c) well.store (λ id. omega (arith, count-nil id)));
      turn = subst (λ now. IfSome now IsSoundTurn) (sym is) sound;
    }

pub told-hears : (images : List ImageParts) (node : Node) (value : ℕ) → IsWell node.turn node → IfSome node.turn IsSoundTurn → HasHeardAnswer node (node_after_hearing images node (answer_of value)) []
unfolding node_after_hearing
told-hears images node value well sound = told-in node value node.turn refl well sound

-- ---- a start

pub start-begins : (images : List ImageParts) (node : Node) (pid image : ℕ) → IsWell None node → pid < process_count → is_unborn (process_at node pid).status ≡ true
    → HasStarted node (node_after_hearing images node (start_of pid image)) pid
unfolding node_after_hearing
start-begins images node pid image well within unborn =
    let p = started_process (image_at images image) in
    let none = (well.processes pid within).unborn_used unborn in
    let change = begins-change node pid p [] well within (length-set (replicate REGISTER_COUNT 0) 2 PRIVATE_END) (omega arith)
    (λ id. omega (arith, ap (λ windows. count id (mapped_ids (record { private = (process_at node pid).space.private; windows = windows }))) none, count-nil id))
    (λ id. omega (arith, well.once id, count-nil id)) in
    record {
      number = refl;
      dim = refl;
      home = refl;
      images = refl;
      well = change-well None (Some (new_turn pid)) (Some (new_turn pid)) node pid (record p { status = Running }) node.store (without_poller pid node.polling_ids) [] [] change;
      turn = new_turn-sound pid within;
      blocks = λ id. omega (arith, count-nil id, change-blocks None (Some (new_turn pid)) (Some (new_turn pid)) node pid (record p { status = Running }) node.store (without_poller pid node.polling_ids) [] [] change id);
      born = ap (λ (q : Process). is_unborn q.status) (get_or-set_same node.processes pid (record p { status = Running }) unborn_process (omega (arith, within, well.process_ids)));
      others = λ q differ. get_or-set_other node.processes pid q (record p { status = Running }) unborn_process differ;
    }
