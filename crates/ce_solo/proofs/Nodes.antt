-- What a node keeps when one of its processes changes: its limits, the list of those that poll, and
-- its blocks.
use Rattle.std.proofs.Common.{◌≡◌, ℕ, ◌+◌, ◌<◌, ◌≤◌, true, false, ◌==◌, if◌then◌else◌, List, [], ◌∷◌, ◌++◌, length, flat_map, slice_set, slice_index_or, count_by, Option, Some, None, IsTrue, refl, ap, sym, ◌∙◌, subst, arith, length-set, inl, inr}
use Rattle.std.proofs.lemmas.Bool.{cond_both, cases_eq, eqb-true, ne_eqb, cases_Bool, both_ways}
use Rattle.std.proofs.lemmas.List.{get_or-set_same, get_or-set_other, length-map}
use Rattle.std.proofs.lemmas.List.Sums.{sum_by-cons, sum_by-append}
use Rattle.rv_model.specs.declared.limits.TheConstants.{REGISTER_COUNT}
use Rattle.rv_model.specs.declared.stop.Stop.{Stop}
use Rattle.ce_model.specs.declared.topology.BlockId.{BlockId}
use Rattle.ce_model.specs.Limits.{process_count, window_count}
use Rattle.ce_model.specs.Blocks.{Block, with_ids}
use Rattle.ce_model.specs.Space.{mapped_ids}
use Rattle.ce_model.specs.Process.{Process, is_stopped, unborn_process, ended_process}
use Rattle.ce_model.specs.Node.{Turn, Node, process_at, without_poller, with_stopped_process, blocks_of}
use Rattle.ce_model.specs.Sound.{is_unborn, is_running, is_polling, is_turn_of, AreRisingIds}
use Rattle.ce_solo.proofs.Counting.{count, count-nil, count-append, count-put_all, count-set, count-piece, rising-put_all}
use Rattle.ce_solo.proofs.Windows.{IsSameHeld, ids-emptied}

-- ---- those that poll

-- how often an id is in the list of those that poll
abbrev pub polls : ℕ → List ℕ → ℕ
polls pid polling = count_by (λ other. other == pid) polling

polls-cons : (pid x : ℕ) (xs : List ℕ) → polls pid (x ∷ xs) ≡ (if x == pid then 1 else 0) + polls pid xs
polls-cons pid x xs = sum_by-cons (λ other. if other == pid then 1 else 0) x xs

pub polls-other : (pid q : ℕ) (xs : List ℕ) → (q ≡ pid → ⊥) → polls q (without_poller pid xs) ≡ polls q xs
polls-other pid q [] differ = refl
polls-other pid q (x ∷ xs) differ =
    cond_both (x == pid) xs (x ∷ without_poller pid xs) (λ ys. polls q ys ≡ polls q (x ∷ xs))
    (λ t. let no : (x == q) ≡ false = ne_eqb x q (λ e. differ (sym e ∙ eqb-true x pid t)) in
    omega (arith, polls-cons q x xs, ap {B = ℕ} (λ b. if b then 1 else 0) no))
    (λ f. omega (arith, polls-cons q x xs, polls-cons q x (without_poller pid xs), polls-other pid q xs differ))

pub polls-without : (pid : ℕ) (xs : List ℕ) → polls pid xs ≤ 1 → polls pid (without_poller pid xs) ≡ 0
polls-without pid [] once = refl
polls-without pid (x ∷ xs) once =
    cond_both (x == pid) xs (x ∷ without_poller pid xs) (λ ys. polls pid ys ≡ 0)
    (λ t. omega (arith, once, polls-cons pid x xs, ap {B = ℕ} (λ b. if b then 1 else 0) t))
    (λ f. let none = polls-without pid xs (omega (arith, once, polls-cons pid x xs)) in
    omega (arith, none, polls-cons pid x (without_poller pid xs), ap {B = ℕ} (λ b. if b then 1 else 0) f))

pub polls-more : (pid q : ℕ) (xs : List ℕ) → polls q (xs ++ pid ∷ []) ≡ polls q xs + (if pid == q then 1 else 0)
polls-more pid q xs =
    omega (arith, sum_by-append (λ other. if other == q then 1 else 0) xs (pid ∷ []), polls-cons q pid [])

-- ---- what a node is within

-- a process of a node whose turn this is
pub record IsWellProcess (turn : Option Turn) (pid : ℕ) (p : Process) : Type 0 where
  pub registers : length p.registers ≡ REGISTER_COUNT
  pub windows : length p.space.windows ≤ window_count
  pub unborn_used : IsTrue (is_unborn p.status) → p.space.windows ≡ []
  pub stopped_holds : IsTrue (is_stopped p.status) → mapped_ids p.space ≡ []
  pub running : is_running p.status ≡ is_turn_of pid turn

-- a node whose turn this is, whatever it keeps as its turn; no block is at two places in it
pub record IsWell (turn : Option Turn) (node : Node) : Type 0 where
  pub process_ids : length node.processes ≡ process_count
  pub processes : (pid : ℕ) → pid < process_count → IsWellProcess turn pid (process_at node pid)
  pub polling_ids : (pid : ℕ) → polls pid node.polling_ids ≡ (if is_polling (process_at node pid).status then 1 else 0)
  pub store : AreRisingIds node.store
  pub once : (id : BlockId) → count id (blocks_of node) ≤ 1

-- a node is as well at another point of its process's turn
pub well-turn : (node : Node) (turn : Turn) (left calls : ℕ) → IsWell (Some turn) node → IsWell (Some (record turn { instructions_left = left; calls = calls })) node
well-turn node turn left calls well = record {
  process_ids = well.process_ids;
  processes = λ q h. let was = well.processes q h in
      record { registers = was.registers; windows = was.windows; unborn_used = was.unborn_used; stopped_holds = was.stopped_holds; running = was.running };
  polling_ids = well.polling_ids;
  store = well.store;
  once = well.once;
}

-- a node has become another, whose turn this is: blocks came and went, no process was born, and who
-- has stopped has stopped
pub record HasBecome (turn : Option Turn) (node node' : Node) (come gone : List BlockId) : Type 0 where
  pub number : node'.number ≡ node.number
  pub dim : node'.dim ≡ node.dim
  pub home : node'.home ≡ node.home
  pub images : node'.images ≡ node.images
  pub well : IsWell turn node'
  pub blocks : (id : BlockId) → count id (blocks_of node') + count id gone ≡ count id (blocks_of node) + count id come
  pub unborn : (pid : ℕ) → is_unborn (process_at node' pid).status ≡ is_unborn (process_at node pid).status
  pub stopped : (pid : ℕ) → is_stopped (process_at node pid).status ≡ true → is_stopped (process_at node' pid).status ≡ true

pub became-same : (turn : Option Turn) (node : Node) → IsWell turn node → HasBecome turn node node [] []
became-same turn node well = record {
  number = refl;
  dim = refl;
  home = refl;
  images = refl;
  well = well;
  blocks = λ id. refl;
  unborn = λ pid. refl;
  stopped = λ pid h. h;
}

pub became-then : {turn turn' : Option Turn} {a b c : Node} {come gone come' gone' : List BlockId}
    → HasBecome turn a b come gone → HasBecome turn' b c come' gone' → HasBecome turn' a c (come ++ come') (gone ++ gone')
became-then {come = come} {gone = gone} {come' = come'} {gone' = gone'} first next = record {
  number = next.number ∙ first.number;
  dim = next.dim ∙ first.dim;
  home = next.home ∙ first.home;
  images = next.images ∙ first.images;
  well = next.well;
  blocks = λ id. omega (arith, first.blocks id, next.blocks id, count-append id come come', count-append id gone gone');
  unborn = λ pid. next.unborn pid ∙ first.unborn pid;
  stopped = λ pid h. next.stopped pid (first.stopped pid h);
}

-- ---- one process changes

-- what holds of each process once one of them is as given
pub at_changed : (ps : List Process) (pid : ℕ) (p : Process) (P : ℕ → Process → Type 0) → pid < length ps → P pid p
    → ((q : ℕ) → (q ≡ pid → ⊥) → P q (slice_index_or ps q unborn_process)) → (q : ℕ) → P q (slice_index_or (slice_set ps pid p) q unborn_process)
at_changed ps pid p P within here others q =
    elim (cases_eq q pid) [
      | inl same ↦
          subst (λ k. P k (slice_index_or (slice_set ps pid p) k unborn_process)) (sym same)
          (subst (P pid) (sym (get_or-set_same ps pid p unborn_process within)) here)
      | inr differ ↦ subst (P q) (sym (get_or-set_other ps pid q p unborn_process differ)) (others q differ)
    ]

-- the node whose process, store and list of those that poll are as given
abbrev pub changed_to : Node → ℕ → Process → List BlockId → List ℕ → Option Turn → Node
changed_to node pid p store polling turn =
    record node { processes = slice_set node.processes pid p; store = store; polling_ids = polling; turn = turn }

-- a change of a node that leaves it well
pub record IsChange (turn turn' : Option Turn) (node : Node) (pid : ℕ) (p : Process) (store : List BlockId) (polling : List ℕ) (come gone : List BlockId) : Type 0 where
  pub well : IsWell turn node
  pub within : pid < process_count
  pub process : IsWellProcess turn' pid p
  pub turns : (q : ℕ) → (q ≡ pid → ⊥) → is_turn_of q turn' ≡ is_turn_of q turn
  pub rising : AreRisingIds store
  pub poll : polls pid polling ≡ (if is_polling p.status then 1 else 0)
  pub others_poll : (q : ℕ) → (q ≡ pid → ⊥) → polls q polling ≡ polls q node.polling_ids
  pub blocks : (id : BlockId)
      → count id store + count id (mapped_ids p.space) + count id gone
      ≡ count id node.store + count id (mapped_ids (process_at node pid).space) + count id come
  pub once : (id : BlockId) → count id (blocks_of node) + count id come ≤ 1

module _ (turn turn' turn'' : Option Turn) (node : Node) (pid : ℕ) (p : Process) (store : List BlockId) (polling : List ℕ) (come gone : List BlockId) (c : IsChange turn turn' node pid p store polling come gone) where
  within_list : pid < length node.processes
  within_list = omega (arith, c.within, c.well.process_ids)

  pub change-blocks : (id : BlockId)
      → count id (blocks_of (changed_to node pid p store polling turn'')) + count id gone ≡ count id (blocks_of node) + count id come
  change-blocks id =
      omega (
        arith,
        c.blocks id,
        count-append id store (flat_map (λ q. mapped_ids q.space) (slice_set node.processes pid p)),
        count-append id node.store (flat_map (λ q. mapped_ids q.space) node.processes),
        count-set id (λ (q : Process). mapped_ids q.space) node.processes pid p unborn_process within_list,
      )

  well_process : (q : ℕ) → q < process_count → IsWellProcess turn' q (process_at (changed_to node pid p store polling turn'') q)
  well_process =
      at_changed node.processes pid p (λ q r. q < process_count → IsWellProcess turn' q r) within_list (λ h. c.process)
      (λ q differ h. let was = c.well.processes q h in
      record { registers = was.registers; windows = was.windows; unborn_used = was.unborn_used; stopped_holds = was.stopped_holds; running = was.running ∙ sym (c.turns q differ) })

  pub change-well : IsWell turn' (changed_to node pid p store polling turn'')
  change-well = record {
    process_ids = length-set node.processes pid p ∙ c.well.process_ids;
    processes = well_process;
    polling_ids = at_changed node.processes pid p (λ q r. polls q polling ≡ (if is_polling r.status then 1 else 0)) within_list c.poll
        (λ q differ. c.others_poll q differ ∙ c.well.polling_ids q);
    store = c.rising;
    once = λ id. omega (arith, change-blocks id, c.once id);
  }

  pub change-became : is_unborn p.status ≡ is_unborn (process_at node pid).status
      → (is_stopped (process_at node pid).status ≡ true → is_stopped p.status ≡ true)
      → HasBecome turn' node (changed_to node pid p store polling turn'') come gone
  change-became same_birth stays = record {
    number = refl;
    dim = refl;
    home = refl;
    images = refl;
    well = change-well;
    blocks = change-blocks;
    unborn = at_changed node.processes pid p (λ q r. is_unborn r.status ≡ is_unborn (process_at node q).status) within_list same_birth (λ q differ. refl);
    stopped = at_changed node.processes pid p (λ q r. is_stopped (process_at node q).status ≡ true → is_stopped r.status ≡ true) within_list stays (λ q differ h. h);
  }

-- ---- a process stops

pub polls-once : (turn : Option Turn) (node : Node) (pid : ℕ) → IsWell turn node → pid < process_count → polls pid node.polling_ids ≤ 1
polls-once turn node pid well within =
    let at = well.polling_ids pid in
    elim (cases_Bool (is_polling (process_at node pid).status)) [
      | inl t ↦ omega (arith, at, ap {B = ℕ} (λ b. if b then 1 else 0) t)
      | inr f ↦ omega (arith, at, ap {B = ℕ} (λ b. if b then 1 else 0) f)
    ]

-- blocks of a process and of the store of its node are at one place
pub once_together : (turn : Option Turn) (node : Node) (pid : ℕ) (id : BlockId) → IsWell turn node → pid < process_count
    → count id (mapped_ids (process_at node pid).space) + count id node.store ≤ 1
once_together turn node pid id well within =
    omega (
      arith,
      well.once id,
      count-append id node.store (flat_map (λ q. mapped_ids q.space) node.processes),
      count-piece id (λ (q : Process). mapped_ids q.space) node.processes pid unborn_process (omega (arith, well.process_ids)),
    )

abbrev empty_window : Option Block → Option Block
empty_window window = None

pub stop-change : (turn : Option Turn) (node : Node) (pid : ℕ) (p : Process) (cause : Stop) → IsWell turn node → pid < process_count
    → length p.registers ≡ REGISTER_COUNT → length p.space.windows ≤ window_count → IsSameHeld (process_at node pid).space p.space
    → ((q : ℕ) → (q ≡ pid → ⊥) → is_turn_of q turn ≡ false)
    → IsChange turn None node pid (ended_process cause p) (with_ids (mapped_ids p.space) node.store) (without_poller pid node.polling_ids) [] []
stop-change turn node pid p cause well within registers windows held turns = record {
  well = well;
  within = within;
  process = record {
    registers = registers;
    windows = omega (arith, windows, length-map p.space.windows empty_window);
    unborn_used = λ h. absurd (both_ways _ refl h);
    stopped_holds = λ h. ids-emptied p.space.windows;
    running = refl;
  };
  turns = λ q differ. sym (turns q differ);
  rising = rising-put_all (mapped_ids p.space) node.store well.store
      (λ id. omega (arith, once_together turn node pid id well within, ap (count id) held.ids));
  poll = polls-without pid node.polling_ids (polls-once turn node pid well within);
  others_poll = λ q differ. polls-other pid q node.polling_ids differ;
  blocks = λ id. omega (arith, count-put_all id (mapped_ids p.space) node.store, ap (count id) held.ids, ap (count id) (ids-emptied p.space.windows), count-nil id);
  once = λ id. omega (arith, well.once id, count-nil id);
}

-- a born process stops: its blocks go to the store
pub stop-became : (turn : Option Turn) (node : Node) (pid : ℕ) (p : Process) (cause : Stop) → IsWell turn node → pid < process_count
    → length p.registers ≡ REGISTER_COUNT → length p.space.windows ≤ window_count → IsSameHeld (process_at node pid).space p.space
    → ((q : ℕ) → (q ≡ pid → ⊥) → is_turn_of q turn ≡ false) → is_unborn (process_at node pid).status ≡ false
    → HasBecome None node (with_stopped_process node pid p cause) [] []
stop-became turn node pid p cause well within registers windows held turns born =
    change-became turn None None node pid (ended_process cause p) (with_ids (mapped_ids p.space) node.store) (without_poller pid node.polling_ids) [] []
    (stop-change turn node pid p cause well within registers windows held turns) (sym born) (λ h. refl)
