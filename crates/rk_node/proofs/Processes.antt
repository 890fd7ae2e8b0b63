-- The processes of a node, and what changes of one of them make of the node.
use Rattle.std.proofs.Common.{◌≡◌, ℕ, zero, suc, ◌+◌, ◌<◌, ◌≤◌, List, [], ◌∷◌, length, map, slice_set, slice_index_or, Option, Some, true, IsTrue, length-set, refl, ap, sym, ◌∙◌, subst, arith, add-zero, inl, inr}
use Rattle.std.proofs.lemmas.Bool.{cases_eq, ltb-true, eq-eqb}
use Rattle.std.proofs.lemmas.List.{get_or_read, get_or-set_same, get_or-set_other}
use Rattle.ce_model.specs.Limits.{window_count, process_count}
use Rattle.ce_model.specs.Space.{has_unused_window}
use Rattle.ce_model.specs.Process.{Process, unborn_process}
use Rattle.ce_model.specs.Node as model
use Rattle.ce_model.specs.declared.process.Status.{Status}
use Rattle.ce_model.specs.Blocks.{Block}
use Rattle.xm_owner.specs.Holdings.{Mapping, block_held_at, without_process, HasChangedOnly}
use Rattle.xm_owner.proofs.Mappings.{held_at-drained_other}
use Rattle.ce_model.specs.declared.process.Status.TheVariants.{Unborn, Running, Asking, Polling, Stopped}
use Rattle.ce_model.specs.Sound.{is_running}
use Rattle.ce_solo.proofs.Nodes.{IsWell}
use Rattle.rk_process.specs.OwnStates.{OwnState, place_of, unborn_state, windows_of, process_with_mappings}
use Rattle.rk_process.proofs.Found.{length-windows_of}
use Rattle.rk_node.proofs.Windows.{windows-same}
use Rattle.rk_node.specs.declared.node.Node.{Node}
use Rattle.rk_node.specs.Standing.{node_model, later_processes, processes_of}
use Rattle.rk_node.specs.Tables.{used_count_of, AreUsedWindows, IsStocked}

length-processes_from : (mappings : List Mapping) (pid : ℕ) (owns : List OwnState) → length (later_processes mappings pid owns) ≡ length owns
length-processes_from mappings pid [] = refl
length-processes_from mappings pid (own ∷ owns) = ap suc (length-processes_from mappings (pid + 1) owns)

pub length-processes : (node : Node) → length (node_model node).processes ≡ process_count
length-processes node = length-processes_from node.held_blocks.mappings 0 node.processes.items ∙ node.stocked.every_id

-- the process of an id
pub process_from : (mappings : List Mapping) (pid : ℕ) (owns : List OwnState) (k : ℕ) → k < length owns
    → slice_index_or (later_processes mappings pid owns) k unborn_process ≡ process_with_mappings mappings (pid + k) (slice_index_or owns k unborn_state)
process_from mappings pid [] k h = absurd (omega arith)
process_from mappings pid (own ∷ owns) zero h = ap (λ q. process_with_mappings mappings q own) (sym (add-zero pid))
process_from mappings pid (own ∷ owns) (suc k) h =
    process_from mappings (pid + 1) owns k (omega arith) ∙ ap (λ q. process_with_mappings mappings q (slice_index_or owns k unborn_state)) (omega arith)

pub process_of-at : (mappings : List Mapping) (owns : List OwnState) (pid : ℕ) → pid < length owns
    → slice_index_or (processes_of mappings owns) pid unborn_process ≡ process_with_mappings mappings pid (slice_index_or owns pid unborn_state)
process_of-at mappings owns pid h =
    process_from mappings 0 owns pid h ∙ ap {B = Process} (λ q. process_with_mappings mappings q (slice_index_or owns pid unborn_state)) (omega arith)

-- two maps hold the same for all processes but one
abbrev pub IsSameBut : ℕ → List Mapping → List Mapping → List OwnState → Type 0
IsSameBut pid before after owns =
    (q : ℕ) → (q ≡ pid → ⊥) → windows_of after q (used_count_of owns q) ≡ windows_of before q (used_count_of owns q)

-- all processes of a list from an id on, none of which is the one that changes
same_from : (before after : List Mapping) (at : ℕ) (owns : List OwnState)
    → ((k : ℕ) → k < length owns → windows_of after (at + k) (used_count_of owns k) ≡ windows_of before (at + k) (used_count_of owns k))
    → later_processes after at owns ≡ later_processes before at owns
same_from before after at [] same = refl
same_from before after at (own ∷ owns) same =
    let here : windows_of after at own.used_count ≡ windows_of before at own.used_count =
    subst (λ q. windows_of after q own.used_count ≡ windows_of before q own.used_count) (add-zero at) (same 0 (omega arith)) in
    let rest = same_from before after (at + 1) owns (λ k h.
    subst (λ q. windows_of after q (used_count_of owns k) ≡ windows_of before q (used_count_of owns k)) (omega arith) (same (suc k) (omega arith))) in
    ap (λ windows. record { status = own.status; registers = own.registers; pc = own.pc; space = record { private = own.private; windows = windows } } ∷ later_processes after (at + 1) owns) here
    ∙ ap (λ ps. process_with_mappings before at own ∷ ps) rest

set_from : (before after : List Mapping) (at : ℕ) (owns : List OwnState) (k : ℕ) (own : OwnState) → k < length owns
    → ((j : ℕ) → (j ≡ k → ⊥) → windows_of after (at + j) (used_count_of owns j) ≡ windows_of before (at + j) (used_count_of owns j))
    → later_processes after at (slice_set owns k own) ≡ slice_set (later_processes before at owns) k (process_with_mappings after (at + k) own)
set_from before after at [] k own h same = absurd (omega arith)
set_from before after at (first ∷ owns) zero own h same =
    let rest = same_from before after (at + 1) owns (λ k h.
    subst (λ q. windows_of after q (used_count_of owns k) ≡ windows_of before q (used_count_of owns k)) (omega arith) (same (suc k) (λ e. omega (arith, e)))) in
    ap (λ ps. process_with_mappings after at own ∷ ps) rest ∙ ap (λ q. process_with_mappings after q own ∷ later_processes before (at + 1) owns) (sym (add-zero at))
set_from before after at (first ∷ owns) (suc k) own h same =
    let here : windows_of after at first.used_count ≡ windows_of before at first.used_count =
    subst (λ q. windows_of after q first.used_count ≡ windows_of before q first.used_count) (add-zero at) (same 0 (λ e. omega (arith, e))) in
    let rest = set_from before after (at + 1) owns k own (omega arith) (λ j differ.
    subst (λ q. windows_of after q (used_count_of owns j) ≡ windows_of before q (used_count_of owns j)) (omega arith) (same (suc j) (λ e. differ (omega (arith, e))))) in
    ap (λ windows. record { status = first.status; registers = first.registers; pc = first.pc; space = record { private = first.private; windows = windows } } ∷ later_processes after (at + 1) (slice_set owns k own)) here
    ∙ ap (λ ps. process_with_mappings before at first ∷ ps) (rest ∙ ap (λ q. slice_set (later_processes before (at + 1) owns) k (process_with_mappings after q own)) (omega arith))

-- one process changes, and with it no more of the map than its own windows
pub processes-set : (before after : List Mapping) (owns : List OwnState) (pid : ℕ) (own : OwnState) → pid < length owns → IsSameBut pid before after owns
    → processes_of after (slice_set owns pid own) ≡ slice_set (processes_of before owns) pid (process_with_mappings after pid own)
processes-set before after owns pid own h same =
    set_from before after 0 owns pid own h (λ j differ. subst (λ q. windows_of after q (used_count_of owns j) ≡ windows_of before q (used_count_of owns j)) (omega arith) (same j differ))
    ∙ ap (λ q. slice_set (processes_of before owns) pid (process_with_mappings after q own)) (omega arith)

-- a process changes that is put back
pub set-twice : {X : Type 0} (xs : List X) (k : ℕ) (a b : X) → slice_set (slice_set xs k a) k b ≡ slice_set xs k b
set-twice [] k a b = refl
set-twice (x ∷ xs) zero a b = refl
set-twice (x ∷ xs) (suc k) a b = ap (λ ys. x ∷ ys) (set-twice xs k a b)

pub set-same : {X : Type 0} (xs : List X) (k : ℕ) (d : X) → slice_set xs k (slice_index_or xs k d) ≡ xs
set-same [] k d = refl
set-same (x ∷ xs) zero d = refl
set-same (x ∷ xs) (suc k) d = ap (λ ys. x ∷ ys) (set-same xs k d)

-- a process that was read from the list
pub process-read : (mappings : List Mapping) (owns : List OwnState) (pid : ℕ) (own : OwnState) → pid < length owns → own ≡ slice_index_or owns pid own
    → slice_index_or (processes_of mappings owns) pid unborn_process ≡ process_with_mappings mappings pid own
process-read mappings owns pid own h read =
    process_of-at mappings owns pid h ∙ ap (process_with_mappings mappings pid) (sym (get_or_read owns pid own h read unborn_state))

-- ---- a change of one process

-- the process that was read becomes another, as the model has it
pub processes-change : (before after : List Mapping) (owns : List OwnState) (pid : ℕ) (own own' : OwnState) (change : Process → Process)
    → pid < length owns → own ≡ slice_index_or owns pid own → IsSameBut pid before after owns
    → process_with_mappings after pid own' ≡ change (process_with_mappings before pid own)
    → processes_of after (slice_set owns pid own') ≡ slice_set (processes_of before owns) pid (change (slice_index_or (processes_of before owns) pid unborn_process))
processes-change before after owns pid own own' change h read same e =
    processes-set before after owns pid own' h same
    ∙ ap (slice_set (processes_of before owns) pid) (e ∙ ap change (sym (process-read before owns pid own h read)))

-- the windows of the map stay within those that were used, where none is used less
pub within-grown : (owns owns' : List OwnState) (places : List (ℕ × ℕ)) → ((q : ℕ) → used_count_of owns q ≤ used_count_of owns' q) → AreUsedWindows owns places → AreUsedWindows owns' places
within-grown owns owns' [] grown within = tt
within-grown owns owns' (place ∷ places) grown within =
    (let more = grown place.0 in omega (arith, within.0, more), within-grown owns owns' places grown within.1)

pub used-set : (owns : List OwnState) (pid : ℕ) (own own' : OwnState) → pid < length owns → own ≡ slice_index_or owns pid own → own.used_count ≤ own'.used_count
    → (q : ℕ) → used_count_of owns q ≤ used_count_of (slice_set owns pid own') q
used-set owns pid own own' h read more q = elim (cases_eq q pid) [
  | inl same ↦ (let was : used_count_of owns pid ≡ own.used_count = ap (λ (o : OwnState). o.used_count) (sym (get_or_read owns pid own h read unborn_state)) in
      let is : used_count_of (slice_set owns pid own') pid ≡ own'.used_count = ap (λ (o : OwnState). o.used_count) (get_or-set_same owns pid own' unborn_state h) in
      subst (λ k. used_count_of owns k ≤ used_count_of (slice_set owns pid own') k) (sym same) (omega arith))
  | inr differ ↦ (let is : used_count_of (slice_set owns pid own') q ≡ used_count_of owns q = ap (λ (o : OwnState). o.used_count) (get_or-set_other owns pid q own' unborn_state differ) in omega arith)
]

pub within-change : (owns : List OwnState) (pid : ℕ) (own own' : OwnState) (places : List (ℕ × ℕ)) → pid < length owns → own ≡ slice_index_or owns pid own → own'.used_count ≡ own.used_count
    → AreUsedWindows owns places → AreUsedWindows (slice_set owns pid own') places
within-change owns pid own own' places h read same within =
    within-grown owns (slice_set owns pid own') places (used-set owns pid own own' h read (omega (arith, same))) within

-- where one process changes and has used no further window, its node is stocked as it was
pub stocked-change : (node : Node) (pid : ℕ) (own own' : OwnState) → pid < length node.processes.items → own ≡ slice_index_or node.processes.items pid own → own'.used_count ≡ own.used_count
    → IsStocked node.room (slice_set node.processes.items pid own') node.held_blocks node.store
stocked-change node pid own own' h read same =
    let s = node.stocked in
    record {
      every_id = length-set node.processes.items pid own' ∙ s.every_id;
      windows = within-change node.processes.items pid own own' (map place_of node.held_blocks.mappings) h read same s.windows;
      rising = s.rising;
      held_room = s.held_room;
      store_room = s.store_room;
      within = s.within;
    }

-- the model's node has the changed process
pub node-change : (node : Node) (pid : ℕ) (own own' : OwnState) (change : Process → Process) → pid < length node.processes.items
    → own ≡ slice_index_or node.processes.items pid own → process_with_mappings node.held_blocks.mappings pid own' ≡ change (process_with_mappings node.held_blocks.mappings pid own)
    → record (node_model node) { processes = processes_of node.held_blocks.mappings (slice_set node.processes.items pid own') } ≡ model.with_process (node_model node) pid (change (model.process_at (node_model node) pid))
node-change node pid own own' change h read same =
    ap (λ ps. record (node_model node) { processes = ps })
    (processes-change node.held_blocks.mappings node.held_blocks.mappings node.processes.items pid own own' change h read (λ q differ. refl) same)

-- how many windows the process has used that was read
pub used-read : (mappings : List Mapping) (owns : List OwnState) (pid : ℕ) (own : OwnState) → pid < length owns → own ≡ slice_index_or owns pid own
    → length (slice_index_or (processes_of mappings owns) pid unborn_process).space.windows ≡ own.used_count
used-read mappings owns pid own h read =
    ap (λ (p : Process). length p.space.windows) (process-read mappings owns pid own h read) ∙ length-windows_of mappings pid own.used_count

pub used_by-read : (owns : List OwnState) (pid : ℕ) (own : OwnState) → pid < length owns → own ≡ slice_index_or owns pid own → used_count_of owns pid ≡ own.used_count
used_by-read owns pid own h read = ap (λ (o : OwnState). o.used_count) (sym (get_or_read owns pid own h read unborn_state))

-- the map holds the same for all processes but one
pub same-but : (pid : ℕ) (before after : List Mapping) (owns : List OwnState) → ((q w : ℕ) → (q ≡ pid → ⊥) → block_held_at after q w ≡ block_held_at before q w) → IsSameBut pid before after owns
same-but pid before after owns same q differ = windows-same before after q (used_count_of owns q) (λ w. same q w differ)

pub same-changed : (pid window : ℕ) (there : Option Block) (before after : List Mapping) (owns : List OwnState) → HasChangedOnly before after pid window there → IsSameBut pid before after owns
same-changed pid window there before after owns changes = same-but pid before after owns (λ q w differ. changes.others q w (λ e. absurd (differ e)))

default-free : {X : Type 0} (xs : List X) (k : ℕ) (d e : X) → k < length xs → slice_index_or xs k d ≡ slice_index_or xs k e
default-free [] k d e h = absurd (omega arith)
default-free (x ∷ xs) zero d e h = refl
default-free (x ∷ xs) (suc k) d e h = default-free xs k d e (omega arith)

-- the map alone changes, in the windows of one process
pub processes-held : (before after : List Mapping) (owns : List OwnState) (pid : ℕ) (change : Process → Process)
    → pid < length owns → IsSameBut pid before after owns
    → process_with_mappings after pid (slice_index_or owns pid unborn_state) ≡ change (process_with_mappings before pid (slice_index_or owns pid unborn_state))
    → processes_of after owns ≡ slice_set (processes_of before owns) pid (change (slice_index_or (processes_of before owns) pid unborn_process))
processes-held before after owns pid change h same e =
    let own = slice_index_or owns pid unborn_state in
    ap (processes_of after) (sym (set-same owns pid unborn_state))
    ∙ processes-change before after owns pid own own change h (default-free owns pid unborn_state own h) same e

-- a process with a further window
pub unused-fewer : (mappings : List Mapping) (owns : List OwnState) (pid : ℕ) (own : OwnState) → pid < length owns → own ≡ slice_index_or owns pid own
    → IsTrue (has_unused_window (slice_index_or (processes_of mappings owns) pid unborn_process).space) → own.used_count < window_count
unused-fewer mappings owns pid own h read unused =
    let less = ltb-true (length (slice_index_or (processes_of mappings owns) pid unborn_process).space.windows) window_count unused in
    omega (arith, used-read mappings owns pid own h read, less)

pub used_by-set : (owns : List OwnState) (pid : ℕ) (own : OwnState) → pid < length owns → used_count_of (slice_set owns pid own) pid ≡ own.used_count
used_by-set owns pid own h = ap (λ (o : OwnState). o.used_count) (get_or-set_same owns pid own unborn_state h)

-- the process that was put into the list
pub process-put : (m : List Mapping) (owns : List OwnState) (pid : ℕ) (own : OwnState) → pid < length owns
    → slice_index_or (processes_of m (slice_set owns pid own)) pid unborn_process ≡ process_with_mappings m pid own
process-put m owns pid own h =
    process_of-at m (slice_set owns pid own) pid (omega (arith, length-set owns pid own)) ∙ ap (process_with_mappings m pid) (get_or-set_same owns pid own unborn_state h)

-- all other processes keep what they hold, where without this one the map is the same
pub same-others : (pid : ℕ) (before after : List Mapping) (owns : List OwnState) → without_process pid after ≡ without_process pid before → IsSameBut pid before after owns
same-others pid before after owns same =
    same-but pid before after owns (λ q w differ.
    sym (held_at-drained_other pid after q w differ) ∙ ap (λ ms. block_held_at ms q w) same ∙ held_at-drained_other pid before q w differ)

pub running_status : (s : Status) → is_running s ≡ true → s ≡ Running
running_status Unborn h = absurd (cc)
running_status Running h = refl
running_status Asking h = absurd (cc)
running_status Polling h = absurd (cc)
running_status (Stopped cause) h = absurd (cc)

-- the process of the turn runs
pub turn-runs : (node : model.Node) (turn : model.Turn) → IsWell (Some turn) node → turn.pid < process_count → (model.process_at node turn.pid).status ≡ Running
turn-runs node turn well h = running_status (model.process_at node turn.pid).status ((well.processes turn.pid h).running ∙ eq-eqb turn.pid turn.pid refl)
