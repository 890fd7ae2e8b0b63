-- Names that rise stand once each; the node of a clean box, and of a scrubbed one, is well.
use Rattle.std.proofs.Common.{◌≡◌, ℕ, ◌+◌, ◌≤◌, true, if◌then◌else◌, List, [], ◌∷◌, ◌++◌, length, flat_map, replicate, slice_index_or, None, refl, ap, sym, ◌∙◌, subst, arith, append-nil, inl, inr}
use Rattle.std.specs.List.{AllByRecursion}
use Rattle.std.proofs.lemmas.Bool.{cases_lt, both_ways}
use Rattle.std.proofs.lemmas.Bool.Decides.{nat_tests}
use Rattle.std.proofs.lemmas.List.{length-replicate, get_or-replicate, get_or_past}
use Rattle.rv_model.specs.declared.limits.TheConstants.{REGISTER_COUNT}
use Rattle.ce_model.specs.declared.topology.BlockId.{BlockId}
use Rattle.ce_model.specs.Limits.{process_count}
use Rattle.ce_model.specs.Blocks.{is_lower}
use Rattle.ce_model.specs.Space.{mapped_ids}
use Rattle.ce_model.specs.Process.{Process, unborn_process}
use Rattle.ce_model.specs.Node.{Node, process_at, blocks_of}
use Rattle.ce_model.specs.Sound.{is_polling, AreRisingIds}
use Rattle.ce_solo.proofs.Fresh.{rising-home, ids-unborn}
use Rattle.ce_solo.proofs.Counting.{hit, hit-le, same_from_hit, count, count-nil, count-cons}
use Rattle.ce_solo.proofs.Nodes.{polls, IsWellProcess, IsWell}
use Rattle.rk_node.specs.Boxes.{fresh_node_at, scrubbed_node}

-- ---- names that rise

pub not_self : (id : BlockId) → is_lower id id ≡ true → ⊥
not_self id h = grind (arith, nat_tests)

none_later : (x : BlockId) (xs : List BlockId) → AllByRecursion (λ other. is_lower x other ≡ true) xs → count x xs ≡ 0
none_later x [] all = count-nil x
none_later x (y ∷ ys) all =
    elim (cases_lt (hit x y) 1) [
      | inl none ↦ omega (arith, count-cons x y ys, none_later x ys all.1)
      | inr here ↦ absurd (not_self x (subst (λ other. is_lower x other ≡ true) (sym (same_from_hit x y here)) all.0))
    ]

pub once-rising : (id : BlockId) (xs : List BlockId) → AreRisingIds xs → count id xs ≤ 1
once-rising id [] rising = omega (arith, count-nil id)
once-rising id (x ∷ xs) rising =
    elim (cases_lt (hit id x) 1) [
      | inl none ↦ omega (arith, count-cons id x xs, once-rising id xs rising.1)
      | inr here ↦ (let none : count id xs ≡ 0 = ap (λ other. count other xs) (same_from_hit id x here) ∙ none_later x xs rising.0 in
          omega (arith, count-cons id x xs, none, hit-le id x))
    ]

-- ---- nodes without a process that was started

-- no process of the node was started, its blocks are in its store, whose names rise, and nothing is
-- under way
pub record IsIdle (node : Node) : Type 0 where
  pub processes : node.processes ≡ replicate process_count unborn_process
  pub polling_ids : node.polling_ids ≡ []
  pub store : AreRisingIds node.store

idle-process : (node : Node) (pid : ℕ) → IsIdle node → process_at node pid ≡ unborn_process
idle-process node pid idle =
    ap (λ ps. slice_index_or ps pid unborn_process) idle.processes
    ∙ elim (cases_lt pid process_count) as (λ _. slice_index_or (replicate process_count unborn_process) pid unborn_process ≡ unborn_process) [
      | inl within ↦ get_or-replicate process_count pid unborn_process unborn_process within
      | inr past ↦ get_or_past (replicate process_count unborn_process) pid unborn_process (omega (arith, past, length-replicate process_count unborn_process))
    ]

pub idle-blocks : (node : Node) → IsIdle node → blocks_of node ≡ node.store
idle-blocks node idle =
    ap (λ ps. node.store ++ flat_map (λ (p : Process). mapped_ids p.space) ps) idle.processes
    ∙ ap (λ ids. node.store ++ ids) (ids-unborn process_count) ∙ append-nil node.store

well_unborn : (pid : ℕ) → IsWellProcess None pid unborn_process
well_unborn pid = record {
  registers = length-replicate {A = ℕ} REGISTER_COUNT 0;
  windows = omega arith;
  unborn_used = λ h. refl;
  stopped_holds = λ h. absurd (both_ways _ refl h);
  running = refl;
}

pub idle-well : (node : Node) → IsIdle node → IsWell None node
idle-well node idle = record {
  process_ids = ap {B = ℕ} length idle.processes ∙ length-replicate process_count unborn_process;
  processes = λ pid within. subst (IsWellProcess None pid) (sym (idle-process node pid idle)) (well_unborn pid);
  polling_ids = λ pid. ap (polls pid) idle.polling_ids ∙ sym (ap {B = ℕ} (λ (p : Process). if is_polling p.status then 1 else 0) (idle-process node pid idle));
  store = idle.store;
  once = λ id. omega (arith, ap (count id) (idle-blocks node idle), once-rising id node.store idle.store);
}

pub idle-fresh : (home r dim images : ℕ) → IsIdle (fresh_node_at home r dim images)
idle-fresh home r dim images = record { processes = refl; polling_ids = refl; store = rising-home home }

pub idle-scrubbed : (node : Node) → IsIdle (scrubbed_node node)
idle-scrubbed node = record { processes = refl; polling_ids = refl; store = tt }
