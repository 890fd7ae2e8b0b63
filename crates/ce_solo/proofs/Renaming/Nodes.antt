-- A node with other names for its blocks, and what changes of it are on the node with the first
-- names.
use Rattle.std.proofs.Common.{◌≡◌, ℕ, ◌+◌, ◌*◌, Bool, if◌then◌else◌, List, [], ◌∷◌, map, slice_get, slice_set, None, refl, ap, ap₂, ◌∙◌}
use Rattle.std.specs.List.{AllByRecursion}
use Rattle.rv_model.specs.declared.stop.Stop.{Stop}
use Rattle.ce_model.specs.declared.process.Status.{Status}
use Rattle.ce_model.specs.declared.process.Status.TheVariants.{Stopped}
use Rattle.ce_model.specs.declared.topology.BlockId.{BlockId}
use Rattle.ce_model.specs.Blocks.{with_ids}
use Rattle.ce_model.specs.Space.{mapped_ids}
use Rattle.ce_model.specs.Process.{Process, unborn_process, ended_process, is_receiving, is_stopped}
use Rattle.ce_model.specs.Node.{Node, process_at, with_process, without_poller, with_stopped_process, blocks_of, take_call, process_set, take_call_of}
use Rattle.ce_model.specs.Renaming.{renamed_process}
use Rattle.ce_solo.proofs.Lists.{all-front, all-back, all-weaker}
use Rattle.ce_solo.proofs.Renaming.Lists.{all-set, all-at, all-flat, at-map, set-map}
use Rattle.ce_solo.proofs.Renaming.Memory.{IsNamedSpace, ids-renamed, emptied-renamed, ids-named, space-named}
use Rattle.ce_solo.proofs.Renaming.Store.{IsOrderKept, AreNamed, put_all-renamed}

-- all blocks of a node have names of these
pub record IsNamed (P : BlockId → Type 0) (node : Node) : Type 0 where
  pub store : AreNamed P node.store
  pub processes : AllByRecursion (λ p. IsNamedSpace P p.space) node.processes

-- a node with other names for its blocks, and for its home
abbrev pub node_with : (BlockId → BlockId) → (ℕ → ℕ) → Node → Node
node_with rename home node = record node {
  home = home node.home;
  processes = map (renamed_process rename) node.processes;
  store = map rename node.store;
}

-- ---- names

module _ (P : BlockId → Type 0) where
  pub named-from : (node : Node) → AreNamed P (blocks_of node) → IsNamed P node
  named-from node all = record {
    store = all-front P node.store _ all;
    processes = all-weaker (λ p. AreNamed P (mapped_ids p.space)) (λ p. IsNamedSpace P p.space) node.processes
        (λ p. space-named P p.space)
        (all-flat P (λ (p : Process). mapped_ids p.space) node.processes (all-back P node.store _ all));
  }

  pub process-named : (node : Node) (pid : ℕ) → IsNamed P node → IsNamedSpace P (process_at node pid).space
  process-named node pid named = all-at (λ p. IsNamedSpace P p.space) node.processes pid unborn_process named.processes tt

  pub with_process-named : (node : Node) (pid : ℕ) (p : Process) → IsNamed P node → IsNamedSpace P p.space → IsNamed P (with_process node pid p)
  with_process-named node pid p named new = record {
    store = named.store;
    processes = all-set (λ p. IsNamedSpace P p.space) node.processes pid p named.processes new;
  }

-- ---- changes

module _ (rename : BlockId → BlockId) (home : ℕ → ℕ) where
  pub process-renamed : (node : Node) (pid : ℕ) → process_at (node_with rename home node) pid ≡ renamed_process rename (process_at node pid)
  process-renamed node pid = at-map (renamed_process rename) node.processes pid unborn_process

  pub with_process-renamed : (node : Node) (pid : ℕ) (p : Process)
      → with_process (node_with rename home node) pid (renamed_process rename p) ≡ node_with rename home (with_process node pid p)
  with_process-renamed node pid p =
      ap (λ processes. record node { home = home node.home; processes = processes; store = map rename node.store })
      (set-map (renamed_process rename) node.processes pid p)

  ended-renamed : (cause : Stop) (p : Process) → ended_process cause (renamed_process rename p) ≡ renamed_process rename (ended_process cause p)
  ended-renamed cause p = ap (λ space. record p { status = Stopped cause; space = space }) (emptied-renamed rename p.space)

  pub with_stopped-renamed : (P : BlockId → Type 0) (node : Node) (pid : ℕ) (p : Process) (cause : Stop) → IsOrderKept rename P → IsNamed P node → IsNamedSpace P p.space
      → with_stopped_process (node_with rename home node) pid (renamed_process rename p) cause ≡ node_with rename home (with_stopped_process node pid p cause)
  with_stopped-renamed P node pid p cause order named own =
      ap₂ (λ processes store. node_stopped processes store)
      (ap (λ q. slice_set (map (renamed_process rename) node.processes) pid q) (ended-renamed cause p)
      ∙ set-map (renamed_process rename) node.processes pid (ended_process cause p))
      (ap (λ ids. with_ids ids (map rename node.store)) (ids-renamed rename p.space)
      ∙ put_all-renamed rename P (mapped_ids p.space) node.store order (ids-named P p.space own) named.store)
    where
      node_stopped : List Process → List BlockId → Node
      node_stopped processes store = record node {
        home = home node.home;
        processes = processes;
        store = store;
        polling_ids = without_poller pid node.polling_ids;
        turn = None;
      }

  ids-same : (test : Status → Bool) (ps : List Process) → process_set test (map (renamed_process rename) ps) ≡ process_set test ps
  ids-same test [] = refl
  ids-same test (p ∷ ps) = ap (λ n. (if test p.status then 1 else 0) + 2 * n) (ids-same test ps)

  pub take-renamed : (node : Node) → take_call_of (node_with rename home node) ≡ take_call_of node
  take-renamed node =
      ap₂ (λ asking dead. take_call asking dead (slice_get node.polling_ids 0)) (ids-same is_receiving node.processes) (ids-same is_stopped node.processes)
