-- The blocks of a node that go to another store, one process after the other, and the processes
-- that are left.
use Rattle.std.proofs.Common.{◌≡◌, ℕ, zero, suc, ◌+◌, ◌<◌, ◌≤◌, ◌==◌, List, [], ◌∷◌, ◌++◌, length, map, drop, flat_map, replicate, slice_set, slice_index_or, None, refl, ap, sym, ◌∙◌, subst, arith, inl, inr}
use Rattle.std.specs.List.{Contains}
use Rattle.std.proofs.lemmas.Bool.{cases_Bool, eq-eqb, both_ways}
use Rattle.std.proofs.lemmas.List.{get_or-set_other}
use Rattle.ce_model.specs.declared.topology.BlockId.{BlockId}
use Rattle.ce_model.specs.Blocks.{Block, with_id, with_ids}
use Rattle.ce_model.specs.Space.{mapped_ids}
use Rattle.ce_model.specs.Limits.{process_count}
use Rattle.ce_model.specs.Process.{Process, unborn_process}
use Rattle.ce_model.specs.Node.{Node, process_at, with_process}
use Rattle.ce_solo.proofs.Counting.{hit-self, count, count-cons, count-append, count-put_all}
use Rattle.xm_block.specs.Stores.{BlockStore, ids_of, AreBlocksApart}
use Rattle.xm_owner.specs.Holdings.{Mapping, without_process}
use Rattle.rk_process.specs.OwnStates.{OwnState, place_of, unborn_state}
use Rattle.rk_node.specs.Tables.{used_count_of, AreUsedWindows}
use Rattle.rk_node.specs.Boxes.{scrubbed_node}
use Rattle.rk_node.specs.Hearings.{AreNewToStore, process_block_ids}
use Rattle.rk_node.proofs.Names.{pairs_apart, not_contained}

pub put_all-append : (first next store : List BlockId) → with_ids (first ++ next) store ≡ with_ids next (with_ids first store)
put_all-append [] next store = refl
put_all-append (id ∷ first) next store = put_all-append first next (with_id id store)

-- names that are apart from a store, as the code's calls ask for it
pub apart-blocks : (blocks : List Block) (ids : List BlockId) (store : BlockStore) → ids ≡ ids_of blocks → AreNewToStore ids store → AreBlocksApart blocks store.blocks
apart-blocks blocks ids store same apart =
    pairs_apart (ids_of blocks ++ ids_of store.blocks) (subst (λ ids. (id : BlockId) → count id (ids ++ ids_of store.blocks) ≤ 1) same apart.apart)

-- the first of names that are apart from a store
pub apart-first : (first next : List BlockId) (store : BlockStore) → AreNewToStore (first ++ next) store → AreNewToStore first store
apart-first first next store apart = record {
  apart = λ id. omega (arith, apart.apart id, count-append id (first ++ next) (ids_of store.blocks), count-append id first next, count-append id first (ids_of store.blocks));
}

-- and the others, once the first are in the store
pub apart-next : (first next : List BlockId) (store store' : BlockStore) → ids_of store'.blocks ≡ with_ids first (ids_of store.blocks)
    → AreNewToStore (first ++ next) store → AreNewToStore next store'
apart-next first next store store' moved apart = record {
  apart = λ id. omega (
    arith,
    apart.apart id,
    count-append id (first ++ next) (ids_of store.blocks),
    count-append id first next,
    count-append id next (ids_of store'.blocks),
    ap (count id) moved,
    count-put_all id first (ids_of store.blocks),
  );
}

-- ---- processes, some of which were made ones that weren't started yet

-- the first so many processes aren't started
abbrev pub reset_first : ℕ → List Process → List Process
reset_first zero ps = ps
reset_first (suc k) [] = []
reset_first (suc k) (p ∷ ps) = unborn_process ∷ reset_first k ps

pub reset-read : (k : ℕ) (ps : List Process) → slice_index_or (reset_first k ps) k unborn_process ≡ slice_index_or ps k unborn_process
reset-read zero ps = refl
reset-read (suc k) [] = refl
reset-read (suc k) (p ∷ ps) = reset-read k ps

pub reset-next : (k : ℕ) (ps : List Process) → k < length ps → slice_set (reset_first k ps) k unborn_process ≡ reset_first (suc k) ps
reset-next k [] h = absurd (omega arith)
reset-next zero (p ∷ ps) h = refl
reset-next (suc k) (p ∷ ps) h = ap (λ qs. unborn_process ∷ qs) (reset-next k ps (omega arith))

pub reset-all : (k : ℕ) (ps : List Process) → k ≡ length ps → reset_first k ps ≡ replicate k unborn_process
reset-all zero [] h = refl
reset-all zero (p ∷ ps) h = absurd (omega arith)
reset-all (suc k) [] h = absurd (omega arith)
reset-all (suc k) (p ∷ ps) h = ap (λ qs. unborn_process ∷ qs) (reset-all k ps (omega arith))

-- the names of the blocks of the processes from an id on
abbrev pub ids_from : ℕ → List Process → List BlockId
ids_from k ps = flat_map (λ p. mapped_ids p.space) (drop k ps)

pub ids-next : (k : ℕ) (ps : List Process) → k < length ps → ids_from k ps ≡ mapped_ids (slice_index_or ps k unborn_process).space ++ ids_from (suc k) ps
ids-next k [] h = absurd (omega arith)
ids-next zero (p ∷ ps) h = refl
ids-next (suc k) (p ∷ ps) h = ids-next k ps (omega arith)

pub ids-past : (k : ℕ) (ps : List Process) → length ps ≤ k → ids_from k ps ≡ []
ids-past zero [] h = refl
ids-past zero (p ∷ ps) h = absurd (omega arith)
ids-past (suc k) [] h = refl
ids-past (suc k) (p ∷ ps) h = ids-past k ps (omega arith)

-- the windows of all other processes are still ones that were used
pub within-reset : (owns : List OwnState) (pid : ℕ) (own : OwnState) (m : List Mapping) → AreUsedWindows owns (map place_of m)
    → AreUsedWindows (slice_set owns pid own) (map place_of (without_process pid m))
within-reset owns pid own [] within = tt
within-reset owns pid own (x ∷ xs) within = elim (cases_Bool (x.pid == pid)) [
  | inl t ↦ rw t (within-reset owns pid own xs within.1)
  | inr f ↦ (let same : used_count_of (slice_set owns pid own) x.pid ≡ used_count_of owns x.pid =
      ap (λ (o : OwnState). o.used_count) (get_or-set_other owns pid x.pid own unborn_state (λ e. both_ways _ f (eq-eqb x.pid pid e))) in
      rw f (omega (arith, within.0, same), within-reset owns pid own xs within.1))
]

-- a name that is apart from a store isn't in it
pub not_stored : (id : BlockId) (ids : List BlockId) (store : BlockStore) → AreNewToStore (id ∷ ids) store → ¬ (Contains (ids_of store.blocks) id)
not_stored id ids store apart =
    not_contained id (ids_of store.blocks)
    (omega (arith, apart.apart id, count-append id (id ∷ ids) (ids_of store.blocks), count-cons id id ids, hit-self id))

-- ---- a node whose first processes aren't started, and whose store is empty

-- the blocks that are left are those of the next process, and those behind it
pub ids-split : (n now : Node) (k : ℕ) → now ≡ record n { processes = reset_first k n.processes; store = [] } → k < length n.processes
    → ids_from k n.processes ≡ process_block_ids k now ++ ids_from (k + 1) n.processes
ids-split n now k same h =
    let next : suc k ≡ k + 1 = omega arith in
    let own : slice_index_or n.processes k unborn_process ≡ process_at now k = sym (ap (λ (m : Node). process_at m k) same ∙ reset-read k n.processes) in
    ids-next k n.processes h ∙ ap (λ (p : Process). mapped_ids p.space ++ ids_from (suc k) n.processes) own ∙ ap (λ j. process_block_ids k now ++ ids_from j n.processes) next

pub node-next : (n now after : Node) (k : ℕ) → now ≡ record n { processes = reset_first k n.processes; store = [] } → after ≡ with_process now k unborn_process → k < length n.processes
    → after ≡ record n { processes = reset_first (k + 1) n.processes; store = [] }
node-next n now after k same changed h =
    let next : suc k ≡ k + 1 = omega arith in
    changed ∙ ap (λ (m : Node). with_process m k unborn_process) same
    ∙ ap (λ ps. record n { processes = ps; store = [] }) (reset-next k n.processes h ∙ ap (λ j. reset_first j n.processes) next)

pub node-scrubbed : (n now : Node) (k : ℕ) → now ≡ record n { processes = reset_first k n.processes; store = [] } → k ≡ process_count → length n.processes ≡ process_count
    → record now { polling_ids = []; turn = None } ≡ scrubbed_node n
node-scrubbed n now k same all long =
    ap (λ (m : Node). record m { polling_ids = []; turn = None }) same
    ∙ ap (λ ps. record (scrubbed_node n) { processes = ps }) (reset-all k n.processes (omega (arith, all, long)) ∙ ap (λ j. replicate j unborn_process) all)
