-- Names of blocks: how often each stands in a node, as the code's calls ask for it.
use Rattle.std.proofs.Common.{◌≡◌, ℕ, zero, suc, ◌+◌, ◌<◌, ◌≤◌, ◌≢◌, List, [], ◌∷◌, ◌++◌, length, flat_map, refl, ap, sym, ◌∙◌, arith}
use Rattle.std.specs.List.{Contains, All, AllPairs}
use Rattle.std.proofs.lemmas.Bool.{cond_both}
use Rattle.std.proofs.lemmas.List.{length-map}
use Rattle.std.proofs.lemmas.List.Kept.{AllPairs-cons}
use Rattle.ce_model.specs.declared.topology.BlockId.{BlockId}
use Rattle.ce_model.specs.Blocks.{Block, is_lower, with_id, with_ids}
use Rattle.ce_model.specs.Node as model
use Rattle.xm_block.specs.Stores.{ids_of, with_block, with_blocks}
use Rattle.xm_block.proofs.Names.{apart-none, apart-more, ids_of-with_block}
use Rattle.ce_solo.proofs.Counting.{hit, hit-self, count, count-cons, count-append, count-piece}
use Rattle.ce_model.specs.Space.{mapped_ids}
use Rattle.ce_model.specs.Limits.{process_count}
use Rattle.ce_model.specs.Process.{Process, unborn_process}
use Rattle.xm_owner.specs.Holdings.{process_blocks}
use Rattle.rk_node.specs.declared.node.Node.{Node}
use Rattle.rk_node.specs.Standing.{node_model}
use Rattle.rk_node.specs.Ready.{HasBlocksOnce}
use Rattle.rk_node.specs.Hearings.{process_block_ids}
use Rattle.rk_node.proofs.Windows.{ids-held}
use Rattle.rk_node.proofs.Processes.{process_of-at}

-- a name that is counted nowhere isn't there
pub not_contained : (id : BlockId) (ids : List BlockId) → count id ids ≡ 0 → ¬ (Contains ids id)
not_contained id [] none = apart-none id
not_contained id (x ∷ ids) none =
    apart-more id x ids
    (λ same. let one = hit-self id in let here : hit id x ≡ hit id id = ap (hit id) same in omega (arith, one, here, none, count-cons id x ids))
    (not_contained id ids (omega (arith, none, count-cons id x ids)))

-- names that stand once each all differ
counted_apart : (x : BlockId) (ids : List BlockId) → count x ids ≡ 0 → All (λ other. x ≢ other) ids
counted_apart x [] none k d h = absurd (omega arith)
counted_apart x (y ∷ ids) none zero d h = λ same. (let one = hit-self x in let here : hit x y ≡ hit x x = ap (hit x) (sym same) in omega (arith, one, here, none, count-cons x y ids))
counted_apart x (y ∷ ids) none (suc k) d h = counted_apart x ids (omega (arith, none, count-cons x y ids)) k d (omega arith)

pub pairs_apart : (ids : List BlockId) → ((id : BlockId) → count id ids ≤ 1) → AllPairs (λ a b. a ≢ b) ids
pairs_apart [] once = λ i j d low high. absurd (omega arith)
pairs_apart (x ∷ ids) once =
    AllPairs-cons (λ a b. a ≢ b) x ids
    (counted_apart x ids (omega (arith, once x, hit-self x, count-cons x x ids)))
    (pairs_apart ids (λ id. omega (arith, once id, count-cons id x ids)))

pub length-put : (id : BlockId) (ids : List BlockId) → length (with_id id ids) ≡ suc (length ids)
length-put id [] = refl
length-put id (x ∷ ids) = cond_both (is_lower id x) (id ∷ x ∷ ids) (x ∷ with_id id ids) (λ ys. length ys ≡ suc (suc (length ids))) (λ t. refl) (λ f. ap suc (length-put id ids))

pub length-ids_of : (blocks : List Block) → length (ids_of blocks) ≡ length blocks
length-ids_of blocks = length-map blocks (λ block. block.id)

pub length-with_block : (block : Block) (blocks : List Block) → length (with_block block blocks) ≡ suc (length blocks)
length-with_block block blocks =
    sym (length-ids_of (with_block block blocks)) ∙ ap {B = ℕ} length (ids_of-with_block block blocks) ∙ length-put block.id (ids_of blocks) ∙ ap suc (length-ids_of blocks)

-- several blocks more
ids_of-with_blocks : (blocks stored : List Block) → ids_of (with_blocks blocks stored) ≡ with_ids (ids_of blocks) (ids_of stored)
ids_of-with_blocks [] stored = refl
ids_of-with_blocks (block ∷ blocks) stored =
    ids_of-with_blocks blocks (with_block block stored) ∙ ap (with_ids (ids_of blocks)) (ids_of-with_block block stored)

pub length-with_blocks : (blocks stored : List Block) → length (with_blocks blocks stored) ≡ length blocks + length stored
length-with_blocks [] stored = omega arith
length-with_blocks (block ∷ blocks) stored = omega (arith, length-with_blocks blocks (with_block block stored), length-with_block block stored)

-- the names of a process's blocks
pub ids_of-process : (node : Node) (pid : ℕ) → pid < process_count → process_block_ids pid (node_model node) ≡ ids_of (process_blocks pid node.held_blocks.mappings)
ids_of-process node pid below =
    ap (λ (p : Process). mapped_ids p.space) (process_of-at node.held_blocks.mappings node.processes.items pid (omega (arith, node.stocked.every_id, below)))
    ∙ ids-held node.processes.items pid node.held_blocks.mappings node.stocked.rising node.stocked.windows

-- the names in a store that got them all
pub ids_of-drained : (node : Node) (pid : ℕ) (before after : List Block) → pid < process_count → after ≡ with_blocks (process_blocks pid node.held_blocks.mappings) before
    → ids_of after ≡ with_ids (process_block_ids pid (node_model node)) (ids_of before)
ids_of-drained node pid before after below moved =
    ap ids_of moved ∙ ids_of-with_blocks (process_blocks pid node.held_blocks.mappings) before
    ∙ ap (λ ids. with_ids ids (ids_of before)) (sym (ids_of-process node pid below))

-- the names of a process's blocks and those of the store stand once each
pub once-process : (node : model.Node) (pid : ℕ) (ids : List BlockId) → HasBlocksOnce node → pid < length node.processes → mapped_ids (model.process_at node pid).space ≡ ids
    → (id : BlockId) → count id (ids ++ node.store) ≤ 1
once-process node pid ids once h same id =
    omega (
      arith,
      once.once id,
      count-append id ids node.store,
      ap (count id) same,
      count-append id node.store (flat_map (λ q. mapped_ids q.space) node.processes),
      count-piece id (λ (q : Process). mapped_ids q.space) node.processes pid unborn_process h,
    )
