-- Blocks that go into a store one after the other, where all their names differ.
use Rattle.std.proofs.Common.{◌≢◌, suc, List, [], ◌∷◌, ◌++◌, arith, refl, sym, inl, inr, subst}
use Rattle.std.specs.List.{All, AllPairs, Contains}
use Rattle.std.proofs.lemmas.Bool.{cases_Bool}
use Rattle.std.proofs.lemmas.List.Elements.{All-cons, All-head, All-tail, All-contains, Contains-append_right}
use Rattle.std.proofs.lemmas.List.Kept.{AllPairs-cons}
use Rattle.ce_model.specs.declared.topology.BlockId.{BlockId}
use Rattle.ce_model.specs.Blocks.{Block, is_lower, with_id}
use Rattle.xm_block.specs.Stores.{AreBlocksApart, ids_of, with_block}
use Rattle.xm_block.proofs.Names.{ids_of-with_block}

-- names that differ
abbrev IsOther : BlockId → BlockId → Type 0
IsOther a b = a ≢ b

head : (id : BlockId) (ids : List BlockId) → AllPairs IsOther (id ∷ ids) → All (IsOther id) ids
head id ids pairs k d high = pairs 0 (suc k) d (omega arith) (omega arith)

tail : (id : BlockId) (ids : List BlockId) → AllPairs IsOther (id ∷ ids) → AllPairs IsOther ids
tail id ids pairs i j d low high = pairs (suc i) (suc j) d (omega arith) (omega arith)

pub all-put : (P : BlockId → Type 0) (id : BlockId) (ids : List BlockId) → P id → All P ids → All P (with_id id ids)
all-put P id [] own all = All-cons P id [] own all
all-put P id (other ∷ ids) own all = elim (cases_Bool (is_lower id other)) [
  | inl t ↦ rw t (All-cons P id (other ∷ ids) own all)
  | inr f ↦ rw f (All-cons P other (with_id id ids) (All-head P other ids all) (all-put P id ids own (All-tail P other ids all)))
]

all-append-put : (P : BlockId → Type 0) (id : BlockId) (ms ids : List BlockId) → P id → All P (ms ++ ids) → All P (ms ++ with_id id ids)
all-append-put P id [] ids own all = all-put P id ids own all
all-append-put P id (m ∷ ms) ids own all = All-cons P m (ms ++ with_id id ids) (All-head P m (ms ++ ids) all) (all-append-put P id ms ids own (All-tail P m (ms ++ ids) all))

pairs-put : (id : BlockId) (ids : List BlockId) → AllPairs IsOther (id ∷ ids) → AllPairs IsOther (with_id id ids)
pairs-put id [] pairs = pairs
pairs-put id (other ∷ ids) pairs = elim (cases_Bool (is_lower id other)) [
  | inl t ↦ rw t pairs
  | inr f ↦ (let apart = head id (other ∷ ids) pairs in
      let rest = tail id (other ∷ ids) pairs in
      let differs : IsOther other id = λ same. All-head (IsOther id) other ids apart (sym same) in
      rw f (AllPairs-cons IsOther other (with_id id ids) (all-put (IsOther other) id ids differs (head other ids rest))
      (pairs-put id ids (AllPairs-cons IsOther id ids (All-tail (IsOther id) other ids apart) (tail other ids rest)))))
]

apart-put : (id : BlockId) (ms ids : List BlockId) → AllPairs IsOther (id ∷ (ms ++ ids)) → AllPairs IsOther (ms ++ with_id id ids)
apart-put id [] ids pairs = pairs-put id ids pairs
apart-put id (m ∷ ms) ids pairs =
    let apart = head id (m ∷ (ms ++ ids)) pairs in
    let rest = tail id (m ∷ (ms ++ ids)) pairs in
    let differs : IsOther m id = λ same. All-head (IsOther id) m (ms ++ ids) apart (sym same) in
    AllPairs-cons IsOther m (ms ++ with_id id ids) (all-append-put (IsOther m) id ms ids differs (head m (ms ++ ids) rest))
    (apart-put id ms ids (AllPairs-cons IsOther id (ms ++ ids) (All-tail (IsOther id) m (ms ++ ids) apart) (tail m (ms ++ ids) rest)))

-- the first of such blocks isn't in the store
pub apart-first : (block : Block) (blocks store_blocks : List Block) → AreBlocksApart (block ∷ blocks) store_blocks → Contains (ids_of store_blocks) block.id → ⊥
apart-first block blocks store_blocks pairs there =
    All-contains (IsOther block.id) (ids_of blocks ++ ids_of store_blocks) block.id (head block.id (ids_of blocks ++ ids_of store_blocks) pairs)
    (Contains-append_right (ids_of blocks) (ids_of store_blocks) block.id there) refl

-- once it is, the others aren't
pub apart-rest : (block : Block) (blocks store_blocks : List Block) → AreBlocksApart (block ∷ blocks) store_blocks → AreBlocksApart blocks (with_block block store_blocks)
apart-rest block blocks store_blocks pairs =
    subst (λ (ids : List BlockId). AllPairs IsOther (ids_of blocks ++ ids)) (sym (ids_of-with_block block store_blocks)) (apart-put block.id (ids_of blocks) (ids_of store_blocks) pairs)
