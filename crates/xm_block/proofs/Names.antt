-- The order of names, and blocks in that order.
use Rattle.std.proofs.Common.{◌≡◌, ◌⊎◌, ℕ, zero, suc, ◌<◌, ◌≤◌, Bool, true, false, not, List, [], ◌∷◌, ◌++◌, length, get_or, Option, Some, None, IfSome, arith, refl, ap, ◌∙◌, subst, inl, inr}
use Rattle.std.specs.List.{All, AllWithin, Contains, insert}
use Rattle.std.specs.List.Sorted.{IsPartitionedBy}
use Rattle.std.specs.Option.{option_to_list}
use Rattle.std.proofs.lemmas.Bool.{cases_Bool, cases_lt}
use Rattle.std.proofs.lemmas.Bool.Decides.{nat_tests}
use Rattle.std.proofs.lemmas.List.{get_or-map, length-map}
use Rattle.ce_model.specs.declared.topology.BlockId.{BlockId}
use Rattle.ce_model.specs.Blocks.{Block, is_lower, with_id}
use Rattle.ce_model.specs.Rising.{IsRising}
use Rattle.ce_model.proofs.BlockOrder.{precedes-trans}
use Rattle.xm_block.specs.Stores.{is_block_before, ids_of, with_block}
use Rattle.xm_block.proofs.Rises.{AllPairs-insert}

-- of two names one is before the other, or they are the same
pub precedes-other : (a b : BlockId) → is_lower a b ≡ false → (b ≡ a → ⊥) → is_lower b a ≡ true
precedes-other a b h ne = grind (arith, nat_tests)

pub not-true : (b : Bool) → not b ≡ true → b ≡ false
not-true true h = absurd (cc)
not-true false h = refl

pub not-false : (b : Bool) → not b ≡ false → b ≡ true
not-false true h = refl
not-false false h = absurd (cc)

-- among blocks in order, those that a name isn't before come first
pub partitioned : (id : BlockId) (blocks : List Block) → IsRising is_block_before blocks → IsPartitionedBy (λ other. not (is_lower id other.id)) blocks
partitioned id blocks rising i j d low high h = by (cases_lt i j)
  where
    by : (i < j) ⊎ (j ≤ i) → not (is_lower id (get_or blocks i d).id) ≡ true
    by (inr q) = let e : i ≡ j = omega arith in rw e h
    by (inl q) = elim (cases_Bool (is_lower id (get_or blocks i d).id)) [
      | inl t ↦ let over = precedes-trans id _ _ t (rising i j d q high) in absurd (cc)
      | inr f ↦ rw f refl
    ]

-- the block that goes in has a name of its own, so it keeps the order
pub rising-insert : (block : Block) (blocks : List Block) (i : ℕ) → i ≤ length blocks → IsRising is_block_before blocks → (Contains (ids_of blocks) block.id → ⊥)
    → AllWithin (λ other. is_lower block.id other.id ≡ false) blocks 0 i → AllWithin (λ other. is_lower block.id other.id ≡ true) blocks i (length blocks)
    → IsRising is_block_before (insert blocks i block)
rising-insert block blocks i h rising apart passed ahead =
    AllPairs-insert (λ a b. is_block_before a b ≡ true) blocks i block h rising
    (λ k d low high. precedes-other block.id _ (passed k d low high)
    (λ same. apart (k, simp length-map (omega arith), get_or-map (λ b. b.id) blocks k d block.id (omega arith) ∙ same)))
    ahead

-- the names of a store after one block more
pub ids_of-with_block : (block : Block) (blocks : List Block) → ids_of (with_block block blocks) ≡ with_id block.id (ids_of blocks)
ids_of-with_block block [] = refl
ids_of-with_block block (other ∷ blocks) = elim (cases_Bool (is_lower block.id other.id)) [
  | inl t ↦ rw t refl
  | inr f ↦ rw f (ap (λ ids. other.id ∷ ids) (ids_of-with_block block blocks))
]

-- the first of blocks in order is before the others
pub least : (taken : Option Block) (rest blocks : List Block) → blocks ≡ option_to_list taken ++ rest → IsRising is_block_before blocks
    → IfSome taken (λ block. All (λ other. is_block_before block other ≡ true) rest)
least None rest blocks e rising = tt
least (Some block) rest blocks e rising =
    let all : IsRising is_block_before (block ∷ rest) = subst (IsRising is_block_before) e rising in
    λ k d high. all 0 (suc k) d (omega arith) (omega arith)

-- a name that differs from each of these isn't among them
pub apart-none : (id : BlockId) → Contains [] id → ⊥
apart-none id h = absurd (omega (arith, h.1))

pub apart-more : (id other : BlockId) (ids : List BlockId) → (other ≡ id → ⊥) → (Contains ids id → ⊥) → Contains (other ∷ ids) id → ⊥
apart-more id other ids first rest (zero, low, same) = first same
apart-more id other ids first rest (suc k, low, same) = rest (k, omega arith, same)
