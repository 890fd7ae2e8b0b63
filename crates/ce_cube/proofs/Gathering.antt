-- Loops over a list of boxes that hand their blocks on, one box after the other.
use Rattle.std.proofs.Common.{◌≡◌, ℕ, zero, suc, ◌+◌, ◌<◌, ◌≤◌, List, [], ◌∷◌, ◌++◌, map, flat_map, take, drop, length, get_or, slice_set, refl, ap, ap₂, sym, ◌∙◌, subst, arith}
use Rattle.std.specs.List.{Contains}
use Rattle.std.proofs.lemmas.List.{append-nil, append_assoc, map-append, length-append, length-map, length-take-le, get_or_append_left, get_or_at, set_at, take-append-drop, take_at, drop_at, drop_more, take_more, drop-drop}
use Rattle.std.proofs.lemmas.List.Concat.{flat_map-append, flat_map_single}
use Rattle.std.proofs.lemmas.List.Sums.{fold-append}
use Rattle.std.proofs.lemmas.List.FromFn.{get_or-map-range_with_len, length-map-range_with_len}
use Rattle.ce_model.specs.declared.topology.BlockId.{BlockId}
use Rattle.ce_model.specs.Limits.{home_blocks}
use Rattle.ce_model.specs.Blocks.{Block, with_id, with_ids, blocks_of_home}
use Rattle.ce_model.specs.Literals.{block}
use Rattle.ce_solo.proofs.Counting.{hit, hit-self, count, count-cons, count-append, count-put_all}
use Rattle.xm_block.specs.Stores.{BlockStore, ids_of}
use Rattle.xm_block.proofs.HomeBlocks.{first_names}
use Rattle.rk_node.specs.Hearings.{AreNewToStore}
use Rattle.ce_cube.specs.Homecoming.{HasPrefix}

-- ---- a list whose first elements were changed

module _ {X : Type 0} (change : X → X) (xs ys : List X) (i : ℕ) (within : i < length xs) (so_far : ys ≡ map change (take i xs) ++ drop i xs) where
  long : length (map change (take i xs)) ≡ i
  long = length-map (take i xs) change ∙ length-take-le i xs (omega (arith, within))

  parted : (d : X) → ys ≡ map change (take i xs) ++ get_or xs i d ∷ drop (i + 1) xs
  parted d = so_far ∙ ap (λ zs. map change (take i xs) ++ zs) (drop_more xs i d within)

  -- the next one wasn't yet
  pub next-is : (d : X) → get_or ys i d ≡ get_or xs i d
  next-is d =
      ap (λ zs. get_or zs i d) (parted d) ∙ get_or_at (map change (take i xs)) (get_or xs i d) (drop (i + 1) xs) d i long

  pub one_changed : (d y : X) → y ≡ change (get_or xs i d) → slice_set ys i y ≡ map change (take (i + 1) xs) ++ drop (i + 1) xs
  one_changed d y is =
      ap (λ zs. slice_set zs i y) (parted d) ∙ set_at (map change (take i xs)) (get_or xs i d) (drop (i + 1) xs) y i long
      ∙ ap (λ z. map change (take i xs) ++ z ∷ drop (i + 1) xs) is
      ∙ sym (append_assoc (map change (take i xs)) (change (get_or xs i d) ∷ []) (drop (i + 1) xs))
      ∙ ap (λ zs. zs ++ drop (i + 1) xs)
      (sym (ap (map change) (take_more xs i d within) ∙ map-append change (take i xs) (get_or xs i d ∷ [])))

-- ---- what the elements have, one after the other

module _ {X : Type 0} (has : X → List BlockId) (xs : List X) (i : ℕ) (d : X) (within : i < length xs) where
  abbrev x : X
  x = get_or xs i d

  abbrev before : List BlockId
  before = flat_map has (take i xs)

  pub flat-more : flat_map has (take (i + 1) xs) ≡ before ++ has x
  flat-more =
      ap (flat_map has) (take_more xs i d within) ∙ flat_map-append has (take i xs) (x ∷ []) ∙ ap (λ zs. before ++ zs) (append-nil (has x))

  pub flat-split : flat_map has xs ≡ before ++ (has x ++ flat_map has (drop (i + 1) xs))
  flat-split =
      ap (flat_map has) (sym (take-append-drop i xs) ∙ ap (λ zs. take i xs ++ zs) (drop_more xs i d within))
      ∙ flat_map-append has (take i xs) (x ∷ drop (i + 1) xs)

  pub length-more : length (flat_map has (take (i + 1) xs)) ≡ length before + length (has x)
  length-more = ap (λ zs. length zs) flat-more ∙ length-append before (has x)

  pub length-next : length before + length (has x) ≤ length (flat_map has xs)
  length-next =
      omega (
        arith,
        ap (λ zs. length zs) flat-split,
        length-append before (has x ++ flat_map has (drop (i + 1) xs)),
        length-append (has x) (flat_map has (drop (i + 1) xs)),
      )

  -- the blocks of the next one are apart from those that a store had and those of the earlier ones
  pub next-apart : (first store : BlockStore) → ids_of store.blocks ≡ with_ids before (ids_of first.blocks) → AreNewToStore (flat_map has xs) first → AreNewToStore (has x) store
  next-apart first store moved all = record {
    apart = λ id. omega (
      arith,
      all.apart id,
      count-append id (flat_map has xs) (ids_of first.blocks),
      ap (count id) flat-split,
      count-append id before (has x ++ flat_map has (drop (i + 1) xs)),
      count-append id (has x) (flat_map has (drop (i + 1) xs)),
      count-append id (has x) (ids_of store.blocks),
      ap (count id) moved,
      count-put_all id before (ids_of first.blocks),
    );
  }

  pub moved-more : (first ids ids' : List BlockId) → ids ≡ with_ids before first → ids' ≡ with_ids (has x) ids → ids' ≡ with_ids (flat_map has (take (i + 1) xs)) first
  moved-more first ids ids' so_far moved =
      moved ∙ ap (with_ids (has x)) so_far ∙ sym (fold-append (λ others id. with_id id others) first before (has x))
      ∙ ap (λ zs. with_ids zs first) (sym flat-more)

  -- ---- a list that begins with what they have

  begins-part : (a b c ids : List BlockId) → HasPrefix (a ++ (b ++ c)) ids → HasPrefix b (drop (length a) ids)
  begins-part a b c ids begins =
      let n : ℕ = length (a ++ (b ++ c)) in
      let r : List BlockId = drop n ids in
      let whole : ids ≡ a ++ (b ++ (c ++ r)) =
      sym (take-append-drop n ids) ∙ ap (λ zs. zs ++ r) begins ∙ append_assoc a (b ++ c) r ∙ ap (λ zs. a ++ zs) (append_assoc b c r) in
      ap (λ zs. take (length b) (drop (length a) zs)) whole ∙ ap (take (length b)) (drop_at a (b ++ (c ++ r)) (length a) refl)
      ∙ take_at b (c ++ r) (length b) refl

  pub next-begins : (first ids : List BlockId) → ids ≡ drop (length before) first → HasPrefix (flat_map has xs) first → HasPrefix (has x) ids
  next-begins first ids so_far begins =
      subst (HasPrefix (has x)) (sym so_far)
      (begins-part before (has x) (flat_map has (drop (i + 1) xs)) first (subst (λ zs. HasPrefix zs first) flat-split begins))

  pub rest-more : (n : ℕ) (first ids ids' : List BlockId) → n ≡ length (has x) → ids ≡ drop (length before) first → ids' ≡ drop n ids
      → ids' ≡ drop (length (flat_map has (take (i + 1) xs))) first
  rest-more n first ids ids' long so_far rest =
      rest ∙ ap₂ drop long so_far ∙ drop-drop (length (has x)) (length before) first ∙ ap (λ m. drop m first) (sym length-more)

-- ---- a block that goes into a store

contains-count : (ids : List BlockId) (id : BlockId) → Contains ids id → 1 ≤ count id ids
contains-count [] id h = absurd (omega (arith, h.1))
contains-count (x ∷ xs) id (zero, low, same) = omega (arith, count-cons id x xs, hit-self id, ap (hit id) same)
contains-count (x ∷ xs) id (suc k, low, same) = omega (arith, count-cons id x xs, contains-count xs id (k, omega (arith, low), same))

-- the next of some blocks isn't in the store that has the earlier ones
pub given-apart : (blocks yielded : List Block) (block : Block) (first store : BlockStore) → (length yielded < length blocks) × (block ≡ get_or blocks (length yielded) block)
    → yielded ≡ take (length yielded) blocks → ids_of store.blocks ≡ with_ids (ids_of yielded) (ids_of first.blocks) → AreNewToStore (ids_of blocks) first
    → Contains (ids_of store.blocks) block.id → ⊥
given-apart blocks yielded block first store next so_far moved all there =
    let i : ℕ = length yielded in
    let has : Block → List BlockId = λ one. one.id ∷ [] in
    let singles : (some : List Block) → flat_map has some ≡ ids_of some = λ some. flat_map_single (λ (one : Block). one.id) some in
    let earlier : ids_of store.blocks ≡ with_ids (flat_map has (take i blocks)) (ids_of first.blocks) =
    moved ∙ ap (λ zs. with_ids zs (ids_of first.blocks)) (ap ids_of so_far ∙ sym (singles (take i blocks))) in
    let apart = (next-apart has blocks i block next.0 first store earlier (subst (λ zs. AreNewToStore zs first) (sym (singles blocks)) all)).apart block.id in
    let id : (get_or blocks i block).id ≡ block.id = ap (λ (one : Block). one.id) (sym next.1) in
    absurd (omega (
      arith,
      apart,
      count-cons block.id (get_or blocks i block).id (ids_of store.blocks),
      ap (hit block.id) id,
      hit-self block.id,
      contains-count (ids_of store.blocks) block.id there,
    ))

-- ---- the blocks of one home, one after the other

pub all-names : (home : ℕ) → first_names home home_blocks ≡ blocks_of_home home
all-names home = refl

pub length-names : (home n : ℕ) → length (first_names home n) ≡ n
length-names home n = length-map-range_with_len (block home) 0 n

-- a store that begins with the blocks of a home has the next one first
pub next-first : (home i : ℕ) (ids : List BlockId) → HasPrefix (blocks_of_home home) ids → i < home_blocks → drop i ids ≡ block home i ∷ drop (i + 1) ids
next-first home i ids begins less =
    let names : List BlockId = first_names home home_blocks in
    let front : take (length names) ids ≡ names =
    subst (λ (some : List BlockId). take (length some) ids ≡ some) (sym (all-names home)) begins in
    let r : List BlockId = drop (length names) ids in
    let whole : ids ≡ names ++ r = sym (take-append-drop (length names) ids) ∙ ap (λ zs. zs ++ r) front in
    let within : i < length names = omega (arith, less, length-names home home_blocks) in
    let below : i < length ids = omega (arith, within, ap (λ zs. length zs) whole, length-append names r) in
    drop_more ids i (block home i) below
    ∙ ap (λ id. id ∷ drop (i + 1) ids)
    (ap (λ zs. get_or zs i (block home i)) whole ∙ get_or_append_left names r (block home i) i within
    ∙ get_or-map-range_with_len (block home) 0 home_blocks i i (block home i) less (omega arith))
