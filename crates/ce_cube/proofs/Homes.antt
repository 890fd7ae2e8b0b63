-- The names of a cube's blocks in order, and a store that has each of them once.
use Rattle.std.proofs.Common.{◌≡◌, ℕ, zero, suc, ◌+◌, ◌*◌, ◌^◌, ◌<◌, ◌≤◌, Bool, true, false, ◌&&◌, ◌||◌, ◌==◌, nat_lt, if◌then◌else◌, List, [], ◌∷◌, ◌++◌, flat_map, length, refl, ap, ap₂, sym, ◌∙◌, inl, inr, arith}
use Rattle.std.specs.List.{AllByRecursion, range_with_len}
use Rattle.std.proofs.lemmas.Bool.{cases_Bool, cases_eq, both_ways, eq-eqb, ne_eqb, lt-ltb, or_left}
use Rattle.std.proofs.lemmas.List.{length-append}
use Rattle.ce_model.specs.declared.topology.BlockId.{BlockId}
use Rattle.ce_model.specs.Limits.{greatest_dim, greatest_nodes_lem, home_blocks, host_home, host_home_lem}
use Rattle.ce_model.specs.Blocks.{is_lower, with_id, with_ids, blocks_of_home}
use Rattle.ce_model.specs.Literals.{block}
use Rattle.ce_model.specs.Sound.{AreRisingIds}
use Rattle.ce_model.specs.Cube.{node_numbers}
use Rattle.ce_model.specs.Subcubes.{IsSubcube, ones_of, extract, node_of, is_inside}
use Rattle.ce_model.specs.Renaming.{CubeGrant}
use Rattle.ce_model.proofs.Subcubes.{extract-below, extract-node_of, node_of-rises, node_of-within, is_inside-node_of, node_of-extract}
use Rattle.ce_solo.proofs.Counting.{count, count-nil, count-append, count-is, count-put_all, count-run, rising-put_all, sum_run, sum_run-same, sum_run-zero, sum_run-at}
use Rattle.ce_solo.proofs.Lists.{all-append, all-map, all-weaker, pairwise-append, truth_bit, truth_bit-le}
use Rattle.ce_solo.proofs.Fresh.{rising-home}
use Rattle.xm_block.proofs.HomeBlocks.{length-blocks_of_home}
use Rattle.rk_node.proofs.Cleaned.{same-rising}
use Rattle.ce_cube.specs.Rehoming.{is_block_of, AreAllBlocks}
use Rattle.ce_cube.proofs.Stores.{count-at_home}

-- ---- the blocks of several homes, one after the other

all-range : (P : ℕ → Type 0) (from n : ℕ) → ((k : ℕ) → P k) → AllByRecursion P (range_with_len from n)
all-range P from zero each = tt
all-range P from (suc n) each = (each from, all-range P (from + 1) n each)

all-home : (P : ℕ → Type 0) (home : ℕ) → P home → AllByRecursion (λ id. P id.home) (blocks_of_home home)
all-home P home is = all-map (λ id. P id.home) (block home) (range_with_len 0 home_blocks) (all-range (λ index. P home) 0 home_blocks (λ index. is))

abbrev blocks_at : (ℕ → ℕ) → ℕ → ℕ → List BlockId
blocks_at home from n = flat_map (λ r. blocks_of_home (home r)) (range_with_len from n)

all-blocks : (P : ℕ → Type 0) (home : ℕ → ℕ) (from n : ℕ) → ((r : ℕ) → from ≤ r → r < from + n → P (home r))
    → AllByRecursion (λ id. P id.home) (blocks_at home from n)
all-blocks P home from zero each = tt
all-blocks P home from (suc n) each =
    all-append (λ id. P id.home) (blocks_of_home (home from)) (blocks_at home (from + 1) n)
    (all-home P (home from) (each from (omega arith) (omega arith)))
    (all-blocks P home (from + 1) n (λ r low high. each r (omega (arith, low)) (omega (arith, high))))

by_home : (a b : BlockId) → a.home < b.home → is_lower a b ≡ true
by_home a b less = or_left _ _ (lt-ltb a.home b.home less)

-- names of lower homes go in front
rising-both : (bound : ℕ) (xs ys : List BlockId) → AreRisingIds xs → AreRisingIds ys → AllByRecursion (λ id. id.home < bound) xs
    → AllByRecursion (λ id. bound ≤ id.home) ys → AreRisingIds (xs ++ ys)
rising-both bound xs ys rising rising' below above =
    pairwise-append (λ a b. is_lower a b ≡ true) xs ys rising rising'
    (all-weaker (λ a. a.home < bound) (λ a. AllByRecursion (λ b. is_lower a b ≡ true) ys) xs
    (λ a less. all-weaker (λ b. bound ≤ b.home) (λ b. is_lower a b ≡ true) ys (λ b more. by_home a b (omega (arith, less, more))) above) below)

rising-blocks : (home : ℕ → ℕ) (from n : ℕ) → ((r s : ℕ) → s < from + n → r < s → home r < home s) → AreRisingIds (blocks_at home from n)
rising-blocks home from zero rises = tt
rising-blocks home from (suc n) rises =
    rising-both (home from + 1) (blocks_of_home (home from)) (blocks_at home (from + 1) n) (rising-home (home from))
    (rising-blocks home (from + 1) n (λ r s high less. rises r s (omega (arith, high)) less))
    (all-home (λ h. h < home from + 1) (home from) (omega arith))
    (all-blocks (λ h. home from + 1 ≤ h) home (from + 1) n (λ r low high. omega (arith, rises from r (omega (arith, high)) (omega (arith, low)))))

length-blocks : (home : ℕ → ℕ) (from n : ℕ) → length (blocks_at home from n) ≡ n * home_blocks
length-blocks home from zero = omega arith
length-blocks home from (suc n) =
    length-append (blocks_of_home (home from)) (blocks_at home (from + 1) n)
    ∙ ap₂ (λ a b. a + b) (length-blocks_of_home (home from)) (length-blocks home (from + 1) n) ∙ more n home_blocks
  where
    more : (n b : ℕ) → b + n * b ≡ suc n * b
    more n b = grind arith

-- ---- the blocks of a cube

-- the names of all blocks of a cube in order: those of its nodes, in relative order, and then those
-- of its host
abbrev pub names_of_cube : CubeGrant → List BlockId
names_of_cube grant = flat_map (λ r. blocks_of_home (node_of grant.sub r)) (node_numbers grant.dim) ++ blocks_of_home (host_home + grant.user)

both_or : (a b c : Bool) → (a ≡ true → b ≡ false) → truth_bit (a && c) + truth_bit (b && c) ≡ truth_bit ((a || b) && c)
both_or true b c differ = rw (differ refl) (omega arith)
both_or false b c differ = omega arith

module _ (grant : CubeGrant) (sub : IsSubcube greatest_dim grant.dim grant.sub) where
  abbrev n : ℕ
  n = 2 ^ grant.dim

  abbrev home : ℕ → ℕ
  home r = node_of grant.sub r

  of_ones : (r : ℕ) → r < n → r < 2 ^ ones_of greatest_dim grant.sub.mask
  of_ones r below = rw sub.dimension below

  pub home-below : (r : ℕ) → home r < 64
  home-below r = omega (arith, node_of-within greatest_dim r grant.sub sub.base_within sub.mask_within sub.apart, greatest_nodes_lem)

  pub rising-cube : AreRisingIds (names_of_cube grant)
  rising-cube =
      rising-both host_home (blocks_at home 0 n) (blocks_of_home (host_home + grant.user))
      (rising-blocks home 0 n (λ r s high less. node_of-rises grant.sub r s (of_ones s (omega (arith, high))) less))
      (rising-home (host_home + grant.user))
      (all-blocks (λ h. h < host_home) home 0 n (λ r low high. omega (arith, home-below r, host_home_lem)))
      (all-home (λ h. host_home ≤ h) (host_home + grant.user) (omega arith))

  pub length-cube : length (names_of_cube grant) ≡ (n + 1) * home_blocks
  length-cube =
      length-append (blocks_at home 0 n) (blocks_of_home (host_home + grant.user))
      ∙ ap₂ (λ a b. a + b) (length-blocks home 0 n) (length-blocks_of_home (host_home + grant.user)) ∙ one_more n home_blocks
    where
      one_more : (n b : ℕ) → n * b + b ≡ (n + 1) * b
      one_more n b = grind arith

  -- ---- how often each stands there

  module _ (id : BlockId) where
    abbrev small : Bool
    small = nat_lt id.index home_blocks

    at_node : ℕ → ℕ
    at_node r = truth_bit (id.home == home r && small)

    none_if : (r : ℕ) → (id.home ≡ home r → ⊥) → at_node r ≡ 0
    unfolding at_node
    none_if r differ = ap (λ b. truth_bit (b && small)) (ne_eqb id.home (home r) differ)

    -- the node of the block's home has it, and no other
    inside : is_inside grant.sub id.home ≡ true → sum_run at_node 0 n ≡ truth_bit small
    unfolding at_node
    inside is =
        let own : ℕ = extract id.home grant.sub.mask in
        let there : home own ≡ id.home = node_of-extract grant.sub id.home is in
        let below : own < n = rw (← sub.dimension) (extract-below id.home grant.sub.mask) in
        let only : ℕ → ℕ = λ r. if r == own then truth_bit small else 0 in
        sum_run-same at_node only 0 n
        (λ r low high. elim (cases_eq r own) [
          | inl same ↦
              let here : (r == own) ≡ true = eq-eqb r own same in
              let at : (id.home == home r) ≡ true = eq-eqb id.home (home r) (sym there ∙ ap home (sym same)) in
              rw (here, at) refl
          | inr differ ↦
              none_if r (λ e. differ (sym (extract-node_of grant.sub r sub.apart (of_ones r (omega (arith, high)))) ∙ ap (λ h. extract h grant.sub.mask) (sym e)))
              ∙ sym (ap (λ b. if b then truth_bit small else 0) (ne_eqb r own differ))
        ])
        ∙ sum_run-at only own 0 n (omega arith) (omega (arith, below)) (λ r differ. ap (λ b. if b then truth_bit small else 0) (ne_eqb r own differ))
        ∙ ap (λ b. if b then truth_bit small else 0) (eq-eqb own own refl)

    outside : is_inside grant.sub id.home ≡ false → sum_run at_node 0 n ≡ 0
    outside not =
        sum_run-zero at_node 0 n (λ r low high.
        none_if r (λ e. both_ways _ not (ap (is_inside grant.sub) e ∙ is_inside-node_of grant.sub r sub.apart (of_ones r (omega (arith, high))))))

    at_nodes : sum_run at_node 0 n ≡ truth_bit (is_inside grant.sub id.home && small)
    at_nodes = elim (cases_Bool (is_inside grant.sub id.home)) [ inl is ↦ rw is (inside is) | inr not ↦ rw not (outside not) ]

    not_host : is_inside grant.sub id.home ≡ true → (id.home == host_home + grant.user) ≡ false
    not_host is =
        ne_eqb _ _ (λ e. omega (arith, e, host_home_lem, node_of-extract grant.sub id.home is, home-below (extract id.home grant.sub.mask)))

    pub count-cube : count id (names_of_cube grant) ≡ truth_bit (is_block_of grant id)
    unfolding at_node
    count-cube =
        count-append id (blocks_at home 0 n) (blocks_of_home (host_home + grant.user))
        ∙ ap₂ (λ a b. a + b)
        (count-run id (λ r. blocks_of_home (home r)) 0 n
        ∙ sum_run-same (λ r. count id (blocks_of_home (home r))) at_node 0 n (λ r low high. count-at_home id (home r)) ∙ at_nodes)
        (count-at_home id (host_home + grant.user))
        ∙ both_or (is_inside grant.sub id.home) (id.home == host_home + grant.user) small not_host

  -- ---- all blocks of the cube

  -- a store with each block of the cube once, and no other
  pub whole-store : (store : List BlockId) → AreRisingIds store → ((id : BlockId) → count id store ≡ truth_bit (is_block_of grant id)) → store ≡ names_of_cube grant
  whole-store store rising each = same-rising store (names_of_cube grant) rising rising-cube (λ id. each id ∙ sym (count-cube id))

  length-put : (id : BlockId) (ids : List BlockId) → length (with_id id ids) ≡ suc (length ids)
  length-put id [] = refl
  length-put id (x ∷ xs) = elim (cases_Bool (is_lower id x)) [ inl t ↦ rw t refl | inr f ↦ rw f (ap suc (length-put id xs)) ]

  length-put_all : (ids store : List BlockId) → length (with_ids ids store) ≡ length ids + length store
  length-put_all [] store = omega arith
  length-put_all (x ∷ ids) store = omega (arith, length-put_all ids (with_id x store), length-put x store)

  pub length-whole : (ids : List BlockId) → AreAllBlocks grant ids → length ids ≡ (n + 1) * home_blocks
  length-whole ids all =
      let each : (id : BlockId) → count id ids ≡ truth_bit (is_block_of grant id) = λ id. sym (count-is id ids) ∙ all.once id in
      let sorted : with_ids ids [] ≡ names_of_cube grant =
      whole-store (with_ids ids []) (rising-put_all ids [] tt (λ id. omega (arith, count-nil id, each id, truth_bit-le (is_block_of grant id))))
      (λ id. omega (arith, count-put_all id ids [], count-nil id, each id)) in
      omega (arith, length-put_all ids [], ap (λ ids. length ids) sorted, length-cube)
