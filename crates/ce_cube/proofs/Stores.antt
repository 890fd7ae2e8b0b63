-- A store with each block of a home once, and no other, is the one that the home begins with.
use Rattle.std.proofs.Common.{◌≡◌, ℕ, ◌+◌, ◌≤◌, Bool, true, false, ◌&&◌, ◌==◌, nat_lt, if◌then◌else◌, List, [], ◌∷◌, map, filter, refl, ap, ap₂, sym, ◌∙◌, inl, inr, arith}
use Rattle.std.specs.List.{range_with_len}
use Rattle.std.proofs.lemmas.Bool.{cases_Bool, cases_lt, eq-eqb, eqb-true, ne_eqb, lt-ltb, le-ltb}
use Rattle.std.proofs.lemmas.List.Concat.{flat_map_single}
use Rattle.ce_model.specs.declared.topology.BlockId.{BlockId}
use Rattle.ce_model.specs.Limits.{home_blocks}
use Rattle.ce_model.specs.Blocks.{with_ids, blocks_of_home}
use Rattle.ce_model.specs.Literals.{block}
use Rattle.ce_model.specs.Renaming.{CubeGrant}
use Rattle.ce_solo.proofs.Counting.{hit, same_from_hit, count, count-nil, count-cons, count-one, count-is, count-run, count-put_all, rising-put_all, all-from_names, sum_run, sum_run-zero, sum_run-at}
use Rattle.ce_solo.proofs.Lists.{truth_bit}
use Rattle.ce_solo.proofs.Fresh.{rising-home}
use Rattle.rk_node.proofs.Cleaned.{same-rising}
use Rattle.ce_cube.specs.Rehoming.{is_home, is_block_of, AreAllBlocks, AreSorted, BlocksSort, StoresAreHome}

-- ---- the blocks of a home

hit-name : (id : BlockId) (home index : ℕ) → hit id (block home index) ≡ (if id.home == home && id.index == index then 1 else 0)
unfolding hit
hit-name id home index = refl

count-run_of : (id : BlockId) (home n : ℕ) → count id (map (block home) (range_with_len 0 n)) ≡ sum_run (λ index. count id (block home index ∷ [])) 0 n
count-run_of id home n =
    ap (count id) (sym (flat_map_single (block home) (range_with_len 0 n))) ∙ count-run id (λ index. block home index ∷ []) 0 n

none_if : (a b : Bool) → b ≡ false → truth_bit (a && b) ≡ 0
none_if true b e = ap truth_bit e
none_if false b e = refl

other_index : (id : BlockId) (home index : ℕ) → (index ≡ id.index → ⊥) → count id (block home index ∷ []) ≡ 0
other_index id home index differ =
    let other : (id.index == index) ≡ false = ne_eqb _ _ (λ e. differ (sym e)) in
    omega (arith, count-one id (block home index), hit-name id home index, none_if (id.home == home) (id.index == index) other)

count-home : (id : BlockId) (home n : ℕ) → count id (map (block home) (range_with_len 0 n)) ≡ (if id.home == home && nat_lt id.index n then 1 else 0)
count-home id home n =
    elim (cases_lt id.index n) [
      | inl below ↦
          let less : nat_lt id.index n ≡ true = lt-ltb _ _ below in
          let same : (id.index == id.index) ≡ true = eq-eqb id.index id.index refl in
          let here : count id (block home id.index ∷ []) ≡ (if id.home == home && nat_lt id.index n then 1 else 0) =
          count-one id (block home id.index) ∙ hit-name id home id.index ∙ rw (less, same) refl in
          count-run_of id home n
          ∙ sum_run-at (λ index. count id (block home index ∷ [])) id.index 0 n (omega arith) (omega (arith, below)) (λ index differ. other_index id home index differ) ∙ here
      | inr past ↦
          let more : nat_lt id.index n ≡ false = le-ltb _ _ past in
          count-run_of id home n
          ∙ sum_run-zero (λ index. count id (block home index ∷ [])) 0 n (λ index low high. other_index id home index (λ e. omega (arith, e, high, past)))
          ∙ sym (none_if (id.home == home) (nat_lt id.index n) more)
    ]

pub count-at_home : (id : BlockId) (home : ℕ) → count id (blocks_of_home home) ≡ truth_bit (id.home == home && nat_lt id.index home_blocks)
count-at_home id home = count-home id home home_blocks

pub stores-are-home : StoresAreHome
stores-are-home home store rising each =
    same-rising store (blocks_of_home home) rising (rising-home home) (λ id. sym (count-is id store) ∙ each id ∙ sym (count-at_home id home))

-- ---- the blocks of a cube, by their homes

nothing_if : (b : Bool) (n : ℕ) → n ≡ 0 → (if b then n else 0) ≡ 0
nothing_if true n e = e
nothing_if false n e = refl

both_if : (b : Bool) (m n : ℕ) → (if b then m else 0) + (if b then n else 0) ≡ (if b then m + n else 0)
both_if true m n = refl
both_if false m n = refl

first_if : (id x : BlockId) (ids : List BlockId) (b : Bool) → count id (if b then x ∷ ids else ids) ≡ (if b then hit id x else 0) + count id ids
first_if id x ids true = count-cons id x ids
first_if id x ids false = omega arith

same_test : (p : BlockId → Bool) (id x : BlockId) → (if p x then hit id x else 0) ≡ (if p id then hit id x else 0)
same_test p id x =
    elim (cases_lt (hit id x) 1) [
      | inl differ ↦
          let none : hit id x ≡ 0 = omega (arith, differ) in
          nothing_if (p x) (hit id x) none ∙ sym (nothing_if (p id) (hit id x) none)
      | inr same ↦ ap (λ y. if p y then hit id x else 0) (sym (same_from_hit id x same))
    ]

count-filter : (p : BlockId → Bool) (id : BlockId) (ids : List BlockId) → count id (filter p ids) ≡ (if p id then count id ids else 0)
count-filter p id [] = count-nil id ∙ sym (nothing_if (p id) (count id []) (count-nil id))
count-filter p id (x ∷ ids) =
    first_if id x (filter p ids) (p x) ∙ ap₂ (λ m n. m + n) (same_test p id x) (count-filter p id ids) ∙ both_if (p id) (hit id x) (count id ids)
    ∙ ap (λ n. if p id then n else 0) (sym (count-cons id x ids))

module _ (grant : CubeGrant) (ids : List BlockId) (all : AreAllBlocks grant ids) where
  counted : (id : BlockId) → count id ids ≡ truth_bit (is_block_of grant id)
  counted id = sym (count-is id ids) ∙ all.once id

  own-block : (id : BlockId) → 1 ≤ count id ids → is_block_of grant id ≡ true
  own-block id some =
      elim (cases_Bool (is_block_of grant id)) [ inl is ↦ is | inr other ↦ absurd (omega (arith, some, counted id, ap truth_bit other)) ]

  abbrev of_home : ℕ → List BlockId
  of_home home = filter (λ id. id.home == home) ids

  at_home : (home : ℕ) (id : BlockId) → is_home grant home ≡ true → count id (of_home home) ≡ truth_bit (id.home == home && nat_lt id.index home_blocks)
  at_home home id is =
      count-filter (λ id. id.home == home) id ids
      ∙ elim (cases_Bool (id.home == home)) [
        | inl here ↦
            let known : is_home grant id.home ≡ true = ap (is_home grant) (eqb-true _ _ here) ∙ is in
            rw here (counted id ∙ ap (λ b. truth_bit (b && nat_lt id.index home_blocks)) known)
        | inr other ↦ rw other refl
      ]

  few : (b : Bool) → truth_bit b ≤ 1
  few true = omega arith
  few false = omega arith

  sorted : AreSorted grant ids
  sorted = record {
    own = all-from_names (λ id. is_block_of grant id ≡ true) ids own-block;
    at_home = λ home is.
        stores-are-home home (with_ids (of_home home) [])
        (rising-put_all (of_home home) [] tt (λ id. omega (arith, count-nil id, at_home home id is, few (id.home == home && nat_lt id.index home_blocks))))
        (λ id. count-is id (with_ids (of_home home) []) ∙ omega (arith, count-put_all id (of_home home) [], count-nil id, at_home home id is));
  }

pub blocks-sort : BlocksSort
blocks-sort grant ids all = sorted grant ids all
