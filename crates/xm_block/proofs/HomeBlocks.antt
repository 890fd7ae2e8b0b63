-- The names of a home's blocks, one after the other.
use Rattle.std.proofs.Common.{◌≡◌, ℕ, zero, suc, ◌+◌, ◌<◌, ◌≤◌, List, [], ◌∷◌, ◌++◌, map, length, false, arith, refl, ap, sym, ◌∙◌}
use Rattle.std.specs.List.{Contains, range_with_len}
use Rattle.std.proofs.lemmas.Bool.Decides.{nat_tests}
use Rattle.std.proofs.lemmas.List.FromFn.{get_or-map-range_with_len, length-map-range_with_len, map-range_with_len_more}
use Rattle.ce_model.specs.declared.topology.BlockId.{BlockId}
use Rattle.ce_model.specs.Limits.{home_blocks}
use Rattle.ce_model.specs.Blocks.{is_lower, with_id, blocks_of_home}
use Rattle.ce_model.specs.Literals.{block}

-- the first blocks of a home
abbrev pub first_names : ℕ → ℕ → List BlockId
first_names home count = map (block home) (range_with_len 0 count)

later : (home i j : ℕ) → i < j → is_lower (block home j) (block home i) ≡ false
later home i j h = grind (arith, nat_tests)

put-later : (home a n j : ℕ) → a + n ≤ j → with_id (block home j) (map (block home) (range_with_len a n)) ≡ map (block home) (range_with_len a n) ++ block home j ∷ []
put-later home a zero j h = refl
put-later home a (suc n) j h = rw (later home a j (omega arith)) (ap (λ ids. block home a ∷ ids) (put-later home (a + 1) n j (omega arith)))

-- the next block's name goes last
pub put-next : (home count : ℕ) → with_id (block home count) (first_names home count) ≡ first_names home (count + 1)
put-next home count = put-later home 0 count count (omega arith) ∙ sym (map-range_with_len_more (block home) 0 count count (omega arith))

-- it isn't among the earlier ones
pub next-apart : (home count : ℕ) → Contains (first_names home count) (block home count) → ⊥
next-apart home count (k, low, same) =
    let long : length (first_names home count) ≡ count = length-map-range_with_len (block home) 0 count in
    let at = get_or-map-range_with_len (block home) 0 count k k (block home count) (omega arith) (omega arith) in
    let e : block home k ≡ block home count = sym at ∙ same in
    absurd (omega (arith, ap (λ id. id.index) e))

-- the blocks of a home have that home
pub of_home : (home : ℕ) (id : BlockId) → Contains (blocks_of_home home) id → id.home ≡ home
of_home home id (k, low, same) =
    let long : length (blocks_of_home home) ≡ home_blocks = length-map-range_with_len (block home) 0 home_blocks in
    let at = get_or-map-range_with_len (block home) 0 home_blocks k k id (omega arith) (omega arith) in
    ap (λ id. id.home) (sym same ∙ at)

pub length-blocks_of_home : (home : ℕ) → length (blocks_of_home home) ≡ home_blocks
length-blocks_of_home home = length-map-range_with_len (block home) 0 home_blocks
