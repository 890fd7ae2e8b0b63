-- What each change of the map of a node leaves of its order and of its length.
use Rattle.std.proofs.Common.{◌≡◌, ℕ, suc, ◌+◌, Bool, true, false, ◌==◌, List, [], ◌∷◌, length, map, filter, Some, None, arith, refl, ap, ◌∙◌, inl, inr}
use Rattle.std.specs.List.{AllByRecursion}
use Rattle.std.proofs.lemmas.Bool.{cases_Bool}
use Rattle.std.proofs.lemmas.Bool.Decides.{nat_tests}
use Rattle.std.proofs.lemmas.Option.{none-some}
use Rattle.ce_model.specs.Blocks.{Block}
use Rattle.ce_model.specs.Rising.{with_inserted}
use Rattle.xm_owner.specs.Holdings.{Mapping, is_mapping_at, is_mapping_before, block_held_at, process_blocks, mappings_without, without_process}
use Rattle.xm_owner.proofs.Mappings.{vacant-head, vacant-tail, without-vacant}
use Rattle.rk_process.specs.OwnStates.{place_of}
use Rattle.rk_node.specs.Tables.{is_place_before, AreRisingPlaces}

before-trans : (a b c : ℕ × ℕ) → is_place_before a b ≡ true → is_place_before b c ≡ true → is_place_before a c ≡ true
before-trans a b c first next = grind (arith, nat_tests)

before-other : (a b : Mapping) → is_mapping_before a b ≡ false → is_mapping_at a.pid a.window b ≡ false → is_place_before (place_of b) (place_of a) ≡ true
before-other a b first next = grind (arith, nat_tests)

before-apart : (a b : Mapping) (pid w : ℕ) → is_place_before (place_of a) (place_of b) ≡ true → is_mapping_at pid w a ≡ true → is_mapping_at pid w b ≡ false
before-apart a b pid w first at = grind (arith, nat_tests)

-- ---- a mapping more

pub all-put_in : (P : ℕ × ℕ → Type 0) (x : Mapping) (m : List Mapping) → P (place_of x) → AllByRecursion P (map place_of m)
    → AllByRecursion P (map place_of (with_inserted is_mapping_before x m))
all-put_in P x [] here all = (here, tt)
all-put_in P x (y ∷ ys) here all = elim (cases_Bool (is_mapping_before x y)) [
  | inl t ↦ rw t (here, all)
  | inr f ↦ rw f (all.0, all-put_in P x ys here all.1)
]

all-trans : (a b : ℕ × ℕ) (places : List (ℕ × ℕ)) → is_place_before a b ≡ true → AllByRecursion (λ c. is_place_before b c ≡ true) places
    → AllByRecursion (λ c. is_place_before a c ≡ true) places
all-trans a b [] first all = tt
all-trans a b (c ∷ cs) first all = (before-trans a b c first all.0, all-trans a b cs first all.1)

pub rising-put_in : (x : Mapping) (m : List Mapping) → block_held_at m x.pid x.window ≡ None → AreRisingPlaces (map place_of m)
    → AreRisingPlaces (map place_of (with_inserted is_mapping_before x m))
rising-put_in x [] vacant rising = (tt, tt)
rising-put_in x (y ∷ ys) vacant rising = elim (cases_Bool (is_mapping_before x y)) [
  | inl t ↦ rw t ((t, all-trans (place_of x) (place_of y) (map place_of ys) t rising.0), rising)
  | inr f ↦ rw f (
    all-put_in (λ c. is_place_before (place_of y) c ≡ true) x ys (before-other x y f (vacant-head x.pid x.window y ys vacant)) rising.0,
    rising-put_in x ys (vacant-tail x.pid x.window y ys vacant) rising.1,
  )
]

pub length-put_in : (x : Mapping) (m : List Mapping) → length (with_inserted is_mapping_before x m) ≡ suc (length m)
length-put_in x [] = refl
length-put_in x (y ∷ ys) = elim (cases_Bool (is_mapping_before x y)) [
  | inl t ↦ rw t refl
  | inr f ↦ rw f (ap suc (length-put_in x ys))
]

-- ---- some mappings less

pub all-filter : (P : ℕ × ℕ → Type 0) (test : Mapping → Bool) (m : List Mapping) → AllByRecursion P (map place_of m)
    → AllByRecursion P (map place_of (filter test m))
all-filter P test [] all = tt
all-filter P test (y ∷ ys) all = elim (cases_Bool (test y)) [
  | inl t ↦ rw t (all.0, all-filter P test ys all.1)
  | inr f ↦ rw f (all-filter P test ys all.1)
]

pub rising-filter : (test : Mapping → Bool) (m : List Mapping) → AreRisingPlaces (map place_of m) → AreRisingPlaces (map place_of (filter test m))
rising-filter test [] rising = tt
rising-filter test (y ∷ ys) rising = elim (cases_Bool (test y)) [
  | inl t ↦ rw t (all-filter (λ c. is_place_before (place_of y) c ≡ true) test ys rising.0, rising-filter test ys rising.1)
  | inr f ↦ rw f (rising-filter test ys rising.1)
]

behind-vacant : (pid w : ℕ) (x : Mapping) (m : List Mapping) → is_mapping_at pid w x ≡ true → AllByRecursion (λ c. is_place_before (place_of x) c ≡ true) (map place_of m)
    → block_held_at m pid w ≡ None
behind-vacant pid w x [] at all = refl
behind-vacant pid w x (y ∷ ys) at all = rw (before-apart x y pid w all.0 at) (behind-vacant pid w x ys at all.1)

pub length-without : (pid w : ℕ) (block : Block) (m : List Mapping) → AreRisingPlaces (map place_of m) → block_held_at m pid w ≡ Some block
    → suc (length (mappings_without pid w m)) ≡ length m
length-without pid w block [] rising held = absurd (none-some block held)
length-without pid w block (x ∷ xs) rising held = elim (cases_Bool (is_mapping_at pid w x)) [
  | inl t ↦ rw t (ap (λ (ms : List Mapping). suc (length ms)) (without-vacant pid w xs (behind-vacant pid w x xs t rising.0)))
  | inr f ↦ rw f (ap suc (length-without pid w block xs rising.1 (rw f at held)))
]

length-without_process : (pid : ℕ) (m : List Mapping) → length (without_process pid m) + length (process_blocks pid m) ≡ length m
length-without_process pid [] = refl
length-without_process pid (x ∷ xs) =
    let rest = length-without_process pid xs in
    elim (cases_Bool (x.pid == pid)) [
      | inl t ↦ rw t (omega (arith, rest))
      | inr f ↦ rw f (omega (arith, rest))
    ]

-- a map that the blocks of a process have left
pub length-drained : (pid : ℕ) (before after : List Mapping) → after ≡ without_process pid before → length after + length (process_blocks pid before) ≡ length before
length-drained pid before after left = ap (λ (m : List Mapping). length m + length (process_blocks pid before)) left ∙ length-without_process pid before
