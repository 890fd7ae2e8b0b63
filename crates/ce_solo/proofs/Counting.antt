-- How often a name stands among names, stores of names that rise, and sums over a run of numbers.
use Rattle.std.proofs.Common.{◌≡◌, ℕ, zero, suc, ◌+◌, ◌<◌, ◌≤◌, Bool, true, false, ◌&&◌, ◌==◌, nat_lt, if◌then◌else◌, List, [], ◌∷◌, ◌++◌, length, take, drop, flat_map, count_by, slice_set, slice_index_or, refl, ap, sym, ◌∙◌, subst, arith, inl, inr}
use Rattle.std.specs.List.{AllByRecursion, range_with_len}
use Rattle.std.proofs.lemmas.Bool.{cases_lt, cases_order, eq-eqb, eqb-true, ltb-true, lt-ltb, and_parts, and_from, or_cases, or_left, or_right, cases_Bool, both_ways, cond_both}
use Rattle.std.proofs.lemmas.List.Sums.{sum_by-cons}
use Rattle.ce_model.specs.declared.topology.BlockId.{BlockId}
use Rattle.ce_model.specs.Blocks.{is_lower, with_id, with_ids, is_same_id}
use Rattle.ce_model.specs.Literals.{block}
use Rattle.ce_model.specs.Sound.{AreRisingIds}
use Rattle.ce_model.proofs.BlockOrder.{precedes-trans}

-- ---- names

name_of_parts : (h k i j : ℕ) → h ≡ k → i ≡ j → block h i ≡ block k j
name_of_parts h k i j e f = ap (λ n. block n i) e ∙ ap (block k) f

pub same_id : (a b : BlockId) → is_same_id a b ≡ true → a ≡ b
same_id a b h =
    let parts = and_parts (a.home == b.home) (a.index == b.index) h in
    name_of_parts a.home b.home a.index b.index (eqb-true a.home b.home parts.0) (eqb-true a.index b.index parts.1)

pub same_id-self : (a : BlockId) → is_same_id a a ≡ true
same_id-self a = and_from _ _ (eq-eqb a.home a.home refl) (eq-eqb a.index a.index refl)

-- 1 where two names are the same, and else 0
unfoldable pub hit : BlockId → BlockId → ℕ
hit id other = if is_same_id id other then 1 else 0

pub hit-self : (id : BlockId) → hit id id ≡ 1
unfolding hit
hit-self id = rw (same_id-self id) refl

pub same_from_hit : (a b : BlockId) → 1 ≤ hit a b → a ≡ b
unfolding hit
same_from_hit a b h = elim (cases_Bool (is_same_id a b)) [ inl t ↦ same_id a b t | inr f ↦ absurd (omega (arith, rw f at h)) ]

pub hit-le : (a b : BlockId) → hit a b ≤ 1
unfolding hit
hit-le a b = by_test (is_same_id a b)
  where
    by_test : (b : Bool) → (if b then 1 else 0) ≤ 1
    by_test true = omega arith
    by_test false = omega arith

-- how often a name stands in a list
unfoldable pub count : BlockId → List BlockId → ℕ
count id [] = 0
count id (x ∷ xs) = hit id x + count id xs

pub count-nil : (id : BlockId) → count id [] ≡ 0
unfolding count
count-nil id = refl

pub count-cons : (id x : BlockId) (xs : List BlockId) → count id (x ∷ xs) ≡ hit id x + count id xs
unfolding count
count-cons id x xs = refl

pub count-one : (id x : BlockId) → count id (x ∷ []) ≡ hit id x
unfolding count
count-one id x = omega arith

pub count-is : (id : BlockId) (xs : List BlockId) → count_by (is_same_id id) xs ≡ count id xs
unfolding count hit
count-is id [] = refl
count-is id (x ∷ xs) = omega (arith, sum_by-cons (λ x. if is_same_id id x then 1 else 0) x xs, count-is id xs)

pub count-append : (id : BlockId) (xs ys : List BlockId) → count id (xs ++ ys) ≡ count id xs + count id ys
unfolding count
count-append id [] ys = omega arith
count-append id (x ∷ xs) ys = omega (arith, count-append id xs ys)

pub count-put : (id x : BlockId) (xs : List BlockId) → count id (with_id x xs) ≡ hit id x + count id xs
unfolding count
count-put id x [] = refl
count-put id x (y ∷ ys) =
    cond_both (is_lower x y) (x ∷ y ∷ ys) (y ∷ with_id x ys) (λ zs. count id zs ≡ hit id x + (hit id y + count id ys))
    (λ t. refl) (λ f. omega (arith, count-put id x ys))

pub count-put_all : (id : BlockId) (ids store : List BlockId) → count id (with_ids ids store) ≡ count id ids + count id store
unfolding count
count-put_all id [] store = omega arith
count-put_all id (x ∷ ids) store = omega (arith, count-put_all id ids (with_id x store), count-put id x store)

pub count-take-drop : (id : BlockId) (k : ℕ) (xs : List BlockId) → count id (take k xs) + count id (drop k xs) ≡ count id xs
unfolding count
count-take-drop id zero xs = omega arith
count-take-drop id (suc k) [] = refl
count-take-drop id (suc k) (x ∷ xs) = omega (arith, count-take-drop id k xs)

-- a piece of a list made of pieces is another
pub count-set : {X : Type 0} (id : BlockId) (ids : X → List BlockId) (xs : List X) (k : ℕ) (y d : X) → k < length xs
    → count id (flat_map ids (slice_set xs k y)) + count id (ids (slice_index_or xs k d)) ≡ count id (flat_map ids xs) + count id (ids y)
count-set id ids [] k y d h = absurd (omega arith)
count-set id ids (x ∷ xs) zero y d h =
    omega (arith, count-append id (ids y) (flat_map ids xs), count-append id (ids x) (flat_map ids xs))
count-set id ids (x ∷ xs) (suc k) y d h =
    omega (arith, count-append id (ids x) (flat_map ids (slice_set xs k y)), count-append id (ids x) (flat_map ids xs), count-set id ids xs k y d (omega arith))

pub count-piece : {X : Type 0} (id : BlockId) (ids : X → List BlockId) (xs : List X) (k : ℕ) (d : X) → k < length xs
    → count id (ids (slice_index_or xs k d)) ≤ count id (flat_map ids xs)
count-piece id ids [] k d h = absurd (omega arith)
count-piece id ids (x ∷ xs) zero d h = omega (arith, count-append id (ids x) (flat_map ids xs))
count-piece id ids (x ∷ xs) (suc k) d h = omega (arith, count-append id (ids x) (flat_map ids xs), count-piece id ids xs k d (omega arith))

-- a property of names that each of some has, and that the same names in another list have
pub all-at_name : (P : BlockId → Type 0) (xs : List BlockId) (id : BlockId) → AllByRecursion P xs → 1 ≤ count id xs → P id
unfolding count
all-at_name P [] id all h = absurd (omega arith)
all-at_name P (x ∷ xs) id all h =
    elim (cases_lt (hit id x) 1) [
      | inl none ↦ all-at_name P xs id all.1 (omega arith)
      | inr here ↦ subst P (sym (same_from_hit id x here)) all.0
    ]

pub all-from_names : (P : BlockId → Type 0) (xs : List BlockId) → ((id : BlockId) → 1 ≤ count id xs → P id) → AllByRecursion P xs
unfolding count
all-from_names P [] each = tt
all-from_names P (x ∷ xs) each = (each x (omega (arith, hit-self x)), all-from_names P xs (λ id h. each id (omega arith)))

-- ---- stores that rise

precedes-parts : (a b : BlockId) (P : Type 0) → is_lower a b ≡ true → (a.home < b.home → P) → (a.home ≡ b.home → a.index < b.index → P) → P
precedes-parts a b P h by_home by_index =
    elim (or_cases (nat_lt a.home b.home) (a.home == b.home && nat_lt a.index b.index) h) [
      | inl l ↦ by_home (ltb-true a.home b.home l)
      | inr r ↦
          let parts = and_parts (a.home == b.home) (nat_lt a.index b.index) r in
          by_index (eqb-true a.home b.home parts.0) (ltb-true a.index b.index parts.1)
    ]

precedes-home : (a b : BlockId) → a.home < b.home → is_lower a b ≡ true
precedes-home a b h = or_left _ _ (lt-ltb a.home b.home h)

precedes-index : (a b : BlockId) → a.home ≡ b.home → a.index < b.index → is_lower a b ≡ true
precedes-index a b h i = or_right _ _ (and_from _ _ (eq-eqb a.home b.home h) (lt-ltb a.index b.index i))

-- of two names that differ one precedes the other
pub precedes-other : (a b : BlockId) → is_lower a b ≡ false → hit a b ≡ 0 → is_lower b a ≡ true
unfolding hit
precedes-other a b not_before differ =
    elim (cases_order a.home b.home) [
      | inl same ↦
          elim (cases_order a.index b.index) [
            | inl same_index ↦
                let is : is_same_id a b ≡ true = and_from _ _ (eq-eqb a.home b.home same) (eq-eqb a.index b.index same_index) in
                absurd (omega (arith, differ, ap {B = ℕ} (λ b. if b then 1 else 0) is))
            | inr order ↦
                elim order [
                  | inl less ↦ absurd (both_ways _ not_before (precedes-index a b same less))
                  | inr more ↦ precedes-index b a (sym same) more
                ]
          ]
      | inr order ↦
          elim order [ inl less ↦ absurd (both_ways _ not_before (precedes-home a b less)) | inr more ↦ precedes-home b a more ]
    ]

all-put : (P : BlockId → Type 0) (x : BlockId) (xs : List BlockId) → P x → AllByRecursion P xs → AllByRecursion P (with_id x xs)
all-put P x [] p all = (p, tt)
all-put P x (y ∷ ys) p all =
    cond_both (is_lower x y) (x ∷ y ∷ ys) (y ∷ with_id x ys) (AllByRecursion P) (λ t. (p, all)) (λ f. (all.0, all-put P x ys p all.1))

all_behind : (x y : BlockId) (ys : List BlockId) → is_lower x y ≡ true → AllByRecursion (λ z. is_lower y z ≡ true) ys → AllByRecursion (λ z. is_lower x z ≡ true) ys
all_behind x y [] h all = tt
all_behind x y (z ∷ zs) h all = (precedes-trans x y z h all.0, all_behind x y zs h all.1)

-- a name that a rising store doesn't have is put in its place
pub rising-put : (x : BlockId) (xs : List BlockId) → AreRisingIds xs → count x xs ≡ 0 → AreRisingIds (with_id x xs)
unfolding count
rising-put x [] rising new = (tt, tt)
rising-put x (y ∷ ys) rising new =
    cond_both (is_lower x y) (x ∷ y ∷ ys) (y ∷ with_id x ys) AreRisingIds
    (λ h. ((h, all_behind x y ys h rising.0), rising))
    (λ h. (all-put (λ z. is_lower y z ≡ true) x ys (precedes-other x y h (omega arith)) rising.0, rising-put x ys rising.1 (omega arith)))

pub rising-put_all : (ids store : List BlockId) → AreRisingIds store → ((id : BlockId) → count id ids + count id store ≤ 1) → AreRisingIds (with_ids ids store)
unfolding count
rising-put_all [] store rising once = rising
rising-put_all (x ∷ ids) store rising once =
    rising-put_all ids (with_id x store) (rising-put x store rising (omega (arith, once x, hit-self x)))
    (λ id. omega (arith, once id, count-put id x store))

pub rising-drop : (k : ℕ) (xs : List BlockId) → AreRisingIds xs → AreRisingIds (drop k xs)
rising-drop zero xs rising = rising
rising-drop (suc k) [] rising = tt
rising-drop (suc k) (x ∷ xs) rising = rising-drop k xs rising.1

-- ---- sums over a run of numbers

unfoldable pub sum_run : (ℕ → ℕ) → ℕ → ℕ → ℕ
sum_run f from zero = 0
sum_run f from (suc n) = f from + sum_run f (from + 1) n

pub count-run : (id : BlockId) (ids : ℕ → List BlockId) (from n : ℕ)
    → count id (flat_map ids (range_with_len from n)) ≡ sum_run (λ r. count id (ids r)) from n
unfolding sum_run count
count-run id ids from zero = refl
count-run id ids from (suc n) =
    omega (arith, count-append id (ids from) (flat_map ids (range_with_len (from + 1) n)), count-run id ids (from + 1) n)

pub sum_run-same : (f g : ℕ → ℕ) (from n : ℕ) → ((k : ℕ) → from ≤ k → k < from + n → f k ≡ g k) → sum_run f from n ≡ sum_run g from n
unfolding sum_run
sum_run-same f g from zero each = refl
sum_run-same f g from (suc n) each =
    omega (arith, each from (omega arith) (omega arith), sum_run-same f g (from + 1) n (λ k h l. each k (omega arith) (omega arith)))

pub sum_run-add : (f g : ℕ → ℕ) (from n : ℕ) → sum_run (λ k. f k + g k) from n ≡ sum_run f from n + sum_run g from n
unfolding sum_run
sum_run-add f g from zero = refl
sum_run-add f g from (suc n) = omega (arith, sum_run-add f g (from + 1) n)

pub sum_run-zero : (f : ℕ → ℕ) (from n : ℕ) → ((k : ℕ) → from ≤ k → k < from + n → f k ≡ 0) → sum_run f from n ≡ 0
unfolding sum_run
sum_run-zero f from zero each = refl
sum_run-zero f from (suc n) each =
    omega (arith, each from (omega arith) (omega arith), sum_run-zero f (from + 1) n (λ k h l. each k (omega arith) (omega arith)))

-- one of the numbers has this, and the others nothing
pub sum_run-at : (f : ℕ → ℕ) (r from n : ℕ) → from ≤ r → r < from + n → ((k : ℕ) → (k ≡ r → ⊥) → f k ≡ 0) → sum_run f from n ≡ f r
unfolding sum_run
sum_run-at f r from zero low high each = absurd (omega arith)
sum_run-at f r from (suc n) low high each =
    elim (cases_order from r) [
      | inl same ↦ omega (arith, ap f same, sum_run-zero f (from + 1) n (λ k h l. each k (λ e. omega arith)))
      | inr order ↦
          elim order [
            | inl less ↦ omega (arith, each from (λ e. omega arith), sum_run-at f r (from + 1) n (omega arith) (omega arith) each)
            | inr more ↦ absurd (omega arith)
          ]
    ]

-- each one is within the whole
pub sum_run-part : (f : ℕ → ℕ) (r from n : ℕ) → from ≤ r → r < from + n → f r ≤ sum_run f from n
unfolding sum_run
sum_run-part f r from zero low high = absurd (omega arith)
sum_run-part f r from (suc n) low high =
    elim (cases_order from r) [
      | inl same ↦ omega (arith, ap f same)
      | inr order ↦
          elim order [ inl less ↦ omega (arith, sum_run-part f r (from + 1) n (omega arith) (omega arith)) | inr more ↦ absurd (omega arith) ]
    ]
