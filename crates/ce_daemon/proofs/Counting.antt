-- How many elements of a list pass a test, and which.
use Rattle.std.proofs.Common.{◌≡◌, ℕ, ◌+◌, ◌<◌, ◌≤◌, Bool, true, false, not, if◌then◌else◌, List, [], ◌∷◌, ◌++◌, Some, None, refl, ap, ◌∙◌, arith, inl, inr, zero-add}
use Rattle.std.specs.Prelude.{filter, find, count_by}
use Rattle.std.specs.List.{list_any}
use Rattle.std.proofs.lemmas.Bool.{cases_Bool}
use Rattle.std.proofs.lemmas.List.Sums.{sum_by-append, sum_by-cons}
use Rattle.std.proofs.lemmas.List.Filters.{sum_by-filter_both}

abbrev pub truth_bit : Bool → ℕ
truth_bit b = if b then 1 else 0

pub count_by-cons : {X : Type 0} (p : X → Bool) (x : X) (xs : List X) → count_by p (x ∷ xs) ≡ truth_bit (p x) + count_by p xs
count_by-cons p x xs = sum_by-cons (λ y. truth_bit (p y)) x xs

pub count_by-more : {X : Type 0} (p : X → Bool) (xs : List X) (x : X) → count_by p (xs ++ x ∷ []) ≡ count_by p xs + truth_bit (p x)
count_by-more p xs x = sum_by-append (λ y. truth_bit (p y)) xs (x ∷ []) ∙ ap (λ n. count_by p xs + n) (zero-add (truth_bit (p x)))

-- none passes where the count is 0
pub list_any-none : {X : Type 0} (p : X → Bool) (xs : List X) → count_by p xs ≡ 0 → list_any p xs ≡ false
list_any-none p [] none = refl
list_any-none p (x ∷ xs) none =
    elim (cases_Bool (p x)) [
      | inl passes ↦ absurd (omega (arith, count_by-cons p x xs, ap truth_bit passes))
      | inr fails ↦ rw fails (list_any-none p xs (omega (arith, count_by-cons p x xs)))
    ]

pub list_any-some : {X : Type 0} (p : X → Bool) (xs : List X) → 0 < count_by p xs → list_any p xs ≡ true
list_any-some p [] some = absurd (omega arith)
list_any-some p (x ∷ xs) some =
    elim (cases_Bool (p x)) [
      | inl passes ↦ rw passes refl
      | inr fails ↦ rw fails (list_any-some p xs (omega (arith, count_by-cons p x xs, ap truth_bit fails)))
    ]

pub find-count : {X : Type 0} (p : X → Bool) (xs : List X) → find p xs ≡ None → count_by p xs ≡ 0
find-count p [] none = refl
find-count p (x ∷ xs) none =
    elim (cases_Bool (p x)) [
      | inl passes ↦ let found : Some x ≡ None = rw passes at none in absurd (cc)
      | inr fails ↦ let rest : find p xs ≡ None = rw fails at none in omega (arith, count_by-cons p x xs, ap truth_bit fails, find-count p xs rest)
    ]

filter-none : {X : Type 0} (p : X → Bool) (xs : List X) → count_by p xs ≡ 0 → filter p xs ≡ []
filter-none p [] none = refl
filter-none p (x ∷ xs) none =
    elim (cases_Bool (p x)) [
      | inl passes ↦ absurd (omega (arith, count_by-cons p x xs, ap truth_bit passes))
      | inr fails ↦ rw fails (filter-none p xs (omega (arith, count_by-cons p x xs)))
    ]

-- where one passes at most, it is the one that is found
pub filter-found : {X : Type 0} (p : X → Bool) (xs : List X) (x : X) → find p xs ≡ Some x → count_by p xs ≤ 1 → filter p xs ≡ x ∷ []
filter-found p [] x found single = absurd (cc)
filter-found p (y ∷ xs) x found single =
    elim (cases_Bool (p y)) [
      | inl passes ↦
          let here : Some y ≡ Some x = rw passes at found in
          let same : y ≡ x = cc in
          rw (passes, same, filter-none p xs (omega (arith, count_by-cons p y xs, ap truth_bit passes))) refl
      | inr fails ↦
          let rest : find p xs ≡ Some x = rw fails at found in
          rw fails (filter-found p xs x rest (omega (arith, count_by-cons p y xs, ap truth_bit fails)))
    ]

twice_not : (b : Bool) → b ≡ not (not b)
twice_not true = refl
twice_not false = refl

-- those that pass a test are counted among those that pass another, and those that don't
pub count_by-parts : {X : Type 0} (p q : X → Bool) (xs : List X) → count_by p (filter (λ x. not (q x)) xs) + count_by p (filter q xs) ≡ count_by p xs
count_by-parts p q xs = sum_by-filter_both (λ x. not (q x)) q (λ x. twice_not (q x)) (λ x. truth_bit (p x)) xs
