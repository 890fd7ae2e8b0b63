-- A list and its members of each number: together these are as many, and one of them passes a test
-- where one of the list does.
use Rattle.std.proofs.Common.{◌≡◌, ℕ, zero, suc, ◌+◌, ◌<◌, Bool, true, false, ◌||◌, ◌==◌, nat_lt, if◌then◌else◌, List, [], ◌∷◌, length, filter, flat_map, count_by, refl, ap, sym, ◌∙◌, arith}
use Rattle.std.specs.List.{AllByRecursion, AllZip, list_any, range_with_len}
use Rattle.std.proofs.lemmas.Bool.{eq-eqb, ne_eqb, lt-ltb}
use Rattle.ce_solo.proofs.Counting.{sum_run, sum_run-same, sum_run-add, sum_run-zero, sum_run-at}
use Rattle.ce_solo.proofs.Lists.{truth_bit, count_by-cons, count_by-append}

module _ {X : Type 0} where
  -- where one passes, some do
  any-count : (test : X → Bool) (xs : List X) → list_any test xs ≡ nat_lt 0 (count_by test xs)
  any-count test [] = refl
  any-count test (x ∷ xs) =
      ap (λ some. test x || some) (any-count test xs) ∙ by_test (test x) (count_by test xs) ∙ ap (nat_lt 0) (sym (count_by-cons test x xs))
    where
      by_test : (passes : Bool) (n : ℕ) → (passes || nat_lt 0 n) ≡ nat_lt 0 ((if passes then 1 else 0) + n)
      by_test true n = sym (lt-ltb 0 (1 + n) (omega arith))
      by_test false n = let same : n ≡ 0 + n = omega arith in ap (nat_lt 0) same

  count-all : (xs : List X) → count_by (λ x. true) xs ≡ length xs
  count-all [] = refl
  count-all (x ∷ xs) = omega (arith, count_by-cons (λ (x : X). true) x xs, count-all xs)

module _ {X : Type 0} (number : X → ℕ) where
  -- the members of one number
  abbrev members : ℕ → List X → List X
  members r xs = filter (λ x. number x == r) xs

  -- these are the members of each number from one on
  abbrev pub AreMembersFrom : ℕ → ℕ → List X → List (List X) → Type 0
  AreMembersFrom from n xs lists = AllZip (λ r list. list ≡ members r xs) (range_with_len from n) lists

  module _ (test : X → Bool) where
    count-one : (r : ℕ) (x : X) (xs : List X)
        → count_by test (members r (x ∷ xs)) ≡ (if number x == r then truth_bit (test x) else 0) + count_by test (members r xs)
    count-one r x xs = by_number (number x == r)
      where
        by_number : (own : Bool) → count_by test (if own then x ∷ members r xs else members r xs) ≡ (if own then truth_bit (test x) else 0) + count_by test (members r xs)
        by_number true = count_by-cons test x (members r xs)
        by_number false = omega arith

    count-numbers : (n : ℕ) (xs : List X) → AllByRecursion (λ x. number x < n) xs → count_by test xs ≡ sum_run (λ r. count_by test (members r xs)) 0 n
    count-numbers n [] below = sym (sum_run-zero (λ r. count_by test (members r [])) 0 n (λ r low high. refl))
    count-numbers n (x ∷ xs) below =
        let one = λ (r : ℕ). if number x == r then truth_bit (test x) else 0 in
        let rest = λ (r : ℕ). count_by test (members r xs) in
        let at : one (number x) ≡ truth_bit (test x) = ap (λ own. if own then truth_bit (test x) else 0) (eq-eqb (number x) (number x) refl) in
        let others : (r : ℕ) → (r ≡ number x → ⊥) → one r ≡ 0 =
        λ r differ. ap (λ own. if own then truth_bit (test x) else 0) (ne_eqb (number x) r (λ e. differ (sym e))) in
        omega (
          arith,
          count_by-cons test x xs,
          count-numbers n xs below.1,
          at,
          sum_run-at one (number x) 0 n (omega arith) (omega (arith, below.0)) others,
          sum_run-add one rest 0 n,
          sum_run-same (λ r. count_by test (members r (x ∷ xs))) (λ r. one r + rest r) 0 n (λ r low high. count-one r x xs),
        )

    count-joined : (from n : ℕ) (xs : List X) (lists : List (List X)) → AreMembersFrom from n xs lists
        → count_by test (flat_map (λ list. list) lists) ≡ sum_run (λ r. count_by test (members r xs)) from n
    unfolding sum_run
    count-joined from zero xs [] each = refl
    count-joined from zero xs (list ∷ lists) each = absurd each
    count-joined from (suc n) xs [] each = absurd each
    count-joined from (suc n) xs (list ∷ lists) each =
        omega (
          arith,
          count_by-append test list (flat_map (λ (list : List X). list) lists),
          ap {B = ℕ} (count_by test) each.0,
          count-joined (from + 1) n xs lists each.1,
        )

    -- as many pass
    pub count-members : (n : ℕ) (xs : List X) (lists : List (List X)) → AllByRecursion (λ x. number x < n) xs → AreMembersFrom 0 n xs lists
        → count_by test (flat_map (λ list. list) lists) ≡ count_by test xs
    count-members n xs lists below each = count-joined 0 n xs lists each ∙ sym (count-numbers n xs below)

  pub any-members : (test : X → Bool) (n : ℕ) (xs : List X) (lists : List (List X)) → AllByRecursion (λ x. number x < n) xs → AreMembersFrom 0 n xs lists
      → list_any test (flat_map (λ list. list) lists) ≡ list_any test xs
  any-members test n xs lists below each =
      any-count test (flat_map (λ list. list) lists) ∙ ap (nat_lt 0) (count-members test n xs lists below each) ∙ sym (any-count test xs)

  pub length-members : (n : ℕ) (xs : List X) (lists : List (List X)) → AllByRecursion (λ x. number x < n) xs → AreMembersFrom 0 n xs lists
      → length (flat_map (λ list. list) lists) ≡ length xs
  length-members n xs lists below each =
      sym (count-all (flat_map (λ list. list) lists)) ∙ count-members (λ x. true) n xs lists below each ∙ count-all xs
