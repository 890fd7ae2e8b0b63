-- Lists of different names.
use Rattle.std.proofs.Common.{◌≡◌, ℕ, List, [], ◌∷◌, ◌++◌, Bool, true, false, not, cond, refl, sym, ◌∙◌}
use Rattle.std.proofs.lemmas.Bool.{not-true, or_parts}
use Rattle.std.proofs.lemmas.Slice.Eq.{bytes_eq-Decides}
use Rattle.std.specs.Prelude.{bytes_eq, filter}
use Rattle.std.specs.List.{AllByRecursion, IsDistinct}
use Rattle.ce_model.proofs.Members.{all-append, all-filter, all-filtered, all-weaker}
use Rattle.ce_script.specs.Sayings.{without_repeats}
use Rattle.ce_script.specs.Faults.{is_one_name_of}

-- ---- what holds of each

pub distinct_each : (P : List ℕ → Type 0) (names : List (List ℕ)) → AllByRecursion P names → AllByRecursion P (without_repeats names)
distinct_each P [] each = tt
distinct_each P (name ∷ names) each =
    (each.0, all-filter P (λ other. not (bytes_eq name other)) (without_repeats names) (distinct_each P names each.1))

-- ---- names, each where it first appears

filter_distinct : (test : List ℕ → Bool) (names : List (List ℕ)) → IsDistinct bytes_eq names → IsDistinct bytes_eq (filter test names)
unfolding IsDistinct
filter_distinct test [] is = tt
filter_distinct test (name ∷ names) is =
    elim (test name) as (λ b. IsDistinct bytes_eq (cond b (name ∷ filter test names) (filter test names))) [
      | true ↦ (all-filter (λ other. bytes_eq name other ≡ false) test names is.0, filter_distinct test names is.1)
      | false ↦ filter_distinct test names is.1
    ]

pub distinct_are_distinct : (names : List (List ℕ)) → IsDistinct bytes_eq (without_repeats names)
unfolding IsDistinct
distinct_are_distinct [] = tt
distinct_are_distinct (name ∷ names) =
    let test : List ℕ → Bool = λ other. not (bytes_eq name other) in (
      all-weaker (λ other. test other ≡ true) (λ other. bytes_eq name other ≡ false) (filter test (without_repeats names)) (λ other. not-true (bytes_eq name other)) (all-filtered test (without_repeats names)),
      filter_distinct test (without_repeats names) (distinct_are_distinct names),
    )

-- ---- one name more

flipped : (one other : List ℕ) → bytes_eq one other ≡ false → bytes_eq other one ≡ false
flipped one other apart =
    elim (bytes_eq other one) as (λ b. bytes_eq other one ≡ b → b ≡ false) [
      | true ↦ λ e. sym ((bytes_eq-Decides one other).1 (sym ((bytes_eq-Decides other one).0 e))) ∙ apart
      | false ↦ λ _. refl
    ] refl

pub distinct_behind : (names : List (List ℕ)) (name : List ℕ) → IsDistinct bytes_eq names → is_one_name_of names name ≡ false → IsDistinct bytes_eq (names ++ name ∷ [])
unfolding IsDistinct
distinct_behind [] name is apart = (tt, tt)
distinct_behind (first ∷ names) name is apart =
    let both = or_parts (bytes_eq name first) (is_one_name_of names name) apart in
    (all-append (λ other. bytes_eq first other ≡ false) names (name ∷ []) is.0 (flipped name first both.0, tt), distinct_behind names name is.1 both.1)
