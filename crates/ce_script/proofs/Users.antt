-- One user more.
use Rattle.std.proofs.Common.{◌≡◌, ℕ, List, [], ◌∷◌, ◌++◌, Bool, true, false, not, cond, ◌||◌, refl, sym, ap, ◌∙◌, append-nil}
use Rattle.std.proofs.lemmas.Slice.Eq.{bytes_eq-Decides}
use Rattle.std.proofs.lemmas.List.Elements.{filter-append}
use Rattle.std.specs.Prelude.{bytes_eq, filter}
use Rattle.ce_script.specs.Sayings.{without_repeats}
use Rattle.ce_script.specs.Faults.{is_one_name_of}
use Rattle.ce_script.specs.Reading.{with_user_name}
use Rattle.ce_script.proofs.Members.{among_distinct, filter_keeps}

-- ---- what is among distinct names is among all

or_right : (a : Bool) → a || true ≡ true
or_right true = refl
or_right false = refl

gone : (test : List ℕ → Bool) (names : List (List ℕ)) (name : List ℕ) → is_one_name_of names name ≡ false → is_one_name_of (filter test names) name ≡ false
gone test [] name e = refl
gone test (one ∷ names) name e =
    elim (bytes_eq name one) as (λ here. bytes_eq name one ≡ here → here || is_one_name_of names name ≡ false → is_one_name_of (cond (test one) (one ∷ filter test names) (filter test names)) name ≡ false) [
      | true ↦ λ _ found. absurd cc
      | false ↦ λ apart later. elim (test one) as (λ keeps. is_one_name_of (cond keeps (one ∷ filter test names) (filter test names)) name ≡ false) [
        | true ↦ ap (λ here. here || is_one_name_of (filter test names) name) apart ∙ gone test names name later
        | false ↦ gone test names name later
      ]
    ] refl e

none_distinct : (names : List (List ℕ)) (name : List ℕ) → is_one_name_of names name ≡ false → is_one_name_of (without_repeats names) name ≡ false
none_distinct [] name e = refl
none_distinct (one ∷ names) name e =
    elim (bytes_eq name one) as (λ here. here || is_one_name_of names name ≡ false → here || is_one_name_of (filter (λ other. not (bytes_eq one other)) (without_repeats names)) name ≡ false) [
      | true ↦ λ found. absurd cc
      | false ↦ λ later. gone (λ other. not (bytes_eq one other)) (without_repeats names) name (none_distinct names name later)
    ] e

pub among_same : (names : List (List ℕ)) (name : List ℕ) → is_one_name_of (without_repeats names) name ≡ is_one_name_of names name
among_same names name =
    elim (is_one_name_of names name) as (λ here. is_one_name_of names name ≡ here → is_one_name_of (without_repeats names) name ≡ here) [
      | true ↦ λ e. among_distinct names name e
      | false ↦ λ e. none_distinct names name e
    ] refl

-- ---- one name more

flipped : (one other : List ℕ) → bytes_eq one other ≡ bytes_eq other one
flipped one other =
    elim (bytes_eq one other) as (λ b. bytes_eq one other ≡ b → b ≡ bytes_eq other one) [
      | true ↦ λ e. sym ((bytes_eq-Decides other one).1 (sym ((bytes_eq-Decides one other).0 e)))
      | false ↦ λ e. elim (bytes_eq other one) as (λ b. bytes_eq other one ≡ b → false ≡ b) [
        | true ↦ λ f. sym e ∙ (bytes_eq-Decides one other).1 (sym ((bytes_eq-Decides other one).0 f))
        | false ↦ λ _. refl
      ] refl
    ] refl

with_by : (one name : List ℕ) (known : List (List ℕ)) (here among : Bool) → bytes_eq name one ≡ here → is_one_name_of known name ≡ among
    → one ∷ filter (λ other. not (bytes_eq one other)) (cond among known (known ++ name ∷ []))
    ≡ with_user_name (one ∷ filter (λ other. not (bytes_eq one other)) known) name
with_by one name known true true e f =
    let test : List ℕ → Bool = λ other. not (bytes_eq one other) in
    sym (ap (λ here. cond (here || is_one_name_of (filter test known) name) (one ∷ filter test known) (one ∷ (filter test known ++ name ∷ []))) e)
with_by one name known true false e f =
    let test : List ℕ → Bool = λ other. not (bytes_eq one other) in
    let last : filter test (name ∷ []) ≡ [] = ap (λ same. cond (not same) (name ∷ []) []) (flipped one name ∙ e) in
    ap (λ rest. one ∷ rest) (filter-append test known (name ∷ []) ∙ ap (λ more. filter test known ++ more) last ∙ append-nil (filter test known))
    ∙ sym (ap (λ here. cond (here || is_one_name_of (filter test known) name) (one ∷ filter test known) (one ∷ (filter test known ++ name ∷ []))) e)
with_by one name known false true e f =
    let test : List ℕ → Bool = λ other. not (bytes_eq one other) in
    let there = filter_keeps one name known e f in
    sym (ap (λ here. cond (here || is_one_name_of (filter test known) name) (one ∷ filter test known) (one ∷ (filter test known ++ name ∷ []))) e
    ∙ ap (λ here. cond here (one ∷ filter test known) (one ∷ (filter test known ++ name ∷ []))) there)
with_by one name known false false e f =
    let test : List ℕ → Bool = λ other. not (bytes_eq one other) in
    let last : filter test (name ∷ []) ≡ name ∷ [] = ap (λ same. cond (not same) (name ∷ []) []) (flipped one name ∙ e) in
    let missing = gone test known name f in
    ap (λ rest. one ∷ rest) (filter-append test known (name ∷ []) ∙ ap (λ more. filter test known ++ more) last)
    ∙ sym (ap (λ here. cond (here || is_one_name_of (filter test known) name) (one ∷ filter test known) (one ∷ (filter test known ++ name ∷ []))) e
    ∙ ap (λ here. cond here (one ∷ filter test known) (one ∷ (filter test known ++ name ∷ []))) missing)

-- the distinct names of names with one more
pub distinct_behind_one : (names : List (List ℕ)) (name : List ℕ) → without_repeats (names ++ name ∷ []) ≡ with_user_name (without_repeats names) name
distinct_behind_one [] name = refl
distinct_behind_one (one ∷ names) name =
    ap (λ rest. one ∷ filter (λ other. not (bytes_eq one other)) rest) (distinct_behind_one names name)
    ∙ with_by one name (without_repeats names) (bytes_eq name one) (is_one_name_of (without_repeats names) name) refl refl
