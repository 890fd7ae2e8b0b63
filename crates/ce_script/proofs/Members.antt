-- Names among names.
use Rattle.std.proofs.Common.{◌≡◌, ℕ, suc, ◌+◌, ◌<◌, List, [], ◌∷◌, ◌++◌, length, Bool, true, false, not, cond, ◌||◌, Some, None, refl, sym, ap, subst, ◌∙◌, arith}
use Rattle.std.proofs.lemmas.Bool.{lt-ltb}
use Rattle.std.proofs.lemmas.Slice.Eq.{bytes_eq-Decides}
use Rattle.std.proofs.lemmas.List.Folds.{list_any-append}
use Rattle.std.specs.Prelude.{bytes_eq, filter, unwrap_or}
use Rattle.std.specs.List.{list_any, position_or_len, last_or}
use Rattle.ce_script.specs.Sayings.{name_number, without_repeats}
use Rattle.ce_script.specs.Faults.{is_one_name_of}

-- ---- a name and itself

same : (name : List ℕ) → bytes_eq name name ≡ true
same name = (bytes_eq-Decides name name).1 refl

equal : (one other : List ℕ) → bytes_eq one other ≡ true → one ≡ other
equal one other = (bytes_eq-Decides one other).0

or_true : (b : Bool) → b || true ≡ true
or_true true = refl
or_true false = refl

-- ---- numbers of names

first_below : {A : Type 0} (test : A → Bool) (all : List A) → list_any test all ≡ true → position_or_len test all < length all
first_below test [] e = absurd cc
first_below {A} test (one ∷ others) e =
    elim (test one) as (λ here. here || list_any test others ≡ true → cond (not here) (1 + position_or_len test others) 0 < suc (length others)) [
      | true ↦ λ found. omega arith
      | false ↦ λ later. let below = first_below test others later in omega (arith, below)
    ] e

-- the number of a name that is among names is that of one of them
pub number_below : (names : List (List ℕ)) (name : List ℕ) → is_one_name_of names name ≡ true → name_number name names < length names
number_below names name e =
    let below = first_below (bytes_eq name) names e in
    let P : Bool → Type 0 = λ test. unwrap_or (cond test (Some (position_or_len (bytes_eq name) names)) None) 0 < length names in
    subst P (sym (lt-ltb (position_or_len (bytes_eq name) names) (length names) below)) below

-- ---- more names

pub among_front : (names more : List (List ℕ)) (name : List ℕ) → is_one_name_of names name ≡ true → is_one_name_of (names ++ more) name ≡ true
among_front names more name e = list_any-append (bytes_eq name) names more ∙ ap (λ here. here || is_one_name_of more name) e

-- ---- names, each where it first appears

pub filter_keeps : (one name : List ℕ) (names : List (List ℕ)) → bytes_eq name one ≡ false → is_one_name_of names name ≡ true → is_one_name_of (filter (λ other. not (bytes_eq one other)) names) name ≡ true
filter_keeps one name [] apart e = absurd cc
filter_keeps one name (next ∷ names) apart e =
    let others = filter (λ other. not (bytes_eq one other)) names in
    elim (bytes_eq one next) as (λ gone. bytes_eq one next ≡ gone → is_one_name_of (cond (not gone) (next ∷ others) others) name ≡ true) [
      | true ↦ λ there. filter_keeps one name names apart
          (sym (ap (λ here. here || is_one_name_of names name) apart) ∙ ap (λ it. bytes_eq name it || is_one_name_of names name) (equal one next there) ∙ e)
      | false ↦ λ _. elim (bytes_eq name next) as (λ here. here || is_one_name_of names name ≡ true → here || is_one_name_of others name ≡ true) [
        | true ↦ λ _. refl
        | false ↦ λ later. filter_keeps one name names apart later
      ] e
    ] refl

pub among_distinct : (names : List (List ℕ)) (name : List ℕ) → is_one_name_of names name ≡ true → is_one_name_of (without_repeats names) name ≡ true
among_distinct [] name e = absurd cc
among_distinct (one ∷ names) name e =
    elim (bytes_eq name one) as (λ here. bytes_eq name one ≡ here → here || is_one_name_of names name ≡ true → here || is_one_name_of (filter (λ other. not (bytes_eq one other)) (without_repeats names)) name ≡ true) [
      | true ↦ λ found _. refl
      | false ↦ λ apart later. filter_keeps one name (without_repeats names) apart (among_distinct names name later)
    ] refl e

-- ---- the last name

pub last_among : (name : List ℕ) (names : List (List ℕ)) → is_one_name_of (name ∷ names) (unwrap_or (last_or (Some name) names) []) ≡ true
last_among name [] = ap (λ here. here || false) (same name)
last_among name (next ∷ names) =
    ap (λ later. bytes_eq (unwrap_or (last_or (Some next) names) []) name || later) (last_among next names) ∙ or_true _
