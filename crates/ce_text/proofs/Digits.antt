-- Reading a number digit by digit.
use Rattle.std.proofs.Common.{◌≡◌, ℕ, ◌+◌, ◌*◌, ◌<◌, ◌≤◌, true, false, cond, ◌&&◌, List, [], ◌∷◌, length, get_or, drop, Option, Some, None, refl, sym, ◌∙◌, arith}
use Rattle.std.specs.Prelude.{nat_lt, nat_le}
use Rattle.std.specs.List.{list_all}
use Rattle.std.specs.Char.{digit_value}
use Rattle.std.specs.Str.Parse.{digits_value_after}
use Rattle.std.proofs.Math.Nat.{mul-le-mul_left}
use Rattle.std.proofs.lemmas.Bool.{le-leb, lt-ltb, le-ltb, lt-leb, and_right, cond-false}
use Rattle.std.proofs.lemmas.List.{at_drop_more, at_drop_all}
use Rattle.ce_text.specs.Number.{number_of_digits}

-- the number that digits write behind those of a number, where it is not above a limit
abbrev pub judgment : ℕ → ℕ → ℕ → List ℕ → Option ℕ
judgment base greatest value digits =
    cond (list_all (λ byte. nat_lt (digit_value byte) base) digits && nat_le (digits_value_after base value digits) greatest) (Some (digits_value_after base value digits)) None

pub judged_all : (base greatest : ℕ) (digits : List ℕ) → 0 < length digits → number_of_digits base greatest digits ≡ judgment base greatest 0 digits
unfolding number_of_digits
judged_all base greatest [] lt = absurd (omega arith)
judged_all base greatest (byte ∷ digits) lt = refl

pub judged_none : (base greatest : ℕ) (digits : List ℕ) → length digits ≡ 0 → number_of_digits base greatest digits ≡ None
unfolding number_of_digits
judged_none base greatest [] e = refl
judged_none base greatest (byte ∷ digits) e = absurd (omega arith)

judged_digit : (base greatest value byte : ℕ) (digits : List ℕ) → nat_lt (digit_value byte) base ≡ true → judgment base greatest value (byte ∷ digits) ≡ judgment base greatest (value * base + digit_value byte) digits
judged_digit base greatest value byte digits e = rw e refl

judged_other : (base greatest value byte : ℕ) (digits : List ℕ) → nat_lt (digit_value byte) base ≡ false → judgment base greatest value (byte ∷ digits) ≡ None
judged_other base greatest value byte digits e = rw e refl

pub judged_more : (base greatest value : ℕ) (digits : List ℕ) (i : ℕ) → i < length digits → digit_value (get_or digits i 0) < base
    → judgment base greatest (value * base + digit_value (get_or digits i 0)) (drop (i + 1) digits) ≡ judgment base greatest value (drop i digits)
judged_more base greatest value digits i lt small =
    let e : nat_lt (digit_value (get_or digits i 0)) base ≡ true = lt-ltb _ _ small in
    sym (at_drop_more (judgment base greatest value) digits i 0 lt ∙ judged_digit base greatest value (get_or digits i 0) (drop (i + 1) digits) e)

pub judged_stops : (base greatest value : ℕ) (digits : List ℕ) (i : ℕ) → i < length digits → (digit_value (get_or digits i 0) < base → ⊥) → judgment base greatest value (drop i digits) ≡ None
judged_stops base greatest value digits i lt large =
    let e : nat_lt (digit_value (get_or digits i 0)) base ≡ false = le-ltb _ _ (omega arith) in
    at_drop_more (judgment base greatest value) digits i 0 lt ∙ judged_other base greatest value (get_or digits i 0) (drop (i + 1) digits) e

value_grows : (base value : ℕ) (digits : List ℕ) → 0 < base → value ≤ digits_value_after base value digits
value_grows base value [] pos_base = omega arith
value_grows base value (byte ∷ digits) pos_base =
    let more = value_grows base (value * base + digit_value byte) digits pos_base in
    let times : value * 1 ≤ value * base = mul-le-mul_left value (omega arith) in
    omega arith

pub judged_over : (base greatest value : ℕ) (digits : List ℕ) → 0 < base → greatest < value → judgment base greatest value digits ≡ None
judged_over base greatest value digits pos_base over =
    let grown = value_grows base value digits pos_base in
    let e : nat_le (digits_value_after base value digits) greatest ≡ false = lt-leb _ _ (omega arith) in
    cond-false _ _ _ (and_right (list_all (λ byte. nat_lt (digit_value byte) base) digits) _ e)

pub judged_end : (base greatest value : ℕ) (digits : List ℕ) (i : ℕ) → length digits ≤ i → value ≤ greatest → judgment base greatest value (drop i digits) ≡ Some value
judged_end base greatest value digits i le below =
    let e : nat_le value greatest ≡ true = le-leb _ _ below in
    at_drop_all (judgment base greatest value) digits i le ∙ rw e refl
