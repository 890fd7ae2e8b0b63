-- Hexadecimal digits, two for each byte, and eight for an instruction word.
use Rattle.std.proofs.Common.{◌≡◌, ℕ, suc, ◌+◌, ◌*◌, ◌-◌, ◌^◌, ◌<◌, ◌≤◌, List, [], ◌∷◌, length, get_or, take, drop, Bool, true, false, cond, ◌&&◌, Some, None, refl, sym, ap, ◌∙◌, zero-add, arith, nat_lt, nat_le, nat_eq}
use native.Mathlib.Numerals.{unary_clauses}
use Rattle.std.proofs.lemmas.Bool.{and_parts, and_right, ltb-true, le-leb}
use Rattle.std.proofs.lemmas.Bool.Decides.{nat_tests}
use Rattle.std.proofs.lemmas.List.{take_all}
use Rattle.std.specs.Prelude.{option_map}
use Rattle.std.specs.Int.{w32, to_le_bytes}
use Rattle.std.specs.List.{list_all}
use Rattle.std.specs.Char.{digit_value}
use Rattle.std.specs.Str.Parse.{digits_value, digits_value_after}
use Rattle.ce_text.specs.Number.{are_digits, number_of_digits}
use Rattle.ce_script.specs.Spellings.{are_byte_digits, digit_bytes, instruction_in}

-- all bytes are digits
abbrev pub all_digits : List ℕ → Bool
all_digits word = list_all (λ byte. nat_lt (digit_value byte) 16) word

all_here : (word : List ℕ) → are_digits 16 word ≡ true → all_digits word ≡ true
all_here [] e = absurd cc
all_here (byte ∷ bytes) e = e

pub all_of_pairs : (word : List ℕ) → are_byte_digits word ≡ true → all_digits word ≡ true
all_of_pairs word e = all_here word (and_parts (are_digits 16 word) _ e).0

-- the first two digits, and the others
pub record IsPair (word : List ℕ) : Type 0 where
  pub high : digit_value (get_or word 0 0) < 16
  pub low : digit_value (get_or word 1 0) < 16
  pub others : all_digits (take (length word - 2) (drop 2 word)) ≡ true
  pub bytes : digit_bytes word ≡ (digit_value (get_or word 0 0) * 16 + digit_value (get_or word 1 0)) ∷ digit_bytes (take (length word - 2) (drop 2 word))

pub pair_of : (word : List ℕ) → 2 ≤ length word → all_digits word ≡ true → IsPair word
pair_of [] le e = absurd (omega arith)
pair_of (one ∷ []) le e = absurd (omega arith)
pair_of (high ∷ low ∷ word) le e =
    let rest : take (length (high ∷ low ∷ word) - 2) word ≡ word = take_all (length (high ∷ low ∷ word) - 2) word (omega arith) in
    let first = and_parts (nat_lt (digit_value high) 16) _ e in
    let second = and_parts (nat_lt (digit_value low) 16) _ first.1 in
    record {
      high = ltb-true _ _ first.0;
      low = ltb-true _ _ second.0;
      others = ap all_digits rest ∙ second.1;
      bytes =
          ap (λ (n : ℕ). (n * 16 + digit_value low) ∷ digit_bytes word) (zero-add (digit_value high))
          ∙ ap (λ (rest : List ℕ). (digit_value high * 16 + digit_value low) ∷ digit_bytes rest) (sym rest);
    }

pub no_pair : (word : List ℕ) → length word < 2 → digit_bytes word ≡ []
no_pair [] lt = refl
no_pair (one ∷ []) lt = refl
no_pair (one ∷ two ∷ word) lt = absurd (omega arith)

-- ---- instruction words

regrouped : (most power : ℕ) → most * 16 * power ≡ most * (power * 16)
regrouped most power = grind arith

more_power : (most n : ℕ) → most * 16 * 16 ^ n ≡ most * 16 ^ suc n
more_power most n = simp unary_clauses (regrouped most (16 ^ n))

value_below : (value : ℕ) (word : List ℕ) (most : ℕ) → all_digits word ≡ true → value < most → digits_value_after 16 value word < most * 16 ^ length word
value_below value [] most e lt = omega arith
value_below value (byte ∷ word) most e lt =
    let both = and_parts (nat_lt (digit_value byte) 16) _ e in
    let here = ltb-true _ _ both.0 in
    let more = value_below (value * 16 + digit_value byte) word (most * 16) both.1 (omega (arith, here)) in
    let power = more_power most (length word) in
    omega (arith, more, power)

eight : (word : List ℕ) → length word ≡ 8 → are_digits 16 word ≡ true → nat_le (digits_value 16 word) 4294967295 ≡ true
eight word e are =
    let below : digits_value 16 word < 1 * 16 ^ length word = value_below 0 word 1 (all_here word are) (omega arith) in
    let power : 1 * 16 ^ length word ≡ 4294967296 = ap (λ n. 1 * 16 ^ n) e in
    le-leb _ _ (omega (arith, below, power))

instruction_by : (word : List ℕ) (are : Bool) → are_digits 16 word ≡ are → length word ≡ 8
    → option_map (to_le_bytes w32) (number_of_digits 16 4294967295 word) ≡ cond (are && true) (Some (to_le_bytes w32 (digits_value 16 word))) None
unfolding number_of_digits
instruction_by word true e len = let le = eight word len e in rw (e, le) refl
instruction_by word false e len = rw e refl

eight_is : (n : ℕ) → n ≡ 8 → nat_eq n 8 ≡ true
eight_is n e = grind (arith, nat_tests)

eight_is_not : (n : ℕ) → (n ≡ 8 → ⊥) → nat_eq n 8 ≡ false
eight_is_not n e = grind (arith, nat_tests)

pub instruction_is : (word : List ℕ) → length word ≡ 8 → option_map (to_le_bytes w32) (number_of_digits 16 4294967295 word) ≡ instruction_in word
unfolding instruction_in
instruction_is word len = let e = eight_is (length word) len in rw e (instruction_by word (are_digits 16 word) refl len)

pub instruction_is_not : (word : List ℕ) → (length word ≡ 8 → ⊥) → instruction_in word ≡ None
unfolding instruction_in
instruction_is_not word ne = let e = eight_is_not (length word) ne in let f = and_right (are_digits 16 word) false refl in rw (e, f) refl
