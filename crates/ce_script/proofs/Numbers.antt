-- Numbers that operands write.
use Rattle.std.proofs.Common.{◌≡◌, ℕ, ◌≤◌, List, length, Bool, true, false, cond, ◌&&◌, Option, Some, None, refl, sym, ap, arith, nat_le}
use Rattle.std.proofs.lemmas.Bool.Decides.{nat_tests}
use Rattle.std.specs.Prelude.{is_none, unwrap_or}
use Rattle.std.specs.Str.Parse.{digits_value}
use Rattle.ce_script.specs.declared.spelling.TheConstants.{NUMBER_DIGITS}
use Rattle.ce_text.specs.Number.{are_digits, number_of_digits}
use Rattle.ce_script.specs.declared.script.ScriptKind.{ScriptKind}
use Rattle.ce_script.specs.Spellings.{greatest_number, bounded_number}
use Rattle.ce_script.specs.Faults.{kind_where}

above : (n most : ℕ) → n ≤ most → nat_le n most ≡ true
above n most le = grind (arith, nat_tests)

below : (n most : ℕ) → nat_le n most ≡ true → n ≤ most
below n most e = grind (arith, nat_tests)

wider_by : (short few small : Bool) (value number most : ℕ) → most ≤ greatest_number → nat_le value most ≡ small → Some number ≡ cond short (cond (few && small) (Some value) None) None
    → cond short (cond (few && nat_le value greatest_number) (Some value) None) None ≡ Some number
wider_by true true true value number most le is e =
    let small = below value most is in
    let wide : nat_le value greatest_number ≡ true = above value greatest_number (omega arith) in
    rw wide (sym e)
wider_by true true false value number most le is e = absurd cc
wider_by true false small value number most le is e = absurd cc
wider_by false few small value number most le is e = absurd cc

wider : (word : List ℕ) (number most : ℕ) → most ≤ greatest_number → Some number ≡ bounded_number most word → bounded_number greatest_number word ≡ Some number
unfolding bounded_number number_of_digits
wider word number most le e =
    wider_by (nat_le (length word) NUMBER_DIGITS) (are_digits 10 word) (nat_le (digits_value 10 word) most) (digits_value 10 word) number most le refl e

-- a number that is found is no fault, and the one that any limit gives
pub number_there : (kind : ScriptKind) (word : List ℕ) (number most : ℕ) → most ≤ greatest_number → Some number ≡ bounded_number most word
    → (kind_where (is_none (bounded_number most word)) kind ≡ None) × (Some (unwrap_or (bounded_number greatest_number word) 0) ≡ Some number)
number_there kind word number most le e =
    (ap (λ (found : Option ℕ). kind_where (is_none found) kind) (sym e), ap (λ (found : Option ℕ). Some (unwrap_or found 0)) (wider word number most le e))

pub number_missing : (kind : ScriptKind) (word : List ℕ) (most : ℕ) → None ≡ bounded_number most word → kind_where (is_none (bounded_number most word)) kind ≡ Some kind
number_missing kind word most e = ap (λ (found : Option ℕ). kind_where (is_none found) kind) (sym e)
