-- Numbers and bytes as words spell them.
use Rattle.std.specs.Prelude.{ℕ, ◌-◌, ◌^◌, ◌%◌, Bool, ◌&&◌, ◌==◌, nat_le, if◌then◌else◌, List, [], ◌∷◌, Option, Some, None, length, bytes_eq, codes}
use Rattle.std.specs.Int.{w32, to_le_bytes}
use Rattle.std.specs.Str.Parse.{digits_value}
use Rattle.ce_text.specs.Number.{are_digits, number_of_digits}
use Rattle.ce_script.specs.declared.spelling.TheConstants.{DATA_DIGITS, INSTRUCTION_DIGITS, NUMBER_DIGITS}

-- ---- numbers

-- the greatest number
abbrev pub greatest_number : ℕ
greatest_number = 2 ^ 32 - 1

-- the number that a word writes in decimal digits, where it writes one that is at most this
unfoldable pub bounded_number : ℕ → List ℕ → Option ℕ
bounded_number greatest word =
    if nat_le (length word) NUMBER_DIGITS then number_of_digits 10 greatest word else None

-- ---- bytes

-- nothing but hexadecimal digits, two for each byte
abbrev pub are_byte_digits : List ℕ → Bool
are_byte_digits word = are_digits 16 word && (length word % 2 == 0)

-- the bytes that hexadecimal digits write, two for each
abbrev pub digit_bytes : List ℕ → List ℕ
digit_bytes [] = []
digit_bytes (digit ∷ []) = []
digit_bytes (high ∷ low ∷ digits) = digits_value 16 (high ∷ low ∷ []) ∷ digit_bytes digits

-- the bytes that a word of digits writes
unfoldable pub written_bytes : List ℕ → Option (List ℕ)
written_bytes word = if are_byte_digits word then Some (digit_bytes word) else None

-- the bytes of an instruction word, which has `INSTRUCTION_DIGITS` digits, the lowest first
unfoldable pub instruction_in : List ℕ → Option (List ℕ)
instruction_in word =
    if are_digits 16 word && (length word == INSTRUCTION_DIGITS)
    then Some (to_le_bytes w32 (digits_value 16 word))
    else None

-- the bytes of a message, as many as a block can hold; `-` is none
unfoldable pub data_in : List ℕ → Option (List ℕ)
data_in word =
    if bytes_eq word (codes "-") then Some []
    else if nat_le (length word) DATA_DIGITS then written_bytes word
    else None
