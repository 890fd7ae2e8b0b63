-- Numbers as they are written.
use Rattle.std.specs.Prelude.{ℕ, ◌-◌, ◌^◌, ◌&&◌, ◌==◌, if◌then◌else◌, List, [], ◌∷◌, Option, Some, None, option_map, ℤ, pos, neg_ℤ}
use Rattle.ce_text.specs.Number.{number_of_digits}

-- the bytes behind `-`
abbrev pub digits_behind_minus : List ℕ → Option (List ℕ)
digits_behind_minus [] = None
digits_behind_minus (byte ∷ digits) = if byte == 45 then Some digits else None

-- the bytes behind `0x`
abbrev pub digits_behind_prefix : List ℕ → Option (List ℕ)
digits_behind_prefix [] = None
digits_behind_prefix (zero_digit ∷ []) = None
digits_behind_prefix (zero_digit ∷ letter ∷ digits) =
    if (zero_digit == 48) && (letter == 120) then Some digits else None

abbrev pub unsigned_literal : Option (List ℕ) → List ℕ → Option ℤ
unsigned_literal (Some digits) bytes =
    option_map (λ n. pos n) (number_of_digits 16 (2 ^ 32 - 1) digits)
unsigned_literal None bytes = option_map (λ n. pos n) (number_of_digits 10 (2 ^ 32 - 1) bytes)

abbrev pub signed_literal : Option (List ℕ) → List ℕ → Option ℤ
signed_literal (Some digits) bytes =
    option_map (λ n. neg_ℤ (pos n)) (number_of_digits 10 (2 ^ 31) digits)
signed_literal None bytes = unsigned_literal (digits_behind_prefix bytes) bytes

-- The number that bytes write, from -2^31 to 2^32 - 1: hexadecimal digits behind `0x`, or decimal
-- ones, also behind `-`
unfoldable pub literal_of : List ℕ → Option ℤ
literal_of bytes = signed_literal (digits_behind_minus bytes) bytes
