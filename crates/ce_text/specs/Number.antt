-- Numbers as digits write them.
use Rattle.std.specs.Prelude.{ℕ, Bool, false, ◌&&◌, nat_lt, nat_le, if◌then◌else◌, List, [], ◌∷◌, Option, Some, None}
use Rattle.std.specs.List.{list_all}
use Rattle.std.specs.Char.{digit_value}
use Rattle.std.specs.Str.Parse.{digits_value}

-- at least one digit, and nothing but digits
abbrev pub are_digits : ℕ → List ℕ → Bool
are_digits base [] = false
are_digits base (byte ∷ bytes) = list_all (λ digit. nat_lt (digit_value digit) base) (byte ∷ bytes)

-- the number that digits of a base write, where it is not above a limit
unfoldable pub number_of_digits : ℕ → ℕ → List ℕ → Option ℕ
number_of_digits base greatest digits = if are_digits base digits
    && nat_le (digits_value base digits) greatest then Some (digits_value base digits) else None
