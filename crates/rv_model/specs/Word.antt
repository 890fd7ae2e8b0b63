-- The operations of RV32I on 32-bit words, as numbers below 2^32. The signed value of a word is
-- `cast_signed w32`, and the word of a signed value is `cast_unsigned w32`.
use Rattle.std.specs.Prelude.{ℕ, ◌+◌, ◌-◌, ◌*◌, ◌/◌, ◌%◌, ◌^◌, Bool, true, false, int_lt}
use Rattle.std.specs.Int.{w32, cast_signed, cast_unsigned, int_shr}

-- the sum and the difference, modulo 2^32
abbrev pub wrapping_sum : ℕ → ℕ → ℕ
wrapping_sum a b = (a + b) % 2 ^ 32

abbrev pub wrapping_difference : ℕ → ℕ → ℕ
wrapping_difference a b = (a + (2 ^ 32 - b)) % 2 ^ 32

-- a is less than b, both as signed numbers
abbrev pub is_less_signed : ℕ → ℕ → Bool
is_less_signed a b = int_lt (cast_signed w32 a) (cast_signed w32 b)

-- 1 where the test holds, else 0
abbrev pub truth_bit : Bool → ℕ
truth_bit true = 1
truth_bit false = 0

-- the shifts: the amount is the low five bits of n
abbrev pub left_shift : ℕ → ℕ → ℕ
left_shift a n = a * 2 ^ (n % 32) % 2 ^ 32

abbrev pub right_shift : ℕ → ℕ → ℕ
right_shift a n = a / 2 ^ (n % 32)

-- the sign bit moves in from the left
abbrev pub signed_right_shift : ℕ → ℕ → ℕ
signed_right_shift a n = cast_unsigned w32 (int_shr (cast_signed w32 a) (n % 32))
