-- Numbers in memory, the lowest byte first. A byte is a number below 256.
use Rattle.std.specs.Prelude.{ℕ, ◌+◌, ◌*◌, List, [], ◌∷◌, ◌++◌, take, drop}
use Rattle.std.specs.Int.{bytes_low_first}

-- the number that these bytes are
abbrev pub bytes_number : List ℕ → ℕ
bytes_number [] = 0
bytes_number (b ∷ bs) = b + 256 * bytes_number bs

-- the number in the `size` bytes from `offset` on
unfoldable pub number_at : List ℕ → ℕ → ℕ → ℕ
number_at bytes offset size = bytes_number (take size (drop offset bytes))

-- the bytes once the lowest `size` bytes of n are written from `offset` on
unfoldable pub with_number_at : List ℕ → ℕ → ℕ → ℕ → List ℕ
with_number_at bytes offset size n =
    take offset bytes ++ (bytes_low_first 0 size n ++ drop (offset + size) bytes)
