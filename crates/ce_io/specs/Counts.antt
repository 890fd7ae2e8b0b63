-- Counts of 64 bits.
use Rattle.std.specs.Prelude.{ℕ, ◌+◌, ◌-◌, ◌^◌, min, max}

-- a count that rose by n, or to the end of its type
abbrev pub raised_count : ℕ → ℕ → ℕ
raised_count count n = max count (min (count + n) (2 ^ 64 - 1))
