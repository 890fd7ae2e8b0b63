-- What a write does to its sink.
use Rattle.std.specs.Prelude.{ℕ, List, take, Option, Result, Ok, Err}
use Rattle.std.specs.Io.KnownBytes.{append_known}
use Rattle.ce_io.specs.declared.failure.Failure.{Failure}

-- what was written after a write: the first n bytes more at Ok n, and no more at a failure
abbrev pub written_bytes_after : Option (List ℕ) → Result ℕ Failure → List ℕ → Option (List ℕ)
written_bytes_after old (Ok n) piece = append_known old (take n piece)
written_bytes_after old (Err failure) piece = old
