-- What reading to the end, and writing all, do to a source and to a sink.
use Rattle.std.specs.Prelude.{◌≡◌, ◌↔◌, ℕ, ◌+◌, ◌<◌, ◌≤◌, List, Option, Result, Vec, IsErrOf, IfOk, length}
use Rattle.std.specs.Io.KnownBytes.{prepend_known, IsAtEnd}
use Rattle.std.specs.declared.alloc.Global.{Global}
use Rattle.ce_io.specs.Counts.{raised_count}
use Rattle.ce_io.specs.declared.whole.ReadError.{ReadError}
use Rattle.ce_io.specs.declared.whole.ReadError.TheVariants.{TooLong}

-- a source before and after a call, with what it tells: the bytes to come, where it tells them, how
-- many bytes it gave, and how often a read failed
pub record Reading (S : Type 0) : Type 0 where
  pub left : S → Option (List ℕ)
  pub given : S → ℕ
  pub faults : S → ℕ
  pub old : S
  pub new : S

abbrev pub reading : {S : Type 0} → (S → Option (List ℕ)) → (S → ℕ) → (S → ℕ) → S → S → Reading S
reading left given faults old new =
    record { left = left; given = given; faults = faults; old = old; new = new }

-- a sink before and after a call, with what it tells: the bytes written, where it tells them, and
-- how often a write failed
pub record Writing (K : Type 0) : Type 0 where
  pub written : K → Option (List ℕ)
  pub faults : K → ℕ
  pub old : K
  pub new : K

abbrev pub writing : {K : Type 0} → (K → Option (List ℕ)) → (K → ℕ) → K → K → Writing K
writing written faults old new = record { written = written; faults = faults; old = old; new = new }

-- The source gave just these bytes in the call: where it tells what is left, they stood in front of
-- what is left now, and its count rose by their number, or to its end.
pub record HasGiven {S : Type 0} (source : Reading S) (bytes : List ℕ) : Type 0 where
  pub left : source.left source.old ≡ prepend_known bytes (source.left source.new)
  pub given : source.given source.new ≡ raised_count (source.given source.old) (length bytes)

-- how reading a source to its end went, in pieces of so many bytes, up to a limit
pub record HasReadToEnd {S : Type 0} (source : Reading S) (limit piece : ℕ)
    (result : Result (Vec ℕ Global) ReadError) : Type 0 where
  -- what the source gave
  pub bytes : List ℕ
  pub gave : HasGiven source bytes
  -- what is answered is all that it gave, and where it tells what is left, nothing is
  pub whole : IfOk result (λ text. (text.items ≡ bytes) × IsAtEnd (source.left source.new))
  -- it gave more than the limit exactly where that is answered, and then by a piece more at most
  pub too_long : IsErrOf result TooLong ↔ (limit < length bytes)
  pub bounded : length bytes ≤ limit + piece
