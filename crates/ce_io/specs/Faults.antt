-- Counts of faults, and the cause that an answer has in them.
use Rattle.std.specs.Prelude.{◌≡◌, ℕ, ◌+◌, ◌-◌, ◌^◌, ◌≤◌, min, Result, Ok, Err, OnOk, OnErr}
use Rattle.ce_io.specs.declared.failure.Failure.{Failure}
use Rattle.ce_io.specs.Counts.{raised_count}

-- a count rose, or stands at the end of its type
abbrev pub HasRisen : ℕ → ℕ → Type 0
HasRisen old new = min (old + 1) (2 ^ 64 - 1) ≤ new

-- the count hasn't fallen, a failure comes only where it rose, and no failure only where it stands
pub record HasCause {T : Type 0} (old new : ℕ) (result : Result T Failure) : Type 0 where
  pub later : old ≤ new
  pub failed : OnErr result (HasRisen old new)
  pub passed : OnOk result (new ≡ old)

-- the count after a call that counts its failure, and nothing else
abbrev pub faults_after : {T : Type 0} → ℕ → Result T Failure → ℕ
faults_after old (Ok value) = old
faults_after old (Err failure) = raised_count old 1
