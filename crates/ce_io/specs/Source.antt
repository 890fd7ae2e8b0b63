-- What a read does to its source.
use Rattle.std.specs.Prelude.{◌≡◌, ◌↔◌, ℕ, List, [], take, Option, Result, Ok, Err, IfSome, MatchResult}
use Rattle.std.specs.Io.KnownBytes.{prepend_known}
use Rattle.ce_io.specs.declared.failure.Failure.{Failure}
use Rattle.ce_io.specs.Counts.{raised_count}

-- how many bytes were given after a read
abbrev pub given_count_after : ℕ → Result ℕ Failure → ℕ
given_count_after old (Ok n) = raised_count old n
given_count_after old (Err failure) = old

-- Ok n: the first n bytes of the buffer were the next ones, and are no longer left; n is 0 exactly
-- where none was left. A failure takes none.
abbrev pub HasRead : Option (List ℕ) → Option (List ℕ) → Result ℕ Failure → List ℕ → Type 0
HasRead old new result buffer =
    MatchResult result
    (λ n. (old ≡ prepend_known (take n buffer) new) × IfSome old (λ bytes. (n ≡ 0) ↔ (bytes ≡ [])))
    (λ _. new ≡ old)
