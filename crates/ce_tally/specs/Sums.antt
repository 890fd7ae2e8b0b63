-- What a tally says of its history.
use Rattle.std.specs.Prelude.{◌≡◌, ℕ, ◌+◌, ◌%◌, ◌^◌, List, [], ◌∷◌, ◌++◌}
use Rattle.ce_lock.specs.declared.who.Who.{Who}
use Rattle.ce_tally.specs.declared.tally.Add.{Add}
use Rattle.ce_tally.specs.declared.tally.Addition.{Addition}

-- the sum after the numbers were added to s, modulo 2^64
abbrev pub sum_from : ℕ → List Addition → ℕ
sum_from s [] = s
sum_from s (e ∷ es) = sum_from ((s + e.number) % 2 ^ 64) es

-- each entry has the sum of those before it, where the first has s
abbrev pub IsTallied : ℕ → List Addition → Type 0
IsTallied s [] = Unit {0}
IsTallied s (e ∷ es) = (e.sum_before ≡ s) × IsTallied ((s + e.number) % 2 ^ 64) es

-- the entry is the actor's addition, and the reply is the sum of all before it
pub record IsSumBefore (before : List Addition) (entry : Addition) (who : Who) (call : Add)
    (reply : ℕ) : Type 0 where
  pub actor : entry.who ≡ who
  pub number : entry.number ≡ call.0
  pub sum : reply ≡ sum_from 0 before
  pub kept : entry.sum_before ≡ reply

-- a front part of a tally is one
pub IsTallied-front : (s : ℕ) (front rest : List Addition) → IsTallied s (front ++ rest)
    → IsTallied s front
IsTallied-front s [] rest h = tt
IsTallied-front s (e ∷ es) rest h = (h.0, IsTallied-front ((s + e.number) % 2 ^ 64) es rest h.1)
