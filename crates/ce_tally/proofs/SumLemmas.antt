-- A sum, after one more number.
use Rattle.std.proofs.Common.{◌≡◌, ℕ, ◌+◌, ◌%◌, ◌^◌, List, [], ◌∷◌, ◌++◌, refl}
use Rattle.ce_tally.specs.declared.tally.Addition.{Addition}
use Rattle.ce_tally.specs.Sums.{sum_from, IsTallied}

pub sum_from-more : (s : ℕ) (h : List Addition) (e : Addition) → sum_from s (h ++ e ∷ []) ≡ (sum_from s h + e.number) % 2 ^ 64
sum_from-more s [] e = refl
sum_from-more s (x ∷ xs) e = sum_from-more ((s + x.number) % 2 ^ 64) xs e

pub IsTallied-more : (s : ℕ) (h : List Addition) (e : Addition) → IsTallied s h → e.sum_before ≡ sum_from s h → IsTallied s (h ++ e ∷ [])
IsTallied-more s [] e h is = (is, tt)
IsTallied-more s (x ∷ xs) e h is = (h.0, IsTallied-more ((s + x.number) % 2 ^ 64) xs e h.1 is)
