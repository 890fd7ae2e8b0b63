use Rattle.std.proofs.Common.{◌≡◌, ◌≤◌, drop}
use Rattle.ce_text.proofs.Digits.{judgment}
use Rattle.ce_text.proofs.number.number_of_digits.Given as goal

abbrev pub invariant-loop-byte : goal.invariant-loop-byte
invariant-loop-byte l = (l.value ≤ l.greatest) × (judgment l.base l.greatest l.value (drop l.byte-index l.digits) ≡ judgment l.base l.greatest 0 l.digits)
