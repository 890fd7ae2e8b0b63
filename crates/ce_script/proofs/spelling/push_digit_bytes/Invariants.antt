use Rattle.std.proofs.Common.{◌≡◌, ◌++◌, length, true}
use Rattle.ce_script.specs.Spellings.{digit_bytes}
use Rattle.ce_script.proofs.DigitPairs.{all_digits}
use Rattle.ce_script.proofs.spelling.push_digit_bytes.Given as goal

abbrev pub invariant-loop-rest : goal.invariant-loop-rest
invariant-loop-rest l = record {
  digits : all_digits l.rest ≡ true;
  bytes : l.bytes.items ++ digit_bytes l.rest ≡ l.fn.bytes.items ++ digit_bytes l.fn.digits;
}

abbrev pub decreases-loop-rest : goal.decreases-loop-rest
decreases-loop-rest l = length l.rest
