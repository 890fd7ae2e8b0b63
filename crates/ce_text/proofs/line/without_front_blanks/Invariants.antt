use Rattle.std.proofs.Common.{◌≡◌, ◌≤◌, length}
use Rattle.ce_text.specs.Line.{without_front_blanks}
use Rattle.ce_text.proofs.line.without_front_blanks.Given as goal

abbrev pub invariant-loop-rest : goal.invariant-loop-rest
invariant-loop-rest l = record {
  same : without_front_blanks l.rest ≡ without_front_blanks l.fn.bytes;
  shorter : length l.rest ≤ length l.fn.bytes;
}

abbrev pub decreases-loop-rest : goal.decreases-loop-rest
decreases-loop-rest l = length l.rest
