use Rattle.ce_script.specs.Lines.{rest_size}
use Rattle.ce_script.specs.Statements.{statements}
use Rattle.ce_script.specs.ReadLines.{rest_text, lines_left, remaining_statements}
use Rattle.ce_script.specs.Standing.{HasReadUpTo}
use Rattle.std.proofs.Common.{false}
use Rattle.ce_script.proofs.reader.read_script.Given as goal

abbrev pub invariant-loop-line : goal.invariant-loop-line
invariant-loop-line l = HasReadUpTo (statements l.fn.bytes) l.reader.so_far (remaining_statements false (lines_left l.rest))

abbrev pub decreases-loop-line : goal.decreases-loop-line
decreases-loop-line l = rest_size (rest_text l.rest)
