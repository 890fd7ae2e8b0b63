use Rattle.ce_script.specs.Lines.{rest_size}
use Rattle.ce_script.specs.ReadLines.{rest_text}
use Rattle.ce_script.proofs.BodyEnds.{IsUpTo}
use Rattle.ce_script.proofs.reader.body.body_in.Given as goal

abbrev pub invariant-loop-line : goal.invariant-loop-line
invariant-loop-line l = IsUpTo l.fn.rest l.all l.tail

abbrev pub decreases-loop-line : goal.decreases-loop-line
decreases-loop-line l = rest_size (rest_text l.tail)
