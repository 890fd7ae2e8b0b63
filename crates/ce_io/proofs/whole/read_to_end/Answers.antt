use Rattle.std.proofs.Common.{arith}
use Rattle.ce_io.proofs.Known.{ends_too_long, ends_in_memory}
use Rattle.ce_io.proofs.whole.read_to_end.Goals as goal

pub returns-then-count-limit-clause-read : goal.returns-then-count-limit-clause-read
returns-then-count-limit-clause-read g c =
    ends_too_long g.S.Source.left g.S.Source.given g.S.Source.faults c.args.source.now c.loop-text.source c.read.new.self c.loop-text.text.items c.read.new.buffer c.in_ok-count.count c.args.limit
    c.loop-text.invariant.gave (omega arith) c.in_ok-count.ensures.count (omega arith) c.in_ok-count.ensures.left.0 c.in_ok-count.ensures.given (omega arith)

pub returns-in_err-extend_from_slice-clause-read : goal.returns-in_err-extend_from_slice-clause-read
returns-in_err-extend_from_slice-clause-read g c =
    ends_in_memory g.S.Source.left g.S.Source.given g.S.Source.faults c.args.source.now c.loop-text.source c.read.new.self c.loop-text.text.items c.read.new.buffer c.in_ok-count.count c.args.limit
    c.loop-text.invariant.gave (omega arith) c.in_ok-count.ensures.count (omega arith) c.in_ok-count.ensures.left.0 c.in_ok-count.ensures.given
    c.from_residual-in_err-extend_from_slice.result (c.from_residual-in_err-extend_from_slice.ensures.1) (omega arith)
