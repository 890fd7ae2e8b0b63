use Rattle.std.specs.Io.KnownBytes.{Keeps}
use Rattle.ce_io.proofs.standard.write_retrying.Given as goal

abbrev pub invariant-loop : goal.invariant-loop
invariant-loop g l =
    let contents = g.W.Write.contents in
    Keeps (contents l.fn.writer) (contents l.writer)
