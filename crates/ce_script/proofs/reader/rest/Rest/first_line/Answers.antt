use Rattle.std.proofs.Common.{ap, refl, arith}
use Rattle.ce_script.proofs.BodyLines.{bytes_left}
use Rattle.ce_script.proofs.BodyEnds.{reach_shorter}
use Rattle.ce_script.proofs.reader.rest.Rest.first_line.Goals as goal

pub invariant_of-next : goal.invariant_of-next
invariant_of-next c = record {
  counted =
      let shorter = reach_shorter c.args.self c.in_ok-bytes.bytes.now c.next_line.result.1 (ap bytes_left c.in_ok-bytes.was) c.next_line.ensures.shorter in
      omega (arith, shorter, c.args.self.counted);
}

pub returns : goal.returns
returns c = record {
  bytes = c.in_ok-bytes.bytes.now;
  is = ap bytes_left c.in_ok-bytes.was;
  parts = c.next_line.ensures.parts;
  before = refl;
  shorter = c.next_line.ensures.shorter;
}
