use Rattle.std.proofs.Common.{◌∙◌, sym, ap, arith, not, ◌+◌}
use Rattle.std.specs.Prelude.{option_map}
use Rattle.ce_script.specs.Lines.{Line, has_bad_byte}
use Rattle.ce_script.proofs.BodyLines.{left_shorter, found_here, goes_on, bytes_left}
use Rattle.ce_script.proofs.reader.body.bad_byte_line.Goals as goal

pub overflow_add-number : goal.overflow_add-number
overflow_add-number c =
    let count = rw c.in-Some.is at c.loop-rest.invariant.count in
    omega (arith, count, c.args.body.counted)

pub returns-then-not-are_plain : goal.returns-then-not-are_plain
returns-then-not-are_plain c =
    let parts = rw c.in-Some.bytes-is at c.next_line.ensures.parts in
    let so_far = rw c.in-Some.is at c.loop-rest.invariant.found in
    let plain = rw c.before_comment.ensures at c.if-not-are_plain.ensures in
    ap (option_map (λ (line : Line). line.number))
    (sym (found_here (c.loop-rest.number + 1) c.in-Some.bytes.now c.next_line.result.0.now (bytes_left c.next_line.result.1) parts has_bad_byte (ap not (sym plain)))
    ∙ so_far)

pub loop-rest-preserved : goal.loop-rest-preserved
loop-rest-preserved c =
    let parts = rw c.in-Some.bytes-is at c.next_line.ensures.parts in
    let so_far = rw c.in-Some.is at c.loop-rest.invariant.found in
    let plain = rw c.before_comment.ensures at c.if-not-are_plain.ensures in
    record {
      found = sym (goes_on (c.loop-rest.number + 1) c.in-Some.bytes.now c.next_line.result.0.now (bytes_left c.next_line.result.1) parts has_bad_byte (ap not (sym plain))) ∙ so_far;
      count =
          let before = rw c.in-Some.is at c.loop-rest.invariant.count in
          let shorter = rw c.in-Some.bytes-is at c.next_line.ensures.shorter in
          omega (arith, before, left_shorter c.next_line.result.1 _ shorter);
    }
