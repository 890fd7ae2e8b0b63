use Rattle.std.proofs.Common.{◌∙◌, ◌++◌, sym, ap, arith, Option, ℕ, List, ◌+◌, append_assoc, append-nil, refl}
use Rattle.std.specs.Prelude.{option_map}
use Rattle.ce_script.specs.Lines.{Line, numbered_lines}
use Rattle.ce_script.specs.Bodies.{has_bad_word, body_bytes, located_fault}
use Rattle.ce_script.specs.ReadLines.{texts_left, body_lines}
use Rattle.ce_script.specs.declared.script.ScriptKind.TheVariants.{BadImage}
use Rattle.ce_script.proofs.BodyFaults.{bad_word}
use Rattle.ce_script.specs.ReadWords.{word_bytes}
use Rattle.ce_script.proofs.BodyLines.{left_shorter, found_here, goes_on, bytes_on, no_bytes, bytes_left}
use Rattle.ce_script.proofs.reader.body.bytes_of.Goals as goal

pub overflow_add-number : goal.overflow_add-number
overflow_add-number c =
    let count = rw c.in-Some.is at c.loop-rest.invariant.count in
    omega (arith, count, c.args.body.counted)

pub loop-rest-init : goal.loop-rest-init
loop-rest-init c = record { found = refl; bytes = ap (λ (items : List ℕ). items ++ body_bytes (word_bytes c.args.kind) (body_lines c.args.body)) c.new-bytes.ensures.items; count = omega arith }

pub returns-in-Err : goal.returns-in-Err
returns-in-Err c =
    let parts = rw c.in-Some.text-is at c.next_line.ensures.parts in
    let so_far = rw c.in-Some.is at c.loop-rest.invariant.found in
    let read = word_bytes c.args.kind in
    rw c.fault_of_line.ensures
    (bad_word c.in-Err.fault (c.loop-rest.number + 1) (has_bad_word read) (body_lines c.args.body) _ c.in-Err.ensures
    (λ bad. sym so_far ∙ found_here (c.loop-rest.number + 1) c.in-Some.text.now c.next_line.result.0.now (bytes_left c.next_line.result.1) parts (has_bad_word read) bad))

pub loop-rest-preserved : goal.loop-rest-preserved
loop-rest-preserved c =
    let parts = rw c.in-Some.text-is at c.next_line.ensures.parts in
    let so_far = rw c.in-Some.is at c.loop-rest.invariant.found in
    let bytes = rw c.in-Some.is at c.loop-rest.invariant.bytes in
    let read = word_bytes c.args.kind in
    let after = numbered_lines (c.loop-rest.number + 1 + 1) (texts_left (bytes_left c.next_line.result.1)) in
    record {
      found = sym (goes_on (c.loop-rest.number + 1) c.in-Some.text.now c.next_line.result.0.now (bytes_left c.next_line.result.1) parts (has_bad_word read) c.in_default-push_line.ensures.0) ∙ so_far;
      bytes =
          ap (λ (items : List ℕ). items ++ body_bytes read after) c.in_default-push_line.ensures.1
          ∙ append_assoc c.loop-rest.bytes.items _ (body_bytes read after)
          ∙ ap (λ (more : List ℕ). c.loop-rest.bytes.items ++ more) (sym (bytes_on (c.loop-rest.number + 1) c.in-Some.text.now c.next_line.result.0.now (bytes_left c.next_line.result.1) parts read))
          ∙ bytes;
      count =
          let before = rw c.in-Some.is at c.loop-rest.invariant.count in
          let shorter = rw c.in-Some.text-is at c.next_line.ensures.shorter in
          omega (arith, before, left_shorter c.next_line.result.1 _ shorter);
    }

pub returns : goal.returns
returns c =
    let so_far = rw c.in_default.is at c.loop-rest.invariant.found in
    let bytes = rw c.in_default.is at c.loop-rest.invariant.bytes in
    let none = no_bytes (word_bytes c.args.kind) (c.loop-rest.number + 1) in (
      ap (λ (found : Option Line). option_map (λ (line : Line). located_fault line.number BadImage) found) (sym so_far),
      sym (append-nil c.loop-rest.bytes.items) ∙ ap (λ (more : List ℕ). c.loop-rest.bytes.items ++ more) (sym none) ∙ bytes,
    )
