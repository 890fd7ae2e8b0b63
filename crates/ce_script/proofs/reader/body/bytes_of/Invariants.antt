use Rattle.std.proofs.Common.{◌≡◌, ◌+◌, ◌≤◌, ◌++◌, length}
use Rattle.std.specs.Prelude.{find}
use Rattle.ce_script.proofs.BodyLines.{bytes_left}
use Rattle.ce_script.specs.Bodies.{has_bad_word, body_bytes}
use Rattle.ce_script.specs.Lines.{numbered_lines, rest_size}
use Rattle.ce_script.specs.ReadLines.{texts_left, body_lines}
use Rattle.ce_script.specs.ReadWords.{word_bytes}
use Rattle.ce_script.proofs.reader.body.bytes_of.Given as goal

abbrev pub invariant-loop-rest : goal.invariant-loop-rest
invariant-loop-rest l = record {
  found : find (has_bad_word (word_bytes l.kind)) (numbered_lines (l.number + 1) (texts_left (bytes_left l.rest))) ≡ find (has_bad_word (word_bytes l.kind)) (body_lines l.fn.body);
  bytes : l.bytes.items ++ body_bytes (word_bytes l.kind) (numbered_lines (l.number + 1) (texts_left (bytes_left l.rest))) ≡ body_bytes (word_bytes l.kind) (body_lines l.fn.body);
  count : l.number + rest_size (bytes_left l.rest) ≤ l.fn.body.line + length l.fn.body.text.now + 1;
}

abbrev pub decreases-loop-rest : goal.decreases-loop-rest
decreases-loop-rest l = rest_size (bytes_left l.rest)
