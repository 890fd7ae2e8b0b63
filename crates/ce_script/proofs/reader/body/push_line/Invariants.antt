use Rattle.std.proofs.Common.{◌≡◌, ◌++◌, [], length}
use Rattle.std.specs.Prelude.{flat_map, unwrap_or, is_none}
use Rattle.std.specs.List.{list_any}
use Rattle.ce_text.specs.Line.{before_comment}
use Rattle.ce_text.specs.Words.{line_words}
use Rattle.ce_script.specs.ReadWords.{word_bytes}
use Rattle.ce_script.proofs.reader.body.push_line.Given as goal

abbrev pub invariant-loop-word : goal.invariant-loop-word
invariant-loop-word l = record {
  bad : list_any (λ word. is_none (word_bytes l.kind word)) (line_words l.rest) ≡ list_any (λ word. is_none (word_bytes l.kind word)) (line_words (before_comment l.fn.line));
  bytes : l.bytes.items ++ flat_map (λ word. unwrap_or (word_bytes l.kind word) []) (line_words l.rest)
      ≡ l.fn.bytes.items ++ flat_map (λ word. unwrap_or (word_bytes l.kind word) []) (line_words (before_comment l.fn.line));
}

abbrev pub decreases-loop-word : goal.decreases-loop-word
decreases-loop-word l = length l.rest
