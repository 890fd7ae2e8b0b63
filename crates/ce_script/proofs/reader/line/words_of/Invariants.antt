use Rattle.std.proofs.Common.{◌≡◌, ◌++◌, length, map}
use Rattle.ce_text.specs.Words.{line_words}
use Rattle.ce_script.proofs.reader.line.words_of.Given as goal

abbrev pub invariant-loop-word : goal.invariant-loop-word
invariant-loop-word l = map (λ word. word.now) l.list.items ++ line_words l.rest ≡ line_words l.fn.code

abbrev pub decreases-loop-word : goal.decreases-loop-word
decreases-loop-word l = length l.rest
