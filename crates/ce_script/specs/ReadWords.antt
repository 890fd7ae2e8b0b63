-- The words of bodies, in both ways in which they are read.
use Rattle.std.specs.Prelude.{ℕ, List, Option}
use Rattle.ce_script.specs.declared.reader.body.WordKind.{WordKind}
use Rattle.ce_script.specs.declared.reader.body.WordKind.TheVariants.{Instruction, Plain}
use Rattle.ce_script.specs.Spellings.{written_bytes, instruction_in}

-- what a word of this kind writes
abbrev pub word_bytes : WordKind → List ℕ → Option (List ℕ)
word_bytes Instruction word = instruction_in word
word_bytes Plain word = written_bytes word
