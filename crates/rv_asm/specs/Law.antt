-- What is assembled decodes to what was written.
use Rattle.std.specs.Prelude.{◌≡◌, ℕ, ◌+◌, List, [], ◌∷◌, ◌++◌, length, take, drop, Some}
use Rattle.std.specs.Int.{w32, from_le_bytes}
use Rattle.rv_model.specs.declared.limits.TheConstants.{WORD_SIZE}
use Rattle.rv_model.specs.declared.inst.Inst.{Inst}
use Rattle.rv_model.specs.Words.{instruction_of}
use Rattle.rv_asm.specs.SecondPass.{Part, Instruction, Plain}
use Rattle.rv_asm.specs.Spelling.{IsSpellingOf}

-- how many bytes parts take
abbrev pub parts_size : List Part → ℕ
parts_size [] = 0
parts_size (Instruction inst ∷ parts) = WORD_SIZE + parts_size parts
parts_size (Plain plain ∷ parts) = length plain + parts_size parts

-- the little-endian word in the four bytes from this place on
abbrev pub word_at : ℕ → List ℕ → ℕ
word_at place bytes = from_le_bytes w32 (take WORD_SIZE (drop place bytes))

-- the word at an instruction's place is decoded to the instruction
abbrev pub InstructionsDecode : Type 0
InstructionsDecode = (front back : List Part) (inst : Inst) (bytes : List ℕ)
    → IsSpellingOf (front ++ Instruction inst ∷ back) bytes
    → instruction_of (word_at (parts_size front) bytes)
    ≡ Some inst

-- parts have one spelling
abbrev pub PartsHaveOneSpelling : Type 0
PartsHaveOneSpelling = (parts : List Part) (first second : List ℕ) → IsSpellingOf parts first
    → IsSpellingOf parts second → first ≡ second
