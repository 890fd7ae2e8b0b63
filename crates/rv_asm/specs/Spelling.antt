-- The bytes of an image, and its parts.
use Rattle.std.specs.Prelude.{◌≡◌, ℕ, ◌^◌, ◌<◌, List, [], ◌∷◌, ◌++◌, Some, Result, Ok, Err}
use Rattle.std.specs.Int.{w32, to_le_bytes}
use Rattle.rv_model.specs.Words.{instruction_of}
use Rattle.rv_asm.specs.declared.fault.AsmKind.{AsmKind}
use Rattle.rv_asm.specs.declared.fault.AsmFault.{AsmFault}
use Rattle.rv_asm.specs.declared.fault.Halt.{Halt}
use Rattle.rv_asm.specs.Faults.{IsHaltOf, AsmUnless}
use Rattle.rv_asm.specs.SecondPass.{Part, Instruction, Plain}

-- Bytes that lay out parts: an instruction is the word that decodes to it, little-endian.
abbrev pub IsSpellingOf : List Part → List ℕ → Type 0
IsSpellingOf [] bytes = bytes ≡ []
IsSpellingOf (Instruction inst ∷ parts) bytes =
    (word : ℕ) × (rest : List ℕ) × (word < 2 ^ 32) × (instruction_of word ≡ Some inst)
    × (bytes ≡ to_le_bytes w32 word ++ rest) × IsSpellingOf parts rest
IsSpellingOf (Plain plain ∷ parts) bytes =
    (rest : List ℕ) × (bytes ≡ plain ++ rest) × IsSpellingOf parts rest

-- new is old with bytes behind it that lay out parts
abbrev pub HasAppendedParts : List Part → List ℕ → List ℕ → Type 0
HasAppendedParts parts old new = (bytes : List ℕ) × IsSpellingOf parts bytes × (new ≡ old ++ bytes)

-- what is known of a call that appends the parts that the definition says, unless memory runs out
abbrev pub HasAppended : Result (Unit {0}) Halt → List ℕ → List ℕ → Result (List Part) AsmKind
    → Type 0
HasAppended (Ok unit) old new judgment =
    (parts : List Part) × (judgment ≡ Ok parts) × HasAppendedParts parts old new
HasAppended (Err halt) old new judgment = IsHaltOf halt judgment

-- the same of a call that answers bytes
abbrev pub AreGivenParts : {A : Type 0} → (A → List ℕ) → Result A AsmFault
    → Result (List Part) AsmFault → Type 0
AreGivenParts view (Ok out) judgment =
    (parts : List Part) × (judgment ≡ Ok parts) × IsSpellingOf parts (view out)
AreGivenParts view (Err fault) judgment = AsmUnless fault.kind (judgment ≡ Err fault)
