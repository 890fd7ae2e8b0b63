-- What a listing of instructions is: each line has the mnemonic that the table gives its
-- instruction, and texts of the instruction's registers and numbers in the places of the operands.
-- A listing has no labels and no jumps to them.
use Rattle.std.specs.Prelude.{◌≡◌, ◌⊎◌, ℕ, ◌*◌, true, false, List, [], ◌∷◌, Some, None, ℤ, pos}
use Rattle.std.specs.List.{list_all}
use Rattle.rv_model.specs.declared.limits.TheConstants.{UPPER_UNIT}
use Rattle.rv_model.specs.declared.inst.Inst.{Inst}
use Rattle.rv_model.specs.declared.inst.Inst.TheVariants as insts
use Rattle.rv_inst.specs.Valid.{IsValid}
use Rattle.ce_text.specs.Bytes.{is_plain}
use Rattle.ce_text.specs.Line.{cut_parts, before_comment}
use Rattle.rv_asm.specs.declared.mnemonic.Mnemonic.{Mnemonic}
use Rattle.rv_asm.specs.declared.mnemonic.Mnemonic.TheVariants as mnemonics
use Rattle.rv_asm.specs.Line.{is_token, is_opening}
use Rattle.rv_asm.specs.Name.{is_name}
use Rattle.rv_asm.specs.Register.{named_register}
use Rattle.rv_asm.specs.Literal.{literal_of}
use Rattle.rv_asm.specs.Words.{mnemonic_of}
use Rattle.rv_asm_laws.specs.Forms.{is_bracketed, offset_text, base_text, operand_texts}
use Rattle.rv_asm_laws.specs.Before.{label_of}
use Rattle.rv_asm_laws.specs.LineFaults.{statement_text, statement_word, statement_operands}

-- a name of the register
abbrev pub IsRegisterText : ℕ → List ℕ → Type 0
IsRegisterText n text = named_register text ≡ Some n

-- a token that is no name and writes the number
pub record IsNumberText (n : ℤ) (text : List ℕ) : Type 0 where
  pub token : is_token text ≡ true
  pub unnamed : is_name text ≡ false
  pub number : literal_of text ≡ Some n

-- bits 31..12 of a word, as a number
abbrev pub IsUpperText : ℕ → List ℕ → Type 0
IsUpperText word text = (n : ℕ) × (word ≡ n * UPPER_UNIT) × IsNumberText (pos n) text

-- `n(rs1)`
pub record IsMemoryText (n : ℤ) (rs1 : ℕ) (text : List ℕ) : Type 0 where
  pub closed : is_bracketed (cut_parts is_opening text).1 ≡ true
  pub offset : IsNumberText n (offset_text text)
  pub base : IsRegisterText rs1 (base_text text)

abbrev pub AreTwo : (List ℕ → Type 0) → (List ℕ → Type 0) → List (List ℕ) → Type 0
AreTwo First Second (a ∷ b ∷ []) = First a × Second b
AreTwo First Second texts = ⊥

abbrev pub AreThree : (List ℕ → Type 0) → (List ℕ → Type 0) → (List ℕ → Type 0) → List (List ℕ)
    → Type 0
AreThree First Second Third (a ∷ b ∷ c ∷ []) = First a × Second b × Third c
AreThree First Second Third texts = ⊥

-- texts of an instruction's operands, in the order in which the table has them
abbrev pub AreOperandsOf : Inst → List (List ℕ) → Type 0
AreOperandsOf (insts.Lui rd imm) texts = AreTwo (IsRegisterText rd) (IsUpperText imm) texts
AreOperandsOf (insts.Auipc rd imm) texts = AreTwo (IsRegisterText rd) (IsUpperText imm) texts
AreOperandsOf (insts.Jal rd offset) texts = ⊥
AreOperandsOf (insts.Jalr rd rs1 imm) texts =
    AreTwo (IsRegisterText rd) (IsMemoryText imm rs1) texts
AreOperandsOf (insts.Branch op rs1 rs2 offset) texts = ⊥
AreOperandsOf (insts.Load op rd rs1 imm) texts =
    AreTwo (IsRegisterText rd) (IsMemoryText imm rs1) texts
AreOperandsOf (insts.Store op rs1 rs2 imm) texts =
    AreTwo (IsRegisterText rs2) (IsMemoryText imm rs1) texts
AreOperandsOf (insts.OpImm op rd rs1 imm) texts =
    AreThree (IsRegisterText rd) (IsRegisterText rs1) (IsNumberText imm) texts
AreOperandsOf (insts.Op op rd rs1 rs2) texts =
    AreThree (IsRegisterText rd) (IsRegisterText rs1) (IsRegisterText rs2) texts
AreOperandsOf (insts.Fence word) texts = texts ≡ []
AreOperandsOf insts.Ecall texts = texts ≡ []
AreOperandsOf insts.Ebreak texts = texts ≡ []

-- what the table says of an instruction's mnemonic
abbrev pub instruction_mnemonic : Inst → Mnemonic
instruction_mnemonic (insts.Lui rd imm) = mnemonics.Lui
instruction_mnemonic (insts.Auipc rd imm) = mnemonics.Auipc
instruction_mnemonic (insts.Jal rd offset) = mnemonics.Jal
instruction_mnemonic (insts.Jalr rd rs1 imm) = mnemonics.Jalr
instruction_mnemonic (insts.Branch op rs1 rs2 offset) = mnemonics.Branch op
instruction_mnemonic (insts.Load op rd rs1 imm) = mnemonics.Load op
instruction_mnemonic (insts.Store op rs1 rs2 imm) = mnemonics.Store op
instruction_mnemonic (insts.OpImm op rd rs1 imm) = mnemonics.OpImm op
instruction_mnemonic (insts.Op op rd rs1 rs2) = mnemonics.Op op
instruction_mnemonic (insts.Fence word) = mnemonics.Plain (insts.Fence word)
instruction_mnemonic insts.Ecall = mnemonics.Plain insts.Ecall
instruction_mnemonic insts.Ebreak = mnemonics.Plain insts.Ebreak

-- the line writes the instruction, which is a valid one
pub record IsWrittenAs (inst : Inst) (line : List ℕ) : Type 0 where
  pub valid : IsValid inst
  pub plain : list_all is_plain (before_comment line) ≡ true
  pub unlabelled : label_of line ≡ None
  pub mnemonic : mnemonic_of (statement_word (statement_text line))
      ≡ Some (instruction_mnemonic inst)
  pub operands : AreOperandsOf inst (operand_texts (statement_operands (statement_text line)))

-- a line of blanks, or of a comment
pub record IsEmptyLine (line : List ℕ) : Type 0 where
  pub plain : list_all is_plain (before_comment line) ≡ true
  pub unlabelled : label_of line ≡ None
  pub nothing : statement_text line ≡ []

-- the lines write these instructions, one after the other; empty lines may stand between them
abbrev pub IsListing : List (List ℕ) → List Inst → Type 0
IsListing [] [] = Unit {0}
IsListing [] (inst ∷ insts) = ⊥
IsListing (line ∷ lines) [] = IsEmptyLine line × IsListing lines []
IsListing (line ∷ lines) (inst ∷ insts) = (IsWrittenAs inst line × IsListing lines insts)
    ⊎ (IsEmptyLine line × IsListing lines (inst ∷ insts))
