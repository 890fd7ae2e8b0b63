-- The instruction words of RV32I, as the RISC-V unprivileged specification lists them: the fields
-- of a word ("Base Instruction Formats"), its immediates ("Immediate Encoding Variants"), and a row
-- for each instruction ("RV32I Base Integer Instruction Set", "RV32/64G Instruction Set Listings").
-- Words are below 2 ^ 32. That the other fields of a fence don't matter, and that every other word
-- is no instruction, is this project's own.
use Rattle.std.specs.Prelude.{ℕ, ◌+◌, ◌-◌, ◌*◌, ◌/◌, ◌%◌, ◌^◌, Bool, ◌==◌, nat_lt, if◌then◌else◌, ℤ, pos, ◌-ℤ◌, List, [], ◌∷◌, find, Option, option_map}
use Rattle.std.specs.List.{list_all}
use Rattle.rv_model.specs.declared.opcodes.TheConstants.{LUI, AUIPC, JAL, JALR, BRANCH, LOAD, STORE, OP_IMM, OP, MISC_MEM, SYSTEM, ECALL_WORD, EBREAK_WORD}
use Rattle.rv_model.specs.declared.inst.Inst.{Inst}
use Rattle.rv_model.specs.declared.inst.Inst.TheVariants.{Lui, Auipc, Jal, Jalr, Branch, Load, Store, OpImm, Op, Fence, Ecall, Ebreak}
use Rattle.rv_model.specs.declared.inst.BranchOp.{BranchOp}
use Rattle.rv_model.specs.declared.inst.BranchOp.TheVariants.{Beq, Bne, Blt, Bge, Bltu, Bgeu}
use Rattle.rv_model.specs.declared.inst.LoadOp.{LoadOp}
use Rattle.rv_model.specs.declared.inst.LoadOp.TheVariants.{Lb, Lh, Lw, Lbu, Lhu}
use Rattle.rv_model.specs.declared.inst.StoreOp.{StoreOp}
use Rattle.rv_model.specs.declared.inst.StoreOp.TheVariants.{Sb, Sh, Sw}
use Rattle.rv_model.specs.declared.inst.ImmOp.{ImmOp}
use Rattle.rv_model.specs.declared.inst.ImmOp.TheVariants.{Addi, Slti, Sltiu, Xori, Ori, Andi, Slli, Srli, Srai}
use Rattle.rv_model.specs.declared.inst.RegOp.{RegOp}
use Rattle.rv_model.specs.declared.inst.RegOp.TheVariants.{Add, Sll, Slt, Sltu, Xor, Srl, Or, And, Sub, Sra}

-- ---- fields

-- the `width` bits of a word from bit `low` up, as a number
abbrev pub bits_of : (low width word : ℕ) → ℕ
bits_of low width word = word / 2 ^ low % 2 ^ width

abbrev pub opcode_of : ℕ → ℕ
opcode_of = bits_of 0 7

abbrev pub rd_of : ℕ → ℕ
rd_of = bits_of 7 5

abbrev pub funct3_of : ℕ → ℕ
funct3_of = bits_of 12 3

abbrev pub rs1_of : ℕ → ℕ
rs1_of = bits_of 15 5

-- in a shift by an immediate, the shift amount
abbrev pub rs2_of : ℕ → ℕ
rs2_of = bits_of 20 5

abbrev pub funct7_of : ℕ → ℕ
funct7_of = bits_of 25 7

-- all that is above the opcode
abbrev pub rest_of : ℕ → ℕ
rest_of = bits_of 7 25

-- ---- immediates

-- the number of which n is the two's complement in `width` bits: its top bit counts as negative
abbrev pub sign_extension : (width n : ℕ) → ℤ
sign_extension width n = if nat_lt n (2 ^ (width - 1)) then pos n else pos n -ℤ pos (2 ^ width)

-- I: bits 31..20 are bits 11..0
abbrev pub i_immediate : ℕ → ℤ
i_immediate word = sign_extension 12 (bits_of 20 12 word)

-- S: bits 31..25 are bits 11..5, and bits 11..7 are bits 4..0
abbrev pub s_immediate : ℕ → ℤ
s_immediate word = sign_extension 12 (bits_of 25 7 word * 2 ^ 5 + bits_of 7 5 word)

-- B: bit 31 is bit 12, bit 7 is bit 11, bits 30..25 are bits 10..5, and bits 11..8 are bits 4..1
abbrev pub b_immediate : ℕ → ℤ
b_immediate word = sign_extension 13
    (bits_of 31 1 word * 2 ^ 12 + bits_of 7 1 word * 2 ^ 11 + bits_of 25 6 word * 2 ^ 5
    + bits_of 8 4 word * 2)

-- U: bits 31..12 stay where they are
abbrev pub u_immediate : ℕ → ℕ
u_immediate word = bits_of 12 20 word * 2 ^ 12

-- J: bit 31 is bit 20, bits 19..12 stay, bit 20 is bit 11, and bits 30..21 are bits 10..1
abbrev pub j_immediate : ℕ → ℤ
j_immediate word = sign_extension 21
    (bits_of 31 1 word * 2 ^ 20 + bits_of 12 8 word * 2 ^ 12 + bits_of 20 1 word * 2 ^ 11
    + bits_of 21 10 word * 2)

-- ---- rows

-- the `width` bits from bit `low` up have this value: a part of a row's mask, with the match under
-- it
pub record FixedField : Type 0 where
  pub low : ℕ
  pub width : ℕ
  pub value : ℕ

abbrev pub opcode_field : ℕ → FixedField
opcode_field n = record { low = 0; width = 7; value = n }

abbrev pub funct3_field : ℕ → FixedField
funct3_field n = record { low = 12; width = 3; value = n }

abbrev pub funct7_field : ℕ → FixedField
funct7_field n = record { low = 25; width = 7; value = n }

abbrev pub rest_field : ℕ → FixedField
rest_field n = record { low = 7; width = 25; value = n }

-- a row: the fields that it fixes, and the instruction of a word that has them
pub record DecodingRow : Type 0 where
  pub fixed_fields : List FixedField
  pub meaning : ℕ → Inst

-- the word has the row's fixed fields
abbrev pub has_fixed_fields : ℕ → DecodingRow → Bool
has_fixed_fields word row =
    list_all (λ field. bits_of field.low field.width word == field.value) row.fixed_fields

-- ---- the table

-- the row of an instruction that its opcode and its minor opcode fix
abbrev pub minor_row : ℕ → ℕ → (ℕ → Inst) → DecodingRow
minor_row opcode funct3 meaning = record {
  fixed_fields = opcode_field opcode ∷ funct3_field funct3 ∷ [];
  meaning = meaning;
}

abbrev pub branch_row : ℕ → BranchOp → DecodingRow
branch_row funct3 op =
    minor_row BRANCH funct3 (λ word. Branch op (rs1_of word) (rs2_of word) (b_immediate word))

abbrev pub load_row : ℕ → LoadOp → DecodingRow
load_row funct3 op =
    minor_row LOAD funct3 (λ word. Load op (rd_of word) (rs1_of word) (i_immediate word))

abbrev pub store_row : ℕ → StoreOp → DecodingRow
store_row funct3 op =
    minor_row STORE funct3 (λ word. Store op (rs1_of word) (rs2_of word) (s_immediate word))

abbrev pub op_imm_row : ℕ → ImmOp → DecodingRow
op_imm_row funct3 op =
    minor_row OP_IMM funct3 (λ word. OpImm op (rd_of word) (rs1_of word) (i_immediate word))

-- a shift by an immediate has the shift amount in the field of rs2
abbrev pub shift_row : ℕ → ℕ → ImmOp → DecodingRow
shift_row funct3 funct7 op = record {
  fixed_fields = opcode_field OP_IMM ∷ funct3_field funct3 ∷ funct7_field funct7 ∷ [];
  meaning = λ word. OpImm op (rd_of word) (rs1_of word) (pos (rs2_of word));
}

abbrev pub op_row : ℕ → ℕ → RegOp → DecodingRow
op_row funct3 funct7 op = record {
  fixed_fields = opcode_field OP ∷ funct3_field funct3 ∷ funct7_field funct7 ∷ [];
  meaning = λ word. Op op (rd_of word) (rs1_of word) (rs2_of word);
}

-- the row of each instruction of RV32I
unfoldable pub table : List DecodingRow
table =
    record {
      fixed_fields = opcode_field LUI ∷ [];
      meaning = λ word. Lui (rd_of word) (u_immediate word);
    }
    ∷ record {
      fixed_fields = opcode_field AUIPC ∷ [];
      meaning = λ word. Auipc (rd_of word) (u_immediate word);
    }
    ∷ record {
      fixed_fields = opcode_field JAL ∷ [];
      meaning = λ word. Jal (rd_of word) (j_immediate word);
    }
    ∷ minor_row JALR 0b000 (λ word. Jalr (rd_of word) (rs1_of word) (i_immediate word))
    ∷ branch_row 0b000 Beq
    ∷ branch_row 0b001 Bne
    ∷ branch_row 0b100 Blt
    ∷ branch_row 0b101 Bge
    ∷ branch_row 0b110 Bltu
    ∷ branch_row 0b111 Bgeu
    ∷ load_row 0b000 Lb
    ∷ load_row 0b001 Lh
    ∷ load_row 0b010 Lw
    ∷ load_row 0b100 Lbu
    ∷ load_row 0b101 Lhu
    ∷ store_row 0b000 Sb
    ∷ store_row 0b001 Sh
    ∷ store_row 0b010 Sw
    ∷ op_imm_row 0b000 Addi
    ∷ op_imm_row 0b010 Slti
    ∷ op_imm_row 0b011 Sltiu
    ∷ op_imm_row 0b100 Xori
    ∷ op_imm_row 0b110 Ori
    ∷ op_imm_row 0b111 Andi
    ∷ shift_row 0b001 0b0000000 Slli
    ∷ shift_row 0b101 0b0000000 Srli
    ∷ shift_row 0b101 0b0100000 Srai
    ∷ op_row 0b000 0b0000000 Add
    ∷ op_row 0b001 0b0000000 Sll
    ∷ op_row 0b010 0b0000000 Slt
    ∷ op_row 0b011 0b0000000 Sltu
    ∷ op_row 0b100 0b0000000 Xor
    ∷ op_row 0b101 0b0000000 Srl
    ∷ op_row 0b110 0b0000000 Or
    ∷ op_row 0b111 0b0000000 And
    ∷ op_row 0b000 0b0100000 Sub
    ∷ op_row 0b101 0b0100000 Sra
    ∷ minor_row MISC_MEM 0b000 (λ word. Fence word)
    ∷ record {
      fixed_fields = opcode_field SYSTEM ∷ rest_field (rest_of ECALL_WORD) ∷ [];
      meaning = λ word. Ecall;
    }
    ∷ record {
      fixed_fields = opcode_field SYSTEM ∷ rest_field (rest_of EBREAK_WORD) ∷ [];
      meaning = λ word. Ebreak;
    }
    ∷ []

-- the instruction that a word is: that of the row that it matches, of which there is at most one,
-- and none where it matches no row
unfoldable pub instruction_of : ℕ → Option Inst
instruction_of word = option_map (λ row. row.meaning word) (find (has_fixed_fields word) table)
