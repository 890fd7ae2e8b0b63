-- The word of an instruction: the fields that the RISC-V unprivileged specification gives it ("Base
-- Instruction Formats", "Immediate Encoding Variants", "RV32I Base Integer Instruction Set"), put
-- together. Where the decoding table reads a word as an instruction, this gives the word back
-- (`back` in `proofs/Joined.antt`).
use Rattle.std.specs.Prelude.{ℕ, ◌+◌, ◌*◌, ◌%◌, ◌^◌, ℤ, unsigned_abs}
use Rattle.std.specs.Int.{w32, cast_unsigned}
use Rattle.rv_model.specs.declared.opcodes.TheConstants.{LUI, AUIPC, JAL, JALR, BRANCH, LOAD, STORE, OP_IMM, OP, ECALL_WORD, EBREAK_WORD}
use Rattle.rv_model.specs.declared.inst.Inst.{Inst}
use Rattle.rv_model.specs.declared.inst.Inst.TheVariants.{Lui, Auipc, Jal, Jalr, Branch, Load, Store, OpImm, Op, Fence, Ecall, Ebreak}
use Rattle.rv_model.specs.declared.inst.BranchOp.{BranchOp}
use Rattle.rv_model.specs.declared.inst.BranchOp.TheVariants.{Beq, Bne, Blt, Bge, Bltu, Bgeu}
use Rattle.rv_model.specs.declared.inst.LoadOp.{LoadOp}
use Rattle.rv_model.specs.declared.inst.LoadOp.TheVariants.{Lb, Lh, Lw, Lbu, Lhu}
use Rattle.rv_model.specs.declared.inst.StoreOp.{StoreOp}
use Rattle.rv_model.specs.declared.inst.StoreOp.TheVariants.{Sb, Sh, Sw}
use Rattle.rv_model.specs.declared.inst.ImmOp.{ImmOp}
use Rattle.rv_model.specs.declared.inst.ImmOp.TheVariants.{Addi, Slti, Sltiu, Xori, Ori, Andi, Slli, Srli, Srai}
use Rattle.rv_model.specs.declared.inst.RegOp.{RegOp}
use Rattle.rv_model.specs.declared.inst.RegOp.TheVariants.{Add, Sll, Slt, Sltu, Xor, Srl, Or, And, Sub, Sra}
use Rattle.rv_model.specs.Words.{bits_of}

-- ---- formats: the first bits are those of the immediate, the second those of the word

-- R
abbrev pub r_word : (opcode funct3 funct7 rd rs1 rs2 : ℕ) → ℕ
r_word opcode funct3 funct7 rd rs1 rs2 =
    funct7 * 2 ^ 25 + rs2 * 2 ^ 20 + rs1 * 2 ^ 15 + funct3 * 2 ^ 12 + rd * 2 ^ 7 + opcode

-- I: bits 11..0 are bits 31..20
abbrev pub i_word : (opcode funct3 rd rs1 : ℕ) → ℤ → ℕ
i_word opcode funct3 rd rs1 imm =
    cast_unsigned w32 imm % 2 ^ 12 * 2 ^ 20 + rs1 * 2 ^ 15 + funct3 * 2 ^ 12 + rd * 2 ^ 7 + opcode

-- S: bits 11..5 are bits 31..25, and bits 4..0 are bits 11..7
abbrev pub s_word : (opcode funct3 rs1 rs2 : ℕ) → ℤ → ℕ
s_word opcode funct3 rs1 rs2 imm =
    let n = cast_unsigned w32 imm in
    bits_of 5 7 n * 2 ^ 25 + rs2 * 2 ^ 20 + rs1 * 2 ^ 15 + funct3 * 2 ^ 12 + bits_of 0 5 n * 2 ^ 7
    + opcode

-- B: bit 12 is bit 31, bits 10..5 are bits 30..25, bits 4..1 are bits 11..8, and bit 11 is bit 7
abbrev pub b_word : (opcode funct3 rs1 rs2 : ℕ) → ℤ → ℕ
b_word opcode funct3 rs1 rs2 offset =
    let n = cast_unsigned w32 offset in
    bits_of 12 1 n * 2 ^ 31 + bits_of 5 6 n * 2 ^ 25 + rs2 * 2 ^ 20 + rs1 * 2 ^ 15 + funct3 * 2 ^ 12
    + bits_of 1 4 n * 2 ^ 8 + bits_of 11 1 n * 2 ^ 7 + opcode

-- U: bits 31..12 stay where they are
abbrev pub u_word : (opcode rd imm : ℕ) → ℕ
u_word opcode rd imm = imm + rd * 2 ^ 7 + opcode

-- J: bit 20 is bit 31, bits 10..1 are bits 30..21, bit 11 is bit 20, and bits 19..12 stay
abbrev pub j_word : (opcode rd : ℕ) → ℤ → ℕ
j_word opcode rd offset =
    let n = cast_unsigned w32 offset in
    bits_of 20 1 n * 2 ^ 31 + bits_of 1 10 n * 2 ^ 21 + bits_of 11 1 n * 2 ^ 20
    + bits_of 12 8 n * 2 ^ 12
    + rd * 2 ^ 7 + opcode

-- ---- instructions

-- the funct3 of a branch
abbrev pub branch_funct3 : BranchOp → ℕ
branch_funct3 Beq = 0b000
branch_funct3 Bne = 0b001
branch_funct3 Blt = 0b100
branch_funct3 Bge = 0b101
branch_funct3 Bltu = 0b110
branch_funct3 Bgeu = 0b111

-- the funct3 of a load
abbrev pub load_funct3 : LoadOp → ℕ
load_funct3 Lb = 0b000
load_funct3 Lh = 0b001
load_funct3 Lw = 0b010
load_funct3 Lbu = 0b100
load_funct3 Lhu = 0b101

-- the funct3 of a store
abbrev pub store_funct3 : StoreOp → ℕ
store_funct3 Sb = 0b000
store_funct3 Sh = 0b001
store_funct3 Sw = 0b010

-- the word of an operation on a register and a number; the amount of a shift stands where rs2 does
abbrev pub imm_word : ImmOp → ℕ → ℕ → ℤ → ℕ
imm_word Addi rd rs1 imm = i_word OP_IMM 0b000 rd rs1 imm
imm_word Slti rd rs1 imm = i_word OP_IMM 0b010 rd rs1 imm
imm_word Sltiu rd rs1 imm = i_word OP_IMM 0b011 rd rs1 imm
imm_word Xori rd rs1 imm = i_word OP_IMM 0b100 rd rs1 imm
imm_word Ori rd rs1 imm = i_word OP_IMM 0b110 rd rs1 imm
imm_word Andi rd rs1 imm = i_word OP_IMM 0b111 rd rs1 imm
imm_word Slli rd rs1 imm = r_word OP_IMM 0b001 0b0000000 rd rs1 (unsigned_abs imm)
imm_word Srli rd rs1 imm = r_word OP_IMM 0b101 0b0000000 rd rs1 (unsigned_abs imm)
imm_word Srai rd rs1 imm = r_word OP_IMM 0b101 0b0100000 rd rs1 (unsigned_abs imm)

-- the word of an operation on two registers
abbrev pub op_word : RegOp → ℕ → ℕ → ℕ → ℕ
op_word Add rd rs1 rs2 = r_word OP 0b000 0b0000000 rd rs1 rs2
op_word Sll rd rs1 rs2 = r_word OP 0b001 0b0000000 rd rs1 rs2
op_word Slt rd rs1 rs2 = r_word OP 0b010 0b0000000 rd rs1 rs2
op_word Sltu rd rs1 rs2 = r_word OP 0b011 0b0000000 rd rs1 rs2
op_word Xor rd rs1 rs2 = r_word OP 0b100 0b0000000 rd rs1 rs2
op_word Srl rd rs1 rs2 = r_word OP 0b101 0b0000000 rd rs1 rs2
op_word Or rd rs1 rs2 = r_word OP 0b110 0b0000000 rd rs1 rs2
op_word And rd rs1 rs2 = r_word OP 0b111 0b0000000 rd rs1 rs2
op_word Sub rd rs1 rs2 = r_word OP 0b000 0b0100000 rd rs1 rs2
op_word Sra rd rs1 rs2 = r_word OP 0b101 0b0100000 rd rs1 rs2

-- the word of a valid instruction; of others this says nothing
unfoldable pub word_of : Inst → ℕ
word_of (Lui rd imm) = u_word LUI rd imm
word_of (Auipc rd imm) = u_word AUIPC rd imm
word_of (Jal rd offset) = j_word JAL rd offset
word_of (Jalr rd rs1 imm) = i_word JALR 0b000 rd rs1 imm
word_of (Branch op rs1 rs2 offset) = b_word BRANCH (branch_funct3 op) rs1 rs2 offset
word_of (Load op rd rs1 imm) = i_word LOAD (load_funct3 op) rd rs1 imm
word_of (Store op rs1 rs2 imm) = s_word STORE (store_funct3 op) rs1 rs2 imm
word_of (OpImm op rd rs1 imm) = imm_word op rd rs1 imm
word_of (Op op rd rs1 rs2) = op_word op rd rs1 rs2
word_of (Fence word) = word
word_of Ecall = ECALL_WORD
word_of Ebreak = EBREAK_WORD
