-- What words are decoded to: some words, and a word of each form by the fields that its row fixes.
use Rattle.std.proofs.Common.{◌≡◌, ℕ, pos, Some, None, refl}
use Rattle.rv_model.specs.declared.opcodes.TheConstants.{LUI, AUIPC, JAL, JALR, MISC_MEM, ECALL_WORD, EBREAK_WORD}
use Rattle.rv_model.specs.declared.inst.Inst.TheVariants.{Lui, Auipc, Jal, Jalr, OpImm, Fence, Ecall, Ebreak}
use Rattle.rv_model.specs.declared.inst.ImmOp.TheVariants.{Addi}
use Rattle.rv_model.specs.Words.{opcode_of, funct3_of, rd_of, rs1_of, i_immediate, u_immediate, j_immediate, table, instruction_of}

-- ---- words

pub instruction_of-00000000 : instruction_of 0x0000_0000 ≡ None
unfolding instruction_of table
instruction_of-00000000 = refl

pub instruction_of-ecall : instruction_of ECALL_WORD ≡ Some Ecall
unfolding instruction_of table
instruction_of-ecall = refl

pub instruction_of-ebreak : instruction_of EBREAK_WORD ≡ Some Ebreak
unfolding instruction_of table
instruction_of-ebreak = refl

-- `addi a0, zero, 42`
pub instruction_of-02A00513 : instruction_of 0x02A0_0513 ≡ Some (OpImm Addi 10 0 (pos 42))
unfolding instruction_of table
instruction_of-02A00513 = refl

-- ---- forms

pub instruction_of-lui : (w : ℕ) → opcode_of w ≡ LUI → instruction_of w ≡ Some (Lui (rd_of w) (u_immediate w))
unfolding instruction_of table
instruction_of-lui w k = rw k refl

pub instruction_of-auipc : (w : ℕ) → opcode_of w ≡ AUIPC → instruction_of w ≡ Some (Auipc (rd_of w) (u_immediate w))
unfolding instruction_of table
instruction_of-auipc w k = rw k refl

pub instruction_of-jal : (w : ℕ) → opcode_of w ≡ JAL → instruction_of w ≡ Some (Jal (rd_of w) (j_immediate w))
unfolding instruction_of table
instruction_of-jal w k = rw k refl

pub instruction_of-jalr : (w : ℕ) → opcode_of w ≡ JALR → funct3_of w ≡ 0b000 → instruction_of w ≡ Some (Jalr (rd_of w) (rs1_of w) (i_immediate w))
unfolding instruction_of table
instruction_of-jalr w k f = rw (k, f) refl

pub instruction_of-fence : (w : ℕ) → opcode_of w ≡ MISC_MEM → funct3_of w ≡ 0b000 → instruction_of w ≡ Some (Fence w)
unfolding instruction_of table
instruction_of-fence w k f = rw (k, f) refl

-- those of one instruction each, for `encode`
pub ruleset forms = (instruction_of-lui, instruction_of-auipc, instruction_of-jal, instruction_of-jalr, instruction_of-fence, instruction_of-ecall, instruction_of-ebreak)
