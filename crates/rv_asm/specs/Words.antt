-- Mnemonics and directives.
use Rattle.std.specs.Prelude.{ℕ, pos, List, [], ◌∷◌, Option, codes}
use Rattle.rv_model.specs.declared.opcodes.TheConstants.{FENCE_WORD}
use Rattle.rv_model.specs.declared.inst.Inst.TheVariants.{Jalr, OpImm, Fence, Ecall, Ebreak}
use Rattle.rv_model.specs.declared.inst.BranchOp.TheVariants.{Beq, Bne, Blt, Bge, Bltu, Bgeu}
use Rattle.rv_model.specs.declared.inst.LoadOp.TheVariants.{Lb, Lh, Lw, Lbu, Lhu}
use Rattle.rv_model.specs.declared.inst.StoreOp.TheVariants.{Sb, Sh, Sw}
use Rattle.rv_model.specs.declared.inst.ImmOp.TheVariants.{Addi, Slti, Sltiu, Xori, Ori, Andi, Slli, Srli, Srai}
use Rattle.rv_model.specs.declared.inst.RegOp.TheVariants.{Add, Sll, Slt, Sltu, Xor, Srl, Or, And, Sub, Sra}
use Rattle.rv_asm.specs.declared.mnemonic.Mnemonic.{Mnemonic}
use Rattle.rv_asm.specs.declared.mnemonic.Mnemonic.TheVariants as mnemonics
use Rattle.ce_text.specs.Table.{table_value}

-- each mnemonic and directive by its text
unfoldable pub mnemonic_table : List (List ℕ × Mnemonic)
mnemonic_table =
    (codes "lui", mnemonics.Lui)
    ∷ (codes "auipc", mnemonics.Auipc)
    ∷ (codes "jal", mnemonics.Jal)
    ∷ (codes "jalr", mnemonics.Jalr)
    ∷ (codes "beq", mnemonics.Branch Beq)
    ∷ (codes "bne", mnemonics.Branch Bne)
    ∷ (codes "blt", mnemonics.Branch Blt)
    ∷ (codes "bge", mnemonics.Branch Bge)
    ∷ (codes "bltu", mnemonics.Branch Bltu)
    ∷ (codes "bgeu", mnemonics.Branch Bgeu)
    ∷ (codes "lb", mnemonics.Load Lb)
    ∷ (codes "lh", mnemonics.Load Lh)
    ∷ (codes "lw", mnemonics.Load Lw)
    ∷ (codes "lbu", mnemonics.Load Lbu)
    ∷ (codes "lhu", mnemonics.Load Lhu)
    ∷ (codes "sb", mnemonics.Store Sb)
    ∷ (codes "sh", mnemonics.Store Sh)
    ∷ (codes "sw", mnemonics.Store Sw)
    ∷ (codes "addi", mnemonics.OpImm Addi)
    ∷ (codes "slti", mnemonics.OpImm Slti)
    ∷ (codes "sltiu", mnemonics.OpImm Sltiu)
    ∷ (codes "xori", mnemonics.OpImm Xori)
    ∷ (codes "ori", mnemonics.OpImm Ori)
    ∷ (codes "andi", mnemonics.OpImm Andi)
    ∷ (codes "slli", mnemonics.OpImm Slli)
    ∷ (codes "srli", mnemonics.OpImm Srli)
    ∷ (codes "srai", mnemonics.OpImm Srai)
    ∷ (codes "add", mnemonics.Op Add)
    ∷ (codes "sll", mnemonics.Op Sll)
    ∷ (codes "slt", mnemonics.Op Slt)
    ∷ (codes "sltu", mnemonics.Op Sltu)
    ∷ (codes "xor", mnemonics.Op Xor)
    ∷ (codes "srl", mnemonics.Op Srl)
    ∷ (codes "or", mnemonics.Op Or)
    ∷ (codes "and", mnemonics.Op And)
    ∷ (codes "sub", mnemonics.Op Sub)
    ∷ (codes "sra", mnemonics.Op Sra)
    ∷ (codes "fence", mnemonics.Plain (Fence FENCE_WORD))
    ∷ (codes "ecall", mnemonics.Plain Ecall)
    ∷ (codes "ebreak", mnemonics.Plain Ebreak)
    ∷ (codes "ret", mnemonics.Plain (Jalr 0 1 (pos 0)))
    ∷ (codes "nop", mnemonics.Plain (OpImm Addi 0 0 (pos 0)))
    ∷ (codes "li", mnemonics.Li)
    ∷ (codes "la", mnemonics.La)
    ∷ (codes "mv", mnemonics.Mv)
    ∷ (codes "j", mnemonics.Jump 0)
    ∷ (codes "call", mnemonics.Jump 1)
    ∷ (codes ".word", mnemonics.Word)
    ∷ (codes ".byte", mnemonics.Byte)
    ∷ (codes ".zero", mnemonics.Zero)
    ∷ []

-- the mnemonic or directive with this text
unfoldable pub mnemonic_of : List ℕ → Option Mnemonic
mnemonic_of text = table_value mnemonic_table text
