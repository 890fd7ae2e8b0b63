-- Statements whose operands are in range.
use Rattle.std.specs.Prelude.{ℤ, List, [], ◌∷◌}
use Rattle.std.proofs.Props.{props}
use Rattle.rv_model.specs.declared.inst.Inst.{Inst}
use Rattle.rv_model.specs.declared.inst.Inst.TheVariants as insts
use Rattle.rv_model.specs.declared.inst.ImmOp.{ImmOp}
use Rattle.rv_model.specs.declared.inst.ImmOp.TheVariants.{Addi, Slti, Sltiu, Xori, Ori, Andi, Slli, Srli, Srai}
use Rattle.rv_inst.specs.Valid.{IsRegister, IsImmediateOf, IsValid}
use Rattle.rv_asm.specs.declared.mnemonic.Mnemonic.{Mnemonic}
use Rattle.rv_asm.specs.declared.mnemonic.Mnemonic.TheVariants as mnemonics
use Rattle.rv_asm.specs.declared.statement.Statement.{Statement}
use Rattle.rv_asm.specs.declared.statement.Statement.TheVariants as statements
use Rattle.rv_asm.specs.declared.statement.PlacedStatement.{PlacedStatement}

-- the instruction or the register that a mnemonic stands for is one
abbrev pub IsSoundMnemonic : Mnemonic → Type 0
IsSoundMnemonic (mnemonics.Plain inst) = IsValid inst
IsSoundMnemonic (mnemonics.Jump rd) = IsRegister rd
IsSoundMnemonic mnemonic = Unit {0}

-- what a statement says of registers and numbers can be encoded
abbrev pub IsSoundStatement : Statement → Type 0
IsSoundStatement (statements.Inst inst) = IsValid inst
IsSoundStatement (statements.Jal rd label) = IsRegister rd
IsSoundStatement (statements.Branch op rs1 rs2 label) = IsRegister rs1 × IsRegister rs2
IsSoundStatement (statements.La rd label) = IsRegister rd
IsSoundStatement (statements.Word word) = Unit {0}
IsSoundStatement (statements.Address label) = Unit {0}
IsSoundStatement (statements.Byte byte) = Unit {0}
IsSoundStatement (statements.Zero count) = Unit {0}

abbrev pub AreSound : List Statement → Type 0
AreSound [] = Unit {0}
AreSound (statement ∷ others) = IsSoundStatement statement × AreSound others

abbrev pub ArePlacedSound : List PlacedStatement → Type 0
ArePlacedSound [] = Unit {0}
ArePlacedSound (placed_statement ∷ others) =
    IsSoundStatement placed_statement.statement × ArePlacedSound others

-- ---- no two proofs that statements are sound differ

IsImmediateOf-prop : (op : ImmOp) (z : ℤ) → IsProp (IsImmediateOf op z)
IsImmediateOf-prop Addi z = hlevel props
IsImmediateOf-prop Slti z = hlevel props
IsImmediateOf-prop Sltiu z = hlevel props
IsImmediateOf-prop Xori z = hlevel props
IsImmediateOf-prop Ori z = hlevel props
IsImmediateOf-prop Andi z = hlevel props
IsImmediateOf-prop Slli z = hlevel props
IsImmediateOf-prop Srli z = hlevel props
IsImmediateOf-prop Srai z = hlevel props

IsValid-prop : (inst : Inst) → IsProp (IsValid inst)
IsValid-prop (insts.Lui d n) = hlevel props
IsValid-prop (insts.Auipc d n) = hlevel props
IsValid-prop (insts.Jal d z) = hlevel props
IsValid-prop (insts.Jalr d a z) = hlevel props
IsValid-prop (insts.Branch o a b z) = hlevel props
IsValid-prop (insts.Load o d a z) = hlevel props
IsValid-prop (insts.Store o a b z) = hlevel props
IsValid-prop (insts.OpImm o d a z) = hlevel (props, IsImmediateOf-prop o z)
IsValid-prop (insts.Op o d a b) = hlevel props
IsValid-prop (insts.Fence word) = hlevel props
IsValid-prop insts.Ecall = hlevel props
IsValid-prop insts.Ebreak = hlevel props

IsSoundStatement-prop : (statement : Statement) → IsProp (IsSoundStatement statement)
IsSoundStatement-prop (statements.Inst inst) = IsValid-prop inst
IsSoundStatement-prop (statements.Jal rd label) = hlevel props
IsSoundStatement-prop (statements.Branch op rs1 rs2 label) = hlevel props
IsSoundStatement-prop (statements.La rd label) = hlevel props
IsSoundStatement-prop (statements.Word word) = hlevel props
IsSoundStatement-prop (statements.Address label) = hlevel props
IsSoundStatement-prop (statements.Byte byte) = hlevel props
IsSoundStatement-prop (statements.Zero count) = hlevel props

pub ArePlacedSound-prop : (placed_statements : List PlacedStatement)
    → IsProp (ArePlacedSound placed_statements)
ArePlacedSound-prop [] = hlevel props
ArePlacedSound-prop (one ∷ others) =
    hlevel (props, IsSoundStatement-prop one.statement, ArePlacedSound-prop others)
