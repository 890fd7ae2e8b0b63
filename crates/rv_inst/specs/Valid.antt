-- The instructions that a word can hold: the ranges of their operands.
use Rattle.std.specs.Prelude.{◌≡◌, ℕ, ◌%◌, ◌^◌, ◌<◌, ℤ, pos, neg_ℤ, ◌≤ℤ◌, ◌<ℤ◌, unsigned_abs}
use Rattle.rv_model.specs.declared.limits.TheConstants.{BRANCH_REACH, GREATEST_IMMEDIATE, GREATEST_SHIFT, JUMP_REACH, LEAST_IMMEDIATE, REGISTER_COUNT, UPPER_UNIT}
use Rattle.rv_model.specs.declared.opcodes.TheConstants.{MISC_MEM}
use Rattle.rv_model.specs.declared.inst.Inst.{Inst}
use Rattle.rv_model.specs.declared.inst.Inst.TheVariants.{Lui, Auipc, Jal, Jalr, Branch, Load, Store, OpImm, Op, Fence, Ecall, Ebreak}
use Rattle.rv_model.specs.declared.inst.ImmOp.{ImmOp}
use Rattle.rv_model.specs.declared.inst.ImmOp.TheVariants.{Addi, Slti, Sltiu, Xori, Ori, Andi, Slli, Srli, Srai}
use Rattle.rv_model.specs.Words.{opcode_of, funct3_of}

-- one of the registers
abbrev pub IsRegister : ℕ → Type 0
IsRegister n = n < REGISTER_COUNT

-- a word whose low 12 bits are 0
abbrev pub IsUpper : ℕ → Type 0
IsUpper n = (n < 2 ^ 32) × (n % UPPER_UNIT ≡ 0)

-- what twelve bits hold
abbrev pub IsTwelveBits : ℤ → Type 0
IsTwelveBits z = (LEAST_IMMEDIATE ≤ℤ z) × (z ≤ℤ GREATEST_IMMEDIATE)

-- fewer bits than a word has
abbrev pub IsShiftAmount : ℤ → Type 0
IsShiftAmount z = (pos 0 ≤ℤ z) × (z ≤ℤ GREATEST_SHIFT)

abbrev pub IsEven : ℤ → Type 0
IsEven z = unsigned_abs z % 2 ≡ 0

-- an even number from -reach to reach - 1
abbrev pub IsOffsetWithin : ℕ → ℤ → Type 0
IsOffsetWithin reach z = (neg_ℤ (pos reach) ≤ℤ z) × (z <ℤ pos reach) × IsEven z

abbrev pub IsBranchOffset : ℤ → Type 0
IsBranchOffset z = IsOffsetWithin BRANCH_REACH z

abbrev pub IsJumpOffset : ℤ → Type 0
IsJumpOffset z = IsOffsetWithin JUMP_REACH z

-- a shift's immediate is a shift amount
abbrev pub IsImmediateOf : ImmOp → ℤ → Type 0
IsImmediateOf Slli z = IsShiftAmount z
IsImmediateOf Srli z = IsShiftAmount z
IsImmediateOf Srai z = IsShiftAmount z
IsImmediateOf Addi z = IsTwelveBits z
IsImmediateOf Slti z = IsTwelveBits z
IsImmediateOf Sltiu z = IsTwelveBits z
IsImmediateOf Xori z = IsTwelveBits z
IsImmediateOf Ori z = IsTwelveBits z
IsImmediateOf Andi z = IsTwelveBits z

-- each operand is in its range
abbrev pub IsValid : Inst → Type 0
IsValid (Lui d n) = IsRegister d × IsUpper n
IsValid (Auipc d n) = IsRegister d × IsUpper n
IsValid (Jal d z) = IsRegister d × IsJumpOffset z
IsValid (Jalr d a z) = IsRegister d × IsRegister a × IsTwelveBits z
IsValid (Branch o a b z) = IsRegister a × IsRegister b × IsBranchOffset z
IsValid (Load o d a z) = IsRegister d × IsRegister a × IsTwelveBits z
IsValid (Store o a b z) = IsRegister a × IsRegister b × IsTwelveBits z
IsValid (OpImm o d a z) = IsRegister d × IsRegister a × IsImmediateOf o z
IsValid (Op o d a b) = IsRegister d × IsRegister a × IsRegister b
IsValid (Fence word) = (word < 2 ^ 32) × (opcode_of word ≡ MISC_MEM) × (funct3_of word ≡ 0b000)
IsValid Ecall = Unit {0}
IsValid Ebreak = Unit {0}
