-- What one instruction does: "RV32I Base Integer Instruction Set" of the RISC-V unprivileged
-- specification. The stops and the order of the tests are this project's own.
use Rattle.std.specs.Prelude.{◌≡◌, ◌⊎◌, ℕ, ◌*◌, ◌/◌, ◌%◌, ◌^◌, Bool, not, nat_lt, ◌==◌, if◌then◌else◌, List, slice_index, slice_set, bit_and, bit_or, bit_xor, Result, Ok, Err, ok_or, ℤ}
use Rattle.std.specs.Int.{w8, w16, w32, cast_signed, cast_unsigned}
use Rattle.rv_model.specs.declared.limits.TheConstants.{WORD_SIZE}
use Rattle.rv_model.specs.declared.stop.Stop.{Stop}
use Rattle.rv_model.specs.declared.stop.Stop.TheVariants.{Illegal, Target, Break}
use Rattle.rv_model.specs.declared.inst.Inst.{Inst}
use Rattle.rv_model.specs.declared.inst.Inst.TheVariants.{Lui, Auipc, Jal, Jalr, Branch, Load, Store, OpImm, Op, Fence, Ecall, Ebreak}
use Rattle.rv_model.specs.declared.inst.BranchOp.{BranchOp}
use Rattle.rv_model.specs.declared.inst.BranchOp.TheVariants.{Beq, Bne, Blt, Bge, Bltu, Bgeu}
use Rattle.rv_model.specs.declared.inst.LoadOp.{LoadOp}
use Rattle.rv_model.specs.declared.inst.LoadOp.TheVariants.{Lb, Lh, Lw, Lbu, Lhu}
use Rattle.rv_model.specs.declared.inst.StoreOp.{StoreOp}
use Rattle.rv_model.specs.declared.inst.StoreOp.TheVariants.{Sb, Sh, Sw}
use Rattle.rv_model.specs.declared.inst.ImmOp.{ImmOp}
use Rattle.rv_model.specs.declared.inst.ImmOp.TheVariants.{Addi, Slti, Sltiu, Xori, Ori, Andi, Slli, Srli, Srai}
use Rattle.rv_model.specs.declared.inst.RegOp.{RegOp}
use Rattle.rv_model.specs.declared.inst.RegOp.TheVariants.{Add, Sll, Slt, Sltu, Xor, Srl, Or, And, Sub, Sra}
use Rattle.rv_model.specs.Words.{instruction_of}
use Rattle.rv_model.specs.Word.{wrapping_sum, wrapping_difference, is_less_signed, truth_bit, left_shift, right_shift, signed_right_shift}

-- what a memory answers: the word at a pc, the `size` bytes at an address as a number, and the
-- memory once the lowest `size` bytes of a number are stored at an address; or why it stops the
-- process instead
pub record Access (M : Type 0) : Type 0 where
  pub fetch : M → ℕ → Result ℕ Stop
  pub load : M → ℕ → ℕ → Result ℕ Stop
  pub store : M → ℕ → ℕ → ℕ → Result M Stop

-- how many bytes an access can have
abbrev pub IsAccessSize : ℕ → Type 0
IsAccessSize size = (size ≡ 1) ⊎ (size ≡ 2) ⊎ (size ≡ WORD_SIZE)

-- how an instruction ends: it is done, with these registers, this pc and this memory; it is a call
-- of the kernel, with the same; or the process stops, and nothing has changed
pub data Outcome (M : Type 0) : Type 0 where
  next_state : List ℕ → ℕ → M → Outcome M
  call_state : List ℕ → ℕ → M → Outcome M
  stop_state : Stop → Outcome M

-- what comes after an answer, where it isn't a stop
infixl 10 ◌>>=◌
abbrev pub ◌>>=◌ : {X M : Type 0} → Result X Stop → (X → Outcome M) → Outcome M
Ok x >>= f = f x
Err cause >>= f = stop_state cause

-- ---- registers: "Programmers' Model for Base Integer ISA"

-- the value of a register; x0 reads 0
abbrev pub register_value : List ℕ → ℕ → ℕ
register_value x r = if r == 0 then 0 else slice_index x r

-- the registers once `value` is written to rd; x0 ignores writes
abbrev pub with_register : List ℕ → ℕ → ℕ → List ℕ
with_register x rd value = if rd == 0 then x else slice_set x rd value

-- ---- operations: "Integer Computational Instructions", "Conditional Branches", "Load and Store
-- Instructions"

-- whether a branch is taken, from the values of rs1 and rs2
abbrev pub is_taken : BranchOp → ℕ → ℕ → Bool
is_taken Beq a b = a == b
is_taken Bne a b = not (a == b)
is_taken Blt a b = is_less_signed a b
is_taken Bge a b = not (is_less_signed a b)
is_taken Bltu a b = nat_lt a b
is_taken Bgeu a b = not (nat_lt a b)

-- the result of an operation on a register and an immediate, which stands there as a word
abbrev pub immediate_result : ImmOp → ℕ → ℕ → ℕ
immediate_result Addi a imm = wrapping_sum a imm
immediate_result Slti a imm = truth_bit (is_less_signed a imm)
immediate_result Sltiu a imm = truth_bit (nat_lt a imm)
immediate_result Xori a imm = bit_xor a imm
immediate_result Ori a imm = bit_or a imm
immediate_result Andi a imm = bit_and a imm
immediate_result Slli a imm = left_shift a imm
immediate_result Srli a imm = right_shift a imm
immediate_result Srai a imm = signed_right_shift a imm

-- the result of an operation on two registers
abbrev pub register_result : RegOp → ℕ → ℕ → ℕ
register_result Add a b = wrapping_sum a b
register_result Sll a b = left_shift a b
register_result Slt a b = truth_bit (is_less_signed a b)
register_result Sltu a b = truth_bit (nat_lt a b)
register_result Xor a b = bit_xor a b
register_result Srl a b = right_shift a b
register_result Or a b = bit_or a b
register_result And a b = bit_and a b
register_result Sub a b = wrapping_difference a b
register_result Sra a b = signed_right_shift a b

-- how many bytes a load or a store moves
abbrev pub load_size : LoadOp → ℕ
load_size Lb = 1
load_size Lh = 2
load_size Lw = WORD_SIZE
load_size Lbu = 1
load_size Lhu = 2

abbrev pub store_size : StoreOp → ℕ
store_size Sb = 1
store_size Sh = 2
store_size Sw = WORD_SIZE

-- what a load writes to rd, of the number that stood in memory: LB and LH extend its sign
abbrev pub loaded_number : LoadOp → ℕ → ℕ
loaded_number Lb n = cast_unsigned w32 (cast_signed w8 n)
loaded_number Lh n = cast_unsigned w32 (cast_signed w16 n)
loaded_number Lw n = n
loaded_number Lbu n = n
loaded_number Lhu n = n

-- ---- instructions

-- the address of the next instruction
abbrev pub next_pc : ℕ → ℕ
next_pc pc = wrapping_sum pc WORD_SIZE

-- a word and an immediate added: an offset from it
abbrev pub offset_by : ℕ → ℤ → ℕ
offset_by a imm = wrapping_sum a (cast_unsigned w32 imm)

-- a jump at `pc` to `target`, which leaves the registers x
abbrev pub jump_outcome : {M : Type 0} → ℕ → ℕ → List ℕ → M → Outcome M
jump_outcome pc target x m =
    if target % WORD_SIZE == 0 then next_state x target m else stop_state (Target pc)

-- what an instruction at `pc` does to the registers x and the memory m
unfoldable pub effect_of : {M : Type 0} → Access M → Inst → List ℕ → ℕ → M → Outcome M
effect_of A (Lui rd imm) x pc m = next_state (with_register x rd imm) (next_pc pc) m
effect_of A (Auipc rd imm) x pc m =
    next_state (with_register x rd (wrapping_sum pc imm)) (next_pc pc) m
effect_of A (Jal rd offset) x pc m =
    jump_outcome pc (offset_by pc offset) (with_register x rd (next_pc pc)) m
effect_of A (Jalr rd rs1 imm) x pc m =
    jump_outcome pc (offset_by (register_value x rs1) imm / 2 * 2)
    (with_register x rd (next_pc pc)) m
effect_of A (Branch op rs1 rs2 offset) x pc m =
    if is_taken op (register_value x rs1) (register_value x rs2)
    then jump_outcome pc (offset_by pc offset) x m else next_state x (next_pc pc) m
effect_of A (Load op rd rs1 imm) x pc m = do
  n ← A.load m (offset_by (register_value x rs1) imm) (load_size op)
  next_state (with_register x rd (loaded_number op n)) (next_pc pc) m
effect_of A (Store op rs1 rs2 imm) x pc m = do
  stored_memory ← A.store m (offset_by (register_value x rs1) imm) (store_size op)
      (register_value x rs2 % 256 ^ store_size op)
  next_state x (next_pc pc) stored_memory
effect_of A (OpImm op rd rs1 imm) x pc m =
    next_state
    (with_register x rd (immediate_result op (register_value x rs1) (cast_unsigned w32 imm)))
    (next_pc pc) m
effect_of A (Op op rd rs1 rs2) x pc m =
    next_state
    (with_register x rd (register_result op (register_value x rs1) (register_value x rs2)))
    (next_pc pc) m
effect_of A (Fence word) x pc m = next_state x (next_pc pc) m
effect_of A Ecall x pc m = call_state x (next_pc pc) m
effect_of A Ebreak x pc m = stop_state (Break pc)

-- one step: the word at `pc` is fetched, decoded, and done
unfoldable pub step_outcome : {M : Type 0} → Access M → List ℕ → ℕ → M → Outcome M
step_outcome A x pc m = do
  word ← A.fetch m pc
  inst ← ok_or (instruction_of word) (Illegal pc word)
  effect_of A inst x pc m
