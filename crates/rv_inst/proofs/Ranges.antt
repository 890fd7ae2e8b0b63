-- What a word is decoded to is valid.
use Rattle.std.proofs.Common.{◌≡◌, ℕ, ◌^◌, ◌<◌, true, ◌&&◌, pos, Some, None, ◌==◌, refl, arith}
use Rattle.std.specs.Prelude.{IfSome}
use Rattle.std.proofs.lemmas.Int.{ints}
use Rattle.std.proofs.lemmas.Bool.Decides.{nat_tests}
use Rattle.rv_model.specs.declared.inst.Inst.{Inst}
use Rattle.rv_model.specs.declared.inst.Inst.TheVariants.{Fence}
use Rattle.rv_model.specs.Words.{opcode_of, funct3_of, rd_of, rs1_of, rs2_of, i_immediate, s_immediate, b_immediate, u_immediate, j_immediate, table, instruction_of}
use Rattle.rv_inst.specs.Valid.{IsUpper, IsTwelveBits, IsShiftAmount, IsBranchOffset, IsJumpOffset, IsValid}
use Rattle.rv_inst.proofs.Rows.{rule}

rd_fits : (w : ℕ) → rd_of w < 32
rd_fits w = omega arith

rs1_fits : (w : ℕ) → rs1_of w < 32
rs1_fits w = omega arith

rs2_fits : (w : ℕ) → rs2_of w < 32
rs2_fits w = omega arith

u_fits : (w : ℕ) → IsUpper (u_immediate w)
u_fits w = (omega arith, omega arith)

i_fits : (w : ℕ) → IsTwelveBits (i_immediate w)
i_fits w = grind (arith, ints)

s_fits : (w : ℕ) → IsTwelveBits (s_immediate w)
s_fits w = grind (arith, ints)

b_fits : (w : ℕ) → IsBranchOffset (b_immediate w)
b_fits w = grind (arith, ints)

j_fits : (w : ℕ) → IsJumpOffset (j_immediate w)
j_fits w = grind (arith, ints)

shift_fits : (w : ℕ) → IsShiftAmount (pos (rs2_of w))
shift_fits w = grind (arith, ints)

fence_fits : (w : ℕ) → w < 2 ^ 32 → opcode_of w == 15 && (funct3_of w == 0 && true) ≡ true → IsValid (Fence w)
fence_fits w h m = grind (arith, nat_tests)

valid : (w : ℕ) → w < 2 ^ 32 → (i : Inst) → instruction_of w ≡ Some i → IsValid i
unfolding instruction_of table
valid w h = rule IsValid w table (search (rd_fits, rs1_fits, rs2_fits, u_fits, i_fits, s_fits, b_fits, j_fits, shift_fits, fence_fits) depth 60)

pub instruction_of_valid : (w : ℕ) → w < 2 ^ 32 → IfSome (instruction_of w) IsValid
instruction_of_valid w h = elim (instruction_of w) as (λ d. instruction_of w ≡ d → IfSome d IsValid) [ None ↦ λ e. tt | Some i ↦ λ e. valid w h i e ] refl
