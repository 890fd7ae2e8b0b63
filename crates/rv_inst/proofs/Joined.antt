-- A word is joined from the operands of its instruction, so no two words are one instruction.
use Rattle.std.proofs.Common.{◌≡◌, ℕ, ◌+◌, ◌*◌, ◌%◌, ◌^◌, ◌<◌, true, ◌&&◌, Some, ◌==◌, arith}
use Rattle.std.specs.Int.{w32, cast_unsigned}
use Rattle.std.proofs.lemmas.Int.{ints}
use Rattle.std.proofs.lemmas.Bool.Decides.{nat_tests}
use Rattle.rv_model.specs.declared.inst.Inst.{Inst}
use Rattle.rv_model.specs.Words.{bits_of, opcode_of, funct3_of, funct7_of, rd_of, rs1_of, rs2_of, sign_extension, i_immediate, s_immediate, b_immediate, u_immediate, j_immediate, table, instruction_of}
use Rattle.rv_inst.specs.Encoding.{r_word, i_word, s_word, b_word, u_word, j_word, word_of}
use Rattle.rv_inst.proofs.Rows.{rule}

i_back : (n : ℕ) → n < 4096 → cast_unsigned w32 (sign_extension 12 n) % 4096 ≡ n
i_back n h = grind (arith, ints)

b_back : (n : ℕ) → n < 2 ^ 13 → cast_unsigned w32 (sign_extension 13 n) % 2 ^ 13 ≡ n
b_back n h = grind (arith, ints)

j_back : (n : ℕ) → n < 2 ^ 21 → cast_unsigned w32 (sign_extension 21 n) % 2 ^ 21 ≡ n
j_back n h = grind (arith, ints)

u_row : (w k : ℕ) → w < 2 ^ 32 → opcode_of w == k && true ≡ true → u_word k (rd_of w) (u_immediate w) ≡ w
u_row w k h m = grind (arith, nat_tests)

j_row : (w k : ℕ) → w < 2 ^ 32 → opcode_of w == k && true ≡ true → j_word k (rd_of w) (j_immediate w) ≡ w
j_row w k h m = grind (arith, nat_tests, j_back (bits_of 31 1 w * 2 ^ 20 + bits_of 12 8 w * 2 ^ 12 + bits_of 20 1 w * 2 ^ 11 + bits_of 21 10 w * 2) (omega arith))

i_row : (w k f : ℕ) → w < 2 ^ 32 → opcode_of w == k && (funct3_of w == f && true) ≡ true → i_word k f (rd_of w) (rs1_of w) (i_immediate w) ≡ w
i_row w k f h m = grind (arith, nat_tests, i_back (bits_of 20 12 w) (omega arith))

s_row : (w k f : ℕ) → w < 2 ^ 32 → opcode_of w == k && (funct3_of w == f && true) ≡ true → s_word k f (rs1_of w) (rs2_of w) (s_immediate w) ≡ w
s_row w k f h m = grind (arith, nat_tests, i_back (bits_of 25 7 w * 2 ^ 5 + bits_of 7 5 w) (omega arith))

b_row : (w k f : ℕ) → w < 2 ^ 32 → opcode_of w == k && (funct3_of w == f && true) ≡ true → b_word k f (rs1_of w) (rs2_of w) (b_immediate w) ≡ w
b_row w k f h m = grind (arith, nat_tests, b_back (bits_of 31 1 w * 2 ^ 12 + bits_of 7 1 w * 2 ^ 11 + bits_of 25 6 w * 2 ^ 5 + bits_of 8 4 w * 2) (omega arith))

r_row : (w k f g : ℕ) → w < 2 ^ 32 → opcode_of w == k && (funct3_of w == f && (funct7_of w == g && true)) ≡ true → r_word k f g (rd_of w) (rs1_of w) (rs2_of w) ≡ w
r_row w k f g h m = grind (arith, nat_tests)

whole_row : (w k r n : ℕ) → w < 2 ^ 32 → opcode_of w == k && (bits_of 7 25 w == r && true) ≡ true → r * 2 ^ 7 + k ≡ n → n ≡ w
whole_row w k r n h m e = grind (arith, nat_tests)

pub back : (w : ℕ) → w < 2 ^ 32 → (i : Inst) → instruction_of w ≡ Some i → word_of i ≡ w
unfolding instruction_of table word_of
back w h = rule (λ i. word_of i ≡ w) w table (search (u_row, j_row, i_row, s_row, b_row, r_row, whole_row) depth 60)

-- two words of the same instruction are one
pub one_word : (v w : ℕ) (i : Inst) → v < 2 ^ 32 → w < 2 ^ 32 → instruction_of v ≡ Some i → instruction_of w ≡ Some i → v ≡ w
one_word v w i f g d e = let a = back v f i d in let b = back w g i e in cc

-- `one_word`, with the word that is known first
pub only : (inst : Inst) (word other : ℕ) → word < 2 ^ 32 → other < 2 ^ 32 → instruction_of word ≡ Some inst → instruction_of other ≡ Some inst → other ≡ word
only inst word other h g d e = one_word other word inst g h e d
