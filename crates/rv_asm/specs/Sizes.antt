-- How much room statements take.
use Rattle.std.specs.Prelude.{ℕ, Bool, true, false, List, sum_by, ◌*◌}
use Rattle.rv_model.specs.declared.limits.TheConstants.{WORD_SIZE}
use Rattle.rv_asm.specs.declared.statement.PlacedStatement.{PlacedStatement}
use Rattle.rv_asm.specs.declared.statement.Statement.{Statement}
use Rattle.rv_asm.specs.declared.statement.Statement.TheVariants.{Inst, Jal, Branch, La, Word, Address, Byte, Zero}

-- how many bytes a statement takes
abbrev pub size_of : Statement → ℕ
size_of (Inst inst) = WORD_SIZE
size_of (Jal rd label) = WORD_SIZE
size_of (Branch op rs1 rs2 label) = WORD_SIZE
size_of (La rd label) = 2 * WORD_SIZE
size_of (Word word) = WORD_SIZE
size_of (Address label) = WORD_SIZE
size_of (Byte byte) = 1
size_of (Zero count) = count

-- a statement that lays words, which stand at multiples of 4
abbrev pub lays_words : Statement → Bool
lays_words (Byte byte) = false
lays_words (Zero count) = false
lays_words statement = true

-- how many bytes statements take together
abbrev pub statements_size : List PlacedStatement → ℕ
statements_size placed_statements = sum_by (λ it. size_of it.statement) placed_statements
