-- What each statement means.
use Rattle.std.specs.Prelude.{ℕ, ◌+◌, ◌*◌, ◌/◌, ◌-◌, ◌^◌, ◌%◌, Bool, not, ◌||◌, nat_lt, nat_le, if◌then◌else◌, List, [], ◌∷◌, map, Option, Some, None, Result, Ok, Err, ℤ, pos, unsigned_abs, ok_or}
use Rattle.rv_model.specs.declared.limits.TheConstants.{GREATEST_UPPER, LEAST_IMMEDIATE, IMAGE_ROOM, UPPER_UNIT}
use Rattle.rv_model.specs.declared.inst.Inst.{Inst}
use Rattle.rv_model.specs.declared.inst.Inst.TheVariants as insts
use Rattle.rv_model.specs.declared.inst.ImmOp.{ImmOp}
use Rattle.rv_model.specs.declared.inst.ImmOp.TheVariants.{Addi}
use Rattle.rv_model.specs.Words.{sign_extension}
use Rattle.rv_asm.specs.declared.fault.AsmKind.{AsmKind}
use Rattle.rv_asm.specs.declared.fault.AsmKind.TheVariants.{Operands, BadNumber}
use Rattle.rv_asm.specs.declared.symbols.Symbol.{Symbol}
use Rattle.rv_asm.specs.declared.symbols.Symbol.TheVariants.{Label, Number}
use Rattle.rv_asm.specs.declared.mnemonic.Mnemonic.{Mnemonic}
use Rattle.rv_asm.specs.declared.mnemonic.Mnemonic.TheVariants as mnemonics
use Rattle.rv_asm.specs.declared.statement.TheConstants.{GREATEST_BYTE, LEAST_BYTE}
use Rattle.rv_asm.specs.declared.statement.Statement.{Statement}
use Rattle.rv_asm.specs.declared.statement.Statement.TheVariants as statements
use Rattle.rv_asm.specs.Line.{pieces, is_token}
use Rattle.rv_asm.specs.Name.{is_name}
use Rattle.rv_asm.specs.Literal.{literal_of}
use Rattle.rv_asm.specs.Names.{Names}
use Rattle.rv_asm.specs.Faults.{◌>>=◌, refusal, pair_judgment, judgment_of_list}
use Rattle.rv_asm.specs.Operand.{no_piece, one_piece, two_pieces, three_pieces, register, number, number_in_range, name_piece, memory, wrapped_word, byte_of, least_immediate, greatest_immediate}

-- ---- `li` and `la`

-- how many numbers below 0 the I format holds, and as many from 0 on
abbrev immediate_reach : ℕ
immediate_reach = unsigned_abs LEAST_IMMEDIATE

-- the low 12 bits of a word, sign-extended
abbrev pub low_part : ℕ → ℤ
low_part word = sign_extension 12 (word % UPPER_UNIT)

-- what is left of a word without its low part, modulo 2^32: a multiple of `UPPER_UNIT`
abbrev pub high_part : ℕ → ℕ
high_part word = (word + immediate_reach) / UPPER_UNIT % 2 ^ 20 * UPPER_UNIT

-- `lui rd, high` and `addi rd, rd, low`
abbrev pub two_instructions : ℕ → ℕ → List Inst
two_instructions rd word =
    insts.Lui rd (high_part word) ∷ insts.OpImm Addi rd rd (low_part word) ∷ []

-- the I format can hold the word, as a signed number
abbrev pub is_short : ℕ → Bool
is_short word = nat_lt word immediate_reach || nat_le (2 ^ 32 - immediate_reach) word

-- the instructions that put a word into a register
abbrev pub load_word : ℕ → ℕ → List Inst
load_word rd word =
    if is_short word then insts.OpImm Addi rd 0 (low_part word) ∷ [] else two_instructions rd word

-- ---- operands in the forms of the statements

-- `rd, n` with n from 0 to `GREATEST_UPPER`, which is bits 31..12
unfoldable pub register_upper : Names → List ℕ → Result (ℕ × ℕ) AsmKind
register_upper names operands = do
  parts ← two_pieces operands
  values ← pair_judgment (register parts.0)
      (number_in_range (pos 0) GREATEST_UPPER (number names parts.1))
  Ok (values.0, unsigned_abs values.1 * UPPER_UNIT)

-- `rd, n(rs1)`, as rd, n and rs1
unfoldable pub register_memory : Names → List ℕ → Result (ℕ × ℤ × ℕ) AsmKind
register_memory names operands = do
  parts ← two_pieces operands
  values ← pair_judgment (register parts.0) (memory names parts.1)
  Ok (values.0, values.1.0, values.1.1)

-- the number of an operation on a register and a number
unfoldable pub immediate : Names → ImmOp → List ℕ → Result ℤ AsmKind
immediate names op piece =
    number_in_range (least_immediate op) (greatest_immediate op) (number names piece)

-- `rd, rs1, n`
unfoldable pub registers_immediate : Names → ImmOp → List ℕ → Result (ℕ × ℕ × ℤ) AsmKind
registers_immediate names op operands = do
  parts ← three_pieces operands
  values ← pair_judgment (pair_judgment (register parts.0) (register parts.1))
      (immediate names op parts.2)
  Ok (values.0.0, values.0.1, values.1)

-- `rd, rs1, rs2`
unfoldable pub three_registers : List ℕ → Result (ℕ × ℕ × ℕ) AsmKind
three_registers operands = do
  parts ← three_pieces operands
  values ← pair_judgment (pair_judgment (register parts.0) (register parts.1)) (register parts.2)
  Ok (values.0.0, values.0.1, values.1)

-- `rd, rs`
unfoldable pub two_registers : List ℕ → Result (ℕ × ℕ) AsmKind
two_registers operands = do
  parts ← two_pieces operands
  pair_judgment (register parts.0) (register parts.1)

-- `rd, n`, with n modulo 2^32
unfoldable pub register_word : Names → List ℕ → Result (ℕ × ℕ) AsmKind
register_word names operands = do
  parts ← two_pieces operands
  values ← pair_judgment (register parts.0) (number names parts.1)
  Ok (values.0, wrapped_word values.1)

-- `rd, label`
unfoldable pub register_label : List ℕ → Result (ℕ × List ℕ) AsmKind
register_label operands = do
  parts ← two_pieces operands
  values ← pair_judgment (register parts.0) (name_piece parts.1)
  Ok (values.0, parts.1)

-- `rs1, rs2, label`
unfoldable pub registers_label : List ℕ → Result (ℕ × ℕ × List ℕ) AsmKind
registers_label operands = do
  parts ← three_pieces operands
  values ← pair_judgment (pair_judgment (register parts.0) (register parts.1)) (name_piece parts.2)
  Ok (values.0.0, values.0.1, parts.2)

-- `label`
unfoldable pub one_label : List ℕ → Result (List ℕ) AsmKind
one_label operands = do
  part ← one_piece operands
  named ← name_piece part
  Ok part

-- an operand of `.word`: a number, or a name that is none so far, which is a label
abbrev pub word_statement : List ℕ → Option Symbol → Statement
word_statement name (Some (Number n)) = statements.Word (wrapped_word n)
word_statement name (Some (Label address)) = statements.Address name
word_statement name None = statements.Address name

unfoldable pub word_value : Names → List ℕ → Result Statement AsmKind
word_value names piece = do
  whole ← refusal (not (is_token piece)) Operands
  if is_name piece then Ok (word_statement piece (names piece))
      else (ok_or (literal_of piece) BadNumber >>= λ n. Ok (statements.Word (wrapped_word n)))

-- an operand of `.byte`
unfoldable pub byte_value : Names → List ℕ → Result Statement AsmKind
byte_value names piece = do
  n ← number_in_range LEAST_BYTE GREATEST_BYTE (number names piece)
  Ok (statements.Byte (byte_of n))

-- `n` of `.zero`, from 0 to the most bytes that an image may take up
unfoldable pub zero_count : Names → List ℕ → Result ℕ AsmKind
zero_count names operands = do
  part ← one_piece operands
  n ← number_in_range (pos 0) (pos IMAGE_ROOM) (number names part)
  Ok (unsigned_abs n)

-- ---- the table

-- the judgment of one statement, as that of the list of it
abbrev pub list_of_one : Result Statement AsmKind → Result (List Statement) AsmKind
list_of_one (Ok statement) = Ok (statement ∷ [])
list_of_one (Err kind) = Err kind

-- What a mnemonic and its operands lay, one after the other.
unfoldable pub statements_of : Mnemonic → Names → List ℕ → Result (List Statement) AsmKind
statements_of (mnemonics.Plain inst) names operands = do
  nothing ← no_piece operands
  Ok (statements.Inst inst ∷ [])
statements_of mnemonics.Lui names operands = do
  values ← register_upper names operands
  Ok (statements.Inst (insts.Lui values.0 values.1) ∷ [])
statements_of mnemonics.Auipc names operands = do
  values ← register_upper names operands
  Ok (statements.Inst (insts.Auipc values.0 values.1) ∷ [])
statements_of mnemonics.Jalr names operands = do
  values ← register_memory names operands
  Ok (statements.Inst (insts.Jalr values.0 values.2 values.1) ∷ [])
statements_of (mnemonics.Load op) names operands = do
  values ← register_memory names operands
  Ok (statements.Inst (insts.Load op values.0 values.2 values.1) ∷ [])
statements_of (mnemonics.Store op) names operands = do
  values ← register_memory names operands
  Ok (statements.Inst (insts.Store op values.2 values.0 values.1) ∷ [])
statements_of (mnemonics.OpImm op) names operands = do
  values ← registers_immediate names op operands
  Ok (statements.Inst (insts.OpImm op values.0 values.1 values.2) ∷ [])
statements_of (mnemonics.Op op) names operands = do
  values ← three_registers operands
  Ok (statements.Inst (insts.Op op values.0 values.1 values.2) ∷ [])
statements_of mnemonics.Mv names operands = do
  values ← two_registers operands
  Ok (statements.Inst (insts.OpImm Addi values.0 values.1 (pos 0)) ∷ [])
statements_of mnemonics.Li names operands = do
  values ← register_word names operands
  Ok (map (λ inst. statements.Inst inst) (load_word values.0 values.1))
statements_of mnemonics.Jal names operands = do
  values ← register_label operands
  Ok (statements.Jal values.0 values.1 ∷ [])
statements_of (mnemonics.Jump rd) names operands = do
  label ← one_label operands
  Ok (statements.Jal rd label ∷ [])
statements_of (mnemonics.Branch op) names operands = do
  values ← registers_label operands
  Ok (statements.Branch op values.0 values.1 values.2 ∷ [])
statements_of mnemonics.La names operands = do
  values ← register_label operands
  Ok (statements.La values.0 values.1 ∷ [])
statements_of mnemonics.Word names operands =
    judgment_of_list (map (word_value names) (pieces operands))
statements_of mnemonics.Byte names operands =
    judgment_of_list (map (byte_value names) (pieces operands))
statements_of mnemonics.Zero names operands = do
  count ← zero_count names operands
  Ok (statements.Zero count ∷ [])
