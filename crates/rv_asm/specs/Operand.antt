-- Operands of statements.
use Rattle.std.specs.Prelude.{◌≡◌, ℕ, ◌-◌, ◌^◌, ◌%◌, Bool, false, not, ◌&&◌, ◌==◌, if◌then◌else◌, List, [], ◌∷◌, Option, Some, None, Result, Ok, Err, length, ℤ, pos, negsuc, int_le, ok_or}
use Rattle.rv_model.specs.declared.limits.TheConstants.{GREATEST_IMMEDIATE, GREATEST_SHIFT, LEAST_IMMEDIATE}
use Rattle.rv_model.specs.declared.inst.ImmOp.{ImmOp}
use Rattle.rv_model.specs.declared.inst.ImmOp.TheVariants.{Slli, Srli, Srai}
use Rattle.rv_asm.specs.declared.fault.AsmKind.{AsmKind}
use Rattle.rv_asm.specs.declared.fault.AsmKind.TheVariants.{Operands, BadRegister, BadNumber, UnknownName}
use Rattle.rv_asm.specs.declared.symbols.Symbol.{Symbol}
use Rattle.rv_asm.specs.declared.symbols.Symbol.TheVariants.{Label, Number}
use Rattle.ce_text.specs.Line.{cut_parts, without_outer_blanks}
use Rattle.rv_asm.specs.Line.{pieces, is_token, is_opening, is_closing}
use Rattle.rv_asm.specs.Name.{is_name}
use Rattle.rv_asm.specs.Register.{named_register}
use Rattle.rv_asm.specs.Literal.{literal_of}
use Rattle.rv_asm.specs.Names.{Names}
use Rattle.rv_asm.specs.Faults.{◌>>=◌, refusal, pair_judgment}

-- a judgment that stands for another one: the same fault, or its value seen by `view`
abbrev pub IsViewOf : {A B : Type 0} → (A → B) → Result A AsmKind → Result B AsmKind → Type 0
IsViewOf view (Ok x) judgment = judgment ≡ Ok (view x)
IsViewOf view (Err kind) judgment = judgment ≡ Err kind

-- ---- how many operands

abbrev pub no_piece : List ℕ → Result (Unit {0}) AsmKind
no_piece [] = Ok tt
no_piece (byte ∷ bytes) = Err Operands

abbrev pub single_text : List (List ℕ) → Result (List ℕ) AsmKind
single_text [] = Err Operands
single_text (first ∷ []) = Ok first
single_text (first ∷ second ∷ others) = Err Operands

abbrev pub text_pair : List (List ℕ) → Result (List ℕ × List ℕ) AsmKind
text_pair [] = Err Operands
text_pair (first ∷ others) = single_text others >>= λ second. Ok (first, second)

abbrev pub text_triple : List (List ℕ) → Result (List ℕ × List ℕ × List ℕ) AsmKind
text_triple [] = Err Operands
text_triple (first ∷ others) = text_pair others >>= λ last. Ok (first, last.0, last.1)

unfoldable pub one_piece : List ℕ → Result (List ℕ) AsmKind
one_piece operands = single_text (pieces operands)

unfoldable pub two_pieces : List ℕ → Result (List ℕ × List ℕ) AsmKind
two_pieces operands = text_pair (pieces operands)

unfoldable pub three_pieces : List ℕ → Result (List ℕ × List ℕ × List ℕ) AsmKind
three_pieces operands = text_triple (pieces operands)

-- ---- one operand

unfoldable pub register : List ℕ → Result ℕ AsmKind
register piece = do
  whole ← refusal (not (is_token piece)) Operands
  ok_or (named_register piece) BadRegister

-- what a name means where a number is wanted: the number that an earlier `.equ` gave
abbrev pub number_judgment : Option Symbol → Result ℤ AsmKind
number_judgment (Some (Number n)) = Ok n
number_judgment (Some (Label address)) = Err UnknownName
number_judgment None = Err UnknownName

unfoldable pub number : Names → List ℕ → Result ℤ AsmKind
number names piece = do
  whole ← refusal (not (is_token piece)) Operands
  if is_name piece then number_judgment (names piece) else ok_or (literal_of piece) BadNumber

-- a number that is judged to lie in a range
unfoldable pub number_in_range : ℤ → ℤ → Result ℤ AsmKind → Result ℤ AsmKind
number_in_range low high judgment =
    judgment >>= λ n. if int_le low n && int_le n high then Ok n else Err BadNumber

-- an operand that is a name
unfoldable pub name_piece : List ℕ → Result (Unit {0}) AsmKind
name_piece piece = refusal (not (is_name piece)) Operands

-- a number of twelve bits
unfoldable pub twelve_bits : Names → List ℕ → Result ℤ AsmKind
twelve_bits names piece = number_in_range LEAST_IMMEDIATE GREATEST_IMMEDIATE (number names piece)

-- behind `n(`: the register, and nothing behind its bracket
abbrev pub is_closed : Option (List ℕ) → Bool
is_closed None = false
is_closed (Some rest) = length (without_outer_blanks rest) == 0

-- `n(rs1)`, as its number and its register
abbrev pub bracket_operand : Names → List ℕ → Option (List ℕ) → Result (ℤ × ℕ) AsmKind
bracket_operand names front None = Err Operands
bracket_operand names front (Some rest) = do
  whole ← refusal (not (is_closed (cut_parts is_closing rest).1)) Operands
  pair_judgment (twelve_bits names (without_outer_blanks front))
      (register (without_outer_blanks (cut_parts is_closing rest).0))

unfoldable pub memory : Names → List ℕ → Result (ℤ × ℕ) AsmKind
memory names piece =
    bracket_operand names (cut_parts is_opening piece).0 (cut_parts is_opening piece).1

-- ---- numbers as bits

-- a number modulo 2^32
abbrev pub wrapped_word : ℤ → ℕ
wrapped_word (pos n) = n % 2 ^ 32
wrapped_word (negsuc n) = 2 ^ 32 - 1 - n % 2 ^ 32

-- a number modulo 2^8
abbrev pub byte_of : ℤ → ℕ
byte_of (pos n) = n % 2 ^ 8
byte_of (negsuc n) = 2 ^ 8 - 1 - n % 2 ^ 8

-- what the number of an operation on a register and a number may be
abbrev pub least_immediate : ImmOp → ℤ
least_immediate Slli = pos 0
least_immediate Srli = pos 0
least_immediate Srai = pos 0
least_immediate op = LEAST_IMMEDIATE

abbrev pub greatest_immediate : ImmOp → ℤ
greatest_immediate Slli = GREATEST_SHIFT
greatest_immediate Srli = GREATEST_SHIFT
greatest_immediate Srai = GREATEST_SHIFT
greatest_immediate op = GREATEST_IMMEDIATE
