-- The first pass: each line is judged, and its statements get their places.
use Rattle.std.specs.Prelude.{◌≡◌, ℕ, ◌+◌, ◌%◌, not, ◌&&◌, ◌==◌, nat_lt, if◌then◌else◌, List, [], ◌∷◌, ◌++◌, Option, Some, None, Result, Ok, Err, bytes_eq, codes, ok_or}
use Rattle.std.specs.List.{list_all, list_any}
use Rattle.rv_model.specs.declared.limits.TheConstants.{PRIVATE_START, IMAGE_ROOM, WORD_SIZE}
use Rattle.rv_asm.specs.declared.fault.AsmKind.{AsmKind}
use Rattle.rv_asm.specs.declared.fault.AsmKind.TheVariants.{BadByte, NameTaken, UnknownWord, Unaligned, TooLarge}
use Rattle.rv_asm.specs.declared.fault.AsmFault.{AsmFault}
use Rattle.rv_asm.specs.declared.symbols.Symbol.{Symbol}
use Rattle.rv_asm.specs.declared.symbols.Symbol.TheVariants.{Label, Number}
use Rattle.rv_asm.specs.declared.statement.Statement.{Statement}
use Rattle.rv_asm.specs.declared.statement.PlacedStatement.{PlacedStatement}
use Rattle.ce_text.specs.Bytes.{is_plain, is_blank}
use Rattle.ce_text.specs.Line.{line_texts, cut_parts, without_outer_blanks, before_comment}
use Rattle.rv_asm.specs.Line.{is_colon, is_comma}
use Rattle.rv_asm.specs.Name.{is_name}
use Rattle.rv_asm.specs.Names.{Names, no_names, with_name, is_taken}
use Rattle.rv_asm.specs.Words.{mnemonic_of}
use Rattle.rv_asm.specs.declared.fault.Halt.{Halt}
use Rattle.rv_asm.specs.Faults.{◌>>=◌, refusal, pair_judgment, IsHaltOf}
use Rattle.rv_asm.specs.Operand.{two_pieces, number, name_piece}
use Rattle.rv_asm.specs.Sizes.{size_of, lays_words}
use Rattle.rv_asm.specs.Statements.{statements_of}

-- what is laid out so far: what the names mean, the statements with their lines, and how many bytes
-- they take
pub record LayoutSoFar : Type 0 where
  pub names : Names
  pub statements : List PlacedStatement
  pub size : ℕ

abbrev pub layout_of : Names → List PlacedStatement → ℕ → LayoutSoFar
layout_of names statements size = record { names = names; statements = statements; size = size }

abbrev pub empty_layout : LayoutSoFar
empty_layout = layout_of no_names [] 0

-- what is known of a call that lays something: what is laid out then is what the definition says,
-- unless memory ran out
abbrev pub HasLaid : Result (Unit {0}) Halt → LayoutSoFar → Result LayoutSoFar AsmKind → Type 0
HasLaid (Ok unit) layout judgment = judgment ≡ Ok layout
HasLaid (Err halt) layout judgment = IsHaltOf halt judgment

-- ---- places

-- one more statement, of this line
unfoldable pub layout_with_statement : ℕ → LayoutSoFar → Statement → Result LayoutSoFar AsmKind
layout_with_statement line_number layout statement = do
  aligned ← refusal (lays_words statement && not (layout.size % WORD_SIZE == 0)) Unaligned
  fits ← refusal (nat_lt IMAGE_ROOM (layout.size + size_of statement)) TooLarge
  Ok (layout_of layout.names
      (layout.statements ++ record { line = line_number; statement = statement } ∷ [])
      (layout.size + size_of statement))

unfoldable pub layout_with_all : ℕ → LayoutSoFar → List Statement → Result LayoutSoFar AsmKind
layout_with_all line_number layout [] = Ok layout
layout_with_all line_number layout (statement ∷ statements) = do
  next_layout ← layout_with_statement line_number layout statement
  layout_with_all line_number next_layout statements

-- ---- a line

-- a name that means something from here on
unfoldable pub layout_with_name : LayoutSoFar → List ℕ → Symbol → Result LayoutSoFar AsmKind
layout_with_name layout name symbol = do
  free ← refusal (is_taken layout.names name) NameTaken
  Ok (layout_of (with_name layout.names name symbol) layout.statements layout.size)

-- `.equ name, n`
unfoldable pub layout_with_number : LayoutSoFar → List ℕ → Result LayoutSoFar AsmKind
layout_with_number layout operands = do
  free ← refusal
      (is_taken layout.names (without_outer_blanks (cut_parts is_comma operands).0)) NameTaken
  parts ← two_pieces operands
  values ← pair_judgment (name_piece parts.0) (number layout.names parts.1)
  layout_with_name layout parts.0 (Number values.1)

-- a statement whose mnemonic or directive is another than `.equ`
unfoldable pub layout_with_statements : ℕ → LayoutSoFar → List ℕ → List ℕ
    → Result LayoutSoFar AsmKind
layout_with_statements line_number layout front operands = do
  mnemonic ← ok_or (mnemonic_of front) UnknownWord
  statements ← statements_of mnemonic layout.names operands
  layout_with_all line_number layout statements

-- what stands behind a mnemonic, without blanks at its ends
abbrev pub operands_of : Option (List ℕ) → List ℕ
operands_of None = []
operands_of (Some rest) = without_outer_blanks rest

-- what a line has behind its label: nothing, or a mnemonic and its operands
unfoldable pub layout_with_statement_text : ℕ → LayoutSoFar → List ℕ → Result LayoutSoFar AsmKind
layout_with_statement_text line_number layout [] = Ok layout
layout_with_statement_text line_number layout (byte ∷ bytes) = do
  one_colon ← refusal (list_any is_colon (byte ∷ bytes)) UnknownWord
  let parts = cut_parts is_blank (byte ∷ bytes)
  if bytes_eq parts.0 (codes ".equ") then layout_with_number layout (operands_of parts.1)
      else layout_with_statements line_number layout parts.0 (operands_of parts.1)

-- a label, and the statement behind it; or a statement alone
abbrev pub layout_with_labelled_statement : ℕ → LayoutSoFar → List ℕ → Option (List ℕ)
    → Result LayoutSoFar AsmKind
layout_with_labelled_statement line_number layout front None =
    layout_with_statement_text line_number layout (without_outer_blanks front)
layout_with_labelled_statement line_number layout front (Some rest) = do
  named ← refusal (not (is_name (without_outer_blanks front))) UnknownWord
  labelled_layout ← layout_with_name layout (without_outer_blanks front)
      (Label (PRIVATE_START + layout.size))
  layout_with_statement_text line_number labelled_layout (without_outer_blanks rest)

-- one line
unfoldable pub layout_with_line : ℕ → LayoutSoFar → List ℕ → Result LayoutSoFar AsmKind
layout_with_line line_number layout line = do
  plain ← refusal (not (list_all is_plain (before_comment line))) BadByte
  layout_with_labelled_statement line_number layout (cut_parts is_colon (before_comment line)).0
      (cut_parts is_colon (before_comment line)).1

-- ---- all lines

-- a fault of a line
abbrev pub judgment_at_line : {A : Type 0} → ℕ → Result A AsmKind → Result A AsmFault
judgment_at_line line_number (Ok x) = Ok x
judgment_at_line line_number (Err kind) = Err (record { line = line_number; kind = kind })

-- lines, behind so many others
unfoldable pub layout_with_lines : ℕ → LayoutSoFar → List (List ℕ) → Result LayoutSoFar AsmFault
layout_with_lines line_count layout [] = Ok layout
layout_with_lines line_count layout (line ∷ line_texts) = do
  next_layout ← judgment_at_line (line_count + 1) (layout_with_line (line_count + 1) layout line)
  layout_with_lines (line_count + 1) next_layout line_texts

-- the first pass over a text
unfoldable pub first_pass : List ℕ → Result LayoutSoFar AsmFault
first_pass text = layout_with_lines 0 empty_layout (line_texts text)
