-- The fault of a line: each kind is a test of its own on the line and on what stands before it, and
-- the first kind that the line has is answered.
use Rattle.std.specs.Prelude.{ℕ, ◌+◌, ◌%◌, Bool, false, true, not, ◌&&◌, ◌||◌, ◌==◌, nat_lt, if◌then◌else◌, List, [], ◌∷◌, sum_by, Option, Some, None, is_none, Result, Ok, Err, bytes_eq, codes}
use Rattle.std.specs.List.{list_all, list_any}
use Rattle.std.specs.Option.{option_or}
use Rattle.rv_model.specs.declared.limits.TheConstants.{PRIVATE_START, IMAGE_ROOM, WORD_SIZE}
use Rattle.rv_asm.specs.declared.fault.AsmKind.{AsmKind}
use Rattle.rv_asm.specs.declared.fault.AsmKind.TheVariants.{BadByte, NameTaken, UnknownWord, Unaligned, TooLarge}
use Rattle.rv_asm.specs.declared.symbols.Symbol.TheVariants.{Label}
use Rattle.rv_asm.specs.declared.mnemonic.Mnemonic.{Mnemonic}
use Rattle.rv_asm.specs.declared.mnemonic.Mnemonic.TheVariants as mnemonics
use Rattle.rv_asm.specs.declared.statement.Statement.{Statement}
use Rattle.ce_text.specs.Bytes.{is_plain, is_blank}
use Rattle.ce_text.specs.Line.{cut_parts, without_outer_blanks, before_comment}
use Rattle.rv_asm.specs.Line.{is_colon, is_comma}
use Rattle.rv_asm.specs.Name.{is_name}
use Rattle.rv_asm.specs.Names.{Names, with_name, is_taken}
use Rattle.rv_asm.specs.Words.{mnemonic_of}
use Rattle.rv_asm.specs.Sizes.{size_of}
use Rattle.rv_asm.specs.Statements.{statements_of}
use Rattle.rv_asm_laws.specs.Forms.{a_name, any_number, operand_texts, operands_fault, statement_fault}
use Rattle.rv_asm.specs.FirstPass.{LayoutSoFar, operands_of}
use Rattle.rv_asm_laws.specs.Before.{label_of}

-- ---- the parts of a line

abbrev pub statement_part : List ℕ × Option (List ℕ) → List ℕ
statement_part (front, None) = without_outer_blanks front
statement_part (front, Some rest) = without_outer_blanks rest

-- what a line has behind its label
abbrev pub statement_text : List ℕ → List ℕ
statement_text line = statement_part (cut_parts is_colon (before_comment line))

-- the word of a statement
abbrev pub statement_word : List ℕ → List ℕ
statement_word statement = (cut_parts is_blank statement).0

-- what stands behind the word
abbrev pub statement_operands : List ℕ → List ℕ
statement_operands statement = operands_of (cut_parts is_blank statement).1

abbrev pub is_equ : List ℕ → Bool
is_equ statement = bytes_eq (statement_word statement) (codes ".equ")

-- what names mean once a line's label is defined
abbrev pub names_with_label : LayoutSoFar → Option (List ℕ) → Names
names_with_label layout None = layout.names
names_with_label layout (Some label) =
    with_name layout.names label (Label (PRIVATE_START + layout.size))

-- what a statement other than `.equ` lays
abbrev pub statements_or_none : Result (List Statement) AsmKind → List Statement
statements_or_none (Ok statements) = statements
statements_or_none (Err kind) = []

-- `.byte` and `.zero` lay bytes, and the others words
abbrev pub is_of_words : Mnemonic → Bool
is_of_words mnemonics.Byte = false
is_of_words mnemonics.Zero = false
is_of_words mnemonic = true

-- ---- a statement

-- `.equ` gives a name that means something already
abbrev pub takes_name : Names → List ℕ → Bool
takes_name names statement = is_equ statement
    && is_taken names (without_outer_blanks (cut_parts is_comma (statement_operands statement)).0)

-- a second colon, or a word that begins nothing
abbrev pub is_strange : List ℕ → Bool
is_strange [] = false
is_strange (byte ∷ bytes) =
    not (is_equ (byte ∷ bytes)) && is_none (mnemonic_of (statement_word (byte ∷ bytes)))

-- the fault of the operands
abbrev pub operand_kind : Names → Bool → Option Mnemonic → List ℕ → Option AsmKind
operand_kind names true mnemonic operands =
    operands_fault names (a_name ∷ any_number ∷ []) (operand_texts operands)
operand_kind names false None operands = None
operand_kind names false (Some mnemonic) operands = statement_fault names mnemonic operands

-- a word of the image at an address that is no multiple of 4, or more bytes than an image has room
-- for
abbrev pub room_kind : ℕ → Bool → ℕ → Option AsmKind
room_kind size has_words added_size =
    if has_words && not (size % WORD_SIZE == 0) then Some Unaligned
    else (if nat_lt IMAGE_ROOM (size + added_size) then Some TooLarge else None)

abbrev pub place_kind : Names → ℕ → Bool → Option Mnemonic → List ℕ → Option AsmKind
place_kind names size true mnemonic operands = None
place_kind names size false None operands = None
place_kind names size false (Some mnemonic) operands = room_kind size (is_of_words mnemonic)
    (sum_by size_of (statements_or_none (statements_of mnemonic names operands)))

-- the fault of a statement whose word is known
abbrev pub statement_kind : Names → ℕ → List ℕ → Option AsmKind
statement_kind names size [] = None
statement_kind names size (byte ∷ bytes) =
    let statement = byte ∷ bytes in
    option_or
    (operand_kind names (is_equ statement) (mnemonic_of (statement_word statement))
    (statement_operands statement))
    (place_kind names size (is_equ statement) (mnemonic_of (statement_word statement))
    (statement_operands statement))

-- ---- a line

-- what stands before a colon is no name
abbrev pub is_bad_label : Option (List ℕ) → Bool
is_bad_label None = false
is_bad_label (Some label) = not (is_name label)

abbrev pub is_taken_label : Names → Option (List ℕ) → Bool
is_taken_label names None = false
is_taken_label names (Some label) = is_taken names label

abbrev pub has_colon : List ℕ → Bool
has_colon statement = list_any is_colon statement

-- the fault of a line, from its label and what stands behind it
abbrev pub labelled_line_fault : LayoutSoFar → Option (List ℕ) → List ℕ → Option AsmKind
labelled_line_fault layout label statement =
    let names = names_with_label layout label in
    if not (is_bad_label label)
    && (is_taken_label layout.names label
    || (not (has_colon statement) && takes_name names statement)) then Some NameTaken
    else (if is_bad_label label || (has_colon statement || is_strange statement)
    then Some UnknownWord else statement_kind names layout.size statement)

-- the fault of a line, once this is laid
unfoldable pub line_fault : LayoutSoFar → List ℕ → Option AsmKind
line_fault layout line =
    if not (list_all is_plain (before_comment line)) then Some BadByte
    else labelled_line_fault layout (label_of line) (statement_text line)
