-- What belongs in the places of a statement's operands, and how operands are faulty there: each
-- kind of fault is a test of its own on an operand and on what names mean before its line.
use Rattle.std.specs.Prelude.{ℕ, Bool, false, not, ◌&&◌, ◌||◌, ◌==◌, if◌then◌else◌, max, List, [], ◌∷◌, replicate, Option, Some, None, is_none, length, ℤ, pos, int_le}
use Rattle.rv_model.specs.declared.limits.TheConstants.{GREATEST_IMMEDIATE, GREATEST_UPPER, LEAST_IMMEDIATE, IMAGE_ROOM}
use Rattle.rv_asm.specs.declared.statement.TheConstants.{GREATEST_BYTE, LEAST_BYTE}
use Rattle.rv_asm.specs.declared.fault.AsmKind.{AsmKind}
use Rattle.rv_asm.specs.declared.fault.AsmKind.TheVariants.{Operands, BadRegister, BadNumber, UnknownName}
use Rattle.rv_asm.specs.declared.symbols.Symbol.{Symbol}
use Rattle.rv_asm.specs.declared.symbols.Symbol.TheVariants.{Label, Number}
use Rattle.rv_asm.specs.declared.mnemonic.Mnemonic.{Mnemonic}
use Rattle.rv_asm.specs.declared.mnemonic.Mnemonic.TheVariants as mnemonics
use Rattle.ce_text.specs.Line.{cut_parts, without_outer_blanks}
use Rattle.rv_asm.specs.Line.{pieces, is_token, is_opening, is_closing}
use Rattle.rv_asm.specs.Name.{is_name}
use Rattle.rv_asm.specs.Register.{named_register}
use Rattle.rv_asm.specs.Literal.{literal_of}
use Rattle.rv_asm.specs.Names.{Names}
use Rattle.rv_asm.specs.Operand.{is_closed, least_immediate, greatest_immediate}

-- what belongs in the place of an operand
pub data Form : Type 0 where
  a_register : Form
  any_number : Form
  -- a number from the least to the greatest
  a_number : ℤ → ℤ → Form
  -- `n(rs1)`
  a_memory : Form
  a_name : Form
  -- a number or a label, in `.word`
  a_value : Form

-- ---- numbers

-- the number that a name stands for: the one that an earlier `.equ` gave
abbrev pub symbol_number : Option Symbol → Option ℤ
symbol_number (Some (Number n)) = Some n
symbol_number (Some (Label address)) = None
symbol_number None = None

-- the number that a token gives: a name's, and else the one that is written
abbrev pub token_number : Names → List ℕ → Option ℤ
token_number names token = if is_name token then symbol_number (names token) else literal_of token

-- neither a name nor a number
abbrev pub is_no_number : List ℕ → Bool
is_no_number token = not (is_name token) && is_none (literal_of token)

-- a name that no earlier `.equ` gave
abbrev pub is_unknown : Names → List ℕ → Bool
is_unknown names token = is_name token && is_none (symbol_number (names token))

abbrev pub is_outside : ℤ → ℤ → Option ℤ → Bool
is_outside least greatest None = false
is_outside least greatest (Some n) = not (int_le least n && int_le n greatest)

-- ---- `n(rs1)`

abbrev pub is_bracketed : Option (List ℕ) → Bool
is_bracketed None = false
is_bracketed (Some rest) = is_closed (cut_parts is_closing rest).1

-- what stands before the opening bracket
abbrev pub offset_text : List ℕ → List ℕ
offset_text text = without_outer_blanks (cut_parts is_opening text).0

abbrev pub base_part : Option (List ℕ) → List ℕ
base_part None = []
base_part (Some rest) = without_outer_blanks (cut_parts is_closing rest).0

-- what stands between the brackets
abbrev pub base_text : List ℕ → List ℕ
base_text text = base_part (cut_parts is_opening text).1

-- ---- faults of an operand

-- it has not the form that belongs in its place
unfoldable pub is_malformed : Form → List ℕ → Bool
is_malformed a_name text = not (is_name text)
is_malformed a_memory text = not
    (is_bracketed (cut_parts is_opening text).1 && is_token (offset_text text)
    && is_token (base_text text))
is_malformed form text = not (is_token text)

-- where a register belongs, there is none
unfoldable pub lacks_register : Form → List ℕ → Bool
lacks_register a_register text = is_none (named_register text)
lacks_register a_memory text = is_none (named_register (base_text text))
lacks_register form text = false

-- where a number belongs, there is none, or one that is out of range
unfoldable pub lacks_number : Names → Form → List ℕ → Bool
lacks_number names any_number text = is_no_number text
lacks_number names a_value text = is_no_number text
lacks_number names (a_number least greatest) text =
    is_no_number text || is_outside least greatest (token_number names text)
lacks_number names a_memory text = is_no_number (offset_text text)
    || is_outside LEAST_IMMEDIATE GREATEST_IMMEDIATE (token_number names (offset_text text))
lacks_number names form text = false

-- where a number belongs, there is a name that no earlier `.equ` gave
unfoldable pub lacks_name : Names → Form → List ℕ → Bool
lacks_name names any_number text = is_unknown names text
lacks_name names (a_number least greatest) text = is_unknown names text
lacks_name names a_memory text = is_unknown names (offset_text text)
lacks_name names form text = false

-- ---- faults of a statement's operands

-- the first of the kinds that operands can have
abbrev pub first_kind : (has_malformed has_no_register has_no_number has_no_name : Bool)
    → Option AsmKind
first_kind has_malformed has_no_register has_no_number has_no_name =
    if has_malformed then Some Operands
    else (if has_no_register then Some BadRegister
    else (if has_no_number then Some BadNumber
    else (if has_no_name then Some UnknownName else None)))

-- some operand passes a test in its place
abbrev pub has_operand : (Form → List ℕ → Bool) → List Form → List (List ℕ) → Bool
has_operand test [] texts = false
has_operand test (form ∷ forms) [] = false
has_operand test (form ∷ forms) (text ∷ texts) = test form text || has_operand test forms texts

-- the fault of operands in their places: each kind is judged over all of them before the next
unfoldable pub operands_fault : Names → List Form → List (List ℕ) → Option AsmKind
operands_fault names forms texts =
    first_kind (not (length texts == length forms) || has_operand is_malformed forms texts)
    (has_operand lacks_register forms texts)
    (has_operand (lacks_number names) forms texts)
    (has_operand (lacks_name names) forms texts)

-- the operands of a statement: none where nothing is written
abbrev pub operand_texts : List ℕ → List (List ℕ)
operand_texts [] = []
operand_texts (byte ∷ bytes) = pieces (byte ∷ bytes)

-- what belongs in the places of so many operands; `.word` and `.byte` have any number of them but
-- none
abbrev pub forms_of : Mnemonic → ℕ → List Form
forms_of (mnemonics.Plain inst) count = []
forms_of mnemonics.Lui count = a_register ∷ a_number (pos 0) GREATEST_UPPER ∷ []
forms_of mnemonics.Auipc count = a_register ∷ a_number (pos 0) GREATEST_UPPER ∷ []
forms_of mnemonics.Jalr count = a_register ∷ a_memory ∷ []
forms_of (mnemonics.Load op) count = a_register ∷ a_memory ∷ []
forms_of (mnemonics.Store op) count = a_register ∷ a_memory ∷ []
forms_of (mnemonics.OpImm op) count =
    a_register ∷ a_register ∷ a_number (least_immediate op) (greatest_immediate op) ∷ []
forms_of (mnemonics.Op op) count = a_register ∷ a_register ∷ a_register ∷ []
forms_of mnemonics.Mv count = a_register ∷ a_register ∷ []
forms_of mnemonics.Li count = a_register ∷ any_number ∷ []
forms_of mnemonics.La count = a_register ∷ a_name ∷ []
forms_of mnemonics.Jal count = a_register ∷ a_name ∷ []
forms_of (mnemonics.Jump rd) count = a_name ∷ []
forms_of (mnemonics.Branch op) count = a_register ∷ a_register ∷ a_name ∷ []
forms_of mnemonics.Word count = replicate (max 1 count) a_value
forms_of mnemonics.Byte count = replicate (max 1 count) (a_number LEAST_BYTE GREATEST_BYTE)
forms_of mnemonics.Zero count = a_number (pos 0) (pos IMAGE_ROOM) ∷ []

-- the fault of a statement's operands
abbrev pub statement_fault : Names → Mnemonic → List ℕ → Option AsmKind
statement_fault names mnemonic operands =
    let texts = operand_texts operands in
    operands_fault names (forms_of mnemonic (length texts)) texts
