-- What holds of the assembler, a law at a time.
use Rattle.std.specs.Prelude.{◌≡◌, ◌<◌, ◌≤◌, ◌+◌, ◌*◌, ◌^◌, map, ℕ, List, length, Some, Ok, IsTrue, Err, ◌≢◌, codes, ◌++◌, ◌∷◌, [], true, false}
use Rattle.rv_model.specs.Exec.{Access, next_state, with_register, register_value, step_outcome, jump_outcome, is_taken, next_pc}
use Rattle.rv_model.specs.declared.inst.BranchOp.{BranchOp}
use Rattle.rv_inst.specs.Valid.{IsRegister}
use Rattle.rv_asm_laws.specs.Effects.{HasInstructions, HasParts, steps, pc_behind}
use Rattle.rv_asm.specs.Assembly.{assembly_of, entry_of}
use Rattle.rv_asm_laws.specs.Listing.{IsListing}
use Rattle.rv_asm.specs.Sizes.{statements_size}
use Rattle.rv_model.specs.declared.inst.Inst.{Inst}
use Rattle.ce_text.specs.Line.{line_texts}
use Rattle.rv_asm.specs.FirstPass.{LayoutSoFar, layout_with_statement_text, layout_with_line, first_pass}
use Rattle.rv_asm_laws.specs.Before.{label_of, line_at, address_at, layout_before, IsFirstFault, AreLaid}
use Rattle.rv_asm.specs.Line.{is_colon, is_opening, is_closing, colon, comma, opening_bracket, closing_bracket}
use Rattle.rv_asm.specs.Operand.{memory}
use Rattle.rv_asm.specs.Names.{Names}
use Rattle.rv_asm.specs.declared.mnemonic.Mnemonic.{Mnemonic}
use Rattle.rv_asm_laws.specs.Forms.{statement_fault}
use Rattle.rv_asm_laws.specs.LineFaults.{line_fault}
use Rattle.rv_asm_laws.specs.LabelFaults.{label_fault, IsFirstLabelFault, HasLabels}
use Rattle.ce_text.specs.Bytes.{is_hash, is_blank, hash}
use Rattle.std.specs.List.{list_all, list_any}
use Rattle.rv_asm.specs.declared.statement.Statement.{Statement}
use Rattle.rv_asm.specs.declared.statement.PlacedStatement.{PlacedStatement}
use Rattle.rv_asm.specs.Statements.{load_word, statements_of}
use Rattle.std.specs.Result.{result_err}
use Rattle.rv_model.specs.declared.limits.TheConstants.{PRIVATE_START, IMAGE_ROOM, REGISTER_COUNT, WORD_SIZE}
use Rattle.rv_asm.specs.SecondPass.{Part, Instruction, parts_of, second_pass}
use Rattle.rv_asm.specs.declared.fault.AsmFault.{AsmFault}
use Rattle.rv_asm.specs.declared.symbols.Symbol.TheVariants.{Label}
use Rattle.rv_asm.specs.declared.statement.Statement.TheVariants as statements

-- the instructions of `li rd, n` leave n modulo 2^32 in rd
abbrev pub LiLoads : Type 0
LiLoads = (A : Access (List ℕ)) (x m : List ℕ) (pc rd word : ℕ)
    → length x ≡ REGISTER_COUNT → IsRegister rd → word < 2 ^ 32
    → HasInstructions A m pc (load_word rd word)
    → let count = length (load_word rd word) in
    steps count A x pc m ≡ next_state (with_register x rd word) (pc_behind count pc) m

-- those of `la rd, label` leave the label's address in rd
abbrev pub LaLoads : Type 0
LaLoads = (A : Access (List ℕ)) (names : Names) (x m label : List ℕ)
    (pc rd address : ℕ) (parts : List Part)
    → length x ≡ REGISTER_COUNT → IsRegister rd → address < 2 ^ 32 → names label
    ≡ Some (Label address)
    → parts_of names pc (statements.La rd label) ≡ Ok parts → HasParts A m pc parts
    → steps 2 A x pc m ≡ next_state (with_register x rd address) (pc_behind 2 pc) m

-- a jump goes to the address of its label
abbrev pub JumpsReach : Type 0
JumpsReach = (A : Access (List ℕ)) (names : Names) (x m label : List ℕ)
    (pc rd address : ℕ) (parts : List Part)
    → pc < 2 ^ 32 → address < 2 ^ 32 → names label ≡ Some (Label address)
    → parts_of names pc (statements.Jal rd label) ≡ Ok parts → HasParts A m pc parts
    → step_outcome A x pc m ≡ jump_outcome pc address (with_register x rd (next_pc pc)) m

-- so does a branch that is taken
abbrev pub BranchesReach : Type 0
BranchesReach = (A : Access (List ℕ)) (names : Names) (x m label : List ℕ)
    (pc rs1 rs2 address : ℕ) (op : BranchOp) (parts : List Part)
    → pc < 2 ^ 32 → address < 2 ^ 32 → names label ≡ Some (Label address)
    → parts_of names pc (statements.Branch op rs1 rs2 label) ≡ Ok parts → HasParts A m pc parts
    → IsTrue (is_taken op (register_value x rs1) (register_value x rs2)) → step_outcome A x pc m
    ≡ jump_outcome pc address x m

-- the address of a line is the start of the image and the sizes of all that is laid before it
abbrev pub AddressesAreSizes : Type 0
AddressesAreSizes = (text : List (List ℕ)) (i : ℕ)
    → address_at text i ≡ PRIVATE_START + statements_size (layout_before text i).statements

-- a label's address is that of its line
abbrev pub LabelsHaveAddresses : Type 0
LabelsHaveAddresses =
    (text name : List ℕ) (layout : LayoutSoFar) (i : ℕ) → first_pass text ≡ Ok layout
    → i < length (line_texts text) → label_of (line_at (line_texts text) i) ≡ Some name
    → layout.names name ≡ Some (Label (address_at (line_texts text) i))

-- the entry is the address of the line with the label `start`
abbrev pub EntriesAreLabelled : Type 0
EntriesAreLabelled = (text : List ℕ) (layout : LayoutSoFar) (i : ℕ) → first_pass text ≡ Ok layout
    → i < length (line_texts text) → label_of (line_at (line_texts text) i) ≡ Some (codes "start")
    → entry_of layout.names ≡ address_at (line_texts text) i

-- the entry is the start of the image where no line has this label
abbrev pub UnlabelledEntriesAreStarts : Type 0
UnlabelledEntriesAreStarts = (text : List ℕ) (layout : LayoutSoFar) → first_pass text ≡ Ok layout
    → ((i : ℕ) → i < length (line_texts text)
    → label_of (line_at (line_texts text) i) ≢ Some (codes "start"))
    → entry_of layout.names ≡ PRIVATE_START

-- the first pass answers the first line that has a fault
abbrev pub FirstFaultsAreAnswered : Type 0
FirstFaultsAreAnswered = (text : List ℕ) (fault : AsmFault) → first_pass text ≡ Err fault
    → IsFirstFault (line_texts text) fault

-- and what the lines lay, where none has one
abbrev pub AllLinesAreLaid : Type 0
AllLinesAreLaid = (text : List ℕ) (layout : LayoutSoFar) → first_pass text ≡ Ok layout
    → AreLaid (line_texts text) layout

-- the fault of operands is the first kind that some operand has
abbrev pub OperandFaultsAreInOrder : Type 0
OperandFaultsAreInOrder = (mnemonic : Mnemonic) (names : Names) (operands : List ℕ)
    → result_err (statements_of mnemonic names operands)
    ≡ statement_fault names mnemonic operands

-- the fault of a line is the first kind that it has
abbrev pub LineFaultsAreInOrder : Type 0
LineFaultsAreInOrder = (number : ℕ) (layout : LayoutSoFar) (line : List ℕ)
    → result_err (layout_with_line number layout line) ≡ line_fault layout line

-- the fault of a statement's label is the first kind that it has
abbrev pub LabelFaultsAreInOrder : Type 0
LabelFaultsAreInOrder = (names : Names) (address : ℕ) (statement : Statement)
    → result_err (parts_of names address statement) ≡ label_fault names address statement

-- the second pass answers the first statement whose label has a fault
abbrev pub FirstLabelFaultsAreAnswered : Type 0
FirstLabelFaultsAreAnswered =
    (names : Names) (address : ℕ) (placed_statements : List PlacedStatement) (fault : AsmFault)
    → second_pass names address placed_statements ≡ Err fault
    → IsFirstLabelFault names address placed_statements fault

-- where it answers parts, none has one
abbrev pub AllLabelsAreThere : Type 0
AllLabelsAreThere =
    (names : Names) (address : ℕ) (placed_statements : List PlacedStatement) (parts : List Part)
    → second_pass names address placed_statements ≡ Ok parts
    → HasLabels names address placed_statements

-- a listing assembles to its instructions, and is entered at the first
abbrev pub ListingsAreAssembled : Type 0
ListingsAreAssembled = (text : List ℕ) (insts : List Inst) → IsListing (line_texts text) insts
    → 0 < length insts → WORD_SIZE * length insts ≤ IMAGE_ROOM
    → assembly_of text ≡ Ok (record { entry = PRIVATE_START; parts = map Instruction insts })

-- ---- blanks change nothing

-- at the ends of a line
abbrev pub EndBlanksGo : Type 0
EndBlanksGo = (number : ℕ) (layout : LayoutSoFar) (before line after : List ℕ)
    → list_all is_blank before ≡ true → list_all is_blank after ≡ true
    → layout_with_line number layout (before ++ line ++ after) ≡ layout_with_line number layout line

-- round a colon
abbrev pub ColonBlanksGo : Type 0
ColonBlanksGo = (number : ℕ) (layout : LayoutSoFar) (label before after rest : List ℕ)
    → list_any is_hash label ≡ false → list_any is_colon label ≡ false
    → list_all is_blank before ≡ true → list_all is_blank after ≡ true
    → layout_with_line number layout (label ++ before ++ colon ∷ (after ++ rest))
    ≡ layout_with_line number layout (label ++ colon ∷ rest)

-- behind a mnemonic
abbrev pub WordBlanksGo : Type 0
WordBlanksGo =
    (number : ℕ) (layout : LayoutSoFar) (word : List ℕ) (blank : ℕ) (blanks operands : List ℕ)
    → list_any is_blank word ≡ false → is_blank blank ≡ true → list_all is_blank blanks ≡ true
    → layout_with_statement_text number layout (word ++ blank ∷ (blanks ++ operands))
    ≡ layout_with_statement_text number layout (word ++ blank ∷ operands)

-- round a comma
abbrev pub CommaBlanksGo : Type 0
CommaBlanksGo = (mnemonic : Mnemonic) (names : Names) (first before after second : List ℕ)
    → list_all is_blank before ≡ true → list_all is_blank after ≡ true
    → statements_of mnemonic names (first ++ before ++ comma ∷ (after ++ second))
    ≡ statements_of mnemonic names (first ++ comma ∷ second)

-- round an opening bracket
abbrev pub OpeningBlanksGo : Type 0
OpeningBlanksGo = (names : Names) (number before after base : List ℕ)
    → list_any is_opening number ≡ false
    → list_all is_blank before ≡ true → list_all is_blank after ≡ true
    → memory names (number ++ before ++ opening_bracket ∷ (after ++ base))
    ≡ memory names (number ++ opening_bracket ∷ base)

-- round a closing bracket
abbrev pub ClosingBlanksGo : Type 0
ClosingBlanksGo = (names : Names) (number base before after : List ℕ)
    → list_any is_opening number ≡ false → list_any is_closing base ≡ false
    → list_all is_blank before ≡ true → list_all is_blank after ≡ true
    → memory names (number ++ opening_bracket ∷ (base ++ before ++ closing_bracket ∷ after))
    ≡ memory names (number ++ opening_bracket ∷ (base ++ closing_bracket ∷ []))

-- a comment changes nothing
abbrev pub CommentsGo : Type 0
CommentsGo =
    (number : ℕ) (layout : LayoutSoFar) (line comment : List ℕ) → list_any is_hash line ≡ false
    → layout_with_line number layout (line ++ hash ∷ comment) ≡ layout_with_line number layout line
