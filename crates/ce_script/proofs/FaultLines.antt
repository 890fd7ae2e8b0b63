-- The line of an assembly text's fault is one of its lines, or 0.
use Rattle.std.proofs.Common.{◌≡◌, ℕ, ◌+◌, ◌≤◌, Bool, true, false, not, cond, List, [], ◌∷◌, ◌++◌, length, Option, Some, None, Result, Ok, Err, refl, ap, subst, arith}
use Rattle.std.proofs.lemmas.List.Splits.{length-slice_split}
use Rattle.std.proofs.lemmas.List.Sums.{count_by-le-length}
use Rattle.rv_model.specs.declared.limits.TheConstants.{PRIVATE_START}
use Rattle.rv_model.specs.declared.memory.NoMemory.{NoMemory}
use Rattle.ce_text.specs.Bytes.{is_line_feed}
use Rattle.ce_text.specs.Line.{without_outer_blanks, line_texts}
use Rattle.rv_asm.specs.declared.fault.AsmKind.{AsmKind}
use Rattle.rv_asm.specs.declared.fault.AsmKind.TheVariants as kinds
use Rattle.rv_asm.specs.declared.fault.AsmFault.{AsmFault}
use Rattle.rv_asm.specs.declared.statement.Statement.{Statement}
use Rattle.rv_asm.specs.declared.statement.PlacedStatement.{PlacedStatement}
use Rattle.rv_asm.specs.declared.symbols.Symbol.{Symbol}
use Rattle.rv_asm.specs.Names.{Names}
use Rattle.rv_asm.specs.Faults.{◌>>=◌, refusal, AsmUnless}
use Rattle.rv_asm.specs.FirstPass.{LayoutSoFar, layout_of, empty_layout, layout_with_statement, layout_with_all, layout_with_name, layout_with_number, layout_with_statements, layout_with_statement_text, layout_with_labelled_statement, layout_with_line, judgment_at_line, layout_with_lines, first_pass}
use Rattle.rv_asm.specs.SecondPass.{Part, parts_of, second_pass}
use Rattle.rv_asm.specs.Assembly.{Assembly, entry_of, assembly_of}
use Rattle.rv_asm.specs.Sizes.{size_of}
use Rattle.rv_image.specs.Fault.{is_entry}

-- ---- statements and the lines that they stand on

-- the statements stand on lines up to this one
abbrev AreUpTo : ℕ → List PlacedStatement → Type 0
AreUpTo last [] = Unit {0}
AreUpTo last (placed ∷ others) = (placed.line ≤ last) × AreUpTo last others

up_push : (last : ℕ) (these : List PlacedStatement) (one : PlacedStatement) → AreUpTo last these → one.line ≤ last → AreUpTo last (these ++ one ∷ [])
up_push last [] one h le = (le, tt)
up_push last (first ∷ others) one h le = (h.0, up_push last others one h.1 le)

up_more : (before last : ℕ) (these : List PlacedStatement) → before ≤ last → AreUpTo before these → AreUpTo last these
up_more before last [] le h = tt
up_more before last (first ∷ others) le h =
    let here = h.0 in
    (omega (arith, le, here), up_more before last others le h.1)

-- ---- a line of a text

-- where all that is laid stands on lines up to this one, so does what is laid then
record HasKept {E : Type 0} (line : ℕ) (laid : LayoutSoFar) (r : Result LayoutSoFar E) : Type 0 where
  up : (next : LayoutSoFar) → r ≡ Ok next → AreUpTo line laid.statements → AreUpTo line next.statements

refused : {E : Type 0} (line : ℕ) (laid : LayoutSoFar) (kind : E) → HasKept line laid (Err kind)
refused line laid kind = record { up = λ next e h. absurd cc }

abbrev statements_in : {E : Type 0} → List PlacedStatement → Result LayoutSoFar E → List PlacedStatement
statements_in other (Ok laid) = laid.statements
statements_in other (Err kind) = other

keeps_ok : {E : Type 0} (line : ℕ) (laid one : LayoutSoFar) → (AreUpTo line laid.statements → AreUpTo line one.statements) → HasKept {E = E} line laid (Ok one)
keeps_ok {E} line laid one h = record { up = λ next e before. subst (AreUpTo line) (ap (statements_in {E = E} laid.statements) e) (h before) }

keeps_next : {A E : Type 0} (line : ℕ) (laid : LayoutSoFar) (r : Result A E) (next : A → Result LayoutSoFar E) → ((x : A) → HasKept line laid (next x)) → HasKept line laid (r >>= next)
keeps_next line laid (Ok x) next h = h x
keeps_next line laid (Err kind) next h = refused line laid kind

keeps_then : {E : Type 0} (line : ℕ) (laid : LayoutSoFar) (r : Result LayoutSoFar E) (next : LayoutSoFar → Result LayoutSoFar E) → HasKept line laid r → ((one : LayoutSoFar) → HasKept line one (next one)) → HasKept line laid (r >>= next)
keeps_then line laid (Ok one) next first h = record { up = λ last e before. (h one).up last e (first.up one refl before) }
keeps_then line laid (Err kind) next first h = refused line laid kind

named : (line : ℕ) (laid : LayoutSoFar) (names : Names) → HasKept {E = AsmKind} line laid (Ok (layout_of names laid.statements laid.size))
named line laid names = keeps_ok line laid _ (λ h. h)

placed : (line : ℕ) (laid : LayoutSoFar) (it : Statement) (size : ℕ) → HasKept {E = AsmKind} line laid (Ok (layout_of laid.names (laid.statements ++ record { line = line; statement = it } ∷ []) size))
placed line laid it size = keeps_ok line laid _ (λ h. up_push line laid.statements (record { line = line; statement = it }) h (omega arith))

place_keeps : (line : ℕ) (laid : LayoutSoFar) (it : Statement) → HasKept line laid (layout_with_statement line laid it)
unfolding layout_with_statement
place_keeps line laid it = search (keeps_next, placed)

place_all_keeps : (line : ℕ) (laid : LayoutSoFar) (these : List Statement) → HasKept line laid (layout_with_all line laid these)
unfolding layout_with_all
place_all_keeps line laid [] = keeps_ok line laid laid (λ h. h)
place_all_keeps line laid (it ∷ these) = keeps_then line laid (layout_with_statement line laid it) _ (place_keeps line laid it) (λ one. place_all_keeps line one these)

define_keeps : (line : ℕ) (laid : LayoutSoFar) (name : List ℕ) (symbol : Symbol) → HasKept line laid (layout_with_name laid name symbol)
unfolding layout_with_name
define_keeps line laid name symbol = search (keeps_next, named)

equ_keeps : (line : ℕ) (laid : LayoutSoFar) (operands : List ℕ) → HasKept line laid (layout_with_number laid operands)
unfolding layout_with_number
equ_keeps line laid operands = search (keeps_next, define_keeps)

lay_keeps : (line : ℕ) (laid : LayoutSoFar) (word operands : List ℕ) → HasKept line laid (layout_with_statements line laid word operands)
unfolding layout_with_statements
lay_keeps line laid word operands = search (keeps_next, place_all_keeps)

either_keeps : (line : ℕ) (laid : LayoutSoFar) (test : Bool) (first second : Result LayoutSoFar AsmKind) → HasKept line laid first → HasKept line laid second → HasKept line laid (cond test first second)
either_keeps line laid true first second h g = h
either_keeps line laid false first second h g = g

statement_keeps : (line : ℕ) (laid : LayoutSoFar) (bytes : List ℕ) → HasKept line laid (layout_with_statement_text line laid bytes)
unfolding layout_with_statement_text
statement_keeps line laid [] = keeps_ok line laid laid (λ h. h)
statement_keeps line laid (byte ∷ bytes) = search (keeps_next, either_keeps, equ_keeps, lay_keeps)

labelled_keeps : (line : ℕ) (laid : LayoutSoFar) (front : List ℕ) (rest : Option (List ℕ)) → HasKept line laid (layout_with_labelled_statement line laid front rest)
labelled_keeps line laid front None = statement_keeps line laid (without_outer_blanks front)
labelled_keeps line laid front (Some rest) = search (keeps_next, keeps_then, define_keeps, statement_keeps)

line_keeps : (number : ℕ) (laid : LayoutSoFar) (line : List ℕ) → HasKept number laid (layout_with_line number laid line)
unfolding layout_with_line
line_keeps number laid line = search (keeps_next, labelled_keeps)

-- ---- the first pass

abbrev line_in : {A : Type 0} → Result A AsmFault → ℕ
line_in (Ok x) = 0
line_in (Err fault) = fault.line

-- statements and faults of lines behind so many stand on one of them
record AreOnLines (before : ℕ) (laid : LayoutSoFar) (these : List (List ℕ)) (r : Result LayoutSoFar AsmFault) : Type 0 where
  up : (out : LayoutSoFar) → r ≡ Ok out → AreUpTo before laid.statements → AreUpTo (before + length these) out.statements
  fault : (fault : AsmFault) → r ≡ Err fault → fault.line ≤ before + length these

lines_by : (before : ℕ) (laid : LayoutSoFar) (line : List ℕ) (these : List (List ℕ)) (r : Result LayoutSoFar AsmKind) → HasKept (before + 1) laid r
    → ((one : LayoutSoFar) → AreOnLines (before + 1) one these (layout_with_lines (before + 1) one these)) → AreOnLines before laid (line ∷ these) (judgment_at_line (before + 1) r >>= λ one. layout_with_lines (before + 1) one these)
lines_by before laid line these (Ok one) keeps others = record {
  up = λ out e h. up_more (before + 1 + length these) (before + length (line ∷ these)) out.statements (omega arith)
      ((others one).up out e (keeps.up one refl (up_more before (before + 1) laid.statements (omega arith) h)));
  fault = λ fault e. let le = (others one).fault fault e in omega (arith, le);
}
lines_by before laid line these (Err kind) keeps others = record {
  up = λ out e h. absurd cc;
  fault = λ fault e. let same : before + 1 ≡ fault.line = ap (line_in {A = LayoutSoFar}) e in omega (arith, same);
}

all_lines : (before : ℕ) (laid : LayoutSoFar) (these : List (List ℕ)) → AreOnLines before laid these (layout_with_lines before laid these)
unfolding layout_with_lines
all_lines before laid [] = record {
  up = λ out e h. up_more before (before + 0) out.statements (omega arith) (subst (AreUpTo before) (ap (statements_in {E = AsmFault} laid.statements) e) h);
  fault = λ fault e. absurd cc;
}
all_lines before laid (line ∷ these) =
    lines_by before laid line these (layout_with_line (before + 1) laid line) (line_keeps (before + 1) laid line) (λ one. all_lines (before + 1) one these)

-- ---- the second pass

second_by : (one : PlacedStatement) (last : ℕ) (here : Result (List Part) AsmKind) (there : Result (List Part) AsmFault) (fault : AsmFault) → one.line ≤ last
    → (there ≡ Err fault → fault.line ≤ last) → (judgment_at_line one.line here >>= λ parts. there >>= λ more. Ok (parts ++ more)) ≡ Err fault → fault.line ≤ last
second_by one last (Err kind) there fault le h e =
    let same : one.line ≡ fault.line = ap (line_in {A = List Part}) e in
    omega (arith, same, le)
second_by one last (Ok parts) (Err other) fault le h e = h e
second_by one last (Ok parts) (Ok more) fault le h e = absurd cc

second_line : (names : Names) (address last : ℕ) (these : List PlacedStatement) (fault : AsmFault) → AreUpTo last these → second_pass names address these ≡ Err fault → fault.line ≤ last
unfolding second_pass
second_line names address last [] fault up e = absurd cc
second_line names address last (one ∷ others) fault up e =
    second_by one last (parts_of names address one.statement) (second_pass names (address + size_of one.statement) others) fault up.0
    (second_line names (address + size_of one.statement) last others fault up.1) e

-- ---- a whole text

then_line : {A B : Type 0} (r : Result A AsmFault) (next : A → Result B AsmFault) (last : ℕ) (fault : AsmFault) → ((first : AsmFault) → r ≡ Err first → first.line ≤ last)
    → ((x : A) → r ≡ Ok x → next x ≡ Err fault → fault.line ≤ last) → (r >>= next) ≡ Err fault → fault.line ≤ last
then_line (Ok x) next last fault first second e = second x refl e
then_line {A} {B} (Err one) next last fault first second e =
    let le = first one refl in
    let same : one.line ≡ fault.line = ap (line_in {A = B}) e in
    omega (arith, same, le)

entry_line : (test : Bool) (last : ℕ) (fault : AsmFault) → judgment_at_line 0 (refusal test kinds.Entry) ≡ Err fault → fault.line ≤ last
entry_line true last fault e =
    let same : 0 ≡ fault.line = ap (line_in {A = Unit {0}}) e in
    omega (arith, same)
entry_line false last fault e = absurd cc

-- what comes behind the second pass
abbrev assembly_with_entry : LayoutSoFar → List Part → Result Assembly AsmFault
assembly_with_entry laid parts =
    judgment_at_line 0 (refusal (not (is_entry (entry_of laid.names) laid.size)) kinds.Entry) >>= λ begins. Ok (record { entry = entry_of laid.names; parts = parts })

entered_line : (laid : LayoutSoFar) (parts : List Part) (last : ℕ) (fault : AsmFault) → assembly_with_entry laid parts ≡ Err fault → fault.line ≤ last
entered_line laid parts last fault e =
    let test = not (is_entry (entry_of laid.names) laid.size) in
    then_line (judgment_at_line 0 (refusal test kinds.Entry)) (λ begins. Ok (record { entry = entry_of laid.names; parts = parts })) last fault
    (entry_line test last) (λ begins here other. absurd cc) e

-- what comes behind the first pass
abbrev behind_first : LayoutSoFar → Result Assembly AsmFault
behind_first laid = second_pass laid.names PRIVATE_START laid.statements >>= assembly_with_entry laid

assembled_line : (text : List ℕ) (fault : AsmFault) → assembly_of text ≡ Err fault → fault.line ≤ 0 + length (line_texts text)
unfolding assembly_of first_pass
assembled_line text fault e =
    let last = 0 + length (line_texts text) in
    let all = all_lines 0 empty_layout (line_texts text) in
    then_line (layout_with_lines 0 empty_layout (line_texts text)) behind_first last fault all.fault
    (λ laid is. then_line (second_pass laid.names PRIVATE_START laid.statements) (assembly_with_entry laid) last fault
    (λ one. second_line laid.names PRIVATE_START last laid.statements one (all.up laid is tt))
    (λ parts there. entered_line laid parts last fault))
    e

fewer : (text : List ℕ) → length (line_texts text) ≤ length text + 1
fewer text =
    let n = length-slice_split is_line_feed text in
    let le = count_by-le-length is_line_feed text in
    omega (arith, n, le)

known : {P : Type 0} (kind : AsmKind) → ((want : NoMemory) → kind ≡ kinds.Memory want → ⊥) → AsmUnless kind P → P
known (kinds.Memory want) not h = absurd (not want refl)
known kind not h = h

-- there are no more lines than bytes and one
pub fault_line : (text : List ℕ) (fault : AsmFault) → ((want : NoMemory) → fault.kind ≡ kinds.Memory want → ⊥) → AsmUnless fault.kind (assembly_of text ≡ Err fault) → fault.line ≤ length text + 1
fault_line text fault not h =
    let le = assembled_line text fault (known fault.kind not h) in
    let few = fewer text in
    omega (arith, le, few)
