-- The fault of a line, as the tests tell it.
use Rattle.std.proofs.Common.{◌≡◌, ℕ, ◌+◌, ◌%◌, ◌<◌, ◌≤◌, Bool, true, false, cond, not, List, [], ◌∷◌, ◌++◌, length, map, Option, Some, None, Result, Ok, Err, refl, sym, ap, subst, ◌∙◌, arith}
use Rattle.std.specs.Prelude.{◌||◌, ◌&&◌, ◌==◌, is_none, fold, sum_by, nat_lt, ℤ, pos, ok_or}
use Rattle.std.specs.List.{list_all}
use Rattle.std.specs.Result.{result_err}
use Rattle.std.proofs.lemmas.Bool.{not-false, eqb-true, eq-eqb, ne_eqb, ltb-true, ltb-false, lt-ltb, le-ltb}
use Rattle.std.proofs.lemmas.List.{length-append}
use Rattle.std.proofs.lemmas.List.Sums.{sum_by-cons}
use Rattle.std.specs.Option.{option_or}
use Rattle.rv_model.specs.declared.limits.TheConstants.{PRIVATE_START, IMAGE_ROOM}
use Rattle.rv_asm.specs.declared.statement.TheConstants.{GREATEST_BYTE, LEAST_BYTE}
use Rattle.rv_model.specs.declared.inst.Inst.TheVariants as insts
use Rattle.rv_model.specs.declared.inst.ImmOp.TheVariants.{Addi}
use Rattle.rv_asm.specs.declared.fault.AsmKind.{AsmKind}
use Rattle.rv_asm.specs.declared.fault.AsmKind.TheVariants.{BadByte, NameTaken, UnknownWord, Unaligned, TooLarge, Operands, BadNumber}
use Rattle.rv_asm.specs.declared.symbols.Symbol.{Symbol}
use Rattle.rv_asm.specs.declared.symbols.Symbol.TheVariants.{Label, Number}
use Rattle.rv_asm.specs.declared.mnemonic.Mnemonic.{Mnemonic}
use Rattle.rv_asm.specs.declared.mnemonic.Mnemonic.TheVariants as mnemonics
use Rattle.rv_asm.specs.declared.statement.Statement.{Statement}
use Rattle.rv_asm.specs.declared.statement.Statement.TheVariants as statements
use Rattle.ce_text.specs.Bytes.{is_plain}
use Rattle.ce_text.specs.Line.{cut_parts, without_outer_blanks, before_comment}
use Rattle.rv_asm.specs.Line.{pieces, comma_pieces, is_colon, is_comma, is_token}
use Rattle.rv_asm.specs.Literal.{literal_of}
use Rattle.rv_asm.specs.Name.{is_name}
use Rattle.rv_asm.specs.Names.{Names, with_name, is_taken}
use Rattle.rv_asm.specs.Faults.{◌>>=◌, refusal, pair_judgment, with_judgment, judgment_of_list}
use Rattle.rv_asm.specs.Operand.{text_pair, two_pieces, name_piece, number, number_in_range, no_piece, wrapped_word, byte_of}
use Rattle.rv_asm.specs.Sizes.{size_of, lays_words}
use Rattle.rv_asm.specs.Words.{mnemonic_of}
use Rattle.rv_asm.specs.Statements.{is_short, low_part, two_instructions, load_word, word_statement, word_value, byte_value, register_upper, register_memory, registers_immediate, three_registers, two_registers, register_word, register_label, registers_label, one_label, zero_count, statements_of}
use Rattle.rv_asm_laws.specs.Forms.{a_name, any_number, operands_fault, operand_texts}
use Rattle.rv_asm.specs.FirstPass.{LayoutSoFar, layout_of, layout_with_statement, layout_with_all, layout_with_name, layout_with_number, layout_with_statements, layout_with_statement_text, layout_with_labelled_statement, layout_with_line}
use Rattle.rv_asm_laws.specs.Before.{label_part, label_of}
use Rattle.rv_asm_laws.specs.LineFaults.{statement_part, statement_word, statement_operands, is_equ, names_with_label, statements_or_none, is_of_words, takes_name, is_strange, operand_kind, room_kind, place_kind, statement_kind, has_colon, labelled_line_fault, line_fault}
use Rattle.rv_asm.proofs.Pieces.{pieces_cut}
use Rattle.rv_asm_laws.proofs.OperandFaults.{wrong, err_both, joined_two, name_fault, number_fault, written_two, some_pieces, operands_judged}

-- a judgment that goes on without a fault has the fault that it had
err_total : {A B : Type 0} (r : Result A AsmKind) (next : A → Result B AsmKind) → ((x : A) → result_err (next x) ≡ None) → result_err (r >>= next) ≡ result_err r
err_total (Ok x) next h = h x
err_total (Err kind) next h = refl

-- ---- `.equ`

define_free : (layout : LayoutSoFar) (name : List ℕ) (symbol : Symbol) → is_taken layout.names name ≡ false → result_err (layout_with_name layout name symbol) ≡ None
unfolding layout_with_name
define_free layout name symbol e = rw e refl

equ_pieces : (layout : LayoutSoFar) (first : List ℕ) (others : List (List ℕ)) → is_taken layout.names first ≡ false
    → result_err (text_pair (first ∷ others) >>= λ parts. pair_judgment (name_piece parts.0) (number layout.names parts.1) >>= λ values. layout_with_name layout parts.0 (Number values.1))
    ≡ operands_fault layout.names (a_name ∷ any_number ∷ []) (first ∷ others)
equ_pieces layout first [] e = wrong layout.names (a_name ∷ any_number ∷ []) (first ∷ []) refl
equ_pieces layout first (second ∷ []) e =
    err_total (pair_judgment (name_piece first) (number layout.names second)) (λ values. layout_with_name layout first (Number values.1)) (λ values. define_free layout first (Number values.1) e)
    ∙ err_both (name_piece first) (number layout.names second)
    ∙ rw (name_fault layout.names first, number_fault layout.names second) (joined_two layout.names a_name any_number first second)
equ_pieces layout first (second ∷ third ∷ others) e = wrong layout.names (a_name ∷ any_number ∷ []) (first ∷ second ∷ third ∷ others) (ne_eqb _ _ (λ h. absurd (omega arith)))

equ_by : (layout : LayoutSoFar) (operands : List ℕ) (taken : Bool) → is_taken layout.names (without_outer_blanks (cut_parts is_comma operands).0) ≡ taken
    → result_err (refusal taken NameTaken >>= λ free. two_pieces operands >>= λ parts. pair_judgment (name_piece parts.0) (number layout.names parts.1) >>= λ values. layout_with_name layout parts.0 (Number values.1))
    ≡ cond taken (Some NameTaken) (operands_fault layout.names (a_name ∷ any_number ∷ []) (operand_texts operands))
unfolding two_pieces
equ_by layout operands true e = refl
equ_by layout operands false e =
    ap (λ (texts : List (List ℕ)). result_err (text_pair texts >>= λ parts. pair_judgment (name_piece parts.0) (number layout.names parts.1) >>= λ values. layout_with_name layout parts.0 (Number values.1))) (pieces_cut operands)
    ∙ equ_pieces layout (without_outer_blanks (cut_parts is_comma operands).0) (comma_pieces (cut_parts is_comma operands).1) e
    ∙ ap (operands_fault layout.names (a_name ∷ any_number ∷ [])) (sym (pieces_cut operands))
    ∙ written_two layout.names a_name any_number operands

equ_fault : (layout : LayoutSoFar) (operands : List ℕ) → result_err (layout_with_number layout operands)
    ≡ cond (is_taken layout.names (without_outer_blanks (cut_parts is_comma operands).0)) (Some NameTaken) (operands_fault layout.names (a_name ∷ any_number ∷ []) (operand_texts operands))
unfolding layout_with_number
equ_fault layout operands = equ_by layout operands (is_taken layout.names (without_outer_blanks (cut_parts is_comma operands).0)) refl

-- ---- room

-- all statements of a line lay words, whose sizes are multiples of 4, or all lay bytes
record IsOf (of_words : Bool) (it : Statement) : Type 0 where
  lays : lays_words it ≡ of_words
  whole : of_words ≡ true → size_of it % 4 ≡ 0

abbrev AreOf : Bool → List Statement → Type 0
AreOf of_words [] = Unit {0}
AreOf of_words (it ∷ these) = IsOf of_words it × AreOf of_words these

-- more statements behind some that fit, at an aligned place
more_by : (line : ℕ) (layout : LayoutSoFar) (it : Statement) (these : List Statement) (of_words unaligned large : Bool) → IsOf of_words it → of_words && not (layout.size % 4 == 0) ≡ unaligned → nat_lt IMAGE_ROOM (layout.size + size_of it) ≡ large
    → ((next : LayoutSoFar) → next.size ≡ layout.size + size_of it → next.size ≤ IMAGE_ROOM → (of_words ≡ true → next.size % 4 ≡ 0) → result_err (layout_with_all line next these) ≡ cond (nat_lt IMAGE_ROOM (next.size + sum_by size_of these)) (Some TooLarge) None)
    → result_err ((refusal unaligned Unaligned >>= λ aligned. refusal large TooLarge >>= λ fits. Ok (layout_of layout.names (layout.statements ++ record { line = line; statement = it } ∷ []) (layout.size + size_of it))) >>= λ one. layout_with_all line one these)
    ≡ cond unaligned (Some Unaligned) (cond (nat_lt IMAGE_ROOM (layout.size + sum_by size_of (it ∷ these))) (Some TooLarge) None)
more_by line layout it these of_words true large of e f others = refl
more_by line layout it these of_words false true of e f others =
    let over = ltb-true _ _ f in
    let split : sum_by size_of (it ∷ these) ≡ size_of it + sum_by size_of these = sum_by-cons size_of it these in
    let more : nat_lt IMAGE_ROOM (layout.size + sum_by size_of (it ∷ these)) ≡ true = lt-ltb _ _ (omega (arith, split)) in
    rw more refl
more_by line layout it these of_words false false of e f others =
    let next = layout_of layout.names (layout.statements ++ record { line = line; statement = it } ∷ []) (layout.size + size_of it) in
    let split : sum_by size_of (it ∷ these) ≡ size_of it + sum_by size_of these = sum_by-cons size_of it these in
    let total : next.size + sum_by size_of these ≡ layout.size + sum_by size_of (it ∷ these) = omega (arith, split) in
    others next refl (ltb-false _ _ f) (λ w. aligned of_words (layout.size) (size_of it) w e (of.whole w))
    ∙ ap (λ (n : ℕ). cond (nat_lt IMAGE_ROOM n) (Some TooLarge) None) total
  where
    aligned : (of_words : Bool) (size more : ℕ) → of_words ≡ true → of_words && not (size % 4 == 0) ≡ false → more % 4 ≡ 0 → (size + more) % 4 ≡ 0
    aligned false size more w e h = absurd cc
    aligned true size more w e h = let here : size % 4 ≡ 0 = eqb-true _ _ (not-false (size % 4 == 0) e) in omega arith

even : (of_words : Bool) (size : ℕ) → (of_words ≡ true → size % 4 ≡ 0) → of_words && not (size % 4 == 0) ≡ false
even false size h = refl
even true size h = let e : (size % 4 == 0) ≡ true = eq-eqb _ _ (h refl) in rw e refl

rest_placed : (line : ℕ) (of_words : Bool) (these : List Statement) (layout : LayoutSoFar) → AreOf of_words these → layout.size ≤ IMAGE_ROOM → (of_words ≡ true → layout.size % 4 ≡ 0)
    → result_err (layout_with_all line layout these) ≡ cond (nat_lt IMAGE_ROOM (layout.size + sum_by size_of these)) (Some TooLarge) None
unfolding layout_with_all layout_with_statement
rest_placed line of_words [] layout are le h = let e : nat_lt IMAGE_ROOM (layout.size + 0) ≡ false = le-ltb _ _ (omega arith) in rw e refl
rest_placed line of_words (it ∷ these) layout are le h =
    ap (λ (w : Bool). result_err ((refusal (w && not (layout.size % 4 == 0)) Unaligned >>= λ aligned. refusal (nat_lt IMAGE_ROOM (layout.size + size_of it)) TooLarge >>= λ fits. Ok (layout_of layout.names (layout.statements ++ record { line = line; statement = it } ∷ []) (layout.size + size_of it))) >>= λ one. layout_with_all line one these)) are.0.lays
    ∙ more_by line layout it these of_words (of_words && not (layout.size % 4 == 0)) (nat_lt IMAGE_ROOM (layout.size + size_of it)) are.0 refl refl (λ next e small w. rest_placed line of_words these next are.1 small w)
    ∙ ap (λ (b : Bool). cond b (Some Unaligned) (cond (nat_lt IMAGE_ROOM (layout.size + sum_by size_of (it ∷ these))) (Some TooLarge) None)) (even of_words layout.size h)

all_placed : (line : ℕ) (of_words : Bool) (it : Statement) (these : List Statement) (layout : LayoutSoFar) → AreOf of_words (it ∷ these)
    → result_err (layout_with_all line layout (it ∷ these)) ≡ room_kind layout.size of_words (sum_by size_of (it ∷ these))
unfolding layout_with_all layout_with_statement
all_placed line of_words it these layout are =
    ap (λ (w : Bool). result_err ((refusal (w && not (layout.size % 4 == 0)) Unaligned >>= λ aligned. refusal (nat_lt IMAGE_ROOM (layout.size + size_of it)) TooLarge >>= λ fits. Ok (layout_of layout.names (layout.statements ++ record { line = line; statement = it } ∷ []) (layout.size + size_of it))) >>= λ one. layout_with_all line one these)) are.0.lays
    ∙ more_by line layout it these of_words (of_words && not (layout.size % 4 == 0)) (nat_lt IMAGE_ROOM (layout.size + size_of it)) are.0 refl refl (λ next e small w. rest_placed line of_words these next are.1 small w)

-- ---- what a statement lays is of one kind

from_ok : {A : Type 0} (P : List Statement → Type 0) (r : Result A AsmKind) (make : A → List Statement) (these : List Statement) → ((x : A) → P (make x)) → (r >>= λ x. Ok (make x)) ≡ Ok these → P these
from_ok P (Ok x) make these h e = subst P (ap statements_or_none e) (h x)
from_ok P (Err kind) make these h e = absurd cc

word_is : (it : Statement) → lays_words it ≡ true → size_of it ≡ 4 → IsOf true it
word_is it e size = record { lays = e; whole = λ w. rw size refl }

byte_is : (it : Statement) → lays_words it ≡ false → IsOf false it
byte_is it e = record { lays = e; whole = λ w. absurd cc }

-- there is a statement, and each is of this kind
record AreAllOf (of_words : Bool) (these : List Statement) : Type 0 where
  some : 0 < length these
  each : AreOf of_words these

one_word : (it : Statement) → lays_words it ≡ true → size_of it % 4 ≡ 0 → AreAllOf true (it ∷ [])
one_word it e size = record { some = omega arith; each = (record { lays = e; whole = λ w. size }, tt) }

li_words : (short : Bool) (rd word : ℕ) → AreAllOf true (map (λ inst. statements.Inst inst) (cond short (insts.OpImm Addi rd 0 (low_part word) ∷ []) (two_instructions rd word)))
li_words true rd word = record { some = omega arith; each = (word_is _ refl refl, tt) }
li_words false rd word = record { some = omega arith; each = (word_is _ refl refl, (word_is _ refl refl, tt)) }

pushed : (of_words : Bool) (these : List Statement) (it : Statement) → AreOf of_words these → IsOf of_words it → AreOf of_words (these ++ it ∷ [])
pushed of_words [] it are of = (of, tt)
pushed of_words (first ∷ these) it are of = (are.0, pushed of_words these it are.1 of)

abbrev AreGathered : Bool → ℕ → Result (List Statement) AsmKind → Type 0
AreGathered of_words count (Ok these) = AreOf of_words these × (length these ≡ count)
AreGathered of_words count (Err kind) = Unit {0}

gathered_are : (of_words : Bool) (count : ℕ) (so_far : Result (List Statement) AsmKind) (value : Result Statement AsmKind) → AreGathered of_words count so_far → ((it : Statement) → value ≡ Ok it → IsOf of_words it) → AreGathered of_words (count + 1) (with_judgment so_far value)
unfolding with_judgment pair_judgment
gathered_are of_words count (Ok these) (Ok it) are h = (pushed of_words these it are.0 (h it refl), omega (arith, are.1, length-append these (it ∷ [])))
gathered_are of_words count (Ok these) (Err kind) are h = tt
gathered_are of_words count (Err kind) (Ok it) are h = tt
gathered_are of_words count (Err kind) (Err other) are h = tt

all_are : (of_words : Bool) (judge : List ℕ → Result Statement AsmKind) (texts : List (List ℕ)) (count : ℕ) (so_far : Result (List Statement) AsmKind) → ((text : List ℕ) (it : Statement) → judge text ≡ Ok it → IsOf of_words it) → AreGathered of_words count so_far
    → AreGathered of_words (count + length texts) (fold with_judgment so_far (map judge texts))
all_are of_words judge [] count so_far h are = subst (λ (n : ℕ). AreGathered of_words n so_far) (omega arith) are
all_are of_words judge (text ∷ texts) count so_far h are =
    let more = all_are of_words judge texts (count + 1) (with_judgment so_far (judge text)) h (gathered_are of_words count so_far (judge text) are (h text)) in
    let same : count + 1 + length texts ≡ count + length (text ∷ texts) = omega arith in
    subst (λ (n : ℕ). AreGathered of_words n (fold with_judgment so_far (map judge (text ∷ texts)))) same more

listed_are : (of_words : Bool) (judge : List ℕ → Result Statement AsmKind) (operands : List ℕ) (these : List Statement) → ((text : List ℕ) (it : Statement) → judge text ≡ Ok it → IsOf of_words it) → judgment_of_list (map judge (pieces operands)) ≡ Ok these → AreAllOf of_words these
unfolding judgment_of_list
listed_are of_words judge operands these h e =
    let are = subst (AreGathered of_words (0 + length (pieces operands))) e (all_are of_words judge (pieces operands) 0 (Ok []) h (tt, refl)) in
    record { some = omega (arith, are.1, some_pieces operands); each = are.0 }

value_named_is : (text : List ℕ) (meant : Option Symbol) → IsOf true (word_statement text meant)
value_named_is text (Some (Number n)) = word_is _ refl refl
value_named_is text (Some (Label address)) = word_is _ refl refl
value_named_is text None = word_is _ refl refl

in_one : {A : Type 0} (P : Statement → Type 0) (r : Result A AsmKind) (make : A → Statement) (it : Statement) → ((x : A) → P (make x)) → (r >>= λ x. Ok (make x)) ≡ Ok it → P it
in_one P (Ok x) make it h e = subst P (ap (λ (r : Result Statement AsmKind). statement_or it r) e) (h x)
  where
    statement_or : Statement → Result Statement AsmKind → Statement
    statement_or other (Ok it) = it
    statement_or other (Err kind) = other
in_one P (Err kind) make it h e = absurd cc

word_item_by : (whole named : Bool) (text : List ℕ) (meant : Option Symbol) (found : Option ℤ) (make : ℤ → ℕ) (it : Statement)
    → (refusal (not whole) Operands >>= λ so. cond named (Ok (word_statement text meant)) (ok_or found BadNumber >>= λ n. Ok (statements.Word (make n)))) ≡ Ok it → IsOf true it
word_item_by false named text meant found make it e = absurd cc
word_item_by true true text meant found make it e = in_one (IsOf true) (refusal false Operands) (λ x. word_statement text meant) it (λ x. value_named_is text meant) e
word_item_by true false text meant found make it e = in_one (IsOf true) (ok_or found BadNumber) (λ n. statements.Word (make n)) it (λ n. word_is _ refl refl) e

word_item : (names : Names) (text : List ℕ) (it : Statement) → word_value names text ≡ Ok it → IsOf true it
unfolding word_value
word_item names text it e = word_item_by (is_token text) (is_name text) text (names text) (literal_of text) wrapped_word it e

byte_item : (names : Names) (text : List ℕ) (it : Statement) → byte_value names text ≡ Ok it → IsOf false it
unfolding byte_value
byte_item names text it e = in_one (IsOf false) (number_in_range LEAST_BYTE GREATEST_BYTE (number names text)) (λ n. statements.Byte (byte_of n)) it (λ n. byte_is _ refl) e

module _ (names : Names) (operands : List ℕ) (these : List Statement) where
  statements_are : (mnemonic : Mnemonic) → statements_of mnemonic names operands ≡ Ok these → AreAllOf (is_of_words mnemonic) these
  unfolding statements_of
  statements_are (mnemonics.Plain inst) e = from_ok (AreAllOf true) (no_piece operands) (λ x. statements.Inst inst ∷ []) these (λ x. one_word _ refl refl) e
  statements_are mnemonics.Lui e = from_ok (AreAllOf true) (register_upper names operands) (λ it. statements.Inst (insts.Lui it.0 it.1) ∷ []) these (λ x. one_word _ refl refl) e
  statements_are mnemonics.Auipc e = from_ok (AreAllOf true) (register_upper names operands) (λ it. statements.Inst (insts.Auipc it.0 it.1) ∷ []) these (λ x. one_word _ refl refl) e
  statements_are mnemonics.Jalr e = from_ok (AreAllOf true) (register_memory names operands) (λ it. statements.Inst (insts.Jalr it.0 it.2 it.1) ∷ []) these (λ x. one_word _ refl refl) e
  statements_are (mnemonics.Load op) e = from_ok (AreAllOf true) (register_memory names operands) (λ it. statements.Inst (insts.Load op it.0 it.2 it.1) ∷ []) these (λ x. one_word _ refl refl) e
  statements_are (mnemonics.Store op) e = from_ok (AreAllOf true) (register_memory names operands) (λ it. statements.Inst (insts.Store op it.2 it.0 it.1) ∷ []) these (λ x. one_word _ refl refl) e
  statements_are (mnemonics.OpImm op) e = from_ok (AreAllOf true) (registers_immediate names op operands) (λ it. statements.Inst (insts.OpImm op it.0 it.1 it.2) ∷ []) these (λ x. one_word _ refl refl) e
  statements_are (mnemonics.Op op) e = from_ok (AreAllOf true) (three_registers operands) (λ it. statements.Inst (insts.Op op it.0 it.1 it.2) ∷ []) these (λ x. one_word _ refl refl) e
  statements_are mnemonics.Mv e = from_ok (AreAllOf true) (two_registers operands) (λ it. statements.Inst (insts.OpImm Addi it.0 it.1 (pos 0)) ∷ []) these (λ x. one_word _ refl refl) e
  statements_are mnemonics.Li e = from_ok (AreAllOf true) (register_word names operands) (λ it. map (λ inst. statements.Inst inst) (load_word it.0 it.1)) these (λ x. li_words (is_short x.1) x.0 x.1) e
  statements_are mnemonics.La e = from_ok (AreAllOf true) (register_label operands) (λ it. statements.La it.0 it.1 ∷ []) these (λ x. one_word _ refl refl) e
  statements_are mnemonics.Jal e = from_ok (AreAllOf true) (register_label operands) (λ it. statements.Jal it.0 it.1 ∷ []) these (λ x. one_word _ refl refl) e
  statements_are (mnemonics.Jump rd) e = from_ok (AreAllOf true) (one_label operands) (λ it. statements.Jal rd it ∷ []) these (λ x. one_word _ refl refl) e
  statements_are (mnemonics.Branch op) e = from_ok (AreAllOf true) (registers_label operands) (λ it. statements.Branch op it.0 it.1 it.2 ∷ []) these (λ x. one_word _ refl refl) e
  statements_are mnemonics.Word e = listed_are true (word_value names) operands these (word_item names) e
  statements_are mnemonics.Byte e = listed_are false (byte_value names) operands these (byte_item names) e
  statements_are mnemonics.Zero e = from_ok (AreAllOf false) (zero_count names operands) (λ it. statements.Zero it ∷ []) these (λ x. record { some = omega arith; each = (byte_is _ refl, tt) }) e

-- ---- a statement

placed_so : (line : ℕ) (layout : LayoutSoFar) (of_words : Bool) (these : List Statement) → AreAllOf of_words these → result_err (layout_with_all line layout these) ≡ room_kind layout.size of_words (sum_by size_of these)
placed_so line layout of_words [] are = absurd (omega (arith, are.some))
placed_so line layout of_words (it ∷ these) are = all_placed line of_words it these layout are.each

lay_room : (line : ℕ) (layout : LayoutSoFar) (mnemonic : Mnemonic) (operands : List ℕ) (r : Result (List Statement) AsmKind) → statements_of mnemonic layout.names operands ≡ r
    → result_err (r >>= λ these. layout_with_all line layout these) ≡ option_or (result_err r) (room_kind layout.size (is_of_words mnemonic) (sum_by size_of (statements_or_none r)))
lay_room line layout mnemonic operands (Err kind) e = refl
lay_room line layout mnemonic operands (Ok these) e = placed_so line layout (is_of_words mnemonic) these (statements_are layout.names operands these mnemonic e)

lay_by : (line : ℕ) (layout : LayoutSoFar) (found : Option Mnemonic) (operands : List ℕ)
    → result_err (ok_or found UnknownWord >>= λ mnemonic. statements_of mnemonic layout.names operands >>= λ these. layout_with_all line layout these)
    ≡ cond (is_none found) (Some UnknownWord) (option_or (operand_kind layout.names false found operands) (place_kind layout.names layout.size false found operands))
lay_by line layout None operands = refl
lay_by line layout (Some mnemonic) operands =
    lay_room line layout mnemonic operands (statements_of mnemonic layout.names operands) refl
    ∙ ap (λ (kind : Option AsmKind). option_or kind (room_kind layout.size (is_of_words mnemonic) (sum_by size_of (statements_or_none (statements_of mnemonic layout.names operands))))) (operands_judged mnemonic layout.names operands)

or_then_none : (kind : Option AsmKind) → kind ≡ option_or kind None
or_then_none None = refl
or_then_none (Some kind) = refl

equ_then : (taken : Bool) (kind : Option AsmKind) → cond taken (Some NameTaken) kind ≡ cond (true && taken) (Some NameTaken) (option_or kind None)
equ_then true kind = refl
equ_then false kind = or_then_none kind

module _ (line : ℕ) (layout : LayoutSoFar) (word operands : List ℕ) where
  statement_by : (colon equ_word : Bool)
      → result_err (refusal colon UnknownWord >>= λ so. cond equ_word (layout_with_number layout operands) (layout_with_statements line layout word operands))
      ≡ cond colon (Some UnknownWord) (cond (equ_word && is_taken layout.names (without_outer_blanks (cut_parts is_comma operands).0)) (Some NameTaken) (cond (not equ_word && is_none (mnemonic_of word)) (Some UnknownWord)
      (option_or (operand_kind layout.names equ_word (mnemonic_of word) operands) (place_kind layout.names layout.size equ_word (mnemonic_of word) operands))))
  unfolding layout_with_statements
  statement_by true equ_word = refl
  statement_by false true =
      equ_fault layout operands ∙ equ_then (is_taken layout.names (without_outer_blanks (cut_parts is_comma operands).0)) (operands_fault layout.names (a_name ∷ any_number ∷ []) (operand_texts operands))
  statement_by false false = lay_by line layout (mnemonic_of word) operands

-- the first fault of a statement, in the order of its steps
abbrev in_steps : Names → ℕ → List ℕ → Option AsmKind
in_steps names size it = cond (has_colon it) (Some UnknownWord) (cond (takes_name names it) (Some NameTaken) (cond (is_strange it) (Some UnknownWord) (statement_kind names size it)))

nothing_equ : is_equ [] ≡ false
unfolding cut_parts
nothing_equ = refl

statement_judged : (line : ℕ) (layout : LayoutSoFar) (it : List ℕ) → result_err (layout_with_statement_text line layout it) ≡ in_steps layout.names layout.size it
unfolding layout_with_statement_text
statement_judged line layout [] = rw nothing_equ refl
statement_judged line layout (byte ∷ bytes) =
    statement_by line layout (statement_word (byte ∷ bytes)) (statement_operands (byte ∷ bytes)) (has_colon (byte ∷ bytes)) (is_equ (byte ∷ bytes))

-- ---- a line

in_order : (colon takes strange : Bool) (kind : Option AsmKind)
    → cond colon (Some UnknownWord) (cond takes (Some NameTaken) (cond strange (Some UnknownWord) kind))
    ≡ cond (true && (false || (not colon && takes))) (Some NameTaken) (cond (false || (colon || strange)) (Some UnknownWord) kind)
in_order true takes strange kind = refl
in_order false true strange kind = refl
in_order false false true kind = refl
in_order false false false kind = refl

statement_in_order : (line : ℕ) (layout : LayoutSoFar) (it : List ℕ) → result_err (layout_with_statement_text line layout it)
    ≡ cond (true && (false || (not (has_colon it) && takes_name layout.names it))) (Some NameTaken) (cond (false || (has_colon it || is_strange it)) (Some UnknownWord) (statement_kind layout.names layout.size it))
statement_in_order line layout it = statement_judged line layout it ∙ in_order (has_colon it) (takes_name layout.names it) (is_strange it) (statement_kind layout.names layout.size it)

module _ (line : ℕ) (layout : LayoutSoFar) (label it : List ℕ) where
  labelled_by : (named taken : Bool) → is_taken layout.names label ≡ taken
      → result_err (refusal (not named) UnknownWord >>= λ so. refusal taken NameTaken >>= λ free. layout_with_statement_text line (layout_of (with_name layout.names label (Label (PRIVATE_START + layout.size))) layout.statements layout.size) it)
      ≡ cond (not (not named) && (taken || (not (has_colon it) && takes_name (names_with_label layout (Some label)) it))) (Some NameTaken)
      (cond (not named || (has_colon it || is_strange it)) (Some UnknownWord) (statement_kind (names_with_label layout (Some label)) layout.size it))
  labelled_by false taken e = refl
  labelled_by true true e = refl
  labelled_by true false e = statement_in_order line (layout_of (with_name layout.names label (Label (PRIVATE_START + layout.size))) layout.statements layout.size) it

  flat : (taken : Bool) → ((refusal taken NameTaken >>= λ free. Ok (layout_of (with_name layout.names label (Label (PRIVATE_START + layout.size))) layout.statements layout.size)) >>= λ defined. layout_with_statement_text line defined it)
      ≡ (refusal taken NameTaken >>= λ free. layout_with_statement_text line (layout_of (with_name layout.names label (Label (PRIVATE_START + layout.size))) layout.statements layout.size) it)
  flat true = refl
  flat false = refl

labelled_judged : (line : ℕ) (layout : LayoutSoFar) (parts : List ℕ × Option (List ℕ)) → result_err (layout_with_labelled_statement line layout parts.0 parts.1) ≡ labelled_line_fault layout (label_part parts) (statement_part parts)
unfolding layout_with_name
labelled_judged line layout (front, None) = statement_in_order line layout (without_outer_blanks front)
labelled_judged line layout (front, Some rest) =
    ap (λ (r : Result LayoutSoFar AsmKind). result_err (refusal (not (is_name (without_outer_blanks front))) UnknownWord >>= λ so. r)) (flat line layout (without_outer_blanks front) (without_outer_blanks rest) (is_taken layout.names (without_outer_blanks front)))
    ∙ labelled_by line layout (without_outer_blanks front) (without_outer_blanks rest) (is_name (without_outer_blanks front)) (is_taken layout.names (without_outer_blanks front)) refl

plain_by : (plain : Bool) (r : Result LayoutSoFar AsmKind) → result_err (refusal (not plain) BadByte >>= λ so. r) ≡ cond (not plain) (Some BadByte) (result_err r)
plain_by true r = refl
plain_by false r = refl

pub lines_judged : (number : ℕ) (layout : LayoutSoFar) (line : List ℕ) → result_err (layout_with_line number layout line) ≡ line_fault layout line
unfolding layout_with_line line_fault label_of
lines_judged number layout line =
    plain_by (list_all is_plain (before_comment line)) (layout_with_labelled_statement number layout (cut_parts is_colon (before_comment line)).0 (cut_parts is_colon (before_comment line)).1)
    ∙ ap (λ (kind : Option AsmKind). cond (not (list_all is_plain (before_comment line))) (Some BadByte) kind) (labelled_judged number layout (cut_parts is_colon (before_comment line)))
