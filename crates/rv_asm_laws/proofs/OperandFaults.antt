-- The faults of operands, as the tests tell them.
use Rattle.std.proofs.Common.{◌≡◌, ℕ, ◌<◌, Bool, true, false, cond, not, eqb, List, [], ◌∷◌, length, map, replicate, Option, Some, None, Result, Ok, Err, refl, sym, ap, ◌∙◌, arith}
use Rattle.std.specs.Prelude.{◌||◌, ◌&&◌, is_none, max, fold, ℤ, pos, int_le, ok_or}
use Rattle.std.specs.Result.{result_err}
use Rattle.std.specs.List.{slice_split}
use Rattle.std.proofs.lemmas.Bool.{ne_eqb, eq-eqb}
use Rattle.std.proofs.lemmas.List.{length-map, length-replicate}
use Rattle.std.proofs.lemmas.List.Splits.{length-slice_split}
use Rattle.rv_model.specs.declared.limits.TheConstants.{GREATEST_IMMEDIATE, GREATEST_UPPER, LEAST_IMMEDIATE, IMAGE_ROOM}
use Rattle.rv_asm.specs.declared.statement.TheConstants.{GREATEST_BYTE, LEAST_BYTE}
use Rattle.rv_model.specs.declared.inst.ImmOp.{ImmOp}
use Rattle.rv_asm.specs.declared.fault.AsmKind.{AsmKind}
use Rattle.rv_asm.specs.declared.fault.AsmKind.TheVariants.{Operands, BadRegister, BadNumber}
use Rattle.rv_asm.specs.declared.symbols.Symbol.{Symbol}
use Rattle.rv_asm.specs.declared.symbols.Symbol.TheVariants.{Label, Number}
use Rattle.rv_asm.specs.declared.mnemonic.Mnemonic.{Mnemonic}
use Rattle.rv_asm.specs.declared.mnemonic.Mnemonic.TheVariants as mnemonics
use Rattle.rv_asm.specs.declared.statement.Statement.{Statement}
use Rattle.ce_text.specs.Line.{cut_parts, without_front_blanks, without_end_blanks, without_outer_blanks}
use Rattle.rv_asm.specs.Line.{pieces, is_comma, is_token, is_opening, is_closing}
use Rattle.ce_text.specs.Name as text
use Rattle.rv_asm.specs.Name.{is_name}
use Rattle.rv_asm.specs.Register.{named_register}
use Rattle.rv_asm.specs.Literal.{literal_of}
use Rattle.rv_asm.specs.Names.{Names}
use Rattle.rv_asm.specs.Faults.{◌>>=◌, refusal, pair_judgment, with_judgment, judgment_of_list}
use Rattle.rv_asm.specs.Operand.{single_text, text_pair, text_triple, one_piece, two_pieces, three_pieces, no_piece, register, number, number_judgment, number_in_range, name_piece, twelve_bits, is_closed, bracket_operand, memory, least_immediate, greatest_immediate}
use Rattle.rv_asm.specs.Statements.{register_upper, register_memory, immediate, registers_immediate, three_registers, two_registers, register_word, register_label, registers_label, one_label, word_statement, word_value, byte_value, zero_count, statements_of}
use Rattle.rv_asm_laws.specs.Forms.{Form, a_register, any_number, a_number, a_memory, a_name, a_value, symbol_number, token_number, is_no_number, is_unknown, is_outside, is_bracketed, base_part, is_malformed, lacks_register, lacks_number, lacks_name, first_kind, has_operand, operands_fault, operand_texts, statement_fault}
use Rattle.rv_asm_laws.proofs.FirstKinds.{earliest_kind, first_kind-joined, or_assoc, or_false}

-- ---- one operand

-- the fault of an operand in its place
unfoldable pub operand_fault : Names → Form → List ℕ → Option AsmKind
operand_fault names form text = first_kind (is_malformed form text) (lacks_register form text) (lacks_number names form text) (lacks_name names form text)

register_by : (whole : Bool) (found : Option ℕ) → result_err (refusal (not whole) Operands >>= λ it. ok_or found BadRegister) ≡ first_kind (not whole) (is_none found) false false
register_by true None = refl
register_by true (Some n) = refl
register_by false found = refl

register_fault : (names : Names) (text : List ℕ) → result_err (register text) ≡ operand_fault names a_register text
unfolding register operand_fault is_malformed lacks_register lacks_number lacks_name
register_fault names text = register_by (is_token text) (named_register text)

number_by : (whole named : Bool) (meant : Option Symbol) (written : Option ℤ)
    → result_err (refusal (not whole) Operands >>= λ it. cond named (number_judgment meant) (ok_or written BadNumber))
    ≡ first_kind (not whole) false (not named && is_none written) (named && is_none (symbol_number meant))
number_by false named meant written = refl
number_by true true None written = refl
number_by true true (Some (Number n)) written = refl
number_by true true (Some (Label address)) written = refl
number_by true false meant None = refl
number_by true false meant (Some n) = refl

pub number_fault : (names : Names) (text : List ℕ) → result_err (number names text) ≡ operand_fault names any_number text
unfolding number operand_fault is_malformed lacks_register lacks_number lacks_name
number_fault names text = number_by (is_token text) (is_name text) (names text) (literal_of text)

inside_by : (inside : Bool) (n : ℤ) → result_err (cond {A = Result ℤ AsmKind} inside (Ok n) (Err BadNumber)) ≡ first_kind false false (not inside) false
inside_by true n = refl
inside_by false n = refl

ranged_by : (least greatest : ℤ) (whole named : Bool) (meant : Option Symbol) (written : Option ℤ)
    → result_err ((refusal (not whole) Operands >>= λ it. cond named (number_judgment meant) (ok_or written BadNumber)) >>= λ n. cond (int_le least n && int_le n greatest) (Ok n) (Err BadNumber))
    ≡ first_kind (not whole) false ((not named && is_none written) || is_outside least greatest (cond named (symbol_number meant) written)) (named && is_none (symbol_number meant))
ranged_by least greatest false named meant written = refl
ranged_by least greatest true true None written = refl
ranged_by least greatest true true (Some (Number n)) written = inside_by (int_le least n && int_le n greatest) n
ranged_by least greatest true true (Some (Label address)) written = refl
ranged_by least greatest true false meant None = refl
ranged_by least greatest true false meant (Some n) = inside_by (int_le least n && int_le n greatest) n

-- a number in a range
in_range : (names : Names) (least greatest : ℤ) (text : List ℕ) → result_err (number_in_range least greatest (number names text))
    ≡ first_kind (not (is_token text)) false (is_no_number text || is_outside least greatest (token_number names text)) (is_unknown names text)
unfolding number_in_range number
in_range names least greatest text = ranged_by least greatest (is_token text) (is_name text) (names text) (literal_of text)

ranged_fault : (names : Names) (least greatest : ℤ) (text : List ℕ) → result_err (number_in_range least greatest (number names text)) ≡ operand_fault names (a_number least greatest) text
unfolding operand_fault is_malformed lacks_register lacks_number lacks_name
ranged_fault names least greatest text = in_range names least greatest text

name_by : (named : Bool) → result_err (refusal (not named) Operands) ≡ first_kind (not named) false false false
name_by true = refl
name_by false = refl

pub name_fault : (names : Names) (text : List ℕ) → result_err (name_piece text) ≡ operand_fault names a_name text
unfolding name_piece operand_fault is_malformed lacks_register lacks_number lacks_name
name_fault names text = name_by (is_name text)

value_by : (whole named : Bool) (text : List ℕ) (meant : Option Symbol) (written : Option ℤ) (make : ℤ → Statement)
    → result_err (refusal (not whole) Operands >>= λ it. cond named (Ok (word_statement text meant)) (ok_or written BadNumber >>= λ n. Ok (make n)))
    ≡ first_kind (not whole) false (not named && is_none written) false
value_by false named text meant written make = refl
value_by true true text meant written make = refl
value_by true false text meant None make = refl
value_by true false text meant (Some n) make = refl

value_fault : (names : Names) (text : List ℕ) → result_err (word_value names text) ≡ operand_fault names a_value text
unfolding word_value operand_fault is_malformed lacks_register lacks_number lacks_name
value_fault names text = value_by (is_token text) (is_name text) text (names text) (literal_of text) _

-- ---- several

-- a value that is only changed has the same fault
err_ok : {A B : Type 0} (r : Result A AsmKind) (make : A → B) → result_err (r >>= λ x. Ok (make x)) ≡ result_err r
err_ok (Ok x) make = refl
err_ok (Err kind) make = refl

pub err_both : {A B : Type 0} (first : Result A AsmKind) (second : Result B AsmKind) → result_err (pair_judgment first second) ≡ earliest_kind (result_err first) (result_err second)
unfolding pair_judgment
err_both (Ok first) (Ok second) = refl
err_both (Ok first) (Err kind) = refl
err_both (Err kind) (Ok second) = refl
err_both (Err first) (Err second) = refl

byte_fault : (names : Names) (text : List ℕ) → result_err (byte_value names text) ≡ operand_fault names (a_number LEAST_BYTE GREATEST_BYTE) text
unfolding byte_value
byte_fault names text = err_ok (number_in_range LEAST_BYTE GREATEST_BYTE (number names text)) _ ∙ ranged_fault names LEAST_BYTE GREATEST_BYTE text

-- ---- `n(rs1)`

not_both : (offset base : Bool) → not offset || not base ≡ not (true && offset && base)
not_both true base = refl
not_both false base = refl

bools : (offset base none number name : Bool) → earliest_kind (first_kind (not offset) false number name) (first_kind (not base) none false false)
    ≡ first_kind (not (true && offset && base)) none number name
bools offset base none number name =
    first_kind-joined (not offset) false number name (not base) none false false ∙ rw (not_both offset base, or_false number, or_false name) refl

brackets_by : (closes : Bool) (names : Names) (offset base : List ℕ)
    → result_err (refusal (not closes) Operands >>= λ it. pair_judgment (twelve_bits names offset) (register base))
    ≡ first_kind (not (closes && is_token offset && is_token base)) (is_none (named_register base)) (is_no_number offset || is_outside LEAST_IMMEDIATE GREATEST_IMMEDIATE (token_number names offset)) (is_unknown names offset)
unfolding twelve_bits register
brackets_by false names offset base = refl
brackets_by true names offset base =
    err_both (number_in_range LEAST_IMMEDIATE GREATEST_IMMEDIATE (number names offset)) (refusal (not (is_token base)) Operands >>= λ it. ok_or (named_register base) BadRegister)
    ∙ rw (in_range names LEAST_IMMEDIATE GREATEST_IMMEDIATE offset, register_by (is_token base) (named_register base))
    (bools (is_token offset) (is_token base) (is_none (named_register base)) (is_no_number offset || is_outside LEAST_IMMEDIATE GREATEST_IMMEDIATE (token_number names offset)) (is_unknown names offset))

memory_by : (names : Names) (front : List ℕ) (rest : Option (List ℕ)) → result_err (bracket_operand names front rest)
    ≡ first_kind (not (is_bracketed rest && is_token (without_outer_blanks front) && is_token (base_part rest))) (is_none (named_register (base_part rest)))
    (is_no_number (without_outer_blanks front) || is_outside LEAST_IMMEDIATE GREATEST_IMMEDIATE (token_number names (without_outer_blanks front))) (is_unknown names (without_outer_blanks front))
memory_by names front None = refl
memory_by names front (Some behind) = brackets_by (is_closed (cut_parts is_closing behind).1) names (without_outer_blanks front) (without_outer_blanks (cut_parts is_closing behind).0)

memory_fault : (names : Names) (text : List ℕ) → result_err (memory names text) ≡ operand_fault names a_memory text
unfolding memory operand_fault is_malformed lacks_register lacks_number lacks_name
memory_fault names text = memory_by names (cut_parts is_opening text).0 (cut_parts is_opening text).1

-- ---- so many operands

pub wrong : (names : Names) (forms : List Form) (texts : List (List ℕ)) → eqb (length texts) (length forms) ≡ false → Some Operands ≡ operands_fault names forms texts
unfolding operands_fault
wrong names forms texts e = rw e refl

joined_one : (names : Names) (form : Form) (text : List ℕ) → operand_fault names form text ≡ operands_fault names (form ∷ []) (text ∷ [])
unfolding operand_fault operands_fault
joined_one names form text =
    sym (rw (or_false (is_malformed form text), or_false (lacks_register form text), or_false (lacks_number names form text), or_false (lacks_name names form text)) refl)

pub joined_two : (names : Names) (f g : Form) (t u : List ℕ) → earliest_kind (operand_fault names f t) (operand_fault names g u) ≡ operands_fault names (f ∷ g ∷ []) (t ∷ u ∷ [])
unfolding operand_fault operands_fault
joined_two names f g t u =
    first_kind-joined (is_malformed f t) (lacks_register f t) (lacks_number names f t) (lacks_name names f t) (is_malformed g u) (lacks_register g u) (lacks_number names g u) (lacks_name names g u)
    ∙ sym (rw (or_false (is_malformed g u), or_false (lacks_register g u), or_false (lacks_number names g u), or_false (lacks_name names g u)) refl)

joined_three : (names : Names) (f g k : Form) (t u v : List ℕ) → earliest_kind (earliest_kind (operand_fault names f t) (operand_fault names g u)) (operand_fault names k v) ≡ operands_fault names (f ∷ g ∷ k ∷ []) (t ∷ u ∷ v ∷ [])
unfolding operand_fault operands_fault
joined_three names f g k t u v =
    ap (λ (first : Option AsmKind). earliest_kind first (first_kind (is_malformed k v) (lacks_register k v) (lacks_number names k v) (lacks_name names k v)))
    (first_kind-joined (is_malformed f t) (lacks_register f t) (lacks_number names f t) (lacks_name names f t) (is_malformed g u) (lacks_register g u) (lacks_number names g u) (lacks_name names g u))
    ∙ first_kind-joined (is_malformed f t || is_malformed g u) (lacks_register f t || lacks_register g u) (lacks_number names f t || lacks_number names g u) (lacks_name names f t || lacks_name names g u)
    (is_malformed k v) (lacks_register k v) (lacks_number names k v) (lacks_name names k v)
    ∙ sym (rw (
      or_false (is_malformed k v),
      or_false (lacks_register k v),
      or_false (lacks_number names k v),
      or_false (lacks_name names k v),
      ← or_assoc (is_malformed f t) (is_malformed g u) (is_malformed k v),
      ← or_assoc (lacks_register f t) (lacks_register g u) (lacks_register k v),
      ← or_assoc (lacks_number names f t) (lacks_number names g u) (lacks_number names k v),
      ← or_assoc (lacks_name names f t) (lacks_name names g u) (lacks_name names k v),
    ) refl)

module _ (names : Names) where
  one_fault : {A C : Type 0} (f : Form) (judge : List ℕ → Result A AsmKind) (make : List ℕ → A → C) → ((t : List ℕ) → result_err (judge t) ≡ operand_fault names f t) → (texts : List (List ℕ))
      → result_err (single_text texts >>= λ text. judge text >>= λ value. Ok (make text value)) ≡ operands_fault names (f ∷ []) texts
  one_fault f judge make h [] = wrong names (f ∷ []) [] refl
  one_fault f judge make h (t ∷ []) = err_ok (judge t) (make t) ∙ h t ∙ joined_one names f t
  one_fault f judge make h (t ∷ u ∷ texts) = wrong names (f ∷ []) (t ∷ u ∷ texts) (ne_eqb _ _ (λ e. absurd (omega arith)))

  two_alone : {A B : Type 0} (f g : Form) (first : List ℕ → Result A AsmKind) (second : List ℕ → Result B AsmKind) → ((t : List ℕ) → result_err (first t) ≡ operand_fault names f t) → ((t : List ℕ) → result_err (second t) ≡ operand_fault names g t)
      → (texts : List (List ℕ)) → result_err (text_pair texts >>= λ parts. pair_judgment (first parts.0) (second parts.1)) ≡ operands_fault names (f ∷ g ∷ []) texts
  two_alone f g first second h k [] = wrong names (f ∷ g ∷ []) [] refl
  two_alone f g first second h k (t ∷ []) = wrong names (f ∷ g ∷ []) (t ∷ []) refl
  two_alone f g first second h k (t ∷ u ∷ []) = err_both (first t) (second u) ∙ rw (h t, k u) (joined_two names f g t u)
  two_alone f g first second h k (t ∷ u ∷ v ∷ texts) = wrong names (f ∷ g ∷ []) (t ∷ u ∷ v ∷ texts) (ne_eqb _ _ (λ e. absurd (omega arith)))

  two_fault : {A B C : Type 0} (f g : Form) (first : List ℕ → Result A AsmKind) (second : List ℕ → Result B AsmKind) (make : List ℕ × List ℕ → A × B → C) → ((t : List ℕ) → result_err (first t) ≡ operand_fault names f t) → ((t : List ℕ) → result_err (second t) ≡ operand_fault names g t)
      → (texts : List (List ℕ)) → result_err (text_pair texts >>= λ parts. pair_judgment (first parts.0) (second parts.1) >>= λ values. Ok (make parts values)) ≡ operands_fault names (f ∷ g ∷ []) texts
  two_fault f g first second make h k [] = wrong names (f ∷ g ∷ []) [] refl
  two_fault f g first second make h k (t ∷ []) = wrong names (f ∷ g ∷ []) (t ∷ []) refl
  two_fault f g first second make h k (t ∷ u ∷ []) = err_ok (pair_judgment (first t) (second u)) (make (t, u)) ∙ err_both (first t) (second u) ∙ rw (h t, k u) (joined_two names f g t u)
  two_fault f g first second make h k (t ∷ u ∷ v ∷ texts) = wrong names (f ∷ g ∷ []) (t ∷ u ∷ v ∷ texts) (ne_eqb _ _ (λ e. absurd (omega arith)))

  three_fault : {A B C D : Type 0} (f g k : Form) (first : List ℕ → Result A AsmKind) (second : List ℕ → Result B AsmKind) (third : List ℕ → Result C AsmKind) (make : List ℕ × List ℕ × List ℕ → (A × B) × C → D)
      → ((t : List ℕ) → result_err (first t) ≡ operand_fault names f t) → ((t : List ℕ) → result_err (second t) ≡ operand_fault names g t) → ((t : List ℕ) → result_err (third t) ≡ operand_fault names k t)
      → (texts : List (List ℕ)) → result_err (text_triple texts >>= λ parts. pair_judgment (pair_judgment (first parts.0) (second parts.1)) (third parts.2) >>= λ values. Ok (make parts values)) ≡ operands_fault names (f ∷ g ∷ k ∷ []) texts
  three_fault f g k first second third make h1 h2 h3 [] = wrong names (f ∷ g ∷ k ∷ []) [] refl
  three_fault f g k first second third make h1 h2 h3 (t ∷ []) = wrong names (f ∷ g ∷ k ∷ []) (t ∷ []) refl
  three_fault f g k first second third make h1 h2 h3 (t ∷ u ∷ []) = wrong names (f ∷ g ∷ k ∷ []) (t ∷ u ∷ []) refl
  three_fault f g k first second third make h1 h2 h3 (t ∷ u ∷ v ∷ []) =
      err_ok (pair_judgment (pair_judgment (first t) (second u)) (third v)) (make (t, u, v)) ∙ err_both (pair_judgment (first t) (second u)) (third v)
      ∙ ap (λ (it : Option AsmKind). earliest_kind it (result_err (third v))) (err_both (first t) (second u))
      ∙ rw (h1 t, h2 u, h3 v) (joined_three names f g k t u v)
  three_fault f g k first second third make h1 h2 h3 (t ∷ u ∷ v ∷ w ∷ texts) = wrong names (f ∷ g ∷ k ∷ []) (t ∷ u ∷ v ∷ w ∷ texts) (ne_eqb _ _ (λ e. absurd (omega arith)))

  -- any number of operands
  all_faults : {A : Type 0} (f : Form) (judge : List ℕ → Result A AsmKind) → ((t : List ℕ) → result_err (judge t) ≡ operand_fault names f t) → (texts : List (List ℕ)) (so_far : Result (List A) AsmKind) (a b c d : Bool)
      → result_err so_far ≡ first_kind a b c d
      → result_err (fold with_judgment so_far (map judge texts))
      ≡ first_kind (a || has_operand is_malformed (replicate (length texts) f) texts) (b || has_operand lacks_register (replicate (length texts) f) texts) (c || has_operand (lacks_number names) (replicate (length texts) f) texts) (d || has_operand (lacks_name names) (replicate (length texts) f) texts)
  unfolding with_judgment operand_fault
  all_faults f judge h [] so_far a b c d e = e ∙ sym (rw (or_false a, or_false b, or_false c, or_false d) refl)
  all_faults f judge h (t ∷ texts) so_far a b c d e =
      let here = err_ok (pair_judgment so_far (judge t)) _ ∙ err_both so_far (judge t) ∙ rw (e, h t) (first_kind-joined a b c d (is_malformed f t) (lacks_register f t) (lacks_number names f t) (lacks_name names f t)) in
      all_faults f judge h texts (with_judgment so_far (judge t)) (a || is_malformed f t) (b || lacks_register f t) (c || lacks_number names f t) (d || lacks_name names f t) here
      ∙ rw (
        or_assoc a (is_malformed f t) (has_operand is_malformed (replicate (length texts) f) texts),
        or_assoc b (lacks_register f t) (has_operand lacks_register (replicate (length texts) f) texts),
        or_assoc c (lacks_number names f t) (has_operand (lacks_number names) (replicate (length texts) f) texts),
        or_assoc d (lacks_name names f t) (has_operand (lacks_name names) (replicate (length texts) f) texts),
      ) refl

-- ---- what is written, as operands

pieces_nil : pieces [] ≡ [] ∷ []
unfolding pieces without_outer_blanks without_front_blanks without_end_blanks
pieces_nil = refl

-- where nothing is written there is one empty piece and no operand: a statement that takes operands
-- refuses both
written : (names : Names) (forms : List Form) (operands : List ℕ) → operands_fault names forms ([] ∷ []) ≡ Some Operands → operands_fault names forms [] ≡ Some Operands
    → operands_fault names forms (pieces operands) ≡ operands_fault names forms (operand_texts operands)
written names forms [] h k = ap (operands_fault names forms) pieces_nil ∙ h ∙ sym k
written names forms (byte ∷ bytes) h k = refl

blank_one : (names : Names) (f : Form) → is_malformed f [] ≡ true → operands_fault names (f ∷ []) ([] ∷ []) ≡ Some Operands
unfolding operands_fault
blank_one names f e = rw e refl

module _ (names : Names) (f g : Form) where
  blank_two : operands_fault names (f ∷ g ∷ []) ([] ∷ []) ≡ Some Operands
  blank_two = sym (wrong names (f ∷ g ∷ []) ([] ∷ []) refl)

  none_two : operands_fault names (f ∷ g ∷ []) [] ≡ Some Operands
  none_two = sym (wrong names (f ∷ g ∷ []) [] refl)

  pub written_two : (operands : List ℕ) → operands_fault names (f ∷ g ∷ []) (pieces operands) ≡ operands_fault names (f ∷ g ∷ []) (operand_texts operands)
  written_two operands = written names (f ∷ g ∷ []) operands blank_two none_two

written_three : (names : Names) (f g k : Form) (operands : List ℕ) → operands_fault names (f ∷ g ∷ k ∷ []) (pieces operands) ≡ operands_fault names (f ∷ g ∷ k ∷ []) (operand_texts operands)
written_three names f g k operands =
    written names (f ∷ g ∷ k ∷ []) operands (sym (wrong names (f ∷ g ∷ k ∷ []) ([] ∷ []) refl)) (sym (wrong names (f ∷ g ∷ k ∷ []) [] refl))

written_one : (names : Names) (f : Form) (operands : List ℕ) → is_malformed f [] ≡ true → operands_fault names (f ∷ []) (pieces operands) ≡ operands_fault names (f ∷ []) (operand_texts operands)
written_one names f operands e = written names (f ∷ []) operands (blank_one names f e) (sym (wrong names (f ∷ []) [] refl))

-- ---- any number

pub some_pieces : (operands : List ℕ) → 0 < length (pieces operands)
unfolding pieces
some_pieces operands = omega (arith, length-map (slice_split is_comma operands) without_outer_blanks, length-slice_split is_comma operands)

listed_by : (names : Names) (f : Form) (texts : List (List ℕ)) → 0 < length texts
    → first_kind (false || has_operand is_malformed (replicate (length texts) f) texts) (false || has_operand lacks_register (replicate (length texts) f) texts) (false || has_operand (lacks_number names) (replicate (length texts) f) texts) (false || has_operand (lacks_name names) (replicate (length texts) f) texts)
    ≡ operands_fault names (replicate (max 1 (length texts)) f) texts
unfolding operands_fault
listed_by names f texts some =
    let most : max 1 (length texts) ≡ length texts = omega arith in
    let same : eqb (length texts) (length (replicate (length texts) f)) ≡ true = eq-eqb _ _ (sym (length-replicate (length texts) f)) in
    rw (most, same) refl

listed : {A : Type 0} (names : Names) (f : Form) (judge : List ℕ → Result A AsmKind) → ((t : List ℕ) → result_err (judge t) ≡ operand_fault names f t) → is_malformed f [] ≡ true → (operands : List ℕ)
    → result_err (judgment_of_list (map judge (pieces operands))) ≡ operands_fault names (replicate (max 1 (length (operand_texts operands))) f) (operand_texts operands)
unfolding judgment_of_list
listed names f judge h e [] =
    all_faults names f judge h (pieces []) (Ok []) false false false false refl ∙ listed_by names f (pieces []) (some_pieces [])
    ∙ ap (λ (texts : List (List ℕ)). operands_fault names (replicate (max 1 (length texts)) f) texts) pieces_nil
    ∙ blank_one names f e ∙ wrong names (f ∷ []) [] refl
listed names f judge h e (byte ∷ bytes) =
    all_faults names f judge h (pieces (byte ∷ bytes)) (Ok []) false false false false refl ∙ listed_by names f (pieces (byte ∷ bytes)) (some_pieces (byte ∷ bytes))

-- ---- statements

blank_token : is_token [] ≡ false
unfolding is_token
blank_token = refl

blank_name : is_name [] ≡ false
unfolding text.is_name
blank_name = refl

malformed_value : is_malformed a_value [] ≡ true
unfolding is_malformed
malformed_value = rw blank_token refl

malformed_number : (least greatest : ℤ) → is_malformed (a_number least greatest) [] ≡ true
unfolding is_malformed
malformed_number least greatest = rw blank_token refl

malformed_name : is_malformed a_name [] ≡ true
unfolding is_malformed
malformed_name = rw blank_name refl

none_taken : (names : Names) (operands : List ℕ) (make : List Statement) → result_err (no_piece operands >>= λ it. Ok make) ≡ operands_fault names [] (operand_texts operands)
unfolding operands_fault
none_taken names [] make = refl
none_taken names (byte ∷ bytes) make = wrong names [] (pieces (byte ∷ bytes)) (ne_eqb _ _ (λ e. absurd (omega (arith, some_pieces (byte ∷ bytes)))))

module _ (names : Names) (operands : List ℕ) where
  upper_fault : result_err (register_upper names operands) ≡ operands_fault names (a_register ∷ a_number (pos 0) GREATEST_UPPER ∷ []) (operand_texts operands)
  unfolding register_upper two_pieces
  upper_fault = two_fault names a_register (a_number (pos 0) GREATEST_UPPER) register (λ t. number_in_range (pos 0) GREATEST_UPPER (number names t)) _ (register_fault names) (ranged_fault names (pos 0) GREATEST_UPPER) (pieces operands) ∙ written_two names _ _ operands

  place_fault : result_err (register_memory names operands) ≡ operands_fault names (a_register ∷ a_memory ∷ []) (operand_texts operands)
  unfolding register_memory two_pieces
  place_fault = two_fault names a_register a_memory register (memory names) _ (register_fault names) (memory_fault names) (pieces operands) ∙ written_two names _ _ operands

  immediate_fault : (op : ImmOp) → result_err (registers_immediate names op operands) ≡ operands_fault names (a_register ∷ a_register ∷ a_number (least_immediate op) (greatest_immediate op) ∷ []) (operand_texts operands)
  unfolding registers_immediate three_pieces immediate
  immediate_fault op = three_fault names a_register a_register (a_number (least_immediate op) (greatest_immediate op)) register register (λ t. number_in_range (least_immediate op) (greatest_immediate op) (number names t)) _ (register_fault names) (register_fault names) (ranged_fault names (least_immediate op) (greatest_immediate op)) (pieces operands) ∙ written_three names _ _ _ operands

  registers_fault : result_err (three_registers operands) ≡ operands_fault names (a_register ∷ a_register ∷ a_register ∷ []) (operand_texts operands)
  unfolding three_registers three_pieces
  registers_fault = three_fault names a_register a_register a_register register register register _ (register_fault names) (register_fault names) (register_fault names) (pieces operands) ∙ written_three names _ _ _ operands

  pair_fault : result_err (two_registers operands) ≡ operands_fault names (a_register ∷ a_register ∷ []) (operand_texts operands)
  unfolding two_registers two_pieces
  pair_fault = two_alone names a_register a_register register register (register_fault names) (register_fault names) (pieces operands) ∙ written_two names _ _ operands

  word_fault : result_err (register_word names operands) ≡ operands_fault names (a_register ∷ any_number ∷ []) (operand_texts operands)
  unfolding register_word two_pieces
  word_fault = two_fault names a_register any_number register (number names) _ (register_fault names) (number_fault names) (pieces operands) ∙ written_two names _ _ operands

  label_fault : result_err (register_label operands) ≡ operands_fault names (a_register ∷ a_name ∷ []) (operand_texts operands)
  unfolding register_label two_pieces
  label_fault = two_fault names a_register a_name register name_piece _ (register_fault names) (name_fault names) (pieces operands) ∙ written_two names _ _ operands

  branch_fault : result_err (registers_label operands) ≡ operands_fault names (a_register ∷ a_register ∷ a_name ∷ []) (operand_texts operands)
  unfolding registers_label three_pieces
  branch_fault = three_fault names a_register a_register a_name register register name_piece _ (register_fault names) (register_fault names) (name_fault names) (pieces operands) ∙ written_three names _ _ _ operands

  jump_fault : result_err (one_label operands) ≡ operands_fault names (a_name ∷ []) (operand_texts operands)
  unfolding one_label one_piece
  jump_fault = one_fault names a_name name_piece (λ text value. text) (name_fault names) (pieces operands) ∙ written_one names a_name operands malformed_name

  zeros_fault : result_err (zero_count names operands) ≡ operands_fault names (a_number (pos 0) (pos IMAGE_ROOM) ∷ []) (operand_texts operands)
  unfolding zero_count one_piece
  zeros_fault = one_fault names (a_number (pos 0) (pos IMAGE_ROOM)) (λ t. number_in_range (pos 0) (pos IMAGE_ROOM) (number names t)) _ (ranged_fault names (pos 0) (pos IMAGE_ROOM)) (pieces operands) ∙ written_one names _ operands (malformed_number (pos 0) (pos IMAGE_ROOM))

pub operands_judged : (mnemonic : Mnemonic) (names : Names) (operands : List ℕ) → result_err (statements_of mnemonic names operands) ≡ statement_fault names mnemonic operands
unfolding statements_of
operands_judged (mnemonics.Plain inst) names operands = none_taken names operands _
operands_judged mnemonics.Lui names operands = err_ok (register_upper names operands) _ ∙ upper_fault names operands
operands_judged mnemonics.Auipc names operands = err_ok (register_upper names operands) _ ∙ upper_fault names operands
operands_judged mnemonics.Jalr names operands = err_ok (register_memory names operands) _ ∙ place_fault names operands
operands_judged (mnemonics.Load op) names operands = err_ok (register_memory names operands) _ ∙ place_fault names operands
operands_judged (mnemonics.Store op) names operands = err_ok (register_memory names operands) _ ∙ place_fault names operands
operands_judged (mnemonics.OpImm op) names operands = err_ok (registers_immediate names op operands) _ ∙ immediate_fault names operands op
operands_judged (mnemonics.Op op) names operands = err_ok (three_registers operands) _ ∙ registers_fault names operands
operands_judged mnemonics.Mv names operands = err_ok (two_registers operands) _ ∙ pair_fault names operands
operands_judged mnemonics.Li names operands = err_ok (register_word names operands) _ ∙ word_fault names operands
operands_judged mnemonics.La names operands = err_ok (register_label operands) _ ∙ label_fault names operands
operands_judged mnemonics.Jal names operands = err_ok (register_label operands) _ ∙ label_fault names operands
operands_judged (mnemonics.Jump rd) names operands = err_ok (one_label operands) _ ∙ jump_fault names operands
operands_judged (mnemonics.Branch op) names operands = err_ok (registers_label operands) _ ∙ branch_fault names operands
operands_judged mnemonics.Word names operands = listed names a_value (word_value names) (value_fault names) malformed_value operands
operands_judged mnemonics.Byte names operands = listed names (a_number LEAST_BYTE GREATEST_BYTE) (byte_value names) (byte_fault names) (malformed_number LEAST_BYTE GREATEST_BYTE) operands
operands_judged mnemonics.Zero names operands = err_ok (zero_count names operands) _ ∙ zeros_fault names operands
