-- Blanks change nothing.
use Rattle.std.proofs.Common.{◌≡◌, ℕ, Bool, true, false, cond, not, eqb, List, [], ◌∷◌, ◌++◌, map, Option, Some, None, Result, Err, refl, sym, ap, ◌∙◌, subst, ℤ}
use Rattle.std.specs.Prelude.{◌||◌, ◌&&◌, bytes_eq, codes}
use Rattle.std.specs.List.{list_any, list_all, slice_split, onto_first}
use Rattle.std.proofs.lemmas.Bool.{and_parts, eqb-true}
use Rattle.std.proofs.lemmas.List.{map-append}
use Rattle.std.proofs.lemmas.List.Folds.{list_all-append, list_any-append}
use Rattle.std.proofs.lemmas.List.Splits.{slice_split-cons_yes, slice_split-cons_no}
use Rattle.ce_text.specs.Bytes.{is_blank, is_hash, is_plain}
use Rattle.ce_text.specs.Line.{cut_parts, without_outer_blanks, with_front_byte, without_front_blanks, without_end_blanks, before_comment}
use Rattle.ce_text.proofs.Splitting.{split_cut, split_behind, cut_pieces}
use Rattle.rv_asm.specs.declared.fault.AsmKind.{AsmKind}
use Rattle.rv_asm.specs.declared.fault.AsmKind.TheVariants.{BadByte, UnknownWord, Operands}
use Rattle.rv_asm.specs.declared.mnemonic.Mnemonic.{Mnemonic}
use Rattle.rv_asm.specs.declared.mnemonic.Mnemonic.TheVariants as mnemonics
use Rattle.rv_asm.specs.Line.{is_colon, is_comma, is_opening, is_closing, pieces, comma_pieces}
use Rattle.rv_asm.specs.Names.{Names}
use Rattle.rv_asm.specs.Faults.{◌>>=◌, refusal, pair_judgment}
use Rattle.rv_asm.specs.Operand.{no_piece, one_piece, two_pieces, three_pieces, register, twelve_bits, memory, is_closed}
use Rattle.rv_asm.specs.Statements.{register_upper, register_memory, registers_immediate, three_registers, two_registers, register_word, register_label, registers_label, one_label, zero_count, statements_of}
use Rattle.rv_asm.specs.FirstPass.{LayoutSoFar, layout_with_number, layout_with_statements, operands_of, layout_with_statement_text, layout_with_labelled_statement, layout_with_line}
use Rattle.rv_asm.proofs.Pieces.{pieces_cut}
use Rattle.ce_text.proofs.CutParts.{parts_with_front, parts_with_end, cut_later, cut_front, cut_none, cut_end, cut_mark}

-- blanks, of which a text may have any number
record AreBlanks (blanks : List ℕ) : Type 0 where
  all : list_all is_blank blanks ≡ true

module _ (byte : ℕ) (blanks : List ℕ) (h : AreBlanks (byte ∷ blanks)) where
  first_blank : is_blank byte ≡ true
  first_blank = (and_parts (is_blank byte) (list_all is_blank blanks) h.all).0

  other_blanks : AreBlanks blanks
  other_blanks = record { all = (and_parts (is_blank byte) (list_all is_blank blanks) h.all).1 }

-- ---- trimming

front_goes : (blanks bytes : List ℕ) → AreBlanks blanks → without_front_blanks (blanks ++ bytes) ≡ without_front_blanks bytes
unfolding without_front_blanks
front_goes [] bytes h = refl
front_goes (byte ∷ blanks) bytes h = rw (first_blank byte blanks h) (front_goes blanks bytes (other_blanks byte blanks h))

trimmed_front : (blanks bytes : List ℕ) → AreBlanks blanks → without_outer_blanks (blanks ++ bytes) ≡ without_outer_blanks bytes
unfolding without_outer_blanks
trimmed_front blanks bytes h = ap without_end_blanks (front_goes blanks bytes h)

blanks_go : (blanks : List ℕ) → AreBlanks blanks → without_end_blanks blanks ≡ []
unfolding without_end_blanks
blanks_go [] h = refl
blanks_go (byte ∷ blanks) h = ap (with_front_byte byte) (blanks_go blanks (other_blanks byte blanks h)) ∙ rw (first_blank byte blanks h) refl

end_goes : (bytes blanks : List ℕ) → AreBlanks blanks → without_end_blanks (bytes ++ blanks) ≡ without_end_blanks bytes
unfolding without_end_blanks
end_goes [] blanks h = blanks_go blanks h
end_goes (byte ∷ bytes) blanks h = ap (with_front_byte byte) (end_goes bytes blanks h)

all_front : (blanks : List ℕ) → AreBlanks blanks → without_front_blanks blanks ≡ []
unfolding without_front_blanks
all_front [] h = refl
all_front (byte ∷ blanks) h = rw (first_blank byte blanks h) (all_front blanks (other_blanks byte blanks h))

nothing_left : (blanks : List ℕ) → AreBlanks blanks → without_outer_blanks blanks ≡ without_outer_blanks []
unfolding without_outer_blanks without_front_blanks without_end_blanks
nothing_left blanks h = ap without_end_blanks (all_front blanks h)

trimmed_by : (byte : ℕ) (bytes blanks : List ℕ) (blank : Bool) → AreBlanks blanks → without_end_blanks (without_front_blanks (bytes ++ blanks)) ≡ without_end_blanks (without_front_blanks bytes)
    → without_end_blanks (cond blank (without_front_blanks (bytes ++ blanks)) (byte ∷ (bytes ++ blanks))) ≡ without_end_blanks (cond blank (without_front_blanks bytes) (byte ∷ bytes))
trimmed_by byte bytes blanks true h others = others
trimmed_by byte bytes blanks false h others = end_goes (byte ∷ bytes) blanks h

both_ends : (bytes blanks : List ℕ) → AreBlanks blanks → without_end_blanks (without_front_blanks (bytes ++ blanks)) ≡ without_end_blanks (without_front_blanks bytes)
unfolding without_front_blanks
both_ends [] blanks h = ap without_end_blanks (all_front blanks h)
both_ends (byte ∷ bytes) blanks h = trimmed_by byte bytes blanks (is_blank byte) h (both_ends bytes blanks h)

trimmed_end : (bytes blanks : List ℕ) → AreBlanks blanks → without_outer_blanks (bytes ++ blanks) ≡ without_outer_blanks bytes
unfolding without_outer_blanks
trimmed_end bytes blanks h = both_ends bytes blanks h

no_mark : (test : ℕ → Bool) (blanks : List ℕ) → ((byte : ℕ) → is_blank byte ≡ true → test byte ≡ false) → AreBlanks blanks → list_any test blanks ≡ false
no_mark test [] apart h = refl
no_mark test (byte ∷ blanks) apart h = rw (apart byte (first_blank byte blanks h)) (no_mark test blanks apart (other_blanks byte blanks h))

-- ---- the ends of a line

blank_plain : (byte : ℕ) → is_blank byte ≡ true → is_plain byte ≡ true
blank_plain byte e = rw e refl

all_plain : (blanks : List ℕ) → AreBlanks blanks → list_all is_plain blanks ≡ true
all_plain [] h = refl
all_plain (byte ∷ blanks) h = rw (blank_plain byte (first_blank byte blanks h)) (all_plain blanks (other_blanks byte blanks h))

and_true : (a b : Bool) → b ≡ true → a && b ≡ a
and_true true b e = e
and_true false b e = refl

plain_front : (blanks bytes : List ℕ) → AreBlanks blanks → list_all is_plain (blanks ++ bytes) ≡ list_all is_plain bytes
plain_front blanks bytes h = list_all-append is_plain blanks bytes ∙ rw (all_plain blanks h) refl

plain_end : (bytes blanks : List ℕ) → AreBlanks blanks → list_all is_plain (bytes ++ blanks) ≡ list_all is_plain bytes
plain_end bytes blanks h = list_all-append is_plain bytes blanks ∙ and_true (list_all is_plain bytes) (list_all is_plain blanks) (all_plain blanks h)

-- a byte that is no blank is none of the blanks
other_byte : (byte mark : ℕ) (same : Bool) → eqb byte mark ≡ same → is_blank mark ≡ false → is_blank byte ≡ true → same ≡ false
other_byte byte mark true e unlike blank =
    let also : is_blank mark ≡ true = subst (λ (n : ℕ). is_blank n ≡ true) (eqb-true byte mark e) blank in
    absurd cc
other_byte byte mark false e unlike blank = refl

not_hash : (byte : ℕ) → is_blank byte ≡ true → is_hash byte ≡ false
not_hash byte e = other_byte byte 35 (is_hash byte) refl refl e

not_colon : (byte : ℕ) → is_blank byte ≡ true → is_colon byte ≡ false
not_colon byte e = other_byte byte 58 (is_colon byte) refl refl e

not_comma : (byte : ℕ) → is_blank byte ≡ true → is_comma byte ≡ false
not_comma byte e = other_byte byte 44 (is_comma byte) refl refl e

not_opening : (byte : ℕ) → is_blank byte ≡ true → is_opening byte ≡ false
not_opening byte e = other_byte byte 40 (is_opening byte) refl refl e

not_closing : (byte : ℕ) → is_blank byte ≡ true → is_closing byte ≡ false
not_closing byte e = other_byte byte 41 (is_closing byte) refl refl e

-- a line whose code has blanks in front of it, or behind it
by_front : (number : ℕ) (layout : LayoutSoFar) (blanks : List ℕ) (parts : List ℕ × Option (List ℕ)) → AreBlanks blanks
    → layout_with_labelled_statement number layout (parts_with_front blanks parts).0 (parts_with_front blanks parts).1 ≡ layout_with_labelled_statement number layout parts.0 parts.1
by_front number layout blanks (front, None) h = ap (layout_with_statement_text number layout) (trimmed_front blanks front h)
by_front number layout blanks (front, Some rest) h = rw (trimmed_front blanks front h) refl

by_end : (number : ℕ) (layout : LayoutSoFar) (blanks : List ℕ) (parts : List ℕ × Option (List ℕ)) → AreBlanks blanks
    → layout_with_labelled_statement number layout (parts_with_end blanks parts).0 (parts_with_end blanks parts).1 ≡ layout_with_labelled_statement number layout parts.0 parts.1
by_end number layout blanks (front, None) h = ap (layout_with_statement_text number layout) (trimmed_end front blanks h)
by_end number layout blanks (front, Some rest) h = rw (trimmed_end rest blanks h) refl

-- what the code of a line means
meant : ℕ → LayoutSoFar → Bool → List ℕ × Option (List ℕ) → Result LayoutSoFar AsmKind
meant number layout plain parts = refusal (not plain) BadByte >>= λ ok. layout_with_labelled_statement number layout parts.0 parts.1

meant_line : (number : ℕ) (layout : LayoutSoFar) (line : List ℕ) → layout_with_line number layout line ≡ meant number layout (list_all is_plain (before_comment line)) (cut_parts is_colon (before_comment line))
unfolding layout_with_line meant
meant_line number layout line = refl

code_front : (number : ℕ) (layout : LayoutSoFar) (blanks code : List ℕ) → AreBlanks blanks
    → meant number layout (list_all is_plain (blanks ++ code)) (cut_parts is_colon (blanks ++ code)) ≡ meant number layout (list_all is_plain code) (cut_parts is_colon code)
unfolding meant
code_front number layout blanks code h =
    rw (plain_front blanks code h, cut_front is_colon blanks code (no_mark is_colon blanks not_colon h))
    (ap (λ (it : Result LayoutSoFar AsmKind). refusal (not (list_all is_plain code)) BadByte >>= λ ok. it) (by_front number layout blanks (cut_parts is_colon code) h))

code_end : (number : ℕ) (layout : LayoutSoFar) (blanks code : List ℕ) → AreBlanks blanks
    → meant number layout (list_all is_plain (code ++ blanks)) (cut_parts is_colon (code ++ blanks)) ≡ meant number layout (list_all is_plain code) (cut_parts is_colon code)
unfolding meant
code_end number layout blanks code h =
    rw (plain_end code blanks h, cut_end is_colon code blanks (no_mark is_colon blanks not_colon h))
    (ap (λ (it : Result LayoutSoFar AsmKind). refusal (not (list_all is_plain code)) BadByte >>= λ ok. it) (by_end number layout blanks (cut_parts is_colon code) h))

front_goes_line : (number : ℕ) (layout : LayoutSoFar) (blanks line : List ℕ) → AreBlanks blanks → layout_with_line number layout (blanks ++ line) ≡ layout_with_line number layout line
unfolding before_comment
front_goes_line number layout blanks line h =
    meant_line number layout (blanks ++ line)
    ∙ ap (λ (parts : List ℕ × Option (List ℕ)). meant number layout (list_all is_plain parts.0) (cut_parts is_colon parts.0)) (cut_front is_hash blanks line (no_mark is_hash blanks not_hash h))
    ∙ code_front number layout blanks (cut_parts is_hash line).0 h ∙ sym (meant_line number layout line)

ends_by : (number : ℕ) (layout : LayoutSoFar) (blanks : List ℕ) (parts : List ℕ × Option (List ℕ)) → AreBlanks blanks
    → meant number layout (list_all is_plain (parts_with_end blanks parts).0) (cut_parts is_colon (parts_with_end blanks parts).0) ≡ meant number layout (list_all is_plain parts.0) (cut_parts is_colon parts.0)
ends_by number layout blanks (code, None) h = code_end number layout blanks code h
ends_by number layout blanks (code, Some comment) h = refl

end_goes_line : (number : ℕ) (layout : LayoutSoFar) (line blanks : List ℕ) → AreBlanks blanks → layout_with_line number layout (line ++ blanks) ≡ layout_with_line number layout line
unfolding before_comment
end_goes_line number layout line blanks h =
    meant_line number layout (line ++ blanks)
    ∙ ap (λ (parts : List ℕ × Option (List ℕ)). meant number layout (list_all is_plain parts.0) (cut_parts is_colon parts.0)) (cut_end is_hash line blanks (no_mark is_hash blanks not_hash h))
    ∙ ends_by number layout blanks (cut_parts is_hash line) h ∙ sym (meant_line number layout line)

pub ends_go : (number : ℕ) (layout : LayoutSoFar) (before line after : List ℕ) → list_all is_blank before ≡ true → list_all is_blank after ≡ true → layout_with_line number layout (before ++ line ++ after) ≡ layout_with_line number layout line
ends_go number layout before line after b a = end_goes_line number layout (before ++ line) after (record { all = a }) ∙ front_goes_line number layout before line (record { all = b })

-- ---- round the colon

code_behind : (front rest : List ℕ) → list_any is_hash front ≡ false → before_comment (front ++ 58 ∷ rest) ≡ front ++ 58 ∷ before_comment rest
unfolding before_comment
code_behind front rest e =
    ap (λ (parts : List ℕ × Option (List ℕ)). parts.0) (cut_front is_hash front (58 ∷ rest) e ∙ ap (parts_with_front front) (cut_later is_hash 58 rest refl))

code_blanks : (blanks rest : List ℕ) → AreBlanks blanks → before_comment (blanks ++ rest) ≡ blanks ++ before_comment rest
unfolding before_comment
code_blanks blanks rest h = ap (λ (parts : List ℕ × Option (List ℕ)). parts.0) (cut_front is_hash blanks rest (no_mark is_hash blanks not_hash h))

none_of_both : (test : ℕ → Bool) (first second : List ℕ) → list_any test first ≡ false → list_any test second ≡ false → list_any test (first ++ second) ≡ false
none_of_both test first second e h = list_any-append test first second ∙ rw e h

plain_colon : (label before after code : List ℕ) → AreBlanks before → AreBlanks after → list_all is_plain (label ++ before ++ 58 ∷ (after ++ code)) ≡ list_all is_plain (label ++ 58 ∷ code)
plain_colon label before after code b a =
    list_all-append is_plain (label ++ before) (58 ∷ (after ++ code)) ∙ rw (plain_end label before b, plain_front after code a) refl ∙ sym (list_all-append is_plain label (58 ∷ code))

meant_colon : (number : ℕ) (layout : LayoutSoFar) (label before after code : List ℕ) → list_any is_colon label ≡ false → AreBlanks before → AreBlanks after
    → meant number layout (list_all is_plain (label ++ before ++ 58 ∷ (after ++ code))) (cut_parts is_colon (label ++ before ++ 58 ∷ (after ++ code)))
    ≡ meant number layout (list_all is_plain (label ++ 58 ∷ code)) (cut_parts is_colon (label ++ 58 ∷ code))
unfolding meant
meant_colon number layout label before after code e b a =
    rw (
      plain_colon label before after code b a,
      cut_mark is_colon (label ++ before) 58 (after ++ code) (none_of_both is_colon label before e (no_mark is_colon before not_colon b)) refl,
      cut_mark is_colon label 58 code e refl,
      trimmed_end label before b,
      trimmed_front after code a,
    ) refl

pub colon_goes : (number : ℕ) (layout : LayoutSoFar) (label before after rest : List ℕ) → list_any is_hash label ≡ false → list_any is_colon label ≡ false → list_all is_blank before ≡ true → list_all is_blank after ≡ true
    → layout_with_line number layout (label ++ before ++ 58 ∷ (after ++ rest)) ≡ layout_with_line number layout (label ++ 58 ∷ rest)
colon_goes number layout label before after rest hash colon b a =
    let before_blank : AreBlanks before = record { all = b } in
    let after_blank : AreBlanks after = record { all = a } in
    let code = before_comment rest in
    let first : before_comment (label ++ before ++ 58 ∷ (after ++ rest)) ≡ label ++ before ++ 58 ∷ (after ++ code) =
    code_behind (label ++ before) (after ++ rest) (none_of_both is_hash label before hash (no_mark is_hash before not_hash before_blank))
    ∙ ap (λ (bytes : List ℕ). label ++ before ++ 58 ∷ bytes) (code_blanks after rest after_blank)
    in
    let judge = λ (bytes : List ℕ). meant number layout (list_all is_plain bytes) (cut_parts is_colon bytes) in
    meant_line number layout (label ++ before ++ 58 ∷ (after ++ rest)) ∙ ap judge first
    ∙ meant_colon number layout label before after code colon before_blank after_blank
    ∙ ap judge (sym (code_behind label rest hash)) ∙ sym (meant_line number layout (label ++ 58 ∷ rest))

-- ---- behind the word

-- what a statement with a word means
said : ℕ → LayoutSoFar → Bool → List ℕ × Option (List ℕ) → Result LayoutSoFar AsmKind
said number layout colon parts =
    refusal colon UnknownWord >>= λ ok. cond (bytes_eq parts.0 (codes ".equ")) (layout_with_number layout (operands_of parts.1)) (layout_with_statements number layout parts.0 (operands_of parts.1))

said_so : (number : ℕ) (layout : LayoutSoFar) (word : List ℕ) (mark : ℕ) (rest : List ℕ)
    → layout_with_statement_text number layout (word ++ mark ∷ rest) ≡ said number layout (list_any is_colon (word ++ mark ∷ rest)) (cut_parts is_blank (word ++ mark ∷ rest))
unfolding layout_with_statement_text said
said_so number layout [] mark rest = refl
said_so number layout (byte ∷ word) mark rest = refl

any_behind : (word : List ℕ) (blank : ℕ) (blanks operands : List ℕ) → AreBlanks blanks → list_any is_colon (word ++ blank ∷ (blanks ++ operands)) ≡ list_any is_colon (word ++ blank ∷ operands)
any_behind word blank blanks operands h =
    list_any-append is_colon word (blank ∷ (blanks ++ operands))
    ∙ ap (λ (any : Bool). list_any is_colon word || (is_colon blank || any)) (list_any-append is_colon blanks operands ∙ rw (no_mark is_colon blanks not_colon h) refl)
    ∙ sym (list_any-append is_colon word (blank ∷ operands))

pub word_goes : (number : ℕ) (layout : LayoutSoFar) (word : List ℕ) (blank : ℕ) (blanks operands : List ℕ) → list_any is_blank word ≡ false → is_blank blank ≡ true → list_all is_blank blanks ≡ true
    → layout_with_statement_text number layout (word ++ blank ∷ (blanks ++ operands)) ≡ layout_with_statement_text number layout (word ++ blank ∷ operands)
unfolding said
word_goes number layout word blank blanks operands w b h =
    let are : AreBlanks blanks = record { all = h } in
    said_so number layout word blank (blanks ++ operands)
    ∙ rw (any_behind word blank blanks operands are, cut_mark is_blank word blank (blanks ++ operands) w b, trimmed_front blanks operands are, cut_mark is_blank word blank operands w b) refl
    ∙ sym (said_so number layout word blank operands)

-- ---- round a comma

split_by : (test : ℕ → Bool) (byte : ℕ) (bytes : List ℕ) (mark : ℕ) (rest : List ℕ) (passes : Bool) → test byte ≡ passes → slice_split test (bytes ++ mark ∷ rest) ≡ slice_split test bytes ++ slice_split test rest
    → slice_split test (byte ∷ bytes ++ mark ∷ rest) ≡ slice_split test (byte ∷ bytes) ++ slice_split test rest
split_by test byte bytes mark rest true e others =
    slice_split-cons_yes test byte (bytes ++ mark ∷ rest) e ∙ ap (λ (parts : List (List ℕ)). [] ∷ parts) others
    ∙ ap (λ (parts : List (List ℕ)). parts ++ slice_split test rest) (sym (slice_split-cons_yes test byte bytes e))
split_by test byte bytes mark rest false e others =
    slice_split-cons_no test byte (bytes ++ mark ∷ rest) e
    ∙ ap (onto_first byte) (others ∙ ap (λ (parts : List (List ℕ)). parts ++ slice_split test rest) (split_cut test bytes))
    ∙ ap (λ (parts : List (List ℕ)). onto_first byte parts ++ slice_split test rest) (sym (split_cut test bytes))
    ∙ ap (λ (parts : List (List ℕ)). parts ++ slice_split test rest) (sym (slice_split-cons_no test byte bytes e))

split_joined : (test : ℕ → Bool) (bytes : List ℕ) (mark : ℕ) (rest : List ℕ) → test mark ≡ true → slice_split test (bytes ++ mark ∷ rest) ≡ slice_split test bytes ++ slice_split test rest
split_joined test [] mark rest m = slice_split-cons_yes test mark rest m
split_joined test (byte ∷ bytes) mark rest m = split_by test byte bytes mark rest (test byte) refl (split_joined test bytes mark rest m)

-- more bytes at the end of the last part
onto_last : List ℕ → List (List ℕ) → List (List ℕ)
onto_last more [] = []
onto_last more (part ∷ []) = (part ++ more) ∷ []
onto_last more (part ∷ next ∷ parts) = part ∷ onto_last more (next ∷ parts)

onto_both : (byte : ℕ) (more part : List ℕ) (parts : List (List ℕ)) → onto_first byte (onto_last more (part ∷ parts)) ≡ onto_last more (onto_first byte (part ∷ parts))
unfolding onto_last
onto_both byte more part [] = refl
onto_both byte more part (next ∷ parts) = refl

split_end_by : (test : ℕ → Bool) (byte : ℕ) (bytes more : List ℕ) (passes : Bool) → test byte ≡ passes → slice_split test (bytes ++ more) ≡ onto_last more (slice_split test bytes)
    → slice_split test (byte ∷ bytes ++ more) ≡ onto_last more (slice_split test (byte ∷ bytes))
unfolding onto_last
split_end_by test byte bytes more true e others =
    slice_split-cons_yes test byte (bytes ++ more) e ∙ ap (λ (parts : List (List ℕ)). [] ∷ parts) (others ∙ ap (onto_last more) (split_cut test bytes))
    ∙ ap (λ (parts : List (List ℕ)). onto_last more ([] ∷ parts)) (sym (split_cut test bytes)) ∙ ap (onto_last more) (sym (slice_split-cons_yes test byte bytes e))
split_end_by test byte bytes more false e others =
    slice_split-cons_no test byte (bytes ++ more) e ∙ ap (onto_first byte) (others ∙ ap (onto_last more) (split_cut test bytes))
    ∙ onto_both byte more (cut_parts test bytes).0 (split_behind test (cut_parts test bytes).1)
    ∙ ap (λ (parts : List (List ℕ)). onto_last more (onto_first byte parts)) (sym (split_cut test bytes)) ∙ ap (onto_last more) (sym (slice_split-cons_no test byte bytes e))

split_end : (test : ℕ → Bool) (bytes more : List ℕ) → list_any test more ≡ false → slice_split test (bytes ++ more) ≡ onto_last more (slice_split test bytes)
unfolding onto_last
split_end test [] more e = split_cut test more ∙ ap (cut_pieces test) (cut_none test more e)
split_end test (byte ∷ bytes) more e = split_end_by test byte bytes more (test byte) refl (split_end test bytes more e)

map_last : (blanks : List ℕ) (parts : List (List ℕ)) → AreBlanks blanks → map without_outer_blanks (onto_last blanks parts) ≡ map without_outer_blanks parts
unfolding onto_last
map_last blanks [] h = refl
map_last blanks (part ∷ []) h = ap (λ (bytes : List ℕ). bytes ∷ []) (trimmed_end part blanks h)
map_last blanks (part ∷ next ∷ parts) h = ap (λ (others : List (List ℕ)). without_outer_blanks part ∷ others) (map_last blanks (next ∷ parts) h)

pieces_front : (blanks operands : List ℕ) → AreBlanks blanks → pieces (blanks ++ operands) ≡ pieces operands
pieces_front blanks operands h =
    pieces_cut (blanks ++ operands)
    ∙ ap (λ (parts : List ℕ × Option (List ℕ)). without_outer_blanks parts.0 ∷ comma_pieces parts.1) (cut_front is_comma blanks operands (no_mark is_comma blanks not_comma h))
    ∙ ap (λ (bytes : List ℕ). bytes ∷ comma_pieces (cut_parts is_comma operands).1) (trimmed_front blanks (cut_parts is_comma operands).0 h) ∙ sym (pieces_cut operands)

pieces_end : (operands blanks : List ℕ) → AreBlanks blanks → pieces (operands ++ blanks) ≡ pieces operands
unfolding pieces
pieces_end operands blanks h = ap (map without_outer_blanks) (split_end is_comma operands blanks (no_mark is_comma blanks not_comma h)) ∙ map_last blanks (slice_split is_comma operands) h

pieces_joined : (first second : List ℕ) → pieces (first ++ 44 ∷ second) ≡ pieces first ++ pieces second
unfolding pieces
pieces_joined first second = ap (map without_outer_blanks) (split_joined is_comma first 44 second refl) ∙ map-append without_outer_blanks (slice_split is_comma first) (slice_split is_comma second)

pieces_so : (first before after second : List ℕ) → AreBlanks before → AreBlanks after → pieces (first ++ before ++ 44 ∷ (after ++ second)) ≡ pieces (first ++ 44 ∷ second)
pieces_so first before after second b a =
    pieces_joined (first ++ before) (after ++ second) ∙ rw (pieces_end first before b, pieces_front after second a) refl ∙ sym (pieces_joined first second)

some_piece : (first second : List ℕ) → no_piece (first ++ 44 ∷ second) ≡ Err Operands
some_piece [] second = refl
some_piece (byte ∷ first) second = refl

-- what the operands of a statement mean rests on the pieces between their commas alone
by_pieces : (mnemonic : Mnemonic) (names : Names) (first second : List ℕ) → no_piece first ≡ no_piece second → pieces first ≡ pieces second → statements_of mnemonic names first ≡ statements_of mnemonic names second
unfolding statements_of register_upper register_memory registers_immediate three_registers two_registers register_word register_label registers_label one_label zero_count one_piece two_pieces three_pieces
by_pieces (mnemonics.Plain inst) names first second n e = rw n refl
by_pieces mnemonics.Lui names first second n e = rw e refl
by_pieces mnemonics.Auipc names first second n e = rw e refl
by_pieces mnemonics.Jal names first second n e = rw e refl
by_pieces mnemonics.Jalr names first second n e = rw e refl
by_pieces mnemonics.Li names first second n e = rw e refl
by_pieces mnemonics.La names first second n e = rw e refl
by_pieces mnemonics.Mv names first second n e = rw e refl
by_pieces mnemonics.Word names first second n e = rw e refl
by_pieces mnemonics.Byte names first second n e = rw e refl
by_pieces mnemonics.Zero names first second n e = rw e refl
by_pieces (mnemonics.Branch op) names first second n e = rw e refl
by_pieces (mnemonics.Load op) names first second n e = rw e refl
by_pieces (mnemonics.Store op) names first second n e = rw e refl
by_pieces (mnemonics.OpImm op) names first second n e = rw e refl
by_pieces (mnemonics.Op op) names first second n e = rw e refl
by_pieces (mnemonics.Jump rd) names first second n e = rw e refl

pub comma_goes : (mnemonic : Mnemonic) (names : Names) (first before after second : List ℕ) → list_all is_blank before ≡ true → list_all is_blank after ≡ true
    → statements_of mnemonic names (first ++ before ++ 44 ∷ (after ++ second)) ≡ statements_of mnemonic names (first ++ 44 ∷ second)
comma_goes mnemonic names first before after second b a =
    by_pieces mnemonic names (first ++ before ++ 44 ∷ (after ++ second)) (first ++ 44 ∷ second)
    (some_piece (first ++ before) (after ++ second) ∙ sym (some_piece first second)) (pieces_so first before after second (record { all = b }) (record { all = a }))

-- ---- round brackets

-- `n(rs1)` from the number and what stands behind the opening bracket
bracketed : Names → List ℕ → List ℕ × Option (List ℕ) → Result (ℤ × ℕ) AsmKind
bracketed names number parts = refusal (not (is_closed parts.1)) Operands >>= λ ok. pair_judgment (twelve_bits names number) (register (without_outer_blanks parts.0))

inner : (names : Names) (number blanks : List ℕ) (parts : List ℕ × Option (List ℕ)) → AreBlanks blanks → bracketed names number (parts_with_front blanks parts) ≡ bracketed names number parts
unfolding bracketed
inner names number blanks (base, rest) h = rw (trimmed_front blanks base h) refl

closing_inner : (names : Names) (number base before after : List ℕ) → AreBlanks before → AreBlanks after → bracketed names number (base ++ before, Some after) ≡ bracketed names number (base, Some [])
unfolding bracketed
closing_inner names number base before after b a = rw (trimmed_end base before b, nothing_left after a) refl

pub opening_goes : (names : Names) (number before after base : List ℕ) → list_any is_opening number ≡ false → list_all is_blank before ≡ true → list_all is_blank after ≡ true
    → memory names (number ++ before ++ 40 ∷ (after ++ base)) ≡ memory names (number ++ 40 ∷ base)
unfolding memory bracketed
opening_goes names number before after base e b a =
    let before_blank : AreBlanks before = record { all = b } in
    let after_blank : AreBlanks after = record { all = a } in
    rw (cut_mark is_opening (number ++ before) 40 (after ++ base) (none_of_both is_opening number before e (no_mark is_opening before not_opening before_blank)) refl, cut_mark is_opening number 40 base e refl, trimmed_end number before before_blank, cut_front is_closing after base (no_mark is_closing after not_closing after_blank))
    (inner names (without_outer_blanks number) after (cut_parts is_closing base) after_blank)

pub closing_goes : (names : Names) (number base before after : List ℕ) → list_any is_opening number ≡ false → list_any is_closing base ≡ false → list_all is_blank before ≡ true → list_all is_blank after ≡ true
    → memory names (number ++ 40 ∷ (base ++ before ++ 41 ∷ after)) ≡ memory names (number ++ 40 ∷ (base ++ 41 ∷ []))
unfolding memory bracketed
closing_goes names number base before after e c b a =
    let before_blank : AreBlanks before = record { all = b } in
    rw (
      cut_mark is_opening number 40 (base ++ before ++ 41 ∷ after) e refl,
      cut_mark is_opening number 40 (base ++ 41 ∷ []) e refl,
      cut_mark is_closing (base ++ before) 41 after (none_of_both is_closing base before c (no_mark is_closing before not_closing before_blank)) refl,
      cut_mark is_closing base 41 [] c refl,
    ) (closing_inner names (without_outer_blanks number) base before after before_blank (record { all = a }))
