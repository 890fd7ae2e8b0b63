-- A listing of instructions assembles to them.
use Rattle.std.proofs.Common.{◌≡◌, ℕ, suc, ◌+◌, ◌*◌, ◌<◌, ◌≤◌, ◌%◌, Bool, true, false, T, cond, List, [], ◌∷◌, ◌++◌, length, map, Option, Some, None, Result, Ok, refl, sym, ap, ◌∙◌, subst, arith, inl, inr, append_assoc, ℤ, pos, ◌≤ℤ◌}
use Rattle.std.specs.Prelude.{◌&&◌, bytes_eq, ◌^◌, codes, int_le, nat_lt}
use Rattle.std.specs.List.{list_all, list_any, position_or_len, before_first, after_first}
use Rattle.std.specs.Cmp.Lexicographic.{bytes_decides}
use Rattle.std.proofs.lemmas.Bool.{and_parts, or_parts, ltb-false, le-ltb, le-leb}
use Rattle.std.proofs.lemmas.List.{take_all, append-nil}
use Rattle.std.proofs.lemmas.Int.{ints}
use Rattle.rv_model.specs.declared.limits.TheConstants.{GREATEST_IMMEDIATE, GREATEST_UPPER, LEAST_IMMEDIATE, PRIVATE_START, IMAGE_ROOM}
use Rattle.rv_model.specs.declared.inst.Inst.{Inst}
use Rattle.rv_model.specs.declared.inst.Inst.TheVariants as insts
use Rattle.rv_model.specs.declared.inst.ImmOp.{ImmOp}
use Rattle.rv_model.specs.declared.inst.ImmOp.TheVariants.{Addi, Slti, Sltiu, Xori, Ori, Andi, Slli, Srli, Srai}
use Rattle.rv_inst.specs.Valid.{IsValid, IsUpper, IsTwelveBits, IsImmediateOf}
use Rattle.rv_image.specs.Fault.{is_entry}
use Rattle.ce_text.specs.Bytes.{is_blank, is_plain}
use Rattle.ce_text.specs.Line.{cut_parts, without_outer_blanks, line_texts, before_comment, with_front_byte, without_front_blanks, without_end_blanks}
use Rattle.rv_asm.specs.declared.fault.AsmKind.{AsmKind}
use Rattle.rv_asm.specs.declared.mnemonic.Mnemonic.{Mnemonic}
use Rattle.rv_asm.specs.declared.statement.Statement.{Statement}
use Rattle.rv_asm.specs.declared.statement.Statement.TheVariants as statements
use Rattle.rv_asm.specs.declared.statement.PlacedStatement.{PlacedStatement}
use Rattle.rv_asm.specs.Line.{is_colon, is_token, is_opening, is_closing, pieces}
use Rattle.rv_asm.specs.Names.{Names, no_names}
use Rattle.ce_text.specs.Table.{table_value}
use Rattle.rv_asm.specs.Register.{register_names, named_register}
use Rattle.rv_asm.specs.Words.{mnemonic_table, mnemonic_of}
use Rattle.rv_asm.specs.Faults.{◌>>=◌, pair_judgment}
use Rattle.rv_asm.specs.Operand.{no_piece, two_pieces, three_pieces, register, number, number_in_range, twelve_bits, memory, bracket_operand}
use Rattle.rv_asm.specs.Sizes.{size_of}
use Rattle.rv_asm.specs.Statements.{register_upper, register_memory, immediate, registers_immediate, three_registers, statements_of}
use Rattle.rv_asm.specs.FirstPass.{LayoutSoFar, layout_of, empty_layout, layout_with_statement, layout_with_all, layout_with_statements, layout_with_statement_text, layout_with_labelled_statement, layout_with_line, judgment_at_line, layout_with_lines, first_pass}
use Rattle.rv_asm.specs.SecondPass.{Instruction, parts_of, second_pass}
use Rattle.rv_asm.specs.Assembly.{assembly_of}
use Rattle.rv_asm_laws.specs.Before.{label_part, label_of}
use Rattle.rv_asm_laws.specs.LineFaults.{statement_part, statement_text, statement_word, statement_operands}
use Rattle.rv_asm_laws.specs.Forms.{is_bracketed, base_part, operand_texts}
use Rattle.rv_asm_laws.specs.Listing.{IsRegisterText, IsNumberText, IsUpperText, IsMemoryText, AreTwo, AreThree, AreOperandsOf, instruction_mnemonic, IsWrittenAs, IsEmptyLine, IsListing}
use Rattle.rv_asm.proofs.Pieces.{pieces_cut}
use Rattle.rv_asm.proofs.Assembling.{described}

-- ---- one operand

all_tokens : List (List ℕ × ℕ) → Bool
all_tokens [] = true
all_tokens (row ∷ rows) = is_token row.0 && all_tokens rows

token_by : (row : List ℕ) (text : List ℕ) (same : Bool) (n m : ℕ) (rest : Option ℕ) → bytes_eq row text ≡ same → is_token row ≡ true → (rest ≡ Some n → is_token text ≡ true)
    → cond same (Some m) rest ≡ Some n → is_token text ≡ true
token_by row text true n m rest e t others h = subst (λ (bytes : List ℕ). is_token bytes ≡ true) ((bytes_decides row text).0 e) t
token_by row text false n m rest e t others h = others h

token_found : (rows : List (List ℕ × ℕ)) (text : List ℕ) (n : ℕ) → all_tokens rows ≡ true → table_value rows text ≡ Some n → is_token text ≡ true
unfolding all_tokens
token_found [] text n all h = absurd cc
token_found (row ∷ rows) text n all h =
    let parts = and_parts (is_token row.0) (all_tokens rows) all in
    token_by row.0 text (bytes_eq row.0 text) n row.1 (table_value rows text) refl parts.0 (token_found rows text n parts.1) h

register_token : (n : ℕ) (text : List ℕ) → IsRegisterText n text → is_token text ≡ true
unfolding named_register register_names all_tokens is_token
register_token n text h = token_found register_names text n refl h

reads_register : (n : ℕ) (text : List ℕ) → IsRegisterText n text → register text ≡ Ok n
unfolding register
reads_register n text h = rw (register_token n text h, h) refl

reads_number : (names : Names) (n : ℤ) (text : List ℕ) → IsNumberText n text → number names text ≡ Ok n
unfolding number
reads_number names n text h = rw (h.token, h.unnamed, h.number) refl

so_true : (b : Bool) → T b → b ≡ true
so_true true h = refl
so_true false h = absurd h

at_most : (a b : ℤ) → a ≤ℤ b → int_le a b ≡ true
at_most a b h = so_true (int_le a b) h.le

reads_ranged : (names : Names) (low high n : ℤ) (text : List ℕ) → low ≤ℤ n → n ≤ℤ high → IsNumberText n text → number_in_range low high (number names text) ≡ Ok n
unfolding number_in_range
reads_ranged names low high n text l h w = rw (reads_number names n text w, at_most low n l, at_most n high h) refl

memory_by : (names : Names) (n : ℤ) (rs1 : ℕ) → IsTwelveBits n → (front : List ℕ) (rest : Option (List ℕ)) → is_bracketed rest ≡ true → IsNumberText n (without_outer_blanks front) → IsRegisterText rs1 (base_part rest)
    → bracket_operand names front rest ≡ Ok (n, rs1)
unfolding twelve_bits pair_judgment
memory_by names n rs1 small front None e offset base = absurd cc
memory_by names n rs1 small front (Some behind) e offset base =
    rw (e, reads_ranged names LEAST_IMMEDIATE GREATEST_IMMEDIATE n (without_outer_blanks front) small.0 small.1 offset, reads_register rs1 (without_outer_blanks (cut_parts is_closing behind).0) base) refl

reads_memory : (names : Names) (n : ℤ) (rs1 : ℕ) (text : List ℕ) → IsTwelveBits n → IsMemoryText n rs1 text → memory names text ≡ Ok (n, rs1)
unfolding memory
reads_memory names n rs1 text small w = memory_by names n rs1 small (cut_parts is_opening text).0 (cut_parts is_opening text).1 w.closed w.offset w.base

-- ---- operands

two_texts : (First Second : List ℕ → Type 0) (texts : List (List ℕ)) → AreTwo First Second texts → (a : List ℕ) × (b : List ℕ) × (texts ≡ a ∷ b ∷ []) × First a × Second b
two_texts First Second [] h = absurd h
two_texts First Second (a ∷ []) h = absurd h
two_texts First Second (a ∷ b ∷ []) h = (a, b, refl, h.0, h.1)
two_texts First Second (a ∷ b ∷ c ∷ texts) h = absurd h

three_texts : (First Second Third : List ℕ → Type 0) (texts : List (List ℕ)) → AreThree First Second Third texts
    → (a : List ℕ) × (b : List ℕ) × (c : List ℕ) × (texts ≡ a ∷ b ∷ c ∷ []) × First a × Second b × Third c
three_texts First Second Third [] h = absurd h
three_texts First Second Third (a ∷ []) h = absurd h
three_texts First Second Third (a ∷ b ∷ []) h = absurd h
three_texts First Second Third (a ∷ b ∷ c ∷ []) h = (a, b, c, refl, h.0, h.1, h.2)
three_texts First Second Third (a ∷ b ∷ c ∷ d ∷ texts) h = absurd h

pieces_of : (operands : List ℕ) (text : List ℕ) (texts : List (List ℕ)) → operand_texts operands ≡ text ∷ texts → pieces operands ≡ text ∷ texts
pieces_of [] text texts e = absurd cc
pieces_of (byte ∷ bytes) text texts e = e

nothing_of : (operands : List ℕ) → operand_texts operands ≡ [] → no_piece operands ≡ Ok tt
unfolding pieces
nothing_of [] e = refl
nothing_of (byte ∷ bytes) e =
    let some = pieces_cut (byte ∷ bytes) in
    absurd cc

upper_small : (n word : ℕ) → word ≡ n * 4096 → word < 2 ^ 32 → pos n ≤ℤ GREATEST_UPPER
upper_small n word e lt = omega (arith, ints, e, lt)

not_negative : (n : ℕ) → pos 0 ≤ℤ pos n
not_negative n = omega (arith, ints)

module _ (names : Names) (operands : List ℕ) where
  reads_upper : (rd imm : ℕ) → IsUpper imm → AreTwo (IsRegisterText rd) (IsUpperText imm) (operand_texts operands) → register_upper names operands ≡ Ok (rd, imm)
  unfolding register_upper two_pieces pair_judgment
  reads_upper rd imm upper h =
      let t = two_texts (IsRegisterText rd) (IsUpperText imm) (operand_texts operands) h in
      let w = t.4 in
      rw (pieces_of operands t.0 (t.1 ∷ []) t.2, reads_register rd t.0 t.3, reads_ranged names (pos 0) GREATEST_UPPER (pos w.0) t.1 (not_negative w.0) (upper_small w.0 imm w.1 upper.0) w.2)
      (ap (λ (n : ℕ). Ok (rd, n)) (sym w.1))

  reads_place : (rd rs1 : ℕ) (imm : ℤ) → IsTwelveBits imm → AreTwo (IsRegisterText rd) (IsMemoryText imm rs1) (operand_texts operands) → register_memory names operands ≡ Ok (rd, imm, rs1)
  unfolding register_memory two_pieces pair_judgment
  reads_place rd rs1 imm small h =
      let t = two_texts (IsRegisterText rd) (IsMemoryText imm rs1) (operand_texts operands) h in
      rw (pieces_of operands t.0 (t.1 ∷ []) t.2, reads_register rd t.0 t.3, reads_memory names imm rs1 t.1 small t.4) refl

  reads_immediate : (op : ImmOp) (imm : ℤ) (text : List ℕ) → IsImmediateOf op imm → IsNumberText imm text → immediate names op text ≡ Ok imm
  unfolding immediate
  reads_immediate Addi imm text small w = reads_ranged names _ _ imm text small.0 small.1 w
  reads_immediate Slti imm text small w = reads_ranged names _ _ imm text small.0 small.1 w
  reads_immediate Sltiu imm text small w = reads_ranged names _ _ imm text small.0 small.1 w
  reads_immediate Xori imm text small w = reads_ranged names _ _ imm text small.0 small.1 w
  reads_immediate Ori imm text small w = reads_ranged names _ _ imm text small.0 small.1 w
  reads_immediate Andi imm text small w = reads_ranged names _ _ imm text small.0 small.1 w
  reads_immediate Slli imm text small w = reads_ranged names _ _ imm text small.0 small.1 w
  reads_immediate Srli imm text small w = reads_ranged names _ _ imm text small.0 small.1 w
  reads_immediate Srai imm text small w = reads_ranged names _ _ imm text small.0 small.1 w

  reads_with_immediate : (op : ImmOp) (rd rs1 : ℕ) (imm : ℤ) → IsImmediateOf op imm → AreThree (IsRegisterText rd) (IsRegisterText rs1) (IsNumberText imm) (operand_texts operands)
      → registers_immediate names op operands ≡ Ok (rd, rs1, imm)
  unfolding registers_immediate three_pieces pair_judgment
  reads_with_immediate op rd rs1 imm small h =
      let t = three_texts (IsRegisterText rd) (IsRegisterText rs1) (IsNumberText imm) (operand_texts operands) h in
      rw (pieces_of operands t.0 (t.1 ∷ t.2 ∷ []) t.3, reads_register rd t.0 t.4, reads_register rs1 t.1 t.5, reads_immediate op imm t.2 small t.6) refl

  reads_registers : (rd rs1 rs2 : ℕ) → AreThree (IsRegisterText rd) (IsRegisterText rs1) (IsRegisterText rs2) (operand_texts operands) → three_registers operands ≡ Ok (rd, rs1, rs2)
  unfolding three_registers three_pieces pair_judgment
  reads_registers rd rs1 rs2 h =
      let t = three_texts (IsRegisterText rd) (IsRegisterText rs1) (IsRegisterText rs2) (operand_texts operands) h in
      rw (pieces_of operands t.0 (t.1 ∷ t.2 ∷ []) t.3, reads_register rd t.0 t.4, reads_register rs1 t.1 t.5, reads_register rs2 t.2 t.6) refl

  -- what the operands of an instruction lay
  reads : (inst : Inst) → IsValid inst → AreOperandsOf inst (operand_texts operands) → statements_of (instruction_mnemonic inst) names operands ≡ Ok (statements.Inst inst ∷ [])
  unfolding statements_of
  reads (insts.Lui rd imm) valid h = rw (reads_upper rd imm valid.1 h) refl
  reads (insts.Auipc rd imm) valid h = rw (reads_upper rd imm valid.1 h) refl
  reads (insts.Jal rd offset) valid h = absurd h
  reads (insts.Jalr rd rs1 imm) valid h = rw (reads_place rd rs1 imm valid.2 h) refl
  reads (insts.Branch op rs1 rs2 offset) valid h = absurd h
  reads (insts.Load op rd rs1 imm) valid h = rw (reads_place rd rs1 imm valid.2 h) refl
  reads (insts.Store op rs1 rs2 imm) valid h = rw (reads_place rs2 rs1 imm valid.2 h) refl
  reads (insts.OpImm op rd rs1 imm) valid h = rw (reads_with_immediate op rd rs1 imm valid.2 h) refl
  reads (insts.Op op rd rs1 rs2) valid h = rw (reads_registers rd rs1 rs2 h) refl
  reads (insts.Fence word) valid h = rw (nothing_of operands h) refl
  reads insts.Ecall valid h = rw (nothing_of operands h) refl
  reads insts.Ebreak valid h = rw (nothing_of operands h) refl

-- ---- a line

found_by : (test : ℕ → Bool) (byte : ℕ) (bytes : List ℕ) (passes : Bool) → test byte ≡ passes → (length bytes ≤ position_or_len test bytes → list_any test bytes ≡ false)
    → length (byte ∷ bytes) ≤ position_or_len test (byte ∷ bytes) → list_any test (byte ∷ bytes) ≡ false
found_by test byte bytes true e others le =
    let none : position_or_len test (byte ∷ bytes) ≡ 0 = rw e refl in
    absurd (omega arith)
found_by test byte bytes false e others le =
    let more : position_or_len test (byte ∷ bytes) ≡ 1 + position_or_len test bytes = rw e refl in
    rw e (others (omega arith))

none_found : (test : ℕ → Bool) (bytes : List ℕ) → length bytes ≤ position_or_len test bytes → list_any test bytes ≡ false
none_found test [] le = refl
none_found test (byte ∷ bytes) le = found_by test byte bytes (test byte) refl (none_found test bytes) le

outside : (front behind : List ℕ) (within : Bool) → label_part (front, cond within (Some behind) None) ≡ None → within ≡ false
outside front behind true e = absurd cc
outside front behind false e = refl

any_if : (test : ℕ → Bool) (blank : Bool) (first second : List ℕ) → list_any test first ≡ false → list_any test second ≡ false → list_any test (cond blank first second) ≡ false
any_if test true first second e h = e
any_if test false first second e h = h

any_front : (test : ℕ → Bool) (bytes : List ℕ) → list_any test bytes ≡ false → list_any test (without_front_blanks bytes) ≡ false
unfolding without_front_blanks
any_front test [] e = refl
any_front test (byte ∷ bytes) e =
    any_if test (is_blank byte) (without_front_blanks bytes) (byte ∷ bytes) (any_front test bytes (or_parts (test byte) (list_any test bytes) e).1) e

any_onto : (test : ℕ → Bool) (byte : ℕ) (rest : List ℕ) → test byte ≡ false → list_any test rest ≡ false → list_any test (with_front_byte byte rest) ≡ false
any_onto test byte [] e h = any_if test (is_blank byte) [] (byte ∷ []) refl (rw e refl)
any_onto test byte (next ∷ rest) e h = rw e h

any_end : (test : ℕ → Bool) (bytes : List ℕ) → list_any test bytes ≡ false → list_any test (without_end_blanks bytes) ≡ false
unfolding without_end_blanks
any_end test [] e = refl
any_end test (byte ∷ bytes) e =
    let parts = or_parts (test byte) (list_any test bytes) e in
    any_onto test byte (without_end_blanks bytes) parts.0 (any_end test bytes parts.1)

any_trimmed : (test : ℕ → Bool) (bytes : List ℕ) → list_any test bytes ≡ false → list_any test (without_outer_blanks bytes) ≡ false
unfolding without_outer_blanks
any_trimmed test bytes e = any_end test (without_front_blanks bytes) (any_front test bytes e)

-- a line without a label: no colon, and all of it is the statement
record IsUnlabelled (code : List ℕ) : Type 0 where
  none : (cut_parts is_colon code).1 ≡ None
  no_colon : list_any is_colon (without_outer_blanks (cut_parts is_colon code).0) ≡ false

unlabelled_by : (code : List ℕ) (within : Bool) → nat_lt (position_or_len is_colon code) (length code) ≡ within → label_part (cut_parts is_colon code) ≡ None → IsUnlabelled code
unfolding cut_parts
unlabelled_by code true lt e =
    let gone = outside (before_first is_colon code) (after_first is_colon code) true (rw lt at e) in
    absurd cc
unlabelled_by code false lt e =
    let le : length code ≤ position_or_len is_colon code = ltb-false (position_or_len is_colon code) (length code) lt in
    record {
      none = rw lt refl;
      no_colon = any_trimmed is_colon (before_first is_colon code) (rw (take_all (position_or_len is_colon code) code le) (none_found is_colon code le));
    }

unlabelled : (line : List ℕ) → label_of line ≡ None → IsUnlabelled (before_comment line)
unfolding label_of
unlabelled line e = unlabelled_by (before_comment line) (nat_lt (position_or_len is_colon (before_comment line)) (length (before_comment line))) refl e

behind_by : (front : List ℕ) (rest : Option (List ℕ)) → rest ≡ None → statement_part (front, rest) ≡ without_outer_blanks front
behind_by front None e = refl
behind_by front (Some rest) e = absurd cc

labelled_by : (number : ℕ) (layout : LayoutSoFar) (front : List ℕ) (rest : Option (List ℕ)) → rest ≡ None → layout_with_labelled_statement number layout front rest ≡ layout_with_statement_text number layout (without_outer_blanks front)
labelled_by number layout front None e = refl
labelled_by number layout front (Some rest) e = absurd cc

-- a line without a label is its statement
line_is : (number : ℕ) (layout : LayoutSoFar) (line : List ℕ) → list_all is_plain (before_comment line) ≡ true → label_of line ≡ None
    → (list_any is_colon (statement_text line) ≡ false) × (layout_with_line number layout line ≡ layout_with_statement_text number layout (statement_text line))
unfolding layout_with_line
line_is number layout line plain none =
    let code = before_comment line in
    let u = unlabelled line none in
    let same : statement_text line ≡ without_outer_blanks (cut_parts is_colon code).0 = behind_by (cut_parts is_colon code).0 (cut_parts is_colon code).1 u.none in
    (ap (list_any is_colon) same ∙ u.no_colon, rw plain (labelled_by number layout (cut_parts is_colon code).0 (cut_parts is_colon code).1 u.none ∙ ap (layout_with_statement_text number layout) (sym same)))

no_equ : (word : List ℕ) (mnemonic : Mnemonic) (same : Bool) → bytes_eq word (codes ".equ") ≡ same → mnemonic_of word ≡ Some mnemonic → same ≡ false
unfolding mnemonic_of mnemonic_table
no_equ word mnemonic true e h =
    let known : mnemonic_of (codes ".equ") ≡ Some mnemonic = ap mnemonic_of (sym ((bytes_decides word (codes ".equ")).0 e)) ∙ h in
    absurd cc
no_equ word mnemonic false e h = refl

-- what a statement with a known mnemonic lays
statement_by : (number : ℕ) (layout : LayoutSoFar) (bytes : List ℕ) (mnemonic : Mnemonic) (these : List Statement) → list_any is_colon bytes ≡ false → mnemonic_of (statement_word bytes) ≡ Some mnemonic
    → statements_of mnemonic layout.names (statement_operands bytes) ≡ Ok these → layout_with_statement_text number layout bytes ≡ layout_with_all number layout these
unfolding layout_with_statement_text layout_with_statements mnemonic_of mnemonic_table cut_parts
statement_by number layout [] mnemonic these colon known e = absurd cc
statement_by number layout (byte ∷ bytes) mnemonic these colon known e =
    let other : bytes_eq (statement_word (byte ∷ bytes)) (codes ".equ") ≡ false = no_equ (statement_word (byte ∷ bytes)) mnemonic _ refl known in
    rw (colon, other, known, e) refl

-- ---- a listing

-- one more instruction
with_instruction : ℕ → LayoutSoFar → Inst → LayoutSoFar
with_instruction number layout inst = layout_of layout.names (layout.statements ++ record { line = number; statement = statements.Inst inst } ∷ []) (layout.size + 4)

-- there is room for so many words
record HasRoom (layout : LayoutSoFar) (count : ℕ) : Type 0 where
  aligned : layout.size % 4 ≡ 0
  fits : layout.size + 4 * count ≤ IMAGE_ROOM

placed_so : (number : ℕ) (layout : LayoutSoFar) (inst : Inst) (count : ℕ) → HasRoom layout (suc count) → layout_with_all number layout (statements.Inst inst ∷ []) ≡ Ok (with_instruction number layout inst)
unfolding layout_with_all layout_with_statement with_instruction
placed_so number layout inst count room =
    let fits : nat_lt IMAGE_ROOM (layout.size + 4) ≡ false = le-ltb _ _ (omega (arith, room.fits)) in
    rw (room.aligned, fits) refl

line_written : (number : ℕ) (layout : LayoutSoFar) (line : List ℕ) (inst : Inst) (count : ℕ) → HasRoom layout (suc count) → IsWrittenAs inst line → layout_with_line number layout line ≡ Ok (with_instruction number layout inst)
line_written number layout line inst count room w =
    let is = line_is number layout line w.plain w.unlabelled in
    is.1
    ∙ statement_by number layout (statement_text line) (instruction_mnemonic inst) (statements.Inst inst ∷ []) is.0 w.mnemonic (reads layout.names (statement_operands (statement_text line)) inst w.valid w.operands)
    ∙ placed_so number layout inst count room

line_empty : (number : ℕ) (layout : LayoutSoFar) (line : List ℕ) → IsEmptyLine line → layout_with_line number layout line ≡ Ok layout
unfolding layout_with_statement_text
line_empty number layout line w = (line_is number layout line w.plain w.unlabelled).1 ∙ ap (layout_with_statement_text number layout) w.nothing

-- placed statements that are these instructions
ArePlaced : List PlacedStatement → List Inst → Type 0
ArePlaced [] [] = Unit {0}
ArePlaced [] (inst ∷ insts) = ⊥
ArePlaced (it ∷ placed) [] = ⊥
ArePlaced (it ∷ placed) (inst ∷ insts) = (it.statement ≡ statements.Inst inst) × ArePlaced placed insts

record AreWritten (before : ℕ) (layout : LayoutSoFar) (these : List (List ℕ)) (insts : List Inst) : Type 0 where
  placed : List PlacedStatement
  laid_are : layout_with_lines before layout these ≡ Ok (layout_of layout.names (layout.statements ++ placed) (layout.size + 4 * length insts))
  are : ArePlaced placed insts

are_none : (before : ℕ) (layout : LayoutSoFar) → AreWritten before layout [] []
unfolding layout_with_lines ArePlaced
are_none before layout = record {
  placed = [];
  laid_are = ap (λ (placed : List PlacedStatement). Ok (layout_of layout.names placed layout.size)) (sym (append-nil layout.statements)) ∙ ap (λ (n : ℕ). Ok (layout_of layout.names (layout.statements ++ []) n)) (omega arith);
  are = tt;
}

are_behind_empty : (before : ℕ) (layout : LayoutSoFar) (line : List ℕ) (these : List (List ℕ)) (insts : List Inst) → IsEmptyLine line → AreWritten (before + 1) layout these insts → AreWritten before layout (line ∷ these) insts
unfolding layout_with_lines
are_behind_empty before layout line these insts w rest = record {
  placed = rest.placed;
  laid_are = ap (λ (r : Result LayoutSoFar AsmKind). judgment_at_line (before + 1) r >>= λ one. layout_with_lines (before + 1) one these) (line_empty (before + 1) layout line w) ∙ rest.laid_are;
  are = rest.are;
}

are_behind : (before : ℕ) (layout : LayoutSoFar) (line : List ℕ) (these : List (List ℕ)) (inst : Inst) (insts : List Inst) → HasRoom layout (suc (length insts)) → IsWrittenAs inst line
    → AreWritten (before + 1) (with_instruction (before + 1) layout inst) these insts → AreWritten before layout (line ∷ these) (inst ∷ insts)
unfolding layout_with_lines with_instruction ArePlaced
are_behind before layout line these inst insts room w rest =
    let one : PlacedStatement = record { line = before + 1; statement = statements.Inst inst } in
    record {
      placed = one ∷ rest.placed;
      laid_are =
          ap (λ (r : Result LayoutSoFar AsmKind). judgment_at_line (before + 1) r >>= λ next. layout_with_lines (before + 1) next these) (line_written (before + 1) layout line inst (length insts) room w)
          ∙ rest.laid_are
          ∙ ap (λ (placed : List PlacedStatement). Ok (layout_of layout.names placed (layout.size + 4 + 4 * length insts))) (append_assoc layout.statements (one ∷ []) rest.placed)
          ∙ ap (λ (n : ℕ). Ok (layout_of layout.names (layout.statements ++ one ∷ rest.placed) n)) (omega arith);
      are = (refl, rest.are);
    }

room_behind : (number : ℕ) (layout : LayoutSoFar) (inst : Inst) (count : ℕ) → HasRoom layout (suc count) → HasRoom (with_instruction number layout inst) count
unfolding with_instruction
room_behind number layout inst count room = record { aligned = omega (arith, room.aligned); fits = omega (arith, room.fits) }

are_written : (before : ℕ) (layout : LayoutSoFar) (these : List (List ℕ)) (insts : List Inst) → HasRoom layout (length insts) → IsListing these insts → AreWritten before layout these insts
are_written before layout [] [] room h = are_none before layout
are_written before layout [] (inst ∷ insts) room h = absurd h
are_written before layout (line ∷ these) [] room h = are_behind_empty before layout line these [] h.0 (are_written (before + 1) layout these [] room h.1)
are_written before layout (line ∷ these) (inst ∷ insts) room (inl h) =
    are_behind before layout line these inst insts room h.0
    (are_written (before + 1) (with_instruction (before + 1) layout inst) these insts (room_behind (before + 1) layout inst (length insts) room) h.1)
are_written before layout (line ∷ these) (inst ∷ insts) room (inr h) =
    are_behind_empty before layout line these (inst ∷ insts) h.0 (are_written (before + 1) layout these (inst ∷ insts) room h.1)

parts_so : (names : Names) (address : ℕ) (placed : List PlacedStatement) (insts : List Inst) → ArePlaced placed insts → second_pass names address placed ≡ Ok (map Instruction insts)
unfolding second_pass ArePlaced parts_of
parts_so names address [] [] h = refl
parts_so names address [] (inst ∷ insts) h = absurd h
parts_so names address (it ∷ placed) [] h = absurd h
parts_so names address (it ∷ placed) (inst ∷ insts) h =
    ap (λ (statement : Statement). judgment_at_line it.line (parts_of names address statement) >>= λ here. second_pass names (address + size_of statement) placed >>= λ there. Ok (here ++ there)) h.0
    ∙ rw (parts_so names (address + 4) placed insts h.1) refl

pub listing_assembles : (text : List ℕ) (insts : List Inst) → IsListing (line_texts text) insts → 0 < length insts → 4 * length insts ≤ IMAGE_ROOM
    → assembly_of text ≡ Ok (record { entry = PRIVATE_START; parts = map Instruction insts })
unfolding first_pass
listing_assembles text insts h some fits =
    let all = are_written 0 empty_layout (line_texts text) insts (record { aligned = refl; fits = omega (arith, fits) }) h in
    let layout = layout_of no_names all.placed (0 + 4 * length insts) in
    let begins : is_entry PRIVATE_START (0 + 4 * length insts) ≡ true = le-leb _ _ (omega (arith, some)) in
    described text layout (map Instruction insts) all.laid_are (parts_so no_names PRIVATE_START all.placed insts all.are) begins
