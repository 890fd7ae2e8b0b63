-- Assembly texts, computed: the faults of a script's images, and the image of the load.
use Rattle.std.proofs.Common.{◌≡◌, ℕ, List, [], ◌∷◌, Some, Result, Ok, refl, codes}
use Rattle.std.specs.Prelude.{flat_map}
use Rattle.std.specs.Int.{w32, to_le_bytes}
use Rattle.rv_model.specs.declared.limits.TheConstants.{PRIVATE_START}
use Rattle.rv_model.specs.Image.{ImageParts, image_parts}
use Rattle.rv_asm.specs.declared.fault.AsmFault.{AsmFault}
use Rattle.rv_asm.specs.declared.fault.AsmKind.TheVariants as kinds
use Rattle.rv_asm.specs.Literal.{literal_of}
use Rattle.rv_asm.specs.Faults.{pair_judgment, with_judgment, judgment_of_list}
use Rattle.rv_asm.specs.Assembly.{assembly_of}
use Rattle.ce_text.specs.Name.{is_name}
use Rattle.rv_asm.specs.Line.{pieces, is_token}
use Rattle.ce_text.specs.Line.{cut_parts, without_front_blanks, without_end_blanks, without_outer_blanks, before_comment, lines_text}
use Rattle.ce_text.specs.Number.{number_of_digits}
use Rattle.rv_asm.specs.Statements.{register_upper, register_memory, immediate, registers_immediate, three_registers, two_registers, register_word, register_label, registers_label, one_label, word_value, byte_value, zero_count, statements_of}
use Rattle.rv_asm.specs.Register.{register_names, named_register}
use Rattle.rv_asm.specs.Words.{mnemonic_table, mnemonic_of}
use Rattle.rv_asm.specs.SecondPass.{address_of, offset_to, parts_of, second_pass}
use Rattle.rv_asm.specs.FirstPass.{layout_with_statement, layout_with_all, layout_with_name, layout_with_number, layout_with_statements, layout_with_statement_text, layout_with_line, layout_with_lines, first_pass}
use Rattle.rv_asm.specs.Operand.{one_piece, two_pieces, three_pieces, register, number, number_in_range, name_piece, twelve_bits, memory}
use Rattle.ce_script.specs.declared.script.ScriptKind.TheVariants.{Assembly}
use Rattle.rv_inst.specs.Encoding.{word_of}
use Rattle.ce_script.specs.AssemblyImage.{assembly_image}
use Rattle.ce_script.specs.Bodies.{located_fault}
use Rattle.ce_script.specs.Faults.{first_script_fault}
use Rattle.ce_script.specs.Load.{ring_text}
use Rattle.ce_script.proofs.Computing.{grammar}

-- the image of an assembly text, with all of the assembler unfolded
unfoldable pub assembler : List ℕ → Result ImageParts AsmFault
unfolding assembly_image word_of assembly_of first_pass layout_with_lines layout_with_line layout_with_statement_text layout_with_statements layout_with_number layout_with_name layout_with_statement layout_with_all second_pass parts_of offset_to address_of mnemonic_of mnemonic_table named_register register_names statements_of register_upper register_memory immediate registers_immediate three_registers two_registers register_word register_label registers_label one_label word_value byte_value zero_count one_piece two_pieces three_pieces register number number_in_range name_piece twelve_bits memory cut_parts without_front_blanks without_end_blanks without_outer_blanks before_comment pieces is_token is_name pair_judgment with_judgment judgment_of_list number_of_digits literal_of
assembler text = assembly_image text

one_call : assembly_image (codes "ecall") ≡ Ok (image_parts PRIVATE_START (0x73 ∷ 0 ∷ 0 ∷ 0 ∷ []) 0)
unfolding assembler
one_call = refl

-- ---- faults of scripts

-- the assembler's fault, at the image's line and its own
asm_unknown_word : first_script_fault (lines_text (codes "machine 0" ∷ codes "image x asm" ∷ codes "ecall" ∷ codes "fly" ∷ codes "end" ∷ [])) ≡ Some (located_fault 4 (Assembly kinds.UnknownWord))
unfolding grammar assembler
asm_unknown_word = refl

-- an image without a word is refused at its line
asm_entry : first_script_fault (lines_text (codes "machine 0" ∷ codes "image x asm" ∷ codes "end" ∷ [])) ≡ Some (located_fault 2 (Assembly kinds.Entry))
unfolding grammar assembler
asm_entry = refl

-- ---- the load

-- the words of the load's program
abbrev ring_words : List ℕ
ring_words = 0x00700893 ∷ 0x00000073 ∷ 0x00050413 ∷ 0x00A00893 ∷ 0x00000073 ∷ 0x00050493 ∷ 0x00042283 ∷ 0x00148313 ∷ 0x006282B3 ∷ 0x00542023 ∷ 0x00442283 ∷ 0xFFF28293 ∷ 0x00542223 ∷ 0x00028E63 ∷ 0x00C00893 ∷ 0x00000073 ∷ 0xFFF50313 ∷ 0x00148593 ∷ 0x0065F5B3 ∷ 0x0080006F ∷ 0xFFF00593 ∷ 0x00000613 ∷ 0x00040513 ∷ 0x00400893 ∷ 0x00000073 ∷ 0xF9DFF06F ∷ []

-- the load's program has no fault, and these words
pub ring_is_assembled : assembly_image ring_text ≡ Ok (image_parts PRIVATE_START (flat_map (to_le_bytes w32) ring_words) 0)
unfolding assembler
ring_is_assembled = refl
