-- The faults of bodies.
use Rattle.std.proofs.Common.{◌≡◌, ℕ, ◌+◌, List, Bool, true, Option, Some, None, Ok, Err, refl, sym, ap, ◌∙◌}
use Rattle.std.specs.Prelude.{find, option_map}
use Rattle.std.specs.Option.{option_or}
use Rattle.rv_model.specs.declared.limits.TheConstants.{PRIVATE_START}
use Rattle.rv_model.specs.declared.memory.NoMemory.{NoMemory}
use Rattle.rv_model.specs.Image.{ImageParts, image_parts}
use Rattle.rv_image.specs.declared.fault.ImageFault.{ImageFault}
use Rattle.rv_image.specs.declared.fault.ImageFault.TheVariants as image_faults
use Rattle.rv_image.specs.Fault.{parts_fault, named_cause}
use Rattle.rv_image.specs.Rki1.{fields_of, fault_of}
use Rattle.rv_asm.specs.declared.fault.AsmFault.{AsmFault}
use Rattle.rv_asm.specs.declared.fault.AsmKind.{AsmKind}
use Rattle.rv_asm.specs.declared.fault.AsmKind.TheVariants as kinds
use Rattle.rv_asm.specs.Faults.{AsmUnless}
use Rattle.rv_asm.specs.Assembly.{assembly_of, IsAssemblyOf}
use Rattle.ce_script.specs.declared.grammar.ImageForm.{ImageForm}
use Rattle.ce_script.specs.declared.grammar.ImageForm.TheVariants.{Hex, Asm, Rki}
use Rattle.ce_script.specs.declared.reader.rest.Body.{Body}
use Rattle.ce_script.specs.declared.script.ScriptFault.{ScriptFault}
use Rattle.ce_script.specs.declared.script.ScriptKind.{ScriptKind}
use Rattle.ce_script.specs.declared.script.ScriptKind.TheVariants.{BadByte, BadImage, Memory, Assembly}
use Rattle.ce_script.specs.AssemblyImage.{assembly_image}
use Rattle.ce_script.specs.Lines.{Line, has_bad_byte}
use Rattle.ce_script.specs.Spellings.{written_bytes, instruction_in}
use Rattle.ce_script.specs.Bodies.{located_fault, first_line_fault, has_bad_word, body_bytes, form_image, image_or_nothing, assembly_fault, form_fault, body_fault}
use Rattle.ce_script.specs.Reading.{ScriptUnless}
use Rattle.ce_script.specs.ReadLines.{body_lines, IsBody}
use Rattle.ce_script.proofs.AssemblyImages.{assembles_image, assembles_fault}
use Rattle.ce_script.proofs.BodyLines.{shown_bad_byte, shown_bad_word, shown_bytes}

-- what is known of a fault leads to more
pub unless_map : (kind : ScriptKind) (P Q : Type 0) → (P → Q) → ScriptUnless kind P → ScriptUnless kind Q
unless_map (Memory want) P Q f h = tt
unless_map (Assembly (kinds.Memory want)) P Q f h = h
unless_map other P Q f h = f h

same_fault : (kind : ScriptKind) (n : ℕ) (test : Line → Bool) (lines : List Line) (line : Line) → kind ≡ BadImage → line.number ≡ n → find test lines ≡ Some line
    → first_line_fault test BadImage lines ≡ Some (located_fault n kind)
same_fault kind n test lines line e f g =
    ap (option_map (λ (it : Line). located_fault it.number BadImage)) g
    ∙ ap (λ (m : ℕ). Some (located_fault m BadImage)) f ∙ ap (λ (k : ScriptKind). Some (located_fault n k)) (sym e)

-- a line with a bad word is the first one
pub bad_word : (kind : ScriptKind) (n : ℕ) (test : Line → Bool) (lines : List Line) (text : List ℕ) → ScriptUnless kind ((kind ≡ BadImage) × (test (record { number = n; text = text }) ≡ true))
    → (test (record { number = n; text = text }) ≡ true → find test lines ≡ Some (record { number = n; text = text })) → ScriptUnless kind (first_line_fault test BadImage lines ≡ Some (located_fault n kind))
bad_word kind n test lines text h found =
    let line : Line = record { number = n; text = text } in
    unless_map kind ((kind ≡ BadImage) × (test line ≡ true)) (first_line_fault test BadImage lines ≡ Some (located_fault n kind))
    (λ known. same_fault kind n test lines line known.0 refl (found known.1)) h

-- ---- hex and rki

pub named : (cause : ImageFault) → ((want : NoMemory) → cause ≡ image_faults.Memory want → ⊥) → named_cause {X = ImageParts} (Err cause) ≡ Some cause
named (image_faults.Memory want) not = absurd (not want refl)
named image_faults.Short not = refl
named image_faults.Magic not = refl
named image_faults.TooLarge not = refl
named image_faults.Length not = refl
named image_faults.Entry not = refl

shown_where : (body : Body) (lines : List Line) (read : List ℕ → Option (List ℕ)) → IsBody body lines → first_line_fault (has_bad_word read) BadImage (body_lines body) ≡ first_line_fault (has_bad_word read) BadImage lines
shown_where body lines read is =
    ap (option_map (λ (it : Line). located_fault it.number BadImage)) (ap (find (has_bad_word read)) is.shown ∙ shown_bad_word read lines is.last)

shown_items : (body : Body) (lines : List Line) (read : List ℕ → Option (List ℕ)) → IsBody body lines → body_bytes read (body_lines body) ≡ body_bytes read lines
shown_items body lines read is = ap (body_bytes read) is.shown ∙ shown_bytes read lines is.last

module _ (body : Body) (lines : List Line) (is : IsBody body lines) where
  pub hex_bad : (it : ScriptFault) → ScriptUnless it.kind (first_line_fault (has_bad_word instruction_in) BadImage (body_lines body) ≡ Some it) → ScriptUnless it.kind (form_fault Hex body.line lines ≡ Some it)
  unfolding form_fault
  hex_bad it h =
      let rest = option_map (λ cause. located_fault body.line BadImage) (parts_fault (form_image Hex lines)) in
      unless_map it.kind (first_line_fault (has_bad_word instruction_in) BadImage (body_lines body) ≡ Some it) (option_or (first_line_fault (has_bad_word instruction_in) BadImage lines) rest ≡ Some it)
      (λ e. ap (λ (found : Option ScriptFault). option_or found rest) (sym (shown_where body lines instruction_in is) ∙ e)) h

  pub rki_bad : (it : ScriptFault) → ScriptUnless it.kind (first_line_fault (has_bad_word written_bytes) BadImage (body_lines body) ≡ Some it) → ScriptUnless it.kind (form_fault Rki body.line lines ≡ Some it)
  unfolding form_fault
  rki_bad it h =
      let rest = option_map (λ cause. located_fault body.line BadImage) (fault_of (body_bytes written_bytes lines)) in
      unless_map it.kind (first_line_fault (has_bad_word written_bytes) BadImage (body_lines body) ≡ Some it) (option_or (first_line_fault (has_bad_word written_bytes) BadImage lines) rest ≡ Some it)
      (λ e. ap (λ (found : Option ScriptFault). option_or found rest) (sym (shown_where body lines written_bytes is) ∙ e)) h

  pub hex_judged : (items : List ℕ) (fault : Option ImageFault) → first_line_fault (has_bad_word instruction_in) BadImage (body_lines body) ≡ None → items ≡ body_bytes instruction_in (body_lines body)
      → fault ≡ parts_fault (image_parts PRIVATE_START items 0) → form_fault Hex body.line lines ≡ option_map (λ cause. located_fault body.line BadImage) fault
  unfolding form_fault form_image
  hex_judged items fault none same e =
      ap (λ (found : Option ScriptFault). option_or found (option_map (λ cause. located_fault body.line BadImage) (parts_fault (form_image Hex lines)))) (sym (shown_where body lines instruction_in is) ∙ none)
      ∙ ap (λ (bytes : List ℕ). option_map (λ cause. located_fault body.line BadImage) (parts_fault (image_parts PRIVATE_START bytes 0))) (sym (same ∙ shown_items body lines instruction_in is))
      ∙ ap (option_map (λ cause. located_fault body.line BadImage)) (sym e)

  pub hex_there : (items : List ℕ) (image : ImageParts) → items ≡ body_bytes instruction_in (body_lines body) → image ≡ image_parts PRIVATE_START items 0 → Some (form_image Hex lines) ≡ Some image
  unfolding form_image
  hex_there items image same e =
      ap (λ (bytes : List ℕ). Some (image_parts PRIVATE_START bytes 0)) (sym (same ∙ shown_items body lines instruction_in is)) ∙ ap Some (sym e)

  pub rki_judged : (items : List ℕ) (fault : Option ImageFault) → first_line_fault (has_bad_word written_bytes) BadImage (body_lines body) ≡ None → items ≡ body_bytes written_bytes (body_lines body)
      → fault ≡ fault_of items → form_fault Rki body.line lines ≡ option_map (λ cause. located_fault body.line BadImage) fault
  unfolding form_fault
  rki_judged items fault none same e =
      ap (λ (found : Option ScriptFault). option_or found (option_map (λ cause. located_fault body.line BadImage) (fault_of (body_bytes written_bytes lines)))) (sym (shown_where body lines written_bytes is) ∙ none)
      ∙ ap (λ (bytes : List ℕ). option_map (λ cause. located_fault body.line BadImage) (fault_of bytes)) (sym (same ∙ shown_items body lines written_bytes is))
      ∙ ap (option_map (λ cause. located_fault body.line BadImage)) (sym e)

  pub rki_there : (items : List ℕ) (image : ImageParts) → items ≡ body_bytes written_bytes (body_lines body) → fields_of items ≡ image → Some (form_image Rki lines) ≡ Some image
  unfolding form_image
  rki_there items image same e = ap (λ (bytes : List ℕ). Some (fields_of bytes)) (sym (same ∙ shown_items body lines written_bytes is)) ∙ ap Some e

  pub asm_there : (image : ImageParts) → IsAssemblyOf body.text.now (Ok image) → (form_fault Asm body.line lines ≡ None) × (Some (form_image Asm lines) ≡ Some image)
  unfolding form_fault form_image
  asm_there image a =
      let e = ap assembly_image is.text ∙ assembles_image body.text.now image a in
      (ap (assembly_fault body.line) e, ap (λ r. Some (image_or_nothing r)) e)

  asm_is : (fault : AsmFault) (kind : AsmKind) → kind ≡ fault.kind → assembly_of body.text.now ≡ Err fault
      → form_fault Asm body.line lines ≡ Some (located_fault (body.line + fault.line) (Assembly kind))
  unfolding form_fault
  asm_is fault kind same h =
      ap (λ (text : List ℕ). assembly_fault body.line (assembly_image text)) is.text
      ∙ ap (assembly_fault body.line) (assembles_fault body.text.now fault h)
      ∙ ap (λ (k : AsmKind). Some (located_fault (body.line + fault.line) (Assembly k))) (sym same)

  asm_by : (fault : AsmFault) (kind : AsmKind) → kind ≡ fault.kind → ((want : NoMemory) → kind ≡ kinds.Memory want → ⊥) → AsmUnless kind (assembly_of body.text.now ≡ Err fault)
      → ScriptUnless (Assembly kind) (form_fault Asm body.line lines ≡ Some (located_fault (body.line + fault.line) (Assembly kind)))
  asm_by fault (kinds.Memory want) same not h = absurd (not want refl)
  asm_by fault kinds.BadByte same not h = asm_is fault kinds.BadByte same h
  asm_by fault kinds.NameTaken same not h = asm_is fault kinds.NameTaken same h
  asm_by fault kinds.UnknownWord same not h = asm_is fault kinds.UnknownWord same h
  asm_by fault kinds.Operands same not h = asm_is fault kinds.Operands same h
  asm_by fault kinds.BadRegister same not h = asm_is fault kinds.BadRegister same h
  asm_by fault kinds.BadNumber same not h = asm_is fault kinds.BadNumber same h
  asm_by fault kinds.UnknownName same not h = asm_is fault kinds.UnknownName same h
  asm_by fault kinds.Unaligned same not h = asm_is fault kinds.Unaligned same h
  asm_by fault kinds.TooLarge same not h = asm_is fault kinds.TooLarge same h
  asm_by fault kinds.TooFar same not h = asm_is fault kinds.TooFar same h
  asm_by fault kinds.Entry same not h = asm_is fault kinds.Entry same h

  pub asm_bad : (fault : AsmFault) → ((want : NoMemory) → fault.kind ≡ kinds.Memory want → ⊥) → IsAssemblyOf body.text.now (Err fault)
      → ScriptUnless (Assembly fault.kind) (form_fault Asm body.line lines ≡ Some (located_fault (body.line + fault.line) (Assembly fault.kind)))
  asm_bad fault not h = asm_by fault fault.kind refl not h

-- ---- the whole body

shown_plain : (body : Body) (lines : List Line) → IsBody body lines → find has_bad_byte (body_lines body) ≡ find has_bad_byte lines
shown_plain body lines is = ap (find has_bad_byte) is.shown ∙ shown_bad_byte lines is.last

numbered_fault : (found : Option Line) (n : ℕ) → Some n ≡ option_map (λ (line : Line). line.number) found → option_map (λ (line : Line). located_fault line.number BadByte) found ≡ Some (located_fault n BadByte)
numbered_fault None n e = absurd cc
numbered_fault (Some line) n e = let same : n ≡ line.number = cc in ap (λ (m : ℕ). Some (located_fault m BadByte)) (sym same)

no_fault : (found : Option Line) → None ≡ option_map (λ (line : Line). line.number) found → found ≡ None
no_fault None e = refl
no_fault (Some line) e = absurd cc

pub body_bad_byte : (form : ImageForm) (body : Body) (lines : List Line) (n : ℕ) → IsBody body lines → Some n ≡ option_map (λ (line : Line). line.number) (find has_bad_byte (body_lines body))
    → body_fault form body.line lines ≡ Some (located_fault n BadByte)
unfolding body_fault
body_bad_byte form body lines n is e =
    ap (λ (found : Option ScriptFault). option_or found (form_fault form body.line lines)) (numbered_fault (find has_bad_byte lines) n (e ∙ ap (option_map (λ (line : Line). line.number)) (shown_plain body lines is)))

pub body_plain : (form : ImageForm) (body : Body) (lines : List Line) → IsBody body lines → None ≡ option_map (λ (line : Line). line.number) (find has_bad_byte (body_lines body))
    → body_fault form body.line lines ≡ form_fault form body.line lines
unfolding body_fault
body_plain form body lines is e =
    let none = no_fault (find has_bad_byte lines) (e ∙ ap (option_map (λ (line : Line). line.number)) (shown_plain body lines is)) in
    ap (λ (found : Option Line). option_or (option_map (λ (line : Line). located_fault line.number BadByte) found) (form_fault form body.line lines)) none
