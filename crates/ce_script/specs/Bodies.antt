-- The images that bodies describe, in each form.
use Rattle.std.specs.Prelude.{ℕ, ◌+◌, Bool, List, [], ◌∷◌, ◌++◌, flat_map, find, Option, Some, None, is_none, option_map, unwrap_or, Result, Ok, Err}
use Rattle.std.specs.List.{list_any}
use Rattle.std.specs.Option.{option_or}
use Rattle.rv_model.specs.declared.limits.TheConstants.{PRIVATE_START}
use Rattle.ce_text.specs.Bytes.{line_feed}
use Rattle.rv_model.specs.Image.{ImageParts, image_parts}
use Rattle.rv_image.specs.Fault.{parts_fault}
use Rattle.rv_image.specs.Rki1.{fields_of, fault_of}
use Rattle.rv_asm.specs.declared.fault.AsmFault.{AsmFault}
use Rattle.ce_script.specs.declared.grammar.ImageForm.{ImageForm}
use Rattle.ce_script.specs.declared.grammar.ImageForm.TheVariants.{Hex, Asm, Rki}
use Rattle.ce_script.specs.declared.script.ScriptFault.{ScriptFault}
use Rattle.ce_script.specs.declared.script.ScriptKind.{ScriptKind}
use Rattle.ce_script.specs.declared.script.ScriptKind.TheVariants.{BadByte, Assembly, BadImage}
use Rattle.ce_script.specs.Lines.{Line, words, has_bad_byte}
use Rattle.ce_script.specs.Spellings.{written_bytes, instruction_in}
use Rattle.ce_script.specs.AssemblyImage.{assembly_image}

-- ---- faults

-- a fault of this kind at this line
abbrev pub located_fault : ℕ → ScriptKind → ScriptFault
located_fault line kind = record { line = line; kind = kind }

-- a fault of this kind at the first line that passes a test
abbrev pub first_line_fault : (Line → Bool) → ScriptKind → List Line → Option ScriptFault
first_line_fault test kind body =
    option_map (λ line. located_fault line.number kind) (find test body)

-- ---- words of digits

-- a word of the line has no bytes by `bytes_of_word`
abbrev pub has_bad_word : (List ℕ → Option (List ℕ)) → Line → Bool
has_bad_word bytes_of_word line = list_any (λ word. is_none (bytes_of_word word)) (words line)

-- the bytes of the words of all lines, one behind the other
unfoldable pub body_bytes : (List ℕ → Option (List ℕ)) → List Line → List ℕ
body_bytes bytes_of_word body =
    flat_map (λ line. flat_map (λ word. unwrap_or (bytes_of_word word) []) (words line)) body

-- ---- assembly

-- the text of a body, each line with its line feed
unfoldable pub body_text : List Line → List ℕ
body_text body = flat_map (λ line. line.text ++ line_feed ∷ []) body

-- what stands for the image of a body that describes none
abbrev pub empty_image : ImageParts
empty_image = image_parts PRIVATE_START [] 0

-- the image of an assembly text without fault
abbrev pub image_or_nothing : Result ImageParts AsmFault → ImageParts
image_or_nothing (Ok image) = image
image_or_nothing (Err fault) = empty_image

-- the fault of an assembly text, as one of the script in which the text stands behind this line
abbrev pub assembly_fault : ℕ → Result ImageParts AsmFault → Option ScriptFault
assembly_fault image_line (Ok image) = None
assembly_fault image_line (Err fault) =
    Some (located_fault (image_line + fault.line) (Assembly fault.kind))

-- ---- bodies

-- The image that a body without fault describes. `hex`: the instruction words lie from the start of
-- the image on, and the first one runs first; `asm`: the body is an assembly text; `rki`: the words
-- are the image's bytes in RKI1.
unfoldable pub form_image : ImageForm → List Line → ImageParts
form_image Hex body = image_parts PRIVATE_START (body_bytes instruction_in body) 0
form_image Asm body = image_or_nothing (assembly_image (body_text body))
form_image Rki body = fields_of (body_bytes written_bytes body)

-- why the body of the image on this line describes none
unfoldable pub form_fault : ImageForm → ℕ → List Line → Option ScriptFault
form_fault Hex image_line body =
    option_or (first_line_fault (has_bad_word instruction_in) BadImage body)
    (option_map (λ cause. located_fault image_line BadImage) (parts_fault (form_image Hex body)))
form_fault Asm image_line body = assembly_fault image_line (assembly_image (body_text body))
form_fault Rki image_line body =
    option_or (first_line_fault (has_bad_word written_bytes) BadImage body)
    (option_map (λ cause. located_fault image_line BadImage)
    (fault_of (body_bytes written_bytes body)))

-- the first fault of the body of the image on this line: a bad byte comes before all else
unfoldable pub body_fault : ImageForm → ℕ → List Line → Option ScriptFault
body_fault form image_line body =
    option_or (first_line_fault has_bad_byte BadByte body) (form_fault form image_line body)
