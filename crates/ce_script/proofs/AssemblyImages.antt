-- The image that the assembler gives is the one of the definition.
use Rattle.std.proofs.Common.{◌≡◌, ℕ, List, [], ◌∷◌, ◌++◌, Ok, Err, sym, ap, ◌∙◌}
use Rattle.std.specs.Int.{w32, to_le_bytes}
use Rattle.rv_model.specs.Image.{ImageParts, image_parts}
use Rattle.rv_asm.specs.declared.fault.AsmFault.{AsmFault}
use Rattle.rv_asm.specs.SecondPass.{Part, Instruction, Plain}
use Rattle.rv_asm.specs.Spelling.{IsSpellingOf}
use Rattle.rv_asm.specs.Assembly.{Assembly, assembly_of, IsAssemblyOf, IsLaidOut}
use Rattle.rv_inst.specs.Encoding.{word_of}
use Rattle.ce_script.specs.AssemblyImage.{part_bytes, laid_image, assembly_image}
use Rattle.rv_inst.proofs.Joined.{back}

-- bytes that lay out parts are the parts' bytes
spelled : (parts : List Part) (bytes : List ℕ) → IsSpellingOf parts bytes → bytes ≡ part_bytes parts
spelled [] bytes s = s
spelled (Instruction inst ∷ parts) bytes s =
    s.4
    ∙ ap (λ (word : ℕ). to_le_bytes w32 word ++ s.1) (sym (back s.0 s.2 inst s.3))
    ∙ ap (λ (rest : List ℕ). to_le_bytes w32 (word_of inst) ++ rest) (spelled parts s.1 s.5)
spelled (Plain plain ∷ parts) bytes s = s.1 ∙ ap (λ (rest : List ℕ). plain ++ rest) (spelled parts s.0 s.2)

laid_out : (assembly : Assembly) (image : ImageParts) → IsLaidOut assembly image → image ≡ image_parts assembly.entry (part_bytes assembly.parts) 0
laid_out assembly image is =
    ap (λ entry. image_parts entry image.loaded image.zero) is.entry
    ∙ ap (λ loaded. image_parts assembly.entry loaded image.zero) (spelled assembly.parts image.loaded is.loaded)
    ∙ ap (λ zero. image_parts assembly.entry (part_bytes assembly.parts) zero) is.zero

-- an image that a text assembles to is the image of the text
pub assembles_image : (text : List ℕ) (image : ImageParts) → IsAssemblyOf text (Ok image) → assembly_image text ≡ Ok image
unfolding assembly_image
assembles_image text image a = ap laid_image a.1 ∙ ap Ok (sym (laid_out a.0 image a.2))

-- a fault that a text has for the assembler is the fault of the text
pub assembles_fault : (text : List ℕ) (fault : AsmFault) → assembly_of text ≡ Err fault → assembly_image text ≡ Err fault
unfolding assembly_image
assembles_fault text fault e = ap laid_image e
