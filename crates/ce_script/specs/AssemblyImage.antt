-- The image that an assembly text describes: the one place that knows how the assembler's
-- definitions say it.
use Rattle.std.specs.Prelude.{ℕ, List, [], ◌∷◌, ◌++◌, Result, Ok, Err}
use Rattle.std.specs.Int.{w32, to_le_bytes}
use Rattle.rv_model.specs.Image.{ImageParts, image_parts}
use Rattle.rv_asm.specs.declared.fault.AsmFault.{AsmFault}
use Rattle.rv_asm.specs.SecondPass.{Part, Instruction, Plain}
use Rattle.rv_asm.specs.Assembly.{Assembly, assembly_of}
use Rattle.rv_inst.specs.Encoding.{word_of}

-- the bytes of parts, an instruction as its word, the lowest byte first
abbrev pub part_bytes : List Part → List ℕ
part_bytes [] = []
part_bytes (Instruction inst ∷ parts) = to_le_bytes w32 (word_of inst) ++ part_bytes parts
part_bytes (Plain bytes ∷ parts) = bytes ++ part_bytes parts

-- the image of what a text describes, all of whose bytes are loaded
abbrev pub laid_image : Result Assembly AsmFault → Result ImageParts AsmFault
laid_image (Ok assembly) = Ok (image_parts assembly.entry (part_bytes assembly.parts) 0)
laid_image (Err fault) = Err fault

-- the image that a text describes, or its first fault, with the line in the text
unfoldable pub assembly_image : List ℕ → Result ImageParts AsmFault
assembly_image text = laid_image (assembly_of text)
