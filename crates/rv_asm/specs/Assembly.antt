-- The image that a text describes.
use Rattle.std.specs.Prelude.{◌≡◌, ℕ, not, List, Option, Some, None, Result, Ok, Err, codes}
use Rattle.rv_model.specs.declared.limits.TheConstants.{PRIVATE_START}
use Rattle.rv_model.specs.Image.{ImageParts}
use Rattle.rv_image.specs.Fault.{is_entry}
use Rattle.rv_asm.specs.declared.fault.AsmKind.TheVariants.{Entry}
use Rattle.rv_asm.specs.declared.fault.AsmFault.{AsmFault}
use Rattle.rv_asm.specs.declared.symbols.Symbol.{Symbol}
use Rattle.rv_asm.specs.declared.symbols.Symbol.TheVariants.{Label, Number}
use Rattle.rv_asm.specs.Names.{Names}
use Rattle.rv_asm.specs.Faults.{◌>>=◌, refusal, AsmUnless}
use Rattle.rv_asm.specs.FirstPass.{judgment_at_line, first_pass}
use Rattle.rv_asm.specs.SecondPass.{Part, second_pass}
use Rattle.rv_asm.specs.Spelling.{IsSpellingOf}

-- what a text describes: where it begins, and its parts from the start on
pub record Assembly : Type 0 where
  pub entry : ℕ
  pub parts : List Part

-- the address of a label, or the start
abbrev pub label_or_start : Option Symbol → ℕ
label_or_start (Some (Label address)) = address
label_or_start (Some (Number n)) = PRIVATE_START
label_or_start None = PRIVATE_START

-- the label `start`, or the start without one
abbrev pub entry_of : Names → ℕ
entry_of names = label_or_start (names (codes "start"))

-- what a text describes, or its first fault
unfoldable pub assembly_of : List ℕ → Result Assembly AsmFault
assembly_of text = do
  layout ← first_pass text
  parts ← second_pass layout.names PRIVATE_START layout.statements
  begins ← judgment_at_line 0 (refusal (not (is_entry (entry_of layout.names) layout.size)) Entry)
  Ok (record { entry = entry_of layout.names; parts = parts })

-- an image that is laid out so
pub record IsLaidOut (assembly : Assembly) (image : ImageParts) : Type 0 where
  pub entry : image.entry ≡ assembly.entry
  pub loaded : IsSpellingOf assembly.parts image.loaded
  pub zero : image.zero ≡ 0

-- the image that the text describes, or its first fault, unless memory runs out
abbrev pub IsAssemblyOf : List ℕ → Result ImageParts AsmFault → Type 0
IsAssemblyOf text (Ok image) =
    (assembly : Assembly) × (assembly_of text ≡ Ok assembly) × IsLaidOut assembly image
IsAssemblyOf text (Err fault) = AsmUnless fault.kind (assembly_of text ≡ Err fault)
