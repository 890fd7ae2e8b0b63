-- From the two passes to the image.
use Rattle.std.proofs.Common.{◌≡◌, ℕ, ◌≤◌, Bool, true, false, not, cond, List, length, Option, Some, None, Ok, Err, refl, ap, ◌∙◌, arith}
use Rattle.std.proofs.lemmas.Bool.{le-ltb}
use Rattle.rv_model.specs.declared.limits.TheConstants.{PRIVATE_START, IMAGE_ROOM}
use Rattle.rv_image.specs.declared.fault.ImageFault.{ImageFault}
use Rattle.rv_image.specs.declared.fault.ImageFault.TheVariants as image_faults
use Rattle.rv_model.specs.Image.{image_parts}
use Rattle.rv_image.specs.Fault.{is_entry, is_too_large, parts_fault}
use Rattle.rv_asm.specs.declared.fault.AsmKind.{AsmKind}
use Rattle.rv_asm.specs.declared.fault.AsmKind.TheVariants.{BadByte, NameTaken, UnknownWord, Operands, BadRegister, BadNumber, UnknownName, Unaligned, TooLarge, TooFar, Entry, Memory}
use Rattle.rv_asm.specs.declared.fault.AsmFault.{AsmFault}
use Rattle.rv_asm.specs.Faults.{AsmUnless}
use Rattle.rv_asm.specs.FirstPass.{LayoutSoFar, first_pass}
use Rattle.rv_asm.specs.SecondPass.{Part, second_pass}
use Rattle.rv_asm.specs.Assembly.{entry_of, assembly_of}

unless_so : (kind : AsmKind) (P Q : Type 0) → (P → Q) → AsmUnless kind P → AsmUnless kind Q
unless_so BadByte P Q f u = f u
unless_so NameTaken P Q f u = f u
unless_so UnknownWord P Q f u = f u
unless_so Operands P Q f u = f u
unless_so BadRegister P Q f u = f u
unless_so BadNumber P Q f u = f u
unless_so UnknownName P Q f u = f u
unless_so Unaligned P Q f u = f u
unless_so TooLarge P Q f u = f u
unless_so TooFar P Q f u = f u
unless_so Entry P Q f u = f u
unless_so (Memory cause) P Q f u = tt

pub fails_first : (text : List ℕ) (fault : AsmFault) → AsmUnless fault.kind (first_pass text ≡ Err fault) → AsmUnless fault.kind (assembly_of text ≡ Err fault)
unfolding assembly_of
fails_first text fault u = unless_so fault.kind (first_pass text ≡ Err fault) (assembly_of text ≡ Err fault) (λ e. rw e refl) u

pub fails_second : (text : List ℕ) (layout : LayoutSoFar) (fault : AsmFault) → first_pass text ≡ Ok layout
    → AsmUnless fault.kind (second_pass layout.names PRIVATE_START layout.statements ≡ Err fault) → AsmUnless fault.kind (assembly_of text ≡ Err fault)
unfolding assembly_of
fails_second text layout fault first u =
    unless_so fault.kind (second_pass layout.names PRIVATE_START layout.statements ≡ Err fault) (assembly_of text ≡ Err fault) (λ e. rw (first, e) refl) u

pub described : (text : List ℕ) (layout : LayoutSoFar) (parts : List Part) → first_pass text ≡ Ok layout → second_pass layout.names PRIVATE_START layout.statements ≡ Ok parts
    → is_entry (entry_of layout.names) layout.size ≡ true → assembly_of text ≡ Ok (record { entry = entry_of layout.names; parts = parts })
unfolding assembly_of
described text layout parts first second entry = rw (first, second, entry) refl

pub has_no_entry : (text : List ℕ) (layout : LayoutSoFar) (parts : List Part) → first_pass text ≡ Ok layout → second_pass layout.names PRIVATE_START layout.statements ≡ Ok parts
    → is_entry (entry_of layout.names) layout.size ≡ false → assembly_of text ≡ Err (record { line = 0; kind = Entry })
unfolding assembly_of
has_no_entry text layout parts first second entry = rw (first, second, entry) refl

abbrev entry_fault : Bool → Option ImageFault
entry_fault begins = cond (not begins) (Some image_faults.Entry) None

true_from_none : (begins : Bool) → None ≡ entry_fault begins → begins ≡ true
true_from_none true e = refl
true_from_none false e = absurd cc

false_from_some : (begins : Bool) (fault : ImageFault) → Some fault ≡ entry_fault begins → begins ≡ false
false_from_some true fault e = absurd cc
false_from_some false fault e = refl

small_parts : (address : ℕ) (loaded : List ℕ) → length loaded ≤ IMAGE_ROOM → parts_fault (image_parts address loaded 0) ≡ entry_fault (is_entry address (length loaded))
small_parts address loaded le =
    let small : is_too_large (length loaded) 0 ≡ false = le-ltb _ _ (omega arith) in
    rw small refl

-- the fault of the image that has these bytes and the entry of the layout
judgment : (layout : LayoutSoFar) (loaded : List ℕ) (entry : ℕ) (found : Option ImageFault) → entry ≡ entry_of layout.names → length loaded ≡ layout.size → layout.size ≤ IMAGE_ROOM
    → found ≡ parts_fault (image_parts entry loaded 0) → found ≡ entry_fault (is_entry (entry_of layout.names) layout.size)
judgment layout loaded entry found same len le e =
    e
    ∙ ap (λ (address : ℕ). parts_fault (image_parts address loaded 0)) same
    ∙ small_parts (entry_of layout.names) loaded (omega arith)
    ∙ ap (λ (size : ℕ). entry_fault (is_entry (entry_of layout.names) size)) len

pub entry_there : (layout : LayoutSoFar) (loaded : List ℕ) (entry : ℕ) → entry ≡ entry_of layout.names → length loaded ≡ layout.size → layout.size ≤ IMAGE_ROOM
    → None ≡ parts_fault (image_parts entry loaded 0) → is_entry (entry_of layout.names) layout.size ≡ true
entry_there layout loaded entry same len le e = true_from_none _ (judgment layout loaded entry None same len le e)

pub entry_missing : (layout : LayoutSoFar) (loaded : List ℕ) (entry : ℕ) (fault : ImageFault) → entry ≡ entry_of layout.names → length loaded ≡ layout.size → layout.size ≤ IMAGE_ROOM
    → Some fault ≡ parts_fault (image_parts entry loaded 0) → is_entry (entry_of layout.names) layout.size ≡ false
entry_missing layout loaded entry fault same len le e = false_from_some _ fault (judgment layout loaded entry (Some fault) same len le e)
