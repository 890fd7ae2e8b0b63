-- The assembler gives the image of the load's program, and refuses it for want of memory alone.
use Rattle.std.proofs.Common.{◌≡◌, ℕ, List, Ok, Err, refl, ap, sym, ◌∙◌}
use Rattle.rv_model.specs.Image.{ImageParts}
use Rattle.rv_model.specs.declared.memory.NoMemory.{NoMemory}
use Rattle.rv_asm.specs.declared.fault.AsmFault.{AsmFault}
use Rattle.rv_asm.specs.declared.fault.AsmKind.{AsmKind}
use Rattle.rv_asm.specs.declared.fault.AsmKind.TheVariants.{Memory}
use Rattle.rv_asm.specs.Faults.{AsmUnless}
use Rattle.rv_asm.specs.Assembly.{IsAssemblyOf}
use Rattle.ce_script.specs.AssemblyImage.{assembly_image}
use Rattle.ce_script.specs.Bodies.{image_or_nothing}
use Rattle.ce_script.specs.Load.{ring_text, ring_image}
use Rattle.ce_script.proofs.AssemblyImages.{assembles_image, assembles_fault}
use Rattle.ce_script.proofs.Assembling.{ring_is_assembled}

pub assembled_ring : (text : List ℕ) (image : ImageParts) → text ≡ ring_text → IsAssemblyOf text (Ok image) → image ≡ ring_image
unfolding ring_image
assembled_ring text image same made = ap image_or_nothing (sym (assembles_image text image made) ∙ ap assembly_image same)

known_unless : (kind : AsmKind) (P : Type 0) → ((cause : NoMemory) → kind ≡ Memory cause → ⊥) → AsmUnless kind P → P
known_unless (Memory cause) P other known = absurd (other cause refl)
known_unless kind P other known = known

pub never_refused : (text : List ℕ) (fault : AsmFault) → text ≡ ring_text → ((cause : NoMemory) → fault.kind ≡ Memory cause → ⊥) → IsAssemblyOf text (Err fault) → ⊥
never_refused text fault same other made =
    let refused = assembles_fault text fault (known_unless fault.kind _ other made) in
    let accepted = ap assembly_image same ∙ ring_is_assembled in
    absurd (cc)
