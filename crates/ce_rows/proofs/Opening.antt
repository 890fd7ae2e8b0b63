-- The machine of a row, and the boxes that its first cube gets and gives back.
use Rattle.std.proofs.Common.{◌≡◌, ℕ, List, [], ◌∷◌, take, refl, sym, ◌∙◌, subst}
use Rattle.std.specs.Global.{Vec}
use Rattle.rv_model.specs.declared.limits.TheConstants.{PRIVATE_START}
use Rattle.rv_model.specs.Image.{ImageParts, image_parts}
use Rattle.ce_model.specs.declared.entry.Entry.{Entry}
use Rattle.ce_model.specs.Limits.{greatest_dim}
use Rattle.ce_model.specs.Subcubes.{extract, relative_number, deposit, node_of}
use Rattle.ce_model.specs.Machine.{after}
use Rattle.ce_daemon.specs.declared.grant.Grant.{Grant}
use Rattle.ce_daemon.specs.Boxes.{AreBoxes}
use Rattle.ce_machine.specs.declared.call.Call.TheVariants.{Freecube}
use Rattle.ce_machine.specs.declared.call.Reply.TheVariants.{Granted}
use Rattle.ce_machine.specs.Requests.{HasBroughtBoxes}
use Rattle.ce_rows.specs.declared.worked.WorkedRow.{WorkedRow}
use Rattle.ce_rows.specs.declared.worked.WorkedRow.TheVariants.{FirstCube, GreatestCube, NextOwner, Replies, Hearings, WaitingMail}
use Rattle.ce_rows.specs.RowEntries.{history_of, IsNextRowReply}
use Rattle.ce_rows.specs.Rows.{row_of, program, next_owner, node_0}

images-are : (row : WorkedRow) → (row_of row).parts.images ≡ image_parts PRIVATE_START program 0 ∷ []
images-are FirstCube = refl
images-are GreatestCube = refl
images-are NextOwner = refl
images-are Replies = refl
images-are Hearings = refl
images-are WaitingMail = refl

pub parts-are : (row : WorkedRow) (dim users : ℕ) (images : List ImageParts) → dim ≡ (row_of row).parts.dim → users ≡ (row_of row).parts.users
    → images ≡ image_parts PRIVATE_START program 0 ∷ [] → record { dim = dim; users = users; images = images } ≡ (row_of row).parts
parts-are row dim users images dim_is users_is images_is =
    let same : images ≡ (row_of row).parts.images = images_is ∙ sym (images-are row) in
    λ i. record { dim = dim_is i; users = users_is i; images = same i }

module _ {N : Type 0} (home : N → ℕ) (clean : N → Type 0) (boxes : Vec N) where
  -- the boxes that the first cube gets
  pub granted-boxes : (grant : Grant) → IsNextRowReply home clean (row_of NextOwner) 0 (Granted grant boxes) → AreBoxes home clean 1 (node_of node_0) boxes.items
  granted-boxes grant is = is.1

  -- are those that it gives back
  pub given-boxes : (history : List Entry) → history ≡ history_of (take 3 next_owner) → AreBoxes home clean 1 (node_of node_0) boxes.items → HasBroughtBoxes home clean history 0 (Freecube boxes)
  unfolding after relative_number extract deposit greatest_dim
  given-boxes history is are = subst (λ h. HasBroughtBoxes home clean h 0 (Freecube boxes)) (sym is) are
