-- The worked row `dead`: mail for a process that has stopped goes to its node's store. The trace is
-- the one that the cube gives alone.
use Rattle.std.proofs.Common.{◌≡◌, List, [], ◌∷◌, ◌++◌, None, refl}
use Rattle.rv_model.specs.Image.{ImageParts}
use Rattle.ce_model.specs.declared.topology.TheConstants.{HOST}
use Rattle.ce_model.specs.declared.entry.Entry.{Entry}
use Rattle.ce_model.specs.declared.entry.What.TheVariants.{Arm, Look, Send, Take}
use Rattle.ce_model.specs.declared.entry.LookResult.TheVariants.{Quiet}
use Rattle.ce_model.specs.declared.entry.TakeResult.TheVariants.{Mail, Idle}
use Rattle.ce_model.specs.Literals.{first_bytes}
use Rattle.ce_model.specs.Node.{Node, take_call}
use Rattle.ce_model.specs.Saying.{says}
use Rattle.ce_model.specs.Hearing.{mail_of, nothing}
use Rattle.ce_model.specs.Cube.{opening, IsAlone}
use Rattle.ce_model.proofs.AloneByEntries.{alone_by_entries}
use Rattle.ce_model.proofs.Rows.Cubes.{one_cube, row_entry, place_0, host_block, host_parcel, row_node_after, row_computes}
use Rattle.ce_model.proofs.Rows.Hello as hello

-- the node of the row `hello` once it was found idle
abbrev pub idle_node : ImageParts → Node
idle_node image = row_node_after image (hello.node_after_note image) nothing

-- and once it was given the mail
abbrev pub node_with_mail : ImageParts → Node
node_with_mail image = row_node_after image (idle_node image) (mail_of (host_parcel 0 0 first_bytes))

-- the row's trace, which goes on where `hello` ends
abbrev pub row : List Entry
row =
    hello.row
    ++ row_entry HOST (Send 0 0 ((place_0, host_block 0) ∷ []) first_bytes)
    ∷ row_entry HOST (Arm 10)
    ∷ row_entry 0 (Take 0 1 None (Mail 0 0))
    ∷ row_entry 0 (Take 0 1 None Idle)
    ∷ row_entry HOST (Look Quiet)
    ∷ []

-- what the row's node says, as in `hello` and after each further answer
pub record HasSaidRow (image : ImageParts) : Type 0 where
  pub begins : hello.HasSaidRow image
  pub rests : (says (idle_node image)).call ≡ take_call 0 1 None
  pub rests_on : (says (node_with_mail image)).call ≡ take_call 0 1 None

pub row_alone : (image : ImageParts) → HasSaidRow image → IsAlone (one_cube image) row
unfolding row_computes
row_alone image h = alone_by_entries (one_cube image) (opening (one_cube image)) row
    (refl, (refl, (rw h.begins.asks refl, (rw h.begins.notes refl, (rw h.begins.ends refl, (refl, (refl, (refl, (rw h.rests refl, (rw h.rests_on refl, (refl, tt)))))))))))
