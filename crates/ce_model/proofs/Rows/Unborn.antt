-- The worked row `unborn`: two messages come before the process that echoes them is started. The
-- trace is the one that the cube gives alone.
use Rattle.std.proofs.Common.{◌≡◌, List, [], ◌∷◌, Some, None, true, refl}
use Rattle.rv_model.specs.Image.{ImageParts}
use Rattle.ce_model.specs.declared.topology.TheConstants.{HOST}
use Rattle.ce_model.specs.declared.entry.Entry.{Entry}
use Rattle.ce_model.specs.declared.entry.What.TheVariants.{Arm, Look, HostTake, Send, Spawn, Take}
use Rattle.ce_model.specs.declared.entry.LookResult.TheVariants.{Quiet}
use Rattle.ce_model.specs.declared.entry.TakeResult.TheVariants.{Start, Mail, Idle}
use Rattle.ce_model.specs.Literals.{first_bytes, second_bytes}
use Rattle.ce_model.specs.Node.{Node, take_call, send_call, host_place}
use Rattle.ce_model.specs.Saying.{says}
use Rattle.ce_model.specs.Hearing.{mail_of, answer_of}
use Rattle.ce_model.specs.Cube.{opening, IsAlone}
use Rattle.ce_model.proofs.AloneByEntries.{alone_by_entries}
use Rattle.ce_model.proofs.Rows.Cubes.{one_cube, row_entry, place_0, host_block, host_parcel, fresh_node, row_node_after, started_node, row_computes}

-- the node with the first message, and once that is sent back
abbrev pub node_with_first : ImageParts → Node
node_with_first image = row_node_after image (started_node image) (mail_of (host_parcel 0 0 first_bytes))

-- it has sent the first
abbrev pub node_after_first : ImageParts → Node
node_after_first image = row_node_after image (node_with_first image) (answer_of 0)

-- the same of the second
abbrev pub node_with_second : ImageParts → Node
node_with_second image = row_node_after image (node_after_first image) (mail_of (host_parcel 1 1 second_bytes))

-- it has sent the second
abbrev pub node_after_second : ImageParts → Node
node_after_second image = row_node_after image (node_with_second image) (answer_of 0)

-- the row's trace
abbrev pub row : List Entry
row =
    row_entry HOST (Send 0 0 ((place_0, host_block 0) ∷ []) first_bytes)
    ∷ row_entry HOST (Send 0 1 ((place_0, host_block 1) ∷ []) second_bytes)
    ∷ row_entry HOST (Spawn 0 0 place_0 true)
    ∷ row_entry HOST (Arm 100)
    ∷ row_entry HOST (HostTake None)
    ∷ row_entry 0 (Take 0 0 None (Start 0 0))
    ∷ row_entry HOST (HostTake None)
    ∷ row_entry 0 (Take 1 0 None (Mail 0 0))
    ∷ row_entry 0 (Send 0 2 ((host_place, host_block 0) ∷ []) first_bytes)
    ∷ row_entry HOST (HostTake (Some 2))
    ∷ row_entry HOST (Arm 100)
    ∷ row_entry HOST (HostTake None)
    ∷ row_entry 0 (Take 1 0 None (Mail 0 1))
    ∷ row_entry 0 (Send 0 3 ((host_place, host_block 1) ∷ []) second_bytes)
    ∷ row_entry HOST (HostTake (Some 3))
    ∷ row_entry HOST (Arm 100)
    ∷ row_entry HOST (HostTake None)
    ∷ row_entry 0 (Take 1 0 None Idle)
    ∷ row_entry HOST (HostTake None)
    ∷ row_entry HOST (Look Quiet)
    ∷ []

-- what the row's node says, at first and after each answer
pub record HasSaidRow (image : ImageParts) : Type 0 where
  pub asks : (says fresh_node).call ≡ take_call 0 0 None
  pub waits : (says (started_node image)).call ≡ take_call 1 0 None
  pub sends_first : (says (node_with_first image)).call ≡ send_call 0 ((host_place, host_block 0) ∷ []) first_bytes
  pub waits_again : (says (node_after_first image)).call ≡ take_call 1 0 None
  pub sends_second : (says (node_with_second image)).call ≡ send_call 0 ((host_place, host_block 1) ∷ []) second_bytes
  pub waits_on : (says (node_after_second image)).call ≡ take_call 1 0 None

pub row_alone : (image : ImageParts) → HasSaidRow image → IsAlone (one_cube image) row
unfolding row_computes
row_alone image h = alone_by_entries (one_cube image) (opening (one_cube image)) row
    (refl, (refl, (refl, (refl, (refl, (rw h.asks refl, (refl, (rw h.waits refl, (rw h.sends_first refl, (refl, (refl, (refl, (rw h.waits_again refl, (rw h.sends_second refl, (refl, (refl, (refl, (rw h.waits_on refl, (refl, (refl, tt))))))))))))))))))))
