-- The worked row `gone`: a process sends a block to the host and then touches it. The trace is the
-- one that the cube gives alone.
use Rattle.std.proofs.Common.{◌≡◌, ℕ, List, [], ◌∷◌, ◌++◌, Some, None, refl}
use Rattle.rv_model.specs.Image.{ImageParts}
use Rattle.ce_model.specs.declared.topology.TheConstants.{HOST}
use Rattle.ce_model.specs.declared.entry.Entry.{Entry}
use Rattle.ce_model.specs.declared.entry.What.TheVariants.{Arm, Look, HostTake, Send, Take}
use Rattle.ce_model.specs.declared.entry.LookResult.TheVariants.{Quiet}
use Rattle.ce_model.specs.declared.entry.TakeResult.TheVariants.{Idle}
use Rattle.ce_model.specs.Node.{Node, take_call, send_call, host_place}
use Rattle.ce_model.specs.Saying.{says}
use Rattle.ce_model.specs.Hearing.{answer_of}
use Rattle.ce_model.specs.Cube.{opening, IsAlone}
use Rattle.ce_model.proofs.AloneByEntries.{alone_by_entries}
use Rattle.ce_model.proofs.Rows.Cubes.{one_cube, row_entry, block_0, fresh_node, row_node_after, started_node, start_entries, row_computes}

abbrev pub message : List ℕ
message = 7 ∷ 0 ∷ 0 ∷ 0 ∷ 0 ∷ 0 ∷ 0 ∷ 0 ∷ []

-- the node once its message is posted
abbrev pub node_after_post : ImageParts → Node
node_after_post image = row_node_after image (started_node image) (answer_of 0)

-- the row's trace
abbrev pub row : List Entry
row =
    start_entries 10
    ++ row_entry 0 (Send 0 0 ((host_place, block_0 0) ∷ []) message)
    ∷ row_entry 0 (Take 0 1 None Idle)
    ∷ row_entry HOST (Look Quiet)
    ∷ row_entry HOST (Arm 0)
    ∷ row_entry HOST (HostTake (Some 0))
    ∷ []

-- what the row's node says, at first and after each answer
pub record HasSaidRow (image : ImageParts) : Type 0 where
  pub asks : (says fresh_node).call ≡ take_call 0 0 None
  pub sends : (says (started_node image)).call ≡ send_call 0 ((host_place, block_0 0) ∷ []) message
  pub ends : (says (node_after_post image)).call ≡ take_call 0 1 None

pub row_alone : (image : ImageParts) → HasSaidRow image → IsAlone (one_cube image) row
unfolding row_computes
row_alone image h = alone_by_entries (one_cube image) (opening (one_cube image)) row
    (refl, (refl, (rw h.asks refl, (rw h.sends refl, (rw h.ends refl, (refl, (refl, (refl, tt))))))))
