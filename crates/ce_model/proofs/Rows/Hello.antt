-- The worked row `hello`: a process notes 42 and exits. The trace is the one that the cube gives
-- alone. What the process says is a premise, so that no memory is computed.
use Rattle.std.proofs.Common.{◌≡◌, List, [], ◌∷◌, ◌++◌, None, refl}
use Rattle.rv_model.specs.Image.{ImageParts}
use Rattle.ce_model.specs.declared.topology.TheConstants.{HOST}
use Rattle.ce_model.specs.declared.entry.Entry.{Entry}
use Rattle.ce_model.specs.declared.entry.What.TheVariants.{Look, Note, Take}
use Rattle.ce_model.specs.declared.entry.LookResult.TheVariants.{Quiet}
use Rattle.ce_model.specs.declared.entry.TakeResult.TheVariants.{Idle}
use Rattle.ce_model.specs.Node.{Node, take_call, note_call}
use Rattle.ce_model.specs.Saying.{says}
use Rattle.ce_model.specs.Hearing.{nothing}
use Rattle.ce_model.specs.Cube.{opening, IsAlone}
use Rattle.ce_model.proofs.AloneByEntries.{alone_by_entries}
use Rattle.ce_model.proofs.Rows.Cubes.{one_cube, row_entry, fresh_node, row_node_after, started_node, start_entries, row_computes}

-- the node once the word is noted
abbrev pub node_after_note : ImageParts → Node
node_after_note image = row_node_after image (started_node image) nothing

-- the row's trace
abbrev pub row : List Entry
row =
    start_entries 10
    ++ row_entry 0 (Note 0 42)
    ∷ row_entry 0 (Take 0 1 None Idle)
    ∷ row_entry HOST (Look Quiet)
    ∷ []

-- what the row's node says, at first and after each answer
pub record HasSaidRow (image : ImageParts) : Type 0 where
  pub asks : (says fresh_node).call ≡ take_call 0 0 None
  pub notes : (says (started_node image)).call ≡ note_call 0 42
  pub ends : (says (node_after_note image)).call ≡ take_call 0 1 None

pub row_alone : (image : ImageParts) → HasSaidRow image → IsAlone (one_cube image) row
unfolding row_computes
row_alone image h = alone_by_entries (one_cube image) (opening (one_cube image)) row
    (refl, (refl, (rw h.asks refl, (rw h.notes refl, (rw h.ends refl, (refl, tt))))))
