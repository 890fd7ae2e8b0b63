-- The worked row `polling`, with three dispatches: a process that polls for ever uses them up. The
-- trace is the one that the cube gives alone.
use Rattle.std.proofs.Common.{◌≡◌, List, [], ◌∷◌, ◌++◌, Some, None, refl}
use Rattle.rv_model.specs.Image.{ImageParts}
use Rattle.ce_model.specs.declared.topology.TheConstants.{HOST}
use Rattle.ce_model.specs.declared.entry.Entry.{Entry}
use Rattle.ce_model.specs.declared.entry.What.TheVariants.{Look, Take}
use Rattle.ce_model.specs.declared.entry.LookResult.TheVariants as look_result
use Rattle.ce_model.specs.declared.entry.TakeResult.TheVariants.{Poll, Spent}
use Rattle.ce_model.specs.Node.{Node, take_call}
use Rattle.ce_model.specs.Saying.{says}
use Rattle.ce_model.specs.Hearing.{poll_of}
use Rattle.ce_model.specs.Cube.{opening, IsAlone}
use Rattle.ce_model.proofs.AloneByEntries.{alone_by_entries}
use Rattle.ce_model.proofs.Rows.Cubes.{one_cube, row_entry, fresh_node, row_node_after, started_node, start_entries, row_computes}

-- the node once the process was told that nothing is here
abbrev pub node_after_poll : ImageParts → Node
node_after_poll image = row_node_after image (started_node image) (poll_of 0)

-- and once it was told so again
abbrev pub node_after_two_polls : ImageParts → Node
node_after_two_polls image = row_node_after image (node_after_poll image) (poll_of 0)

-- the row's trace
abbrev pub row : List Entry
row =
    start_entries 3
    ++ row_entry 0 (Take 1 0 (Some 0) (Poll 0))
    ∷ row_entry 0 (Take 1 0 (Some 0) (Poll 0))
    ∷ row_entry 0 (Take 1 0 (Some 0) Spent)
    ∷ row_entry HOST (Look look_result.Spent)
    ∷ []

-- what the row's node says, at first and after each answer
pub record HasSaidRow (image : ImageParts) : Type 0 where
  pub asks : (says fresh_node).call ≡ take_call 0 0 None
  pub polls : (says (started_node image)).call ≡ take_call 1 0 (Some 0)
  pub polls_again : (says (node_after_poll image)).call ≡ take_call 1 0 (Some 0)
  pub polls_on : (says (node_after_two_polls image)).call ≡ take_call 1 0 (Some 0)

pub row_alone : (image : ImageParts) → HasSaidRow image → IsAlone (one_cube image) row
unfolding row_computes
row_alone image h = alone_by_entries (one_cube image) (opening (one_cube image)) row
    (refl, (refl, (rw h.asks refl, (rw h.polls refl, (rw h.polls_again refl, (rw h.polls_on refl, (refl, tt)))))))
