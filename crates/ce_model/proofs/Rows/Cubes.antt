-- What the worked rows share: a cube of one node and one image, its entries, and a node that hears
-- and says.
use Rattle.std.proofs.Common.{ℕ, List, [], ◌∷◌, None, true}
use Rattle.rv_model.specs.Image.{ImageParts}
use Rattle.ce_model.specs.declared.topology.TheConstants.{HOST}
use Rattle.ce_model.specs.declared.topology.Place.{Place}
use Rattle.ce_model.specs.declared.topology.BlockId.{BlockId}
use Rattle.ce_model.specs.declared.entry.Entry.{Entry}
use Rattle.ce_model.specs.declared.entry.What.{What}
use Rattle.ce_model.specs.declared.entry.What.TheVariants.{Arm, Spawn, Take}
use Rattle.ce_model.specs.declared.entry.TakeResult.TheVariants.{Start}
use Rattle.ce_model.specs.Limits.{process_count, home_blocks, host_home}
use Rattle.ce_model.specs.Literals.{entry_of, place, block}
use Rattle.ce_model.specs.Parcels.{Parcel}
use Rattle.ce_model.specs.Node.{Node, opening_node, host_place}
use Rattle.ce_model.specs.Saying.{says}
use Rattle.ce_model.specs.Hearing.{Hearing, start_of, node_after_hearing}
use Rattle.ce_model.specs.Trace.{sent_items, taken_results, waiting_items, spawned_ids, killed_ids, mark, allowed_dispatches, made_dispatches, parcels}
use Rattle.ce_model.specs.Answers.{is_quiet, answer}
use Rattle.ce_model.specs.Cube.{Cube, state, hoststore, next_entry}

-- the cube of user 0, of one node and one image
abbrev pub one_cube : ImageParts → Cube
one_cube image = record { user = 0; dim = 0; images = image ∷ [] }

abbrev pub row_entry : ℕ → What → Entry
row_entry actor what = entry_of 0 actor what

abbrev pub place_0 : Place
place_0 = place 0 0

-- block `index` of node 0, and of the host
abbrev pub block_0 : ℕ → BlockId
block_0 index = block 0 index

abbrev pub host_block : ℕ → BlockId
host_block index = block host_home index

-- the host's parcel of this number for process 0, in the host's block of this index
abbrev pub host_parcel : ℕ → ℕ → List ℕ → Parcel
host_parcel number index bytes =
    record { from = host_place; to = place_0; number = number; block = record { id = host_block index; bytes = bytes } }

-- the node of the fresh cube, a node once it has said its call and heard this answer, and the node
-- once it was given the start
abbrev pub fresh_node : Node
fresh_node = opening_node 0 0 1

abbrev pub row_node_after : ImageParts → Node → Hearing → Node
row_node_after image node heard = node_after_hearing (image ∷ []) (says node).node heard

abbrev pub started_node : ImageParts → Node
started_node image = row_node_after image fresh_node (start_of 0 0)

-- process 0 is spawned, so many dispatches are allowed, and the node is given the start
abbrev pub start_entries : ℕ → List Entry
start_entries count = row_entry HOST (Spawn 0 0 place_0 true) ∷ row_entry HOST (Arm count) ∷ row_entry 0 (Take 0 0 None (Start 0 0)) ∷ []

-- to unfold this is to unfold all that a row's next entry is computed with
unfoldable pub row_computes : Unit {0}
unfolding next_entry state hoststore sent_items taken_results waiting_items spawned_ids killed_ids mark allowed_dispatches made_dispatches parcels is_quiet answer process_count home_blocks host_home
row_computes = tt
