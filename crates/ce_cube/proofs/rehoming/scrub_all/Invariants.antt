use Rattle.std.proofs.Common.{◌≡◌, ◌+◌, ◌++◌, length, map, take, drop}
use Rattle.ce_model.specs.Blocks.{with_ids}
use Rattle.xm_block.specs.Stores.{ids_of}
use Rattle.ce_cube.specs.Homecoming.{emptied_box, names_in_boxes}
use Rattle.ce_cube.proofs.rehoming.scrub_all.Given as goal

abbrev pub invariant-loop-node_box : goal.invariant-loop-node_box
invariant-loop-node_box l = record {
  boxes : l.boxes ≡ map emptied_box (take l.node_box-index l.initial.boxes) ++ drop l.node_box-index l.initial.boxes;
  moved : ids_of l.store.blocks ≡ with_ids (names_in_boxes (take l.node_box-index l.initial.boxes)) (ids_of l.initial.store.blocks);
  spare : l.store.spare + length (names_in_boxes (take l.node_box-index l.initial.boxes)) ≡ l.initial.store.spare;
}
