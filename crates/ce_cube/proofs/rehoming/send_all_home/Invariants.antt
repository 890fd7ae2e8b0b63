use Rattle.std.proofs.Common.{◌≡◌, ◌+◌, ◌++◌, length, map, take, drop}
use Rattle.xm_block.specs.Stores.{ids_of}
use Rattle.ce_cube.specs.Homecoming.{refilled_box, names_at_home}
use Rattle.ce_cube.proofs.rehoming.send_all_home.Given as goal

abbrev pub invariant-loop-node_box : goal.invariant-loop-node_box
invariant-loop-node_box l = record {
  boxes : l.boxes ≡ map refilled_box (take l.node_box-index l.initial.boxes) ++ drop l.node_box-index l.initial.boxes;
  rest : ids_of l.store.blocks ≡ drop (length (names_at_home (take l.node_box-index l.initial.boxes))) (ids_of l.initial.store.blocks);
  spare : l.store.spare ≡ l.initial.store.spare + length (names_at_home (take l.node_box-index l.initial.boxes));
}
