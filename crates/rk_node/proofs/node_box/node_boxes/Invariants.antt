use Rattle.ce_daemon.specs.Boxes.{AreBoxes}
use Rattle.rk_node.specs.Boxes.{IsCleanBox, home_of}
use Rattle.rk_node.proofs.node_box.node_boxes.Given as goal

abbrev pub invariant-loop-node : goal.invariant-loop-node
invariant-loop-node l = AreBoxes home_of IsCleanBox l.node (λ node. node) l.boxes.items
