use Rattle.std.proofs.Common.{ℕ}
use Rattle.std.specs.Prelude.{⊤}
use Rattle.ce_daemon.specs.Boxes.{AreBoxes}
use Rattle.ce_daemon.proofs.boxes.node_numbers.Given as goal

abbrev pub invariant-loop-node : goal.invariant-loop-node
invariant-loop-node l = AreBoxes (λ (node : ℕ). node) (λ (node : ℕ). ⊤) l.node (λ node. node) l.boxes.items
