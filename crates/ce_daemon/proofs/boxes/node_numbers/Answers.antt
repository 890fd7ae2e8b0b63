use Rattle.std.proofs.Common.{◌≡◌, ℕ, refl, arith}
use Rattle.std.specs.Prelude.{⊤}
use Rattle.ce_daemon.proofs.Rows.{AreBoxes-push}
use Rattle.ce_daemon.proofs.boxes.node_numbers.Goals as goal

pub loop-node-preserved : goal.loop-node-preserved
loop-node-preserved c =
    rw c.in_ok-push.ensures.items
    (AreBoxes-push (λ (node : ℕ). node) (λ (node : ℕ). ⊤) c.loop-node.node (λ node. node) c.loop-node.boxes.items _ c.loop-node.invariant (refl, tt))

pub returns : goal.returns
returns c = let whole : c.loop-node.node ≡ c.args.count = omega arith in rw whole at c.loop-node.invariant
