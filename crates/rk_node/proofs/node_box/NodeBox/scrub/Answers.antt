use Rattle.std.proofs.Common.{sym, subst}
use Rattle.ce_model.specs.Node.{Node}
use Rattle.ce_solo.proofs.Nodes.{IsWell}
use Rattle.rk_node.specs.Standing.{node_model}
use Rattle.rk_node.specs.Boxes.{scrubbed_node}
use Rattle.rk_node.specs.Wording.{HasBatch}
use Rattle.rk_node.proofs.Sorted.{idle-well, idle-scrubbed}
use Rattle.rk_node.proofs.node_box.NodeBox.scrub.Goals as goal

pub invariant_of-self : goal.invariant_of-self
invariant_of-self c =
    let n = node_model c.self.inside.node in
    let done = c.scrub.ensures in
    record {
      well = subst (λ (n : Node). IsWell n.turn n) (sym done.node) (idle-well (scrubbed_node n) (idle-scrubbed n));
      batch = subst (HasBatch c.self.inside.awaited_call) (sym done.batch) c.self.invariant.batch;
    }
