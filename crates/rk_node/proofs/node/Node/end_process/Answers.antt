use Rattle.std.proofs.Common.{◌∙◌, sym}
use Rattle.rk_node.specs.Standing.{node_model}
use Rattle.rk_node.proofs.Heard.{kill-stops, kill-stays}
use Rattle.rk_node.proofs.node.Node.end_process.Goals as goal

pub returns-then-not-is_stopped-clause-node : goal.returns-then-not-is_stopped-clause-node
returns-then-not-is_stopped-clause-node c =
    c.stop.ensures.node ∙ sym (kill-stops (node_model c.args.self.now) c.args.pid.number (cc))

pub returns-else-not-is_stopped-clause-node : goal.returns-else-not-is_stopped-clause-node
returns-else-not-is_stopped-clause-node c = sym (kill-stays (node_model c.args.self.now) c.args.pid.number (cc))
