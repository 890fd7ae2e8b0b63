use Rattle.std.proofs.Common.{arith}
use Rattle.rk_node.specs.Standing.{node_model}
use Rattle.rk_node.proofs.Processes.{length-processes}
use Rattle.rk_node.proofs.Stops.{stopped-steps}
use Rattle.rk_node.proofs.node.Node.stop.Goals as goal

pub returns-clause-node : goal.returns-clause-node
returns-clause-node c =
    let node = c.args.self.now in
    stopped-steps (node_model node) (node_model c.release.new.self) (node_model c.set_status.new.self) (node_model c.leave_polling.new.self) c.args.pid.number c.args.cause
    (omega (arith, length-processes node)) c.release.ensures.node c.set_status.ensures.node c.leave_polling.ensures.node
