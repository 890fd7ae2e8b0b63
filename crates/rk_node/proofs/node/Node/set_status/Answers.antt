use Rattle.std.proofs.Common.{ap, arith}
use Rattle.rk_node.specs.Moves.{with_status}
use Rattle.rk_process.specs.OwnStates.{OwnState, process_with_mappings}
use Rattle.rk_node.proofs.Processes.{node-change, stocked-change}
use Rattle.rk_node.proofs.node.Node.set_status.Goals as goal

pub returns-clause-node : goal.returns-clause-node
returns-clause-node c =
    let node = c.args.self.now in
    node-change node c.args.pid.number c.index_mut-process.result.now c.set_status.new.self (with_status c.args.status) (omega arith) c.index_mut-process.ensures.value
    (ap (λ o. process_with_mappings node.held_blocks.mappings c.args.pid.number o) c.set_status.ensures)

pub invariant_of-self-clause-stocked : goal.invariant_of-self-clause-stocked
invariant_of-self-clause-stocked c =
    stocked-change c.args.self.now c.args.pid.number c.index_mut-process.result.now c.set_status.new.self (omega arith) c.index_mut-process.ensures.value
    (ap (λ (o : OwnState). o.used_count) c.set_status.ensures)
