use Rattle.std.proofs.Common.{◌∙◌, arith}
use Rattle.ce_model.specs.Process.{with_answer}
use Rattle.ce_model.specs.Node.{process_at}
use Rattle.rk_node.specs.Standing.{node_model}
use Rattle.rk_node.proofs.Processes.{length-processes}
use Rattle.rk_node.proofs.Heard.{begins-after}
use Rattle.rk_node.proofs.node.Node.begin_answered_turn.Goals as goal

pub returns-clause-node : goal.returns-clause-node
returns-clause-node c =
    let node = c.args.self.now in
    c.begin_turn.ensures.node
    ∙ begins-after (node_model node) (node_model c.answer.new.self) c.args.pid.number (with_answer c.args.value (process_at (node_model node) c.args.pid.number)) (λ q. q)
    (omega (arith, length-processes node)) c.answer.ensures.node
