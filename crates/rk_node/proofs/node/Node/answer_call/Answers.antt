use Rattle.std.proofs.Common.{ap, sym, ◌∙◌, option_map}
use Rattle.ce_model.specs.Hearing.{with_answered_call, node_after_hearing}
use Rattle.rk_node.specs.Standing.{node_model, turn_model}
use Rattle.rk_node.proofs.node.Node.answer_call.Goals as goal

pub returns-in-Some-clause-node : goal.returns-in-Some-clause-node
unfolding node_after_hearing
returns-in-Some-clause-node c =
    c.answer.ensures.node ∙ sym (ap (λ turn. with_answered_call c.args.value (node_model c.args.self.now) (option_map turn_model turn)) c.in-Some.is)

pub returns-in-None-clause-node : goal.returns-in-None-clause-node
unfolding node_after_hearing
returns-in-None-clause-node c = sym (ap (λ turn. with_answered_call c.args.value (node_model c.args.self.now) (option_map turn_model turn)) c.in-None.is)
