use Rattle.std.proofs.Common.{ap, sym, ◌∙◌, subst}
use Rattle.ce_model.specs.Saying.{Saying}
use Rattle.rk_node.specs.Wording.{HasBatch, awaited_call_of}
use Rattle.rk_node.proofs.node.Node.say_in_turn.Goals as goal

pub returns-in-Some-clause-call : goal.returns-in-Some-clause-call
returns-in-Some-clause-call c = ap (λ (s : Saying). s.call) c.in-Some.ensures.said

pub returns-in-Some-clause-node : goal.returns-in-Some-clause-node
returns-in-Some-clause-node c = ap (λ (s : Saying). s.node) c.in-Some.ensures.said

pub returns-in-Some-clause-batch : goal.returns-in-Some-clause-batch
returns-in-Some-clause-batch c = c.in-Some.ensures.batch

pub returns-in-None-clause-call : goal.returns-in-None-clause-call
returns-in-None-clause-call c = c.work_request.ensures ∙ ap (λ (s : Saying). s.call) c.in-None.ensures.said

pub returns-in-None-clause-node : goal.returns-in-None-clause-node
returns-in-None-clause-node c = ap (λ (s : Saying). s.node) c.in-None.ensures.said

pub returns-in-None-clause-batch : goal.returns-in-None-clause-batch
returns-in-None-clause-batch c = subst (λ call. HasBatch (awaited_call_of call) c.run_turn.new.self.batch) (sym c.work_request.ensures) c.in-None.ensures.batch
