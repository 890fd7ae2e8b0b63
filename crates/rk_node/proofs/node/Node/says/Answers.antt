use Rattle.std.proofs.Common.{ap, sym, ◌∙◌, subst}
use Rattle.ce_model.specs.Saying.{Saying}
use Rattle.rk_node.specs.Wording.{HasBatch, awaited_call_of}
use Rattle.rk_node.proofs.Turns.{ready-turn, says-turn, says-idle}
use Rattle.rk_node.proofs.node.Node.says.Goals as goal

pub say_in_turn-requires : goal.say_in_turn-requires
say_in_turn-requires c = ready-turn c.args.self.now c.in-Some.turn c.in-Some.is c.requires.ready c.requires.batch

pub returns-in-Some-clause-call : goal.returns-in-Some-clause-call
returns-in-Some-clause-call c = c.say_in_turn.ensures.call ∙ ap (λ (s : Saying). s.call) (sym (says-turn c.args.self.now c.in-Some.turn c.in-Some.is))

pub returns-in-Some-clause-node : goal.returns-in-Some-clause-node
returns-in-Some-clause-node c = c.say_in_turn.ensures.node ∙ ap (λ (s : Saying). s.node) (sym (says-turn c.args.self.now c.in-Some.turn c.in-Some.is))

pub returns-in-None-clause-call : goal.returns-in-None-clause-call
returns-in-None-clause-call c = c.work_request.ensures ∙ ap (λ (s : Saying). s.call) (sym (says-idle c.args.self.now c.in-None.is))

pub returns-in-None-clause-node : goal.returns-in-None-clause-node
returns-in-None-clause-node c = ap (λ (s : Saying). s.node) (sym (says-idle c.args.self.now c.in-None.is))

pub returns-in-None-clause-batch : goal.returns-in-None-clause-batch
returns-in-None-clause-batch c = subst (λ call. HasBatch (awaited_call_of call) c.args.self.now.batch) (sym c.work_request.ensures) c.requires.batch
