use Rattle.std.proofs.Common.{Some, ap, ◌∙◌, arith}
use Rattle.ce_model.specs.Limits.{turn_instructions, turn_instructions_lem}
use Rattle.ce_model.specs.Node as model
use Rattle.rk_node.proofs.node.Node.begin_turn.Goals as goal

pub invariant_of-self : goal.invariant_of-self
invariant_of-self c = record { instructions = omega (arith, turn_instructions_lem); counted = omega arith }

pub returns-clause-node : goal.returns-clause-node
unfolding turn_instructions
returns-clause-node c =
    ap (λ (n : model.Node). record n { turn = Some (record { pid = c.args.pid.number; instructions_left = turn_instructions; calls = 0 }) }) c.leave_polling.ensures.node
    ∙ ap (λ (n : model.Node). record n { polling_ids = model.without_poller c.args.pid.number n.polling_ids; turn = Some (record { pid = c.args.pid.number; instructions_left = turn_instructions; calls = 0 }) }) c.set_status.ensures.node
