use Rattle.std.proofs.Common.{ap, ◌∙◌}
use Rattle.ce_model.specs.Node as model
use Rattle.rk_process.specs.Runs.{turn_end_of}
use Rattle.rk_node.specs.Standing.{node_model, turn_model}
use Rattle.rk_node.proofs.Turns.{in_turn-run, said-called, said-stopped, goes_on-called, goes_on-stopped, left-called}
use Rattle.rk_node.proofs.node.Node.run_on.Goals as goal

pub kernel-requires : goal.kernel-requires
kernel-requires c =
    let run = c.run_process.ensures in
    in_turn-run c.args.self.now c.run_process.new.self c.args.turn.now c.run_process.new.turn c.requires run.node run.pid run.calls c.run_process.result run.reached run.batch

pub stop_turn-requires : goal.stop_turn-requires
stop_turn-requires c =
    let run = c.run_process.ensures in
    in_turn-run c.args.self.now c.run_process.new.self c.args.turn.now c.run_process.new.turn c.requires run.node run.pid run.calls c.run_process.result run.reached run.batch

pub returns-in-Call-clause-said : goal.returns-in-Call-clause-said
returns-in-Call-clause-said c =
    let run = c.run_process.ensures in
    said-called c.args.self.now c.run_process.new.self c.args.turn.now c.run_process.new.turn c.requires run.node run.pid run.calls c.kernel.new.self c.kernel.new.turn c.kernel.result
    (c.run_process.ensures.reached ∙ ap (λ paused. turn_end_of paused c.run_process.new.turn.instructions_left (model.process_at (node_model c.run_process.new.self) c.args.turn.now.pid.number)) c.in-Call.is) c.kernel.ensures.made c.kernel.ensures.left

pub returns-in-Call-clause-goes_on : goal.returns-in-Call-clause-goes_on
returns-in-Call-clause-goes_on c =
    let run = c.run_process.ensures in
    let ready = in_turn-run c.args.self.now c.run_process.new.self c.args.turn.now c.run_process.new.turn c.requires run.node run.pid run.calls c.run_process.result run.reached run.batch in
    goes_on-called c.run_process.new.self c.kernel.new.self c.run_process.new.turn c.kernel.new.turn c.args.turn.now.instructions_left c.kernel.result ready c.kernel.ensures.made c.kernel.ensures.left
    (left-called c.args.turn.now.instructions_left c.run_process.new.turn.instructions_left (model.process_at (node_model c.args.self.now) c.args.turn.now.pid.number) (model.process_at (node_model c.run_process.new.self) c.args.turn.now.pid.number)
    (c.run_process.ensures.reached ∙ ap (λ paused. turn_end_of paused c.run_process.new.turn.instructions_left (model.process_at (node_model c.run_process.new.self) c.args.turn.now.pid.number)) c.in-Call.is))

pub returns-in-Stopped-clause-said : goal.returns-in-Stopped-clause-said
returns-in-Stopped-clause-said c =
    let run = c.run_process.ensures in
    said-stopped c.args.self.now c.run_process.new.self c.args.turn.now c.run_process.new.turn c.requires run.node run.pid run.calls c.stop_turn.new.self c.stop_turn.result c.in-Stopped.cause
    (c.run_process.ensures.reached ∙ ap (λ paused. turn_end_of paused c.run_process.new.turn.instructions_left (model.process_at (node_model c.run_process.new.self) c.args.turn.now.pid.number)) c.in-Stopped.is) c.stop_turn.ensures

pub returns-in-Stopped-clause-goes_on : goal.returns-in-Stopped-clause-goes_on
returns-in-Stopped-clause-goes_on c =
    goes_on-stopped c.run_process.new.self c.stop_turn.new.self (turn_model c.run_process.new.turn) c.args.turn.now.instructions_left c.stop_turn.result c.in-Stopped.cause c.stop_turn.ensures
