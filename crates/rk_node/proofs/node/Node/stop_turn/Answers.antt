use Rattle.std.proofs.Common.{Some, ap, ◌∙◌}
use Rattle.ce_model.specs.Kernel.{turn_conclusion}
use Rattle.rk_node.specs.Standing.{node_model, turn_model}
use Rattle.rk_node.proofs.Made.{well-once}
use Rattle.rk_node.proofs.node.Node.stop_turn.Goals as goal

pub stop-requires : goal.stop-requires
stop-requires c = well-once (Some (turn_model c.args.turn)) (node_model c.args.self.now) c.requires.well

pub returns : goal.returns
returns c = record {
  did = ap turn_conclusion c.stop.ensures.node;
  batch = c.stop.ensures.batch ∙ c.requires.batch;
  room = c.stop.ensures.room;
}
