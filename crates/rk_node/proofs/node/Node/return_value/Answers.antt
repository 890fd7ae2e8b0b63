use Rattle.std.proofs.Common.{ap, ◌∙◌}
use Rattle.ce_model.specs.Kernel.{continuation}
use Rattle.rk_node.specs.Standing.{turn_model}
use Rattle.rk_node.proofs.node.Node.return_value.Goals as goal

pub returns : goal.returns
returns c = record {
  did = ap (λ node. continuation node (turn_model c.args.turn)) c.answer.ensures.node;
  batch = c.answer.ensures.batch ∙ c.requires;
  room = c.answer.ensures.room;
}
