use Rattle.std.proofs.Common.{◌≡◌}
use Rattle.ce_model.specs.Saying.{turn_saying}
use Rattle.rk_node.specs.Standing.{node_model, turn_model}
use Rattle.rk_node.specs.Ready.{IsInTurn}
use Rattle.rk_node.proofs.node.Node.run_turn.Given as goal

abbrev pub invariant-loop-say : goal.invariant-loop-say
invariant-loop-say l = record {
  said : turn_saying l.turn.instructions_left (node_model l.self) (turn_model l.turn) ≡ turn_saying l.fn.first_turn.instructions_left (node_model l.fn.self) (turn_model l.fn.first_turn);
  ready : IsInTurn l.self (turn_model l.turn);
  room : l.self.room ≡ l.fn.self.room;
}

abbrev pub decreases-loop-say : goal.decreases-loop-say
decreases-loop-say l = l.turn.instructions_left
