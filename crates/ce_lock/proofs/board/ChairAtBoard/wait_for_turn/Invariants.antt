use Rattle.std.proofs.Common.{◌≡◌}
use Rattle.ce_lock.specs.Chairs.{IsSameChair}
use Rattle.ce_lock.proofs.board.ChairAtBoard.wait_for_turn.Given as goal

abbrev pub invariant-loop : goal.invariant-loop
invariant-loop g l = IsSameChair l.initial.self l.self × (l.self.chair.now.me ≡ l.initial.self.chair.now.me)
