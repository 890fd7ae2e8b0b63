use Rattle.ce_cube.specs.Hearable.{calls_left}
use Rattle.ce_cube.specs.Exchanges.{IsTurnUnderWay}
use Rattle.ce_cube.proofs.turn.take_turn.Given as goal

-- the turn is under way
abbrev pub invariant-loop-say : goal.invariant-loop-say
invariant-loop-say l = IsTurnUnderWay l.fn.machine l.machine l.grant l.r l.node_box l.gives_work l.entries

abbrev pub decreases-loop-say : goal.decreases-loop-say
decreases-loop-say l = calls_left l.node_box.node
