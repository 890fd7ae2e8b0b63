use Rattle.std.proofs.Common.{arith}
use Rattle.ce_lock.proofs.Moves.{takes_out}
use Rattle.ce_lock.proofs.board.ChairAtBoard.take.Goals as goal

pub load-requires : goal.load-requires
load-requires g c = (c.args.self.now.at_table, omega (arith, c.args.self.now.board.now.sized.0), takes_out _ _ _ _ _ _ _ c.requires.turn.1)
