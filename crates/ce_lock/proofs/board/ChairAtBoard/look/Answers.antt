use Rattle.std.proofs.Common.{arith}
use Rattle.ce_lock.proofs.Moves.{looks}
use Rattle.ce_lock.proofs.board.ChairAtBoard.look.Goals as goal

pub load-requires : goal.load-requires
load-requires g c = (c.args.self.now.at_table, omega (arith, c.args.self.now.board.now.sized.0), looks _ _ _ _ _ _ _ c.requires.waits.1)
