use Rattle.std.proofs.Common.{arith}
use Rattle.ce_lock.proofs.Moves.{settles}
use Rattle.ce_lock.proofs.board.ChairAtBoard.settle.Goals as goal

pub load-requires : goal.load-requires
load-requires g c = (c.args.self.now.at_table, omega (arith, c.args.self.now.board.now.sized.0), settles _ _ _ _ _ _ g.met.O.Kept.prefix_is_lawful c.requires.idle c.requires.live)
