use Rattle.std.proofs.Common.{arith}
use Rattle.ce_lock.proofs.Moves.{draws}
use Rattle.ce_lock.proofs.board.ChairAtBoard.draw.Goals as goal

pub fetch_add-requires : goal.fetch_add-requires
fetch_add-requires g c = (c.args.self.now.at_table, omega (arith, c.args.self.now.board.now.sized.0), draws _ _ _ _ _ _ c.requires.idle c.requires.may_draw)
