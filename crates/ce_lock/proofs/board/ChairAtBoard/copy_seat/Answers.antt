use Rattle.std.proofs.Common.{arith}
use Rattle.ce_lock.proofs.Comings.{copies}
use Rattle.ce_lock.proofs.board.ChairAtBoard.copy_seat.Goals as goal

pub split_seat-requires : goal.split_seat-requires
split_seat-requires g c = (c.args.self.now.at_table, omega (arith, c.args.self.now.board.now.sized.0), copies _ _ _ _ _ c.requires.live)
