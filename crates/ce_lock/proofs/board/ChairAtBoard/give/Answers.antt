use Rattle.std.proofs.Common.{arith}
use Rattle.ce_lock.proofs.Moves.{gives_back}
use Rattle.ce_lock.proofs.board.ChairAtBoard.give.Goals as goal

pub load-requires : goal.load-requires
load-requires g c = let e = c.requires.object in
    (c.args.self.now.at_table, omega (arith, c.args.self.now.board.now.sized.0), gives_back _ _ _ _ _ _ _ e.0 e.1 c.args.self.now.board.now.sized.1 c.requires.holds.1 e.2 e.3 e.4 e.5)
