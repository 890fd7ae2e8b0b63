use Rattle.std.proofs.Common.{arith}
use Rattle.ce_lock.proofs.Moves.{commits}
use Rattle.ce_lock.proofs.board.ChairAtBoard.commit.Goals as goal

pub fetch_add-requires : goal.fetch_add-requires
fetch_add-requires g c = let e = c.requires.entry in
    (c.args.self.now.at_table, omega (arith, c.args.self.now.board.now.sized.0), commits _ _ _ _ _ _ _ e.0 e.1 e.2 c.requires.holds.1 e.3 e.4 e.5 e.6 e.7 e.8 e.9)
