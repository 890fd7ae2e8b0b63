use Rattle.std.proofs.Common.{◌∙◌, arith}
use Rattle.ce_lock.proofs.board.ChairAtBoard.join.Goals as goal

pub join_seat-requires : goal.join_seat-requires
join_seat-requires g c = let idle = c.requires.idle in
    (c.args.self.now.at_table, idle.same_table ∙ c.args.self.now.at_table, idle.hand, omega (arith, c.args.self.now.board.now.sized.0), c.requires.allowed)
