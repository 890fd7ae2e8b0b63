use Rattle.std.proofs.Common.{arith, rules, ℕ, ◌^◌, ◌<◌, ◌≢◌, sym, subst}
use Rattle.std.specs.List.{Contains}
use Rattle.ce_model.specs.declared.topology.TheConstants.{HOST}
use Rattle.ce_lock.proofs.Comings.{sends_out}
use Rattle.ce_lock.proofs.board.ChairAtBoard.worker_seat.Goals as goal

pub split_seat-requires : goal.split_seat-requires
split_seat-requires g c = let free = c.requires.free in let small : c.args.actor < 2 ^ 32 = search rules in
    let fine = subst (λ (a : ℕ). (a ≢ HOST) × (a < 2 ^ 32) × (¬ Contains c.args.self.now.chair.now.me.0.right.absent_actors a)) (sym c.requires.name) (free.0, small, free.1) in
    (c.args.self.now.at_table, omega (arith, c.args.self.now.board.now.sized.0), sends_out _ _ _ _ _ _ c.requires.may_draw c.requires.host fine.0 fine.1 fine.2)
