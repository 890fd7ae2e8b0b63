use Rattle.ce_lock.proofs.Comings.{meets}
use Rattle.ce_lock.proofs.board.ChairAtBoard.meet_copy.Goals as goal

pub join-requires-clause-allowed : goal.join-requires-clause-allowed
join-requires-clause-allowed g c = let idle = c.requires.idle in
    meets _ _ _ _ _ _ _ idle.places.0 c.requires.live idle.places.1 c.requires.copied
