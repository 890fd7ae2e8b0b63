use Rattle.ce_lock.proofs.Comings.{closes}
use Rattle.ce_lock.proofs.board.ChairAtBoard.close_head.Goals as goal

pub join-requires-clause-allowed : goal.join-requires-clause-allowed
join-requires-clause-allowed g c = let idle = c.requires.idle in let head = c.requires.head in
    closes _ _ _ _ _ _ _ idle.places.0 c.requires.copied idle.places.1 head.0 head.1 c.requires.alone c.requires.fresh
