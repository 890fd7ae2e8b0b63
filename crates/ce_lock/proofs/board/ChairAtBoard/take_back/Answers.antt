use Rattle.ce_lock.proofs.Comings.{takes_in}
use Rattle.ce_lock.proofs.board.ChairAtBoard.take_back.Goals as goal

pub join-requires-clause-allowed : goal.join-requires-clause-allowed
join-requires-clause-allowed g c = let idle = c.requires.idle in let draw = c.requires.draw in
    takes_in _ _ _ _ _ _ _ idle.places.0 draw.0 c.requires.head idle.places.1 draw.1 c.requires.family c.requires.out
