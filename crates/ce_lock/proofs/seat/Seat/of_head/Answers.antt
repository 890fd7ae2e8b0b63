use Rattle.ce_lock.proofs.Endings.{sound_head}
use Rattle.ce_lock.proofs.seat.Seat.of_head.Goals as goal

pub invariant_of-result : goal.invariant_of-result
invariant_of-result g c = sound_head _ g.met.O.Kept.empty_is_lawful c.args.family c.requires.0 c.requires.1 c.args.chair.me c.requires.2
