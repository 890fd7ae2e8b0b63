use Rattle.std.proofs.Common.{arith}
use Rattle.rk_mail.proofs.Equal.{HasEqualBytes-rest}
use Rattle.rk_mail.proofs.batch.Batch.take_first.Goals as goal

pub invariant_of-self : goal.invariant_of-self
invariant_of-self c =
    let known = c.self.invariant in
    (HasEqualBytes-rest c.pop_front.result c.self.inside.targets.items c.pop_front.new.self.items c.pop_front.ensures.items known.0, omega (arith, known.1, c.pop_front.ensures.len), omega (arith, known.2, c.pop_front.ensures.capacity))
