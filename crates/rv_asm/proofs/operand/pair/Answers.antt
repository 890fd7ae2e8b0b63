use Rattle.std.proofs.Common.{refl}
use Rattle.rv_asm.specs.Faults.{pair_judgment}
use Rattle.rv_asm.proofs.KindOrder.{least_is_earlier}
use Rattle.rv_asm.proofs.operand.pair.Goals as goal

pub returns-in-Err-Err-clause-joined : goal.returns-in-Err-Err-clause-joined
unfolding pair_judgment
returns-in-Err-Err-clause-joined g c =
    rw (c.in-Err-Err.is-0, c.in-Err-Err.is-1, c.min.ensures, least_is_earlier c.in-Err-Err.first c.in-Err-Err.second) refl
