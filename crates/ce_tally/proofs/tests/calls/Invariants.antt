use Rattle.ce_lock.specs.Sitting.{IsSeatOf}
use Rattle.ce_tally.proofs.tests.calls.Given as goal

abbrev pub invariant-loop : goal.invariant-loop
invariant-loop g l = IsSeatOf l.book l.seat
