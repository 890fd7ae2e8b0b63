use Rattle.ce_solo.proofs.Waits.{sent_once, handed_over}
use Rattle.ce_solo.proofs.laws.queues_are_bounded_law.Goals as goal

pub returns : goal.returns
returns c = record { law = λ cube o t of sound alone. (sent_once cube o t of sound alone, handed_over cube o t of sound alone) }
