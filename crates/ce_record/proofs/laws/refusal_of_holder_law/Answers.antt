use Rattle.ce_record.proofs.AtOnce.{held}
use Rattle.ce_record.proofs.laws.refusal_of_holder_law.Goals as goal

pub returns : goal.returns
returns c = record { law = held }
