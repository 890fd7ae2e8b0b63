use Rattle.ce_record.proofs.Legal.{users_are_legal}
use Rattle.ce_record.proofs.laws.users_are_legal_law.Goals as goal

pub returns : goal.returns
returns c = record { law = users_are_legal }
