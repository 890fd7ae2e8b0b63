use Rattle.ce_record.proofs.Legal.{no_user_is_legal}
use Rattle.ce_record.proofs.laws.no_user_is_legal_law.Goals as goal

pub returns : goal.returns
returns c = record { law = no_user_is_legal }
