use Rattle.ce_record.proofs.Legal.{run_is_legal}
use Rattle.ce_record.proofs.laws.run_is_legal_law.Goals as goal

pub returns : goal.returns
returns c = record { law = run_is_legal }
