use Rattle.ce_record.proofs.Run.{run_begins}
use Rattle.ce_record.proofs.laws.run_begins_law.Goals as goal

pub returns : goal.returns
returns c = record { law = run_begins }
