use Rattle.ce_record.proofs.Running.{run}
use Rattle.ce_record.proofs.laws.run_law.Goals as goal

pub returns : goal.returns
returns c = record { law = run }
