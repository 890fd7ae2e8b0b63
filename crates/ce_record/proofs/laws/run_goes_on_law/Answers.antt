use Rattle.ce_record.proofs.Run.{run_goes_on}
use Rattle.ce_record.proofs.laws.run_goes_on_law.Goals as goal

pub returns : goal.returns
returns c = record { law = run_goes_on }
