use Rattle.ce_record.proofs.GoesOn.{trace_goes_on}
use Rattle.ce_record.proofs.laws.trace_goes_on_law.Goals as goal

pub returns : goal.returns
returns c = record { law = trace_goes_on }
