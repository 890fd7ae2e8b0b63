use Rattle.ce_record.proofs.AtOnce.{trace}
use Rattle.ce_record.proofs.laws.trace_law.Goals as goal

pub returns : goal.returns
returns c = record { law = trace }
