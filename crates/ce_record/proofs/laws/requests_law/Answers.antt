use Rattle.ce_record.proofs.Requests.{asked}
use Rattle.ce_record.proofs.laws.requests_law.Goals as goal

pub returns : goal.returns
returns c = record { law = asked }
