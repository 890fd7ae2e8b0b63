use Rattle.ce_record.proofs.Running.{recv}
use Rattle.ce_record.proofs.laws.recv_law.Goals as goal

pub returns : goal.returns
returns c = record { law = recv }
