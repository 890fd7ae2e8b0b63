use Rattle.ce_record.proofs.AtOnce.{dump}
use Rattle.ce_record.proofs.laws.dump_law.Goals as goal

pub returns : goal.returns
returns c = record { law = dump }
