use Rattle.ce_record.proofs.AtOnce.{no_store}
use Rattle.ce_record.proofs.laws.no_store_law.Goals as goal

pub returns : goal.returns
returns c = record { law = no_store }
