use Rattle.ce_record.proofs.AtOnce.{no_place}
use Rattle.ce_record.proofs.laws.no_place_law.Goals as goal

pub returns : goal.returns
returns c = record { law = no_place }
