use Rattle.ce_record.proofs.AtOnce.{no_cube}
use Rattle.ce_record.proofs.laws.no_cube_law.Goals as goal

pub returns : goal.returns
returns c = record { law = no_cube }
