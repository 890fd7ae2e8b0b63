use Rattle.ce_record.proofs.GoesOn.{cube_stays}
use Rattle.ce_record.proofs.laws.cube_stays_law.Goals as goal

pub returns : goal.returns
returns c = record { law = cube_stays }
