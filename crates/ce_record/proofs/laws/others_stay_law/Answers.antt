use Rattle.ce_record.proofs.HeldCubes.{others_stay}
use Rattle.ce_record.proofs.laws.others_stay_law.Goals as goal

pub returns : goal.returns
returns c = record { law = others_stay }
