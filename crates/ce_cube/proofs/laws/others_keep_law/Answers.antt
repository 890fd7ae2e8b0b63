use Rattle.ce_cube.proofs.Adds.{others-keep}
use Rattle.ce_cube.proofs.laws.others_keep_law.Goals as goal

pub returns : goal.returns
returns c = record { law = others-keep }
