use Rattle.ce_cube.proofs.Hears.{boxes-hear}
use Rattle.ce_cube.proofs.laws.boxes_hear_law.Goals as goal

pub returns : goal.returns
returns c = record { law = boxes-hear }
