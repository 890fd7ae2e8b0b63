use Rattle.ce_cube.proofs.CanHear.{boxes-can-hear}
use Rattle.ce_cube.proofs.laws.boxes_can_hear_law.Goals as goal

pub returns : goal.returns
returns c = record { law = boxes-can-hear }
