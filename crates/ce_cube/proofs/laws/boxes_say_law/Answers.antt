use Rattle.ce_cube.proofs.Says.{boxes-say}
use Rattle.ce_cube.proofs.laws.boxes_say_law.Goals as goal

pub returns : goal.returns
returns c = record { law = boxes-say }
