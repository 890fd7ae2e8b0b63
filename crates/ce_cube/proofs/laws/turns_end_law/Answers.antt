use Rattle.ce_cube.proofs.CanHear.{turns-end}
use Rattle.ce_cube.proofs.laws.turns_end_law.Goals as goal

pub returns : goal.returns
returns c = record { law = turns-end }
