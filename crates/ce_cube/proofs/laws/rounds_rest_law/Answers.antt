use Rattle.ce_cube.proofs.Idle.{rounds-rest}
use Rattle.ce_cube.proofs.laws.rounds_rest_law.Goals as goal

pub returns : goal.returns
returns c = record { law = rounds-rest }
