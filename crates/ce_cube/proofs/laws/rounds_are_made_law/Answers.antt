use Rattle.ce_cube.proofs.Rounds.{are-made}
use Rattle.ce_cube.proofs.laws.rounds_are_made_law.Goals as goal

pub returns : goal.returns
returns c = record { law = are-made }
