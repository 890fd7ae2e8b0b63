use Rattle.ce_cube.proofs.Hosts.{arms-allow}
use Rattle.ce_cube.proofs.laws.arms_allow_law.Goals as goal

pub returns : goal.returns
returns c = record { law = arms-allow }
