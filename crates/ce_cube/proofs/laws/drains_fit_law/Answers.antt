use Rattle.ce_cube.proofs.Hosts.{drains-fit-held}
use Rattle.ce_cube.proofs.laws.drains_fit_law.Goals as goal

pub returns : goal.returns
returns c = record { law = drains-fit-held }
