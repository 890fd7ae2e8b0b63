use Rattle.ce_cube.proofs.Hosts.{hosts-fit}
use Rattle.ce_cube.proofs.laws.hosts_fit_law.Goals as goal

pub returns : goal.returns
returns c = record { law = hosts-fit }
