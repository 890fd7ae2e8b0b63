use Rattle.ce_cube.proofs.Hosts.{hosts-take}
use Rattle.ce_cube.proofs.laws.hosts_take_law.Goals as goal

pub returns : goal.returns
returns c = record { law = hosts-take }
