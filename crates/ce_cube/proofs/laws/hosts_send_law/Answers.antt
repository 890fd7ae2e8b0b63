use Rattle.ce_cube.proofs.Hosts.{hosts-send}
use Rattle.ce_cube.proofs.laws.hosts_send_law.Goals as goal

pub returns : goal.returns
returns c = record { law = hosts-send }
