use Rattle.ce_cube.proofs.Idling.{idle-asks}
use Rattle.ce_cube.proofs.laws.idle_asks_law.Goals as goal

pub returns : goal.returns
returns c = record { law = idle-asks }
