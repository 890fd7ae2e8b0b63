use Rattle.ce_cube.proofs.Beside.{beside-keeps}
use Rattle.ce_cube.proofs.laws.beside_keeps_law.Goals as goal

pub returns : goal.returns
returns c = record { law = beside-keeps }
