use Rattle.ce_cube.proofs.Begun.{grants-begin}
use Rattle.ce_cube.proofs.laws.grants_begin_law.Goals as goal

pub returns : goal.returns
returns c = record { law = grants-begin }
