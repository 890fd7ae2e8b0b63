use Rattle.ce_cube.proofs.Looks.{looks-end}
use Rattle.ce_cube.proofs.laws.looks_end_law.Goals as goal

pub returns : goal.returns
returns c = record { law = looks-end }
