use Rattle.ce_record.proofs.HeldCubes.{cube_begins}
use Rattle.ce_record.proofs.laws.cube_begins_law.Goals as goal

pub returns : goal.returns
returns c = record { law = cube_begins }
