use Rattle.ce_cube.proofs.Adds.{calls-add}
use Rattle.ce_cube.proofs.laws.calls_add_law.Goals as goal

pub returns : goal.returns
returns c = record { law = calls-add }
