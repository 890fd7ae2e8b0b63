use Rattle.ce_solo.proofs.GoesOn.{goes_on}
use Rattle.ce_solo.proofs.laws.traces_go_on_law.Goals as goal

pub returns : goal.returns
returns c = record { law = goes_on }
