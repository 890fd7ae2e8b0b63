use Rattle.ce_solo.proofs.Projection.Legal.{same_trace}
use Rattle.ce_solo.proofs.laws.views_are_same_law.Goals as goal

pub returns : goal.returns
returns c = record { law = same_trace }
