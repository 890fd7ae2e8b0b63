use Rattle.ce_solo.proofs.Projection.Law.{projection}
use Rattle.ce_solo.proofs.laws.views_are_alone_law.Goals as goal

pub returns : goal.returns
returns c = record { law = projection }
