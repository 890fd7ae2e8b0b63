use Rattle.ce_solo.proofs.Projection.Legal.{lawful_is_legal}
use Rattle.ce_solo.proofs.laws.lawful_is_legal_law.Goals as goal

pub returns : goal.returns
returns c = record { law = lawful_is_legal }
