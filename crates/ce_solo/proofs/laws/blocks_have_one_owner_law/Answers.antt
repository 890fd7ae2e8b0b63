use Rattle.ce_solo.proofs.Stands.{stands-front}
use Rattle.ce_solo.proofs.laws.blocks_have_one_owner_law.Goals as goal

pub returns : goal.returns
returns c = record { law = λ cube o t of sound alone front is. (stands-front cube o t front of sound alone is).sound.owners }
