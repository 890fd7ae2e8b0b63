use Rattle.ce_model.proofs.AloneByEntries.{entries_of_alone}
use Rattle.ce_solo.proofs.Stands.{stands-each}
use Rattle.ce_solo.proofs.laws.states_stay_sound_law.Goals as goal

pub returns : goal.returns
returns c = record { law = λ cube o t of sound alone. (stands-each cube o t of sound (entries_of_alone cube o t alone)).sound }
