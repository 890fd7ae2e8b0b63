use Rattle.ce_solo.proofs.Fresh.{fresh_sound}
use Rattle.ce_solo.proofs.laws.fresh_is_sound_law.Goals as goal

pub returns : goal.returns
returns c = record { law = fresh_sound }
