use Rattle.ce_record.proofs.Users.{user_waits}
use Rattle.ce_record.proofs.laws.user_waits_law.Goals as goal

pub returns : goal.returns
returns c = record { law = user_waits }
