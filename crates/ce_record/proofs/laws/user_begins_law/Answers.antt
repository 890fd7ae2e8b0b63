use Rattle.ce_record.proofs.Users.{user_begins}
use Rattle.ce_record.proofs.laws.user_begins_law.Goals as goal

pub returns : goal.returns
returns c = record { law = user_begins }
