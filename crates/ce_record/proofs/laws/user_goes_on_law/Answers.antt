use Rattle.ce_record.proofs.Users.{user_goes_on}
use Rattle.ce_record.proofs.laws.user_goes_on_law.Goals as goal

pub returns : goal.returns
returns c = record { law = user_goes_on }
