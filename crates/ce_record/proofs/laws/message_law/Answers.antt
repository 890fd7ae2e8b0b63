use Rattle.ce_record.proofs.Messages.{message}
use Rattle.ce_record.proofs.laws.message_law.Goals as goal

pub returns : goal.returns
returns c = record { law = message }
