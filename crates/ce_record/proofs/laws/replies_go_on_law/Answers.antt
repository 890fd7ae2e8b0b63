use Rattle.ce_record.proofs.Replies.{replies_go_on}
use Rattle.ce_record.proofs.laws.replies_go_on_law.Goals as goal

pub returns : goal.returns
returns c = record { law = replies_go_on }
