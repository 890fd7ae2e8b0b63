use Rattle.ce_record.proofs.Replies.{replies_begin}
use Rattle.ce_record.proofs.laws.replies_begin_law.Goals as goal

pub returns : goal.returns
returns c = record { law = replies_begin }
