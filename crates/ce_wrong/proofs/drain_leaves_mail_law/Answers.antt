use Rattle.ce_wrong.proofs.Refuted.{drain_leaves_mail}
use Rattle.ce_wrong.proofs.drain_leaves_mail_law.Goals as goal

pub returns : goal.returns
returns c = record { law = drain_leaves_mail }
