use Rattle.ce_solo.proofs.Ordered.{in_order}
use Rattle.ce_solo.proofs.laws.messages_are_in_order_law.Goals as goal

pub returns : goal.returns
returns c = record { law = in_order }
