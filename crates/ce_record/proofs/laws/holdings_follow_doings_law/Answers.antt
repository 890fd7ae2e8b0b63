use Rattle.ce_record.proofs.HeldCubes.{held_after_is_held}
use Rattle.ce_record.proofs.laws.holdings_follow_doings_law.Goals as goal

pub returns : goal.returns
returns c = record { law = held_after_is_held }
