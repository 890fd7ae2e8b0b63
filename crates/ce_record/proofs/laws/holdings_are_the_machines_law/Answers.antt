use Rattle.ce_record.proofs.HeldCubes.{held_is_held}
use Rattle.ce_record.proofs.laws.holdings_are_the_machines_law.Goals as goal

pub returns : goal.returns
returns c = record { law = held_is_held }
