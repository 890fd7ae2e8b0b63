use Rattle.ce_record.proofs.AtOnce.{freecube_next}
use Rattle.ce_record.proofs.laws.freecube_law.Goals as goal

pub returns : goal.returns
returns c = record { law = freecube_next }
