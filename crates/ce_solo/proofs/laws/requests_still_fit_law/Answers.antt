use Rattle.ce_solo.proofs.Projection.StillFits.{still_fits}
use Rattle.ce_solo.proofs.laws.requests_still_fit_law.Goals as goal

pub returns : goal.returns
returns c = record { law = still_fits }
