use Rattle.rk_process.proofs.Goners.{stays-gone}
use Rattle.rk_process.proofs.law.windows_stay_gone_law.Goals as goal

pub returns : goal.returns
returns c = stays-gone
