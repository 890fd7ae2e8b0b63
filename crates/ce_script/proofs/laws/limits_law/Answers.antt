use Rattle.ce_script.proofs.WithinLimits.{within_limits}
use Rattle.ce_script.proofs.laws.limits_law.Goals as goal

-- src/laws.rt
pub returns : goal.returns
returns c = within_limits
