use Rattle.rk_node.proofs.Cleaned.{scrubbed-clean}
use Rattle.rk_node.proofs.laws.scrubbed_is_clean_law.Goals as goal

pub returns : goal.returns
returns c = record { law = scrubbed-clean }
