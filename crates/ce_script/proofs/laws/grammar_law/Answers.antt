use Rattle.ce_script.proofs.OneScript.{decided}
use Rattle.ce_script.proofs.laws.grammar_law.Goals as goal

-- src/laws.rt
pub returns-clause-decided : goal.returns-clause-decided
returns-clause-decided c = decided
