use Rattle.ce_solo.proofs.Renaming.Grants.{renaming}
use Rattle.ce_solo.proofs.laws.renamed_nodes_agree_law.Goals as goal

pub returns : goal.returns
returns c = record { law = renaming }
