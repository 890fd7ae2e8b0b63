use Rattle.ce_cube.proofs.Counts.{entries-count}
use Rattle.ce_cube.proofs.laws.entries_count_law.Goals as goal

pub returns : goal.returns
returns c = record { law = entries-count }
