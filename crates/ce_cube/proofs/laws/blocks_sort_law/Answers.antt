use Rattle.ce_cube.proofs.Stores.{blocks-sort}
use Rattle.ce_cube.proofs.laws.blocks_sort_law.Goals as goal

pub returns : goal.returns
returns c = record { law = blocks-sort }
