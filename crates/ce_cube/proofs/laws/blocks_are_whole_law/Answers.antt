use Rattle.ce_cube.proofs.Whole.{blocks-are-whole}
use Rattle.ce_cube.proofs.laws.blocks_are_whole_law.Goals as goal

pub returns : goal.returns
returns c = record { law = blocks-are-whole }
