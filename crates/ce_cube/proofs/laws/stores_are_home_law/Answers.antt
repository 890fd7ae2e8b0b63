use Rattle.ce_cube.proofs.Stores.{stores-are-home}
use Rattle.ce_cube.proofs.laws.stores_are_home_law.Goals as goal

pub returns : goal.returns
returns c = record { law = stores-are-home }
