use Rattle.xm_block.proofs.Names.{least}
use Rattle.xm_block.proofs.store.Store.take_least.Goals as goal

pub returns-clause-least : goal.returns-clause-least
returns-clause-least c = least _ _ _ c.pop_front.ensures.items c.self.invariant.rising
