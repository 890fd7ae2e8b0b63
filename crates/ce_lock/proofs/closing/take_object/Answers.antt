use Rattle.ce_lock.proofs.Comings.{ends}
use Rattle.ce_lock.proofs.closing.take_object.Goals as goal

pub returns : goal.returns
returns g c = ends _ _ _ _ _ _ _ c.close_with-closed_table.ensures.values.2 c.requires.live c.requires.all _ c.take-object.ensures.value
