use Rattle.ce_machine.proofs.Loops.{read-at}
use Rattle.ce_machine.proofs.desks.desk_of.Goals as goal

pub returns : goal.returns
returns c = read-at _ _ _ c.index-desk.result.now (c.requires.sub.within c.args.r c.requires.node) c.node_at.ensures c.index-desk.ensures
