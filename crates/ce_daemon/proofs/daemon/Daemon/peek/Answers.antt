use Rattle.ce_daemon.proofs.Partition.{free_count-partition}
use Rattle.ce_daemon.proofs.daemon.Daemon.peek.Goals as goal

pub returns-clause-free : goal.returns-clause-free
returns-clause-free g c =
    let d = c.self.inside in
    rw (← c.self.view_is) (free_count-partition d.dim d.grants.items d.free_nodes c.self.invariant.partition c.self.invariant.within)
