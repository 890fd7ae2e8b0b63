use Rattle.ce_daemon.proofs.Partition.{is_ungranted-partition}
use Rattle.ce_daemon.proofs.daemon.Daemon.free_nodes.Goals as goal

pub returns-clause-free : goal.returns-clause-free
returns-clause-free g c =
    let d = c.self.inside in
    rw (← c.self.view_is) (λ node below. is_ungranted-partition d.dim d.grants.items d.free_nodes node c.self.invariant.partition below)
