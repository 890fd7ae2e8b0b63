use Rattle.ce_model.specs.Trace.{blank_record}
use Rattle.ce_machine.specs.Desks.{AreChanged}
use Rattle.ce_machine.proofs.Loops.{change_at_first_nodes}
use Rattle.ce_machine.proofs.desks.clear_nodes.Given as goal

-- the desks of the nodes so far are blank, and the others as they were
abbrev pub invariant-loop-r : goal.invariant-loop-r
invariant-loop-r l = AreChanged l.initial.desks.items l.desks.items (change_at_first_nodes l.grant.sub l.r (λ node_record. blank_record))
