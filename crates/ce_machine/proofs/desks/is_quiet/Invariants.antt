use Rattle.std.proofs.Common.{◌≡◌}
use Rattle.std.specs.List.{list_all}
use Rattle.ce_model.specs.Answers.{is_quiet_node}
use Rattle.ce_machine.specs.Tables.{desk_at}
use Rattle.ce_machine.proofs.Loops.{nodes_from}
use Rattle.ce_machine.proofs.desks.is_quiet.Given as goal

-- all are quiet if those are that weren't looked at
abbrev pub invariant-loop-r : goal.invariant-loop-r
invariant-loop-r l =
    list_all (λ node. is_quiet_node (desk_at l.desks.items node)) (nodes_from l.grant.sub 0 l.r-end)
    ≡ list_all (λ node. is_quiet_node (desk_at l.desks.items node)) (nodes_from l.grant.sub l.r l.r-end)
