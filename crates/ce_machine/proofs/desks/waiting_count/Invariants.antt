use Rattle.std.proofs.Common.{◌≡◌, ◌+◌, ◌*◌, ◌≤◌, flat_map, length}
use Rattle.ce_machine.specs.Tables.{desk_at}
use Rattle.ce_machine.proofs.Loops.{nodes_from}
use Rattle.ce_machine.proofs.desks.waiting_count.Given as goal

-- what was counted, and what waits at the other nodes, is all
abbrev pub invariant-loop-r : goal.invariant-loop-r
invariant-loop-r l = record {
  all : l.count + length (flat_map (λ node. (desk_at l.desks.items node).waiting_items) (nodes_from l.grant.sub l.r l.r-end))
      ≡ length (flat_map (λ node. (desk_at l.desks.items node).waiting_items) (nodes_from l.grant.sub 0 l.r-end));
  few : l.count ≤ 2_096 * l.r;
}
