use Rattle.std.proofs.Common.{◌≡◌, ◌≤◌, length, drop}
use Rattle.ce_model.specs.Process.{is_receiving, is_stopped}
use Rattle.rk_node.proofs.Idle.{ids_in}
use Rattle.rk_node.proofs.saying.asking_and_dead.Given as goal

abbrev pub invariant-loop-index : goal.invariant-loop-index
invariant-loop-index l = record {
  within : l.index ≤ length l.processes;
  asking : l.asking ≡ ids_in is_receiving (drop l.index l.processes);
  dead : l.dead ≡ ids_in is_stopped (drop l.index l.processes);
}

abbrev pub decreases-loop-index : goal.decreases-loop-index
decreases-loop-index l = l.index
