use Rattle.std.proofs.Common.{◌≡◌, replicate}
use Rattle.rk_process.specs.OwnStates.{unborn_state}
use Rattle.rk_node.proofs.node.unborn_processes.Given as goal

abbrev pub invariant-loop-pid : goal.invariant-loop-pid
invariant-loop-pid l = l.processes.items ≡ replicate l._pid unborn_state
