use Rattle.std.proofs.Common.{arith}
use Rattle.ce_model.specs.Process.{is_receiving, is_stopped}
use Rattle.rk_node.proofs.Idle.{ids_behind, ids-all, ids-less, bit_of}
use Rattle.rk_node.proofs.saying.asking_and_dead.Goals as goal

pub overflow_mul-asking : goal.overflow_mul-asking
overflow_mul-asking c = omega (arith, ids_behind is_receiving c.args.processes.now c.loop-index.index (omega arith))

pub overflow_add-asking : goal.overflow_add-asking
overflow_add-asking c = omega (arith, ids_behind is_receiving c.args.processes.now c.loop-index.index (omega arith), bit_of c.is_receiving.result)

pub returns-clause-asking : goal.returns-clause-asking
returns-clause-asking c = ids-all is_receiving c.args.processes.now c.loop-index.index c.loop-index.asking (omega arith) c.loop-index.invariant.asking

pub overflow_mul-dead : goal.overflow_mul-dead
overflow_mul-dead c = omega (arith, ids_behind is_stopped c.args.processes.now c.loop-index.index (omega arith))

pub overflow_add-dead : goal.overflow_add-dead
overflow_add-dead c = omega (arith, ids_behind is_stopped c.args.processes.now c.loop-index.index (omega arith), bit_of c.is_stopped.result)

pub returns-clause-dead : goal.returns-clause-dead
returns-clause-dead c = ids-all is_stopped c.args.processes.now c.loop-index.index c.loop-index.dead (omega arith) c.loop-index.invariant.dead

pub returns-clause-within : goal.returns-clause-within
returns-clause-within c = (
  ids-less is_receiving c.args.processes.now c.loop-index.index c.loop-index.asking (omega arith) c.loop-index.invariant.asking,
  ids-less is_stopped c.args.processes.now c.loop-index.index c.loop-index.dead (omega arith) c.loop-index.invariant.dead,
)
