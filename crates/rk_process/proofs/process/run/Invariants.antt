use Rattle.std.proofs.Common.{◌≡◌}
use Rattle.ce_model.specs.declared.process.Status.{Status}
use Rattle.ce_model.specs.Process.{turn_end}
use Rattle.rk_process.specs.Runs.{process_of_parts}
use Rattle.rk_process.specs.Memories.{memory_space, memory_rest}
use Rattle.rk_process.proofs.process.run.Given as goal

abbrev pub invariant-loop-left_count : goal.invariant-loop-left_count
invariant-loop-left_count l = record {
  same : (status : Status) → turn_end l.fn.instructions_left (process_of_parts status l.fn.registers.x l.fn.pc (memory_space l.fn.memory))
      ≡ turn_end l.left_count (process_of_parts status l.registers.x l.next_pc (memory_space l.memory));
  rest : memory_rest l.memory ≡ memory_rest l.fn.memory;
}

abbrev pub decreases-loop-left_count : goal.decreases-loop-left_count
decreases-loop-left_count l = l.left_count
