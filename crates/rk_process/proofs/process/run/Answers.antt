use Rattle.std.proofs.Common.{◌≡◌, ◌-◌, suc, sym, ap, ◌∙◌, arith}
use Rattle.rv_model.specs.Exec.{next_state, call_state, stop_state}
use Rattle.ce_model.specs.Process.{stop_end}
use Rattle.rk_process.specs.Runs.{process_of_parts}
use Rattle.rk_process.specs.Memories.{memory_space}
use Rattle.rk_process.proofs.Reaching.{reached_by, reached_spent}
use Rattle.rk_process.proofs.process.run.Goals as goal

pub loop-left_count-preserved : goal.loop-left_count-preserved
loop-left_count-preserved c =
    let s = c.loop-left_count in
    let e : s.left_count ≡ suc (s.left_count - 1) = omega arith in
    record {
      same = λ status. c.loop-left_count.invariant.same status
          ∙ reached_by s.left_count (s.left_count - 1) (process_of_parts status s.registers.x s.next_pc (memory_space s.memory)) (next_state c.step.new.registers.x c.step.new.pc (memory_space c.step.new.memory)) e (sym c.in-Advance.ensures.done);
      rest = c.step.ensures.rest ∙ c.loop-left_count.invariant.rest;
    }

pub returns-in-Call-clause-reached : goal.returns-in-Call-clause-reached
returns-in-Call-clause-reached c status =
    let s = c.loop-left_count in
    let e : s.left_count ≡ suc (s.left_count - 1) = omega arith in
    c.loop-left_count.invariant.same status
    ∙ reached_by s.left_count (s.left_count - 1) (process_of_parts status s.registers.x s.next_pc (memory_space s.memory)) (call_state c.step.new.registers.x c.step.new.pc (memory_space c.step.new.memory)) e (sym c.in-Call.ensures.done)

pub returns-in-Stopped-clause-reached : goal.returns-in-Stopped-clause-reached
returns-in-Stopped-clause-reached c status =
    let s = c.loop-left_count in
    let e : s.left_count ≡ suc (s.left_count - 1) = omega arith in
    let stays = c.in-Stopped.ensures in
    c.loop-left_count.invariant.same status
    ∙ reached_by s.left_count (s.left_count - 1) (process_of_parts status s.registers.x s.next_pc (memory_space s.memory)) (stop_state c.in-Stopped.cause) e (sym stays.done)
    ∙ ap (λ registers. stop_end (s.left_count - 1) (process_of_parts status registers s.next_pc (memory_space s.memory)) c.in-Stopped.cause) (sym stays.registers_stay)
    ∙ ap (λ pc. stop_end (s.left_count - 1) (process_of_parts status c.step.new.registers.x pc (memory_space s.memory)) c.in-Stopped.cause) (sym stays.pc_stays)
    ∙ ap (λ space. stop_end (s.left_count - 1) (process_of_parts status c.step.new.registers.x c.step.new.pc space) c.in-Stopped.cause) (sym stays.memory_stays)

pub returns-clause-reached : goal.returns-clause-reached
returns-clause-reached c status =
    let s = c.loop-left_count in
    let e : s.left_count ≡ 0 = omega arith in
    c.loop-left_count.invariant.same status ∙ reached_spent s.left_count (process_of_parts status s.registers.x s.next_pc (memory_space s.memory)) e
