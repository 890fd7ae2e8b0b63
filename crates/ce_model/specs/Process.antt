-- A process: its state, and its run to its next call of the kernel.
use Rattle.std.specs.Prelude.{ℕ, zero, suc, ◌+◌, Bool, true, false, List, [], replicate, slice_index, slice_set}
use Rattle.rv_model.specs.declared.stop.Stop.{Stop}
use Rattle.rv_model.specs.declared.stop.Stop.TheVariants.{TurnSpent}
use Rattle.rv_model.specs.Exec.{Outcome, next_state, call_state, stop_state, step_outcome}
use Rattle.rv_model.specs.Image.{ImageParts}
use Rattle.rv_model.specs.Private.{with_loaded_bytes}
use Rattle.rv_model.specs.declared.limits.TheConstants.{A0, PRIVATE_END, REGISTER_COUNT, SP}
use Rattle.ce_model.specs.declared.calls.TheConstants.{NUMBER_ARGUMENT}
use Rattle.ce_model.specs.declared.process.Status.{Status}
use Rattle.ce_model.specs.declared.process.Status.TheVariants.{Unborn, Running, Asking, Polling, Stopped}
use Rattle.ce_model.specs.Space.{Space, process_access, emptied_space}

-- what a process does, its registers, its pc, and its memory
pub record Process : Type 0 where
  pub status : Status
  pub registers : List ℕ
  pub pc : ℕ
  pub space : Space

-- ---- states

-- it waits for a message
abbrev pub is_receiving : Status → Bool
is_receiving Asking = true
is_receiving Polling = true
is_receiving other = false

abbrev pub is_stopped : Status → Bool
is_stopped (Stopped cause) = true
is_stopped other = false

-- a process that wasn't started yet
abbrev pub unborn_process : Process
unborn_process = record {
  status = Unborn;
  registers = replicate REGISTER_COUNT 0;
  pc = 0;
  space = record { private = with_loaded_bytes []; windows = [] };
}

-- a process as it starts: its image's bytes and zeros behind them, the pc at the image's entry,
-- `sp` at the end of private memory, all other registers 0, and no window used
abbrev pub started_process : ImageParts → Process
started_process image = record {
  status = Running;
  registers = slice_set (replicate REGISTER_COUNT 0) SP PRIVATE_END;
  pc = image.entry;
  space = record { private = with_loaded_bytes image.loaded; windows = [] };
}

-- a process that has stopped for this cause: its windows hold nothing any longer
abbrev pub ended_process : Stop → Process → Process
ended_process cause p = record p { status = Stopped cause; space = emptied_space p.space }

-- ---- registers that a kernel call uses

-- an argument of a call: the first is in a0
abbrev pub argument : Process → ℕ → ℕ
argument p k = slice_index p.registers (A0 + k)

-- the number of a call is in a7
abbrev pub call_number : Process → ℕ
call_number p = argument p NUMBER_ARGUMENT

-- the answer to a call is put into a0
abbrev pub with_answer : ℕ → Process → Process
with_answer value p = record p { registers = slice_set p.registers A0 value }

-- ---- the run to the next call

-- a process once an instruction has left these registers, this pc and this memory
abbrev pub moved_process : Process → List ℕ → ℕ → Space → Process
moved_process p registers pc space =
    record { status = p.status; registers = registers; pc = pc; space = space }

-- what a run comes to: a call of the kernel, with the instructions that the turn has left, or why
-- the process stops there
pub data TurnEnd : Type 0 where
  call_end : ℕ → Process → TurnEnd
  stop_end : ℕ → Process → Stop → TurnEnd

-- where an instruction leads, behind which `instructions_left` more may be run
abbrev pub end_after : (Process → TurnEnd) → ℕ → Process → Outcome Space → TurnEnd
end_after onward instructions_left p (next_state registers pc space) =
    onward (moved_process p registers pc space)
end_after onward instructions_left p (call_state registers pc space) =
    call_end instructions_left (moved_process p registers pc space)
end_after onward instructions_left p (stop_state cause) = stop_end instructions_left p cause

-- what a process's next instruction comes to
abbrev pub instruction_outcome : Process → Outcome Space
instruction_outcome p = step_outcome process_access p.registers p.pc p.space

-- what a process comes to that may run so many instructions more: its next kernel call, its stop,
-- or the end of its turn
unfoldable pub turn_end : ℕ → Process → TurnEnd
turn_end zero p = stop_end 0 p TurnSpent
turn_end (suc instructions_left) p = end_after (turn_end instructions_left) instructions_left p
    (instruction_outcome p)
