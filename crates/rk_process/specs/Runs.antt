-- What a run comes to, by what the code answers.
use Rattle.std.specs.Prelude.{ℕ, List}
use Rattle.ce_model.specs.declared.process.Status.{Status}
use Rattle.ce_model.specs.Space.{Space}
use Rattle.ce_model.specs.Process.{Process, TurnEnd, call_end, stop_end}
use Rattle.rk_process.specs.declared.pause.Pause.{Pause}
use Rattle.rk_process.specs.declared.pause.Pause.TheVariants.{Call, Stopped}

-- the process is at this point of its turn, with so many instructions left
abbrev pub turn_end_of : Pause → ℕ → Process → TurnEnd
turn_end_of Call instructions_left p = call_end instructions_left p
turn_end_of (Stopped cause) instructions_left p = stop_end instructions_left p cause

-- a process by its parts
abbrev pub process_of_parts : Status → List ℕ → ℕ → Space → Process
process_of_parts status registers pc space =
    record { status = status; registers = registers; pc = pc; space = space }
