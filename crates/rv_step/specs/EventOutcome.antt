-- What a step answers and leaves behind, beside what it does.
use Rattle.std.specs.Prelude.{ℕ, List, ⊤}
use Rattle.rv_step.specs.declared.event.Event.{Event}
use Rattle.rv_step.specs.declared.event.Event.TheVariants.{Advance, Call, Stopped}
use Rattle.rv_model.specs.Exec.{Outcome, next_state, call_state, stop_state}

-- the outcome of a step that answered this event and left these registers, this pc and this memory
abbrev pub outcome_of_event : {M : Type 0} → Event → List ℕ → ℕ → M → Outcome M
outcome_of_event Advance x pc m = next_state x pc m
outcome_of_event Call x pc m = call_state x pc m
outcome_of_event (Stopped cause) x pc m = stop_state cause

-- a fact, if the event is a stop
abbrev pub OnStopped : Event → Type 0 → Type 0
OnStopped Advance P = ⊤
OnStopped Call P = ⊤
OnStopped (Stopped cause) P = P
