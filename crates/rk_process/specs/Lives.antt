-- What can happen to a process while it lives.
use Rattle.std.specs.Prelude.{◌≡◌, ℕ, ◌%◌, ◌≤◌, List, fold, slice_get, Some, None, Err}
use Rattle.rv_model.specs.declared.stop.Stop.TheVariants.{Gone}
use Rattle.ce_model.specs.Limits.{window_base}
use Rattle.ce_model.specs.Blocks.{Block}
use Rattle.ce_model.specs.Space.{Space, window_of, mapped_space, unmapped_space, load_result, store_result}
use Rattle.ce_model.specs.Process.{Process, TurnEnd, call_end, stop_end, turn_end, with_answer, ended_process}
use Rattle.rv_model.specs.declared.stop.Stop.{Stop}

-- it runs to its next call with so many instructions left at most, it is answered, a block is
-- mapped at its next window, the block of a window is sent or freed, or it ends
pub data LifeEvent : Type 0 where
  run : ℕ → LifeEvent
  answer : ℕ → LifeEvent
  mapping : Block → LifeEvent
  unmapping : ℕ → LifeEvent
  end : Stop → LifeEvent

-- the process where its run ends
abbrev pub process_of_end : TurnEnd → Process
process_of_end (call_end instructions_left p) = p
process_of_end (stop_end instructions_left p cause) = p

abbrev pub process_after_event : Process → LifeEvent → Process
process_after_event p (run instructions_left) = process_of_end (turn_end instructions_left p)
process_after_event p (answer value) = with_answer value p
process_after_event p (mapping block) = record p { space = mapped_space block p.space }
process_after_event p (unmapping k) = record p { space = unmapped_space k p.space }
process_after_event p (end cause) = ended_process cause p

abbrev pub process_after_events : Process → List LifeEvent → Process
process_after_events p events = fold process_after_event p events

-- a window that was used and holds no block
abbrev pub IsWindowGone : ℕ → Space → Type 0
IsWindowGone k space = slice_get space.windows k ≡ Some None

-- an access in a window whose block is gone stops the process as Gone, whatever has happened to it
-- since
abbrev pub WindowsStayGone : Type 0
WindowsStayGone = (p : Process) (events : List LifeEvent) (a size n : ℕ)
    → IsWindowGone (window_of a) p.space → window_base ≤ a → a % size ≡ 0
    → (load_result (process_after_events p events).space a size ≡ Err (Gone a))
    × (store_result (process_after_events p events).space a size n ≡ Err (Gone a))
