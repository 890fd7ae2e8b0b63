-- One instruction more of a run.
use Rattle.std.proofs.Common.{◌≡◌, ℕ, suc, refl, ap, ◌∙◌}
use Rattle.rv_model.specs.declared.stop.Stop.TheVariants.{TurnSpent}
use Rattle.rv_model.specs.Exec.{Outcome, step_outcome}
use Rattle.ce_model.specs.Space.{Space, process_access}
use Rattle.ce_model.specs.Process.{Process, stop_end, end_after, turn_end}

reached_step : (n : ℕ) (p : Process) → turn_end (suc n) p ≡ end_after (turn_end n) n p (step_outcome process_access p.registers p.pc p.space)
unfolding turn_end
reached_step n p = refl

-- where the next instruction leads, there a run leads that has one
pub reached_by : (left n : ℕ) (p : Process) (outcome : Outcome Space) → left ≡ suc n → step_outcome process_access p.registers p.pc p.space ≡ outcome
    → turn_end left p ≡ end_after (turn_end n) n p outcome
reached_by left n p outcome e h = ap (λ l. turn_end l p) e ∙ reached_step n p ∙ ap (end_after (turn_end n) n p) h

reached_zero : (p : Process) → turn_end 0 p ≡ stop_end 0 p TurnSpent
unfolding turn_end
reached_zero p = refl

-- a run that has none left is at its end
pub reached_spent : (left : ℕ) (p : Process) → left ≡ 0 → turn_end left p ≡ stop_end 0 p TurnSpent
reached_spent left p e = ap (λ l. turn_end l p) e ∙ reached_zero p
