-- Which command is carried out how.
use Rattle.std.proofs.Common.{◌≡◌, ℕ, None, IsTrue, refl, sym, subst}
use Rattle.std.specs.Prelude.{Result, IfOk}
use Rattle.ce_model.specs.Machine.{after, cube_held_by}
use Rattle.ce_host.specs.declared.command.Command.{Command}
use Rattle.ce_host.specs.declared.command.Command.TheVariants.{Getcube, Peek, Trace}
use Rattle.ce_host.specs.declared.answer.Answer.{Answer}
use Rattle.ce_host.specs.declared.answer.Answer.TheVariants.{NoCube, Held, Entries}
use Rattle.ce_machine.specs.Meanings.{MachineFacts}
use Rattle.ce_cube.specs.Crews.{IsLawfulMachine, IsCrewInStep, IsHostAtHome, CrewFacts}
use Rattle.ce_host.specs.declared.host.Host.{Host}
use Rattle.ce_script.specs.Rounds.{RoundKind}
use Rattle.ce_record.specs.Requests.{wants_cube}
use Rattle.ce_record.proofs.AtOnce.{no_cube}
use Rattle.ce_run.specs.UserStates.{HasUser, HasCrew, HasDone, home_host, cube_crew}
use Rattle.ce_run.specs.Rounds.{HasAllowed, HasEndedCommand}
use Rattle.ce_run.proofs.StatesBehind.{done-at-once, if-ok}
use Rattle.ce_run.proofs.AtOnce.{traced, held-already}

-- all that wants no cube asks for one, or peeks
wants : (command : Command) → ((dim : ℕ) → command ≡ Getcube dim → ⊥) → (command ≡ Peek → ⊥) → IsTrue (wants_cube command)
wants (Getcube dim) getcube peek = absurd (getcube dim refl)
wants Peek getcube peek = absurd (peek refl)
wants other getcube peek = refl

module _ (before : MachineFacts) (user : ℕ) (has : HasUser before user) (free : cube_held_by (after before.history) user ≡ None) (host : Host) (home : IsHostAtHome user host) where
  pub no-cube-done : (kind : RoundKind) (command : Command) → ((dim : ℕ) → command ≡ Getcube dim → ⊥) → (command ≡ Peek → ⊥)
      → HasDone kind before before user command NoCube (home_host host)
  no-cube-done kind command getcube peek =
      done-at-once kind before user command NoCube (home_host host) has.sound
      (no_cube kind before.parts before.history user command free (wants command getcube peek)) (free, home)

module _ (before : MachineFacts) (crew : CrewFacts) (machine : IsLawfulMachine before) (step : IsCrewInStep before.parts before.history crew) where
  pub held-done : (kind : RoundKind) (dim : ℕ) → HasDone kind before before crew.grant.user (Getcube dim) Held (cube_crew crew)
  held-done kind dim =
      done-at-once kind before crew.grant.user (Getcube dim) Held (cube_crew crew) machine (held-already before.parts before.history crew step kind dim) (refl, step)

  pub trace-done : (kind : RoundKind) → HasDone kind before before crew.grant.user Trace (Entries crew.entries) (cube_crew crew)
  trace-done kind =
      done-at-once kind before crew.grant.user Trace (Entries crew.entries) (cube_crew crew) machine (traced before.parts before.history crew step kind) (refl, step)

-- a command that allows dispatches, and what it does behind that
pub command-done : {E : Type 0} (kind : RoundKind) (before armed behind : MachineFacts) (crew crew' crew'' : CrewFacts) (form : ℕ → Command) (command : Command) (count : ℕ)
    (result : Result Answer E) → command ≡ form count → HasCrew before crew → HasAllowed kind before armed crew crew' count
    → IfOk result (HasEndedCommand kind form armed behind crew' crew'')
    → IfOk result (λ answer. HasDone kind before behind crew.grant.user command answer (cube_crew crew''))
command-done kind before armed behind crew crew' crew'' form command count result is has allowed =
    if-ok result (HasEndedCommand kind form armed behind crew' crew'') (λ answer. HasDone kind before behind crew.grant.user command answer (cube_crew crew''))
    (λ answer ended. subst (λ command. HasDone kind before behind crew.grant.user command answer (cube_crew crew'')) (sym is) (ended before crew count has allowed))
