-- A run begins, and goes on by one command.
use Rattle.std.proofs.Common.{◌≡◌, ℕ, false, ◌==◌, List, [], ◌∷◌, ◌++◌, map, filter, refl, ap, sym, ◌∙◌, subst, append-nil, inl, inr}
use Rattle.std.proofs.lemmas.Bool.{cases_eq, eq-eqb, ne_eqb}
use Rattle.std.proofs.lemmas.List.{map-append}
use Rattle.std.proofs.lemmas.List.Elements.{filter-append}
use Rattle.ce_model.specs.declared.entry.Entry.{Entry}
use Rattle.ce_model.specs.Machine.{MachineParts, IsMachine, IsLawful}
use Rattle.ce_host.specs.declared.command.Command.{Command}
use Rattle.ce_host.specs.declared.answer.Answer.{Answer}
use Rattle.ce_script.specs.Rounds.{RoundKind}
use Rattle.ce_script.specs.Moments.{moments, later_moments}
use Rattle.ce_script.specs.Doings.{Doing}
use Rattle.ce_script.specs.Serial.{doings_of}
use Rattle.ce_record.specs.Run.{IsRunSoFar, next_doing, IsNextCommand}
use Rattle.ce_record.specs.Users.{HasDoneSoFar}
use Rattle.ce_record.specs.Laws.{RunBegins, RunGoesOn}
use Rattle.ce_record.proofs.Moments.{flat-last, moments-append, own-all, foreign-to}
use Rattle.ce_record.proofs.Users.{user_begins, user_waits, goes-by}

pub run_begins : RunBegins
unfolding moments
run_begins kind machine = record { together = refl; users = λ user. user_begins kind machine user [] refl }

-- ---- what one user did, once one of them did more

module _ (all : List (ℕ × Doing)) (user : ℕ) (doing : Doing) where
  abbrev more : List (ℕ × Doing)
  more = all ++ (user, doing) ∷ []

  doings-append : (other : ℕ) → doings_of other more ≡ doings_of other all ++ doings_of other ((user, doing) ∷ [])
  doings-append other =
      ap (map (λ (own : ℕ × Doing). own.1)) (filter-append (λ (own : ℕ × Doing). own.0 == other) all ((user, doing) ∷ []))
      ∙ map-append (λ (own : ℕ × Doing). own.1) (filter (λ (own : ℕ × Doing). own.0 == other) all) (filter (λ (own : ℕ × Doing). own.0 == other) ((user, doing) ∷ []))

  pub doings-own : doings_of user more ≡ doings_of user all ++ doing ∷ []
  doings-own = doings-append user ∙ rw (eq-eqb user user refl) refl

  pub doings-other : (other : ℕ) → (user == other) ≡ false → doings_of other more ≡ doings_of other all
  doings-other other differ = doings-append other ∙ rw differ (append-nil (doings_of other all))

-- ---- one command more

module _ (kind : RoundKind) (machine : MachineParts) (history : List Entry) (all : List (ℕ × Doing)) (user : ℕ) (command : Command) (answer : Answer) (made : List Entry)
    (of : IsMachine machine) (lawful : IsLawful machine history) (run : IsRunSoFar kind machine history all) (next : IsNextCommand kind machine history user command answer made) where
  abbrev doing : Doing
  doing = next_doing history command answer made

  -- what is to be shown of each user
  abbrev HasDoneAll : ℕ → List Doing → Type 0
  HasDoneAll user doings = HasDoneSoFar kind machine user (history ++ made) doings

  goes : (other : ℕ) → HasDoneAll other (doings_of other (all ++ (user, doing) ∷ []))
  goes other =
      elim (cases_eq user other) [
        | inl same ↦
            subst (λ user'. HasDoneAll user' (doings_of user' (all ++ (user, doing) ∷ []))) same
            (subst (HasDoneAll user) (sym (doings-own all user doing))
            (goes-by kind machine user history (doings_of user all) of lawful (run.users user) made command answer (later_moments history made)
            (own-all user history made next.own) next.does next.refused))
        | inr differ ↦
            subst (HasDoneAll other) (sym (doings-other all user doing other (ne_eqb user other differ)))
            (user_waits kind machine other history made (doings_of other all) (foreign-to user other made differ next.own) (run.users other))
      ]

  one_more : IsRunSoFar kind machine (history ++ made) (all ++ (user, doing) ∷ [])
  one_more = record {
    together = flat-last (λ (own : ℕ × Doing). own.1.moments) all (user, doing) ∙ ap (λ moments. moments ++ later_moments history made) run.together
        ∙ sym (moments-append history made);
    users = goes;
  }

pub run_goes_on : RunGoesOn
run_goes_on = one_more
