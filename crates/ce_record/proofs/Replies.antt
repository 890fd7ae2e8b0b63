-- What each user was answered, as commands are made.
use Rattle.std.proofs.Common.{◌≡◌, ℕ, zero, suc, ◌+◌, ◌<◌, List, [], ◌∷◌, ◌++◌, length, map, refl, ap, ◌∙◌, subst, arith}
use Rattle.std.specs.Prelude.{replicate, slice_set, slice_index_or}
use Rattle.std.specs.List.{AllByRecursion, enumerate_from}
use Rattle.std.proofs.lemmas.Bool.{ne_eqb}
use Rattle.std.proofs.lemmas.List.{map-append}
use Rattle.ce_host.specs.declared.command.Command.{Command}
use Rattle.ce_host.specs.declared.answer.Answer.{Answer}
use Rattle.ce_script.specs.Doings.{Doing, command_with_answer}
use Rattle.ce_script.specs.Serial.{doings_of}
use Rattle.ce_record.specs.Laws.{RepliesBegin, RepliesGoOn}
use Rattle.ce_record.proofs.Run.{doings-own, doings-other}

-- these are what each user was answered, counted from so many
abbrev AreFrom : ℕ → List (ℕ × Doing) → List (List (Command × Answer)) → Type 0
AreFrom k all dones = AllByRecursion (λ numbered. map command_with_answer (doings_of numbered.0 all) ≡ numbered.1) (enumerate_from k dones)

begin : (k count : ℕ) → AreFrom k [] (replicate count [])
begin k zero = tt
begin k (suc count) = (refl, begin (k + 1) count)

module _ (all : List (ℕ × Doing)) (user : ℕ) (doing : Doing) where
  abbrev more : List (ℕ × Doing)
  more = all ++ (user, doing) ∷ []

  -- users behind the one that made the command
  others : (k : ℕ) (dones : List (List (Command × Answer))) → user < k → AreFrom k all dones → AreFrom k more dones
  others k [] past are = tt
  others k (done ∷ dones) past are = (
    ap (map command_with_answer) (doings-other all user doing k (ne_eqb _ _ (omega (arith, past)))) ∙ are.0,
    others (k + 1) dones (omega (arith, past)) are.1,
  )

  go_on : (k place : ℕ) (dones : List (List (Command × Answer))) → user ≡ k + place → place < length dones → AreFrom k all dones
      → AreFrom k more (slice_set dones place (slice_index_or dones place [] ++ command_with_answer doing ∷ []))
  go_on k place [] is within are = absurd (omega (arith, within))
  go_on k zero (done ∷ dones) is within are =
      let here : user ≡ k = omega (arith, is) in (
        subst (λ number. map command_with_answer (doings_of number more) ≡ done ++ command_with_answer doing ∷ []) here
            (ap (map command_with_answer) (doings-own all user doing) ∙ map-append command_with_answer (doings_of user all) (doing ∷ [])
            ∙ ap (λ replies. replies ++ command_with_answer doing ∷ []) (ap (λ number. map command_with_answer (doings_of number all)) here ∙ are.0)),
        others (k + 1) dones (omega (arith, is)) are.1,
      )
  go_on k (suc place) (done ∷ dones) is within are = (
    ap (map command_with_answer) (doings-other all user doing k (ne_eqb _ _ (omega (arith, is)))) ∙ are.0,
    go_on (k + 1) place dones (omega (arith, is)) (omega (arith, within)) are.1,
  )

pub replies_begin : RepliesBegin
replies_begin count = begin 0 count

pub replies_go_on : RepliesGoOn
replies_go_on all dones user doing within are = go_on all user doing 0 user dones (omega arith) within are
