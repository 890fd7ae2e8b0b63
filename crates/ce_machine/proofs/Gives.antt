-- What a node is offered where the allowed dispatches are used up.
use Rattle.std.proofs.Common.{◌≡◌, ℕ, Bool, true, false, List, [], ◌∷◌, find, Option, Some, None, refl, inl, inr}
use Rattle.std.specs.List.{list_any}
use Rattle.std.proofs.lemmas.Bool.{cases_Bool}
use Rattle.ce_model.specs.declared.entry.TakeResult.TheVariants.{Idle, Spent}
use Rattle.ce_model.specs.Parcels.{Item}
use Rattle.ce_model.specs.Answers.{offer_of}

pub spent_polling : (found : Option Item) (pid : ℕ) → offer_of found (Some pid) true ≡ Spent
spent_polling (Some item) pid = refl
spent_polling None pid = refl

pub spent_waiting : (test : Item → Bool) (items : List Item) (poller : Option ℕ) → list_any test items ≡ true → offer_of (find test items) poller true ≡ Spent
spent_waiting test [] poller e = absurd (cc)
spent_waiting test (item ∷ items) poller e =
    elim (cases_Bool (test item)) [ inl t ↦ rw t refl | inr f ↦ rw f (spent_waiting test items poller (rw f at e)) ]

pub idle_used : (test : Item → Bool) (items : List Item) → list_any test items ≡ false → offer_of (find test items) None true ≡ Idle
idle_used test [] e = refl
idle_used test (item ∷ items) e =
    elim (cases_Bool (test item)) [
      | inl t ↦ let no : true ≡ false = rw t at e in absurd (cc)
      | inr f ↦ rw f (idle_used test items (rw f at e))
    ]
