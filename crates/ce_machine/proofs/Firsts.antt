-- The first item of a list that passes a test, and the list without it.
use Rattle.std.proofs.Common.{◌≡◌, ℕ, ◌+◌, Bool, List, [], ◌∷◌, length, find, Option, Some, None, IfSome, IfNone, option_map, refl, ap, sym, inl, inr, arith}
use Rattle.std.proofs.lemmas.Bool.{cases_Bool}
use Rattle.ce_model.specs.Lists.{without_first}
use Rattle.ce_model.specs.Parcels as model
use Rattle.rk_mail.specs.declared.parcel.Item.{Item}
use Rattle.rk_mail.specs.Items.{item_of}
use Rattle.rk_mail.specs.Queue.{Queue}

module _ {X : Type 0} (test : X → Bool) where
  pub found-left : (xs : List X) (x : X) → find test xs ≡ Some x → length (without_first test xs) + 1 ≡ length xs
  found-left [] x e = absurd (cc)
  found-left (y ∷ xs) x e =
      elim (cases_Bool (test y)) [
        | inl t ↦ rw t (omega arith)
        | inr f ↦ rw f (omega (arith, found-left xs x (rw f at e)))
      ]

  pub none-left : (xs : List X) → find test xs ≡ None → without_first test xs ≡ xs
  none-left [] e = refl
  none-left (y ∷ xs) e =
      elim (cases_Bool (test y)) [
        | inl t ↦ let no : Some y ≡ None = rw t at e in absurd (cc)
        | inr f ↦ rw f (ap (λ rest. y ∷ rest) (none-left xs (rw f at e)))
      ]

-- a mailbox from which an item was taken, if any, has room for as many as before
pub next-kept : (test : model.Item → Bool) (result : Option Item) (old new : Queue) (room : ℕ) → option_map item_of result ≡ find test old.items
    → new.items ≡ without_first test old.items → IfSome result (λ _. new.spare ≡ old.spare + 1) → IfNone result (new ≡ old)
    → length old.items + old.spare ≡ room → length new.items + new.spare ≡ room
next-kept test (Some item) old new room first rest spare same all =
    omega (arith, found-left test old.items (item_of item) (sym first), ap length rest, spare, all)
next-kept test None old new room first rest spare same all = rw same all
