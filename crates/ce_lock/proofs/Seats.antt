-- Lists of views in which one changes, or to which one is added.
use Rattle.std.proofs.Common.{◌≡◌, ◌≢◌, ℕ, zero, suc, ◌<◌, ◌⊎◌, inl, inr, ⊎_elim, List, [], ◌∷◌, ◌++◌, map, length, set, refl, sym, ap, ◌∙◌, subst, arith}
use mathlib.Core.Option.{some, some-injective, some-ne-none}
use mathlib.Core.List.{map-append}
use mathlib.Core.Logic.{dite}
use native.Mathlib.Decide.{ℕ_discrete}
use lib.ListN.{get_elem?}
use lib.Seq.{map-set}
use Rattle.atomic_table.proofs.Lists.{at_set, set_else, set_again, at_snoc, at_last, at_map}
use Rattle.ce_lock.specs.Entries.{AtEach}

module _ {A : Type 0} where
  -- the one that was set is there
  pub at_same : (l : List A) (i : ℕ) (a b : A) → get_elem? l i ≡ some a → get_elem? (set l i b) i ≡ some b
  at_same [] i a b e = absurd (some-ne-none a (sym e))
  at_same (x ∷ xs) zero a b e = refl
  at_same (x ∷ xs) (suc i) a b e = at_same xs i a b e

  -- the others stay
  pub at_other : (l : List A) (i j : ℕ) (a b : A) → j ≢ i → get_elem? l j ≡ some a → get_elem? (set l i b) j ≡ some a
  at_other l i j a b ne e = set_else l i j b ne ∙ e

  -- one at each place
  pub at_one : (l : List A) (i : ℕ) (a b : A) → get_elem? l i ≡ some a → get_elem? l i ≡ some b → a ≡ b
  at_one l i a b p q = some-injective a b (sym p ∙ q)

  -- what holds of each and of the new one holds of each afterwards
  pub each_set : (P : A → Type 0) (l : List A) (i : ℕ) (b : A) → P b → ((j : ℕ) (x : A) → j ≢ i → get_elem? l j ≡ some x → P x) → AtEach (set l i b) P
  each_set P l i b mine others j x e = ⊎_elim (λ (t : (j ≡ i) × (b ≡ x)). subst P t.1 mine)
      (λ (t : (j ≢ i) × (get_elem? l j ≡ some x)). others j x t.0 t.1) (at_set l i j b x e)

  pub each_kept : (P : A → Type 0) (l : List A) (i : ℕ) (b : A) → P b → AtEach l P → AtEach (set l i b) P
  each_kept P l i b mine others = each_set P l i b mine (λ j x _ e. others j x e)

  pub each_added : (P : A → Type 0) (l : List A) (b : A) → P b → AtEach l P → AtEach (l ++ b ∷ []) P
  each_added P l b mine others j x e = ⊎_elim (λ (t : get_elem? l j ≡ some x). others j x t) (λ (t : b ≡ x). subst P t mine) (at_snoc l b x j e)

  pub at_end : (l : List A) (b : A) → get_elem? (l ++ b ∷ []) (length l) ≡ some b
  at_end l b = at_last l b (length l) refl

  pub below : (l : List A) (i : ℕ) (a : A) → get_elem? l i ≡ some a → i < length l
  below [] i a e = absurd (some-ne-none a (sym e))
  below (x ∷ xs) zero a e = omega arith
  below (x ∷ xs) (suc i) a e = let t = below xs i a e in omega arith

  -- one of a list with one added: it was there, or is the new one, at the end
  pub at_added : (l : List A) (b : A) (j : ℕ) (x : A) → get_elem? (l ++ b ∷ []) j ≡ some x → (get_elem? l j ≡ some x) ⊎ ((j ≡ length l) × (b ≡ x))
  at_added [] b zero x e = inr (refl, some-injective b x e)
  at_added [] b (suc j) x e = absurd (some-ne-none x (sym e))
  at_added (y ∷ ys) b zero x e = inl e
  at_added (y ∷ ys) b (suc j) x e = ⊎_elim (λ (t : get_elem? ys j ≡ some x). inl t) (λ (t : (j ≡ length ys) × (b ≡ x)). inr (ap suc t.0, t.1)) (at_added ys b j x e)

  module _ {B : Type 0} (f : A → B) where
    pub map_kept : (l : List A) (i : ℕ) (a b : A) → get_elem? l i ≡ some a → f b ≡ f a → map f (set l i b) ≡ map f l
    map_kept l i a b e same = map-set f l i b ∙ (ap (set (map f l) i) same ∙ set_again (map f l) i (f a) (at_map f l i a e))

    -- what is at a place of a mapped list is the image of what is there
    pub at_unmap : (l : List A) (i : ℕ) (y : B) → get_elem? (map f l) i ≡ some y → (a : A) × (get_elem? l i ≡ some a) × (f a ≡ y)
    at_unmap [] i y e = absurd (some-ne-none y (sym e))
    at_unmap (x ∷ xs) zero y e = (x, refl, some-injective (f x) y e)
    at_unmap (x ∷ xs) (suc i) y e = at_unmap xs i y e

    pub map_added : (l : List A) (b : A) → map f (l ++ b ∷ []) ≡ map f l ++ f b ∷ []
    map_added l b = map-append f l (b ∷ [])

module _ {A : Type 0} where
  -- what holds of each afterwards, and of the one before, held of each
  pub each_unset : (P : A → Type 0) (l : List A) (i : ℕ) (a b : A) → get_elem? l i ≡ some a → P a → AtEach (set l i b) P → AtEach l P
  each_unset P l i a b at mine all j x e = dite (ℕ_discrete j i)
      (λ is. subst P (at_one l i a x at (ap (get_elem? l) (sym is) ∙ e)) mine)
      (λ ne. all j x (at_other l i j x b ne e))
