-- Lists of entries: whose they are, and which of them a call does not mind.
use Rattle.std.specs.Prelude.{◌≡◌, ◌≢◌, ◌⊎◌, ◌==◌, ◌&&◌, nat_lt, ℕ, Bool, false, List, [], ◌∷◌, length, if◌then◌else◌}
use mathlib.Core.Option.{some}
use lib.ListN.{get_elem?}
use Rattle.ce_lock.specs.declared.who.Who.{Who}

-- the longer of two lists, and the first where neither is
abbrev pub longer_list : {A : Type 0} → List A → List A → List A
longer_list xs ys = if nat_lt (length xs) (length ys) then ys else xs

-- each of the list, at its place
abbrev pub AtEach : {A : Type 0} → List A → (A → Type 0) → Type 0
AtEach {A} xs P = (i : ℕ) (x : A) → get_elem? xs i ≡ some x → P x

-- the list without a number
abbrev pub ids_without : ℕ → List ℕ → List ℕ
ids_without n [] = []
ids_without n (x ∷ xs) = if x == n then ids_without n xs else x ∷ ids_without n xs

module _ {E : Type 0} (whose : E → Who) where
  -- whether the entry is the actor's
  abbrev pub is_of : Who → E → Bool
  is_of who e = ((whose e).family == who.family) && ((whose e).actor == who.actor)

  -- the entries of one actor, in order
  abbrev pub entries_of : Who → List E → List E
  entries_of who [] = []
  entries_of who (e ∷ es) = if is_of who e then e ∷ entries_of who es else entries_of who es

  -- the entry is of another family, or of another actor and not alone
  abbrev pub IsForeignEntry : (E → Bool) → Who → E → Type 0
  IsForeignEntry alone who e =
      ((whose e).family ≢ who.family) ⊎ (((whose e).actor ≢ who.actor) × (alone e ≡ false))
