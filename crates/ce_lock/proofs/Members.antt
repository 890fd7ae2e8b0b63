-- What a list contains, by its first member and the others.
use Rattle.std.proofs.Common.{◌≡◌, zero, suc, ◌⊎◌, inl, inr, List, [], ◌∷◌, sym, arith}
use Rattle.std.specs.List.{Contains}

module _ {X : Type 0} (x : X) where
  pub in_none : ¬ Contains [] x
  in_none h = omega (arith, h.1)

  pub in_first : (y : X) (xs : List X) → x ≡ y → Contains (y ∷ xs) x
  in_first y xs e = (0, omega arith, sym e)

  pub in_later : (y : X) (xs : List X) → Contains xs x → Contains (y ∷ xs) x
  in_later y xs h = (suc h.0, omega (arith, h.1), h.2)

  pub in_cases : (y : X) (xs : List X) → Contains (y ∷ xs) x → (x ≡ y) ⊎ Contains xs x
  in_cases y xs (zero, low, is) = inl (sym is)
  in_cases y xs (suc k, low, is) = inr (k, omega (arith, low), is)
