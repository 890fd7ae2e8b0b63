-- That an access has 1, 2 or 4 bytes is a proposition: no two proofs of it differ.
use Rattle.std.specs.Prelude.{◌≡◌, ℕ, ◌==◌, true, false}
use Rattle.std.proofs.Common.{inl, inr, ap, sym, refl, ◌∙◌}
use Rattle.std.specs.Cmp.{unsigned_Decides}
use Rattle.std.proofs.lemmas.Bool.{false≢true}
use Rattle.std.proofs.Props.{props}
use Rattle.rv_model.specs.Exec.{IsAccessSize}

same : (m n : ℕ) → IsProp (m ≡ n)
same m n = hlevel props

-- a number is no two that differ
apart : {P : Type 0} (k l : ℕ) {n : ℕ} → (k == l) ≡ false → n ≡ k → n ≡ l → P
apart k l differ at_k at_l =
    absurd (false≢true (sym differ ∙ ap (λ m. m == l) (sym at_k ∙ at_l) ∙ itself l))
  where
    itself : (m : ℕ) → (m == m) ≡ true
    itself m = (unsigned_Decides m m).1 refl

pub IsAccessSize-prop : {n : ℕ} → IsProp (IsAccessSize n)
IsAccessSize-prop {n} (inl a) (inl b) = λ i. inl (same n 1 a b i)
IsAccessSize-prop (inl a) (inr (inl b)) = apart 1 2 refl a b
IsAccessSize-prop (inl a) (inr (inr b)) = apart 1 4 refl a b
IsAccessSize-prop (inr (inl a)) (inl b) = apart 1 2 refl b a
IsAccessSize-prop {n} (inr (inl a)) (inr (inl b)) = λ i. inr (inl (same n 2 a b i))
IsAccessSize-prop (inr (inl a)) (inr (inr b)) = apart 2 4 refl a b
IsAccessSize-prop (inr (inr a)) (inl b) = apart 1 4 refl b a
IsAccessSize-prop (inr (inr a)) (inr (inl b)) = apart 2 4 refl b a
IsAccessSize-prop {n} (inr (inr a)) (inr (inr b)) = λ i. inr (inr (same n 4 a b i))
