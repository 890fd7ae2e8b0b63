-- As many tickets as there are who may draw, and no more.
use Rattle.std.proofs.Common.{◌≡◌, ◌≢◌, ℕ, zero, suc, ◌<◌, ◌≤◌, refl, subst, inl, inr, ⊎_elim, ◌⊎◌, arith}
use mathlib.Core.Logic.{dite}
use native.Mathlib.Decide.{ℕ_discrete}

-- of n that each have a number below m, no two the same one, there are at most m
pub at_most : (m n : ℕ) (R : ℕ → ℕ → Type 0) → ((i : ℕ) → i < n → (c : ℕ) × (c < m) × R i c) → ((i j c : ℕ) → i < n → j < n → R i c → R j c → i ≡ j) → n ≤ m
at_most m zero R total once = omega arith
at_most zero (suc k) R total once = let t = total k (omega arith) in absurd (omega (arith, t.1))
at_most (suc m) (suc k) R total once = let last = total k (omega arith) in let top : ℕ = last.0 in
    let R' : ℕ → ℕ → Type 0 = λ i c. (R i c × (c ≢ m)) ⊎ (R i m × (c ≡ top)) in
    let rest : k ≤ m = at_most m k R'
    (λ i l. let t = total i (omega arith) in dite (ℕ_discrete t.0 m)
    (λ is. let here : R i m = subst (R i) is t.2 in
    (top, dite (ℕ_discrete top m) (λ e. let same : i ≡ k = once i k m (omega arith) (omega arith) here (subst (R k) e last.2) in absurd (omega arith)) (λ ne. omega (arith, last.1)), inr (here, refl)))
    (λ ne. (t.0, omega (arith, t.1), inl (t.2, ne))))
    (λ i j c li lj x y. ⊎_elim
    (λ (a : R i c × (c ≢ m)). ⊎_elim (λ (b : R j c × (c ≢ m)). once i j c (omega arith) (omega arith) a.0 b.0)
    (λ (b : R j m × (c ≡ top)). let same : i ≡ k = once i k top (omega arith) (omega arith) (subst (R i) b.1 a.0) last.2 in absurd (omega arith)) y)
    (λ (a : R i m × (c ≡ top)). ⊎_elim (λ (b : R j c × (c ≢ m)). let same : j ≡ k = once j k top (omega arith) (omega arith) (subst (R j) a.1 b.0) last.2 in absurd (omega arith))
    (λ (b : R j m × (c ≡ top)). once i j m (omega arith) (omega arith) a.0 b.0) y) x) in
    omega arith
