-- Which nodes a subcube has, place by place of its mask.
use Rattle.std.proofs.Common.{◌≡◌, ℕ, zero, suc, ◌+◌, ◌-◌, ◌*◌, ◌/◌, ◌%◌, ◌^◌, ◌<◌, Bool, true, ◌&&◌, ◌||◌, ◌==◌, if◌then◌else◌, refl, sym, ap, ◌∙◌, arith, pow-suc, inl, inr, lit<}
use Rattle.std.specs.Prelude.{nat_le}
use Rattle.std.proofs.lemmas.Bool.{and_parts, and_from, or_cases, or_left, or_right, eqb-true, eq-eqb, leb-true, le-leb}
use Rattle.std.proofs.lemmas.Nat.{shr-shr, pow_pos}
use Rattle.std.proofs.Math.Nat.{add-div_right}
use Rattle.ce_model.specs.Subcubes.{extracted_bits, deposited_bits, ones_of}
use Rattle.ce_model.proofs.Subcubes.{by_low_bit, extracted-one, extracted-none, deposited-one, deposited-none, count_of-one, count_of-none}

-- n has a 0 at each of so many places of the mask, from a place on, and the test passes with each
-- choice of bits there
abbrev pub covers : (bits place : ℕ) → (ℕ → Bool) → (mask n : ℕ) → Bool
covers zero place test mask n = test n
covers (suc bits) place test mask n =
    if mask % 2 == 1 then n / 2 ^ place % 2 == 0 && covers bits (suc place) test (mask / 2) n && covers bits (suc place) test (mask / 2) (n + 2 ^ place)
    else covers bits (suc place) test (mask / 2) n

-- n is the base, or the base with ones at some of the places of the mask
abbrev pub reaches : (bits place mask base n : ℕ) → Bool
reaches zero place mask base n = n == base
reaches (suc bits) place mask base n =
    if mask % 2 == 1 then reaches bits (suc place) (mask / 2) base n || (nat_le (2 ^ place) n && reaches bits (suc place) (mask / 2) base (n - 2 ^ place))
    else reaches bits (suc place) (mask / 2) base n

-- a place at which the mask, of which `half` is what is left, has a one, and one at which it has
-- none
pub covers-one : (bits place : ℕ) (test : ℕ → Bool) (mask half n : ℕ) → mask % 2 ≡ 1 → mask / 2 ≡ half
    → covers (suc bits) place test mask n ≡ (n / 2 ^ place % 2 == 0 && covers bits (suc place) test half n && covers bits (suc place) test half (n + 2 ^ place))
covers-one bits place test mask half n one is_half = rw (one, is_half) refl

pub covers-none : (bits place : ℕ) (test : ℕ → Bool) (mask half n : ℕ) → mask % 2 ≡ 0 → mask / 2 ≡ half
    → covers (suc bits) place test mask n ≡ covers bits (suc place) test half n
covers-none bits place test mask half n none is_half = rw (none, is_half) refl

pub reaches-one : (bits place mask half base n : ℕ) → mask % 2 ≡ 1 → mask / 2 ≡ half
    → reaches (suc bits) place mask base n ≡ (reaches bits (suc place) half base n || (nat_le (2 ^ place) n && reaches bits (suc place) half base (n - 2 ^ place)))
reaches-one bits place mask half base n one is_half = rw (one, is_half) refl

pub reaches-none : (bits place mask half base n : ℕ) → mask % 2 ≡ 0 → mask / 2 ≡ half
    → reaches (suc bits) place mask base n ≡ reaches bits (suc place) half base n
reaches-none bits place mask half base n none is_half = rw (none, is_half) refl

-- the next place
pub half_shifted : (n place : ℕ) → n / 2 ^ place / 2 ≡ n / 2 ^ suc place
half_shifted n place = shr-shr n place 1 ∙ ap (λ k. n / 2 ^ k) (omega arith)

twice : (place x y : ℕ) → 2 ^ place * (x + 2 * y) ≡ x * 2 ^ place + 2 ^ suc place * y
twice place x y = rw pow-suc (omega arith)

-- a number that is put on the mask from a place on: where the mask has a one there, and where it
-- has none
placed-one : (bits place r mask : ℕ) → mask % 2 ≡ 1
    → 2 ^ place * deposited_bits (suc bits) r mask ≡ r % 2 * 2 ^ place + 2 ^ suc place * deposited_bits bits (r / 2) (mask / 2)
placed-one bits place r mask one = ap (λ x. 2 ^ place * x) (deposited-one bits r mask one) ∙ twice place (r % 2) (deposited_bits bits (r / 2) (mask / 2))

placed-bit : (bits place r bit mask : ℕ) → mask % 2 ≡ 1 → bit < 2
    → 2 ^ place * deposited_bits (suc bits) (2 * r + bit) mask ≡ bit * 2 ^ place + 2 ^ suc place * deposited_bits bits r (mask / 2)
placed-bit bits place r bit mask one small =
    let low : (2 * r + bit) % 2 ≡ bit = omega arith in
    let high : (2 * r + bit) / 2 ≡ r = omega arith in
    rw (deposited-one bits (2 * r + bit) mask one, low, high) (twice place bit (deposited_bits bits r (mask / 2)))

placed-none : (bits place r mask : ℕ) → mask % 2 ≡ 0 → 2 ^ place * deposited_bits (suc bits) r mask ≡ 2 ^ suc place * deposited_bits bits r (mask / 2)
placed-none bits place r mask none = ap (λ x. 2 ^ place * x) (deposited-none bits r mask none) ∙ omega (arith, twice place 0 (deposited_bits bits r (mask / 2)))

-- what is covered where the mask has a one, at either choice of the bit
covered-one : (bits place : ℕ) (test : ℕ → Bool) (mask n : ℕ) → mask % 2 ≡ 1 → covers (suc bits) place test mask n ≡ true
    → (n / 2 ^ place % 2 ≡ 0) × (covers bits (suc place) test (mask / 2) n ≡ true) × (covers bits (suc place) test (mask / 2) (n + 2 ^ place) ≡ true)
covered-one bits place test mask n one covered =
    let low_is = n / 2 ^ place % 2 == 0 in
    let at_zero = covers bits (suc place) test (mask / 2) n in
    let parts = and_parts (low_is && at_zero) (covers bits (suc place) test (mask / 2) (n + 2 ^ place)) (sym (covers-one bits place test mask (mask / 2) n one refl) ∙ covered) in
    let low = and_parts low_is at_zero parts.0 in
    (eqb-true _ _ low.0, low.1, parts.1)

-- a covered number has no bit of the mask
pub covers-apart : (bits place : ℕ) (test : ℕ → Bool) (mask n : ℕ) → covers bits place test mask n ≡ true → extracted_bits bits (n / 2 ^ place) mask ≡ 0
covers-apart zero place test mask n covered = refl
covers-apart (suc bits) place test mask n covered =
    by_low_bit mask _
    (λ one.
    let parts = covered-one bits place test mask n one covered in
    let rest = covers-apart bits (suc place) test (mask / 2) n parts.1 in
    extracted-one bits (n / 2 ^ place) mask one ∙ rw (half_shifted n place, rest, parts.0) refl)
    (λ none.
    extracted-none bits (n / 2 ^ place) mask none
    ∙ ap (λ k. extracted_bits bits k (mask / 2)) (half_shifted n place) ∙ covers-apart bits (suc place) test (mask / 2) n (sym (covers-none bits place test mask (mask / 2) n none refl) ∙ covered))

pub covers-each : (bits place : ℕ) (test : ℕ → Bool) (mask n r : ℕ) → covers bits place test mask n ≡ true → r < 2 ^ ones_of bits mask
    → test (n + 2 ^ place * deposited_bits bits r mask) ≡ true
covers-each zero place test mask n r covered small = ap test (omega arith) ∙ covered
covers-each (suc bits) place test mask n r covered small =
    by_low_bit mask _
    (λ one.
    let parts = covered-one bits place test mask n one covered in
    let half : r / 2 < 2 ^ ones_of bits (mask / 2) = omega (arith, count_of-one bits mask one) in
    let here = placed-one bits place r mask one in
    by_low_bit r _
    (λ odd. ap test (omega (arith, here, ap (λ x. x * 2 ^ place) odd)) ∙ covers-each bits (suc place) test (mask / 2) (n + 2 ^ place) (r / 2) parts.2 half)
    (λ even. ap test (omega (arith, here, ap (λ x. x * 2 ^ place) even)) ∙ covers-each bits (suc place) test (mask / 2) n (r / 2) parts.1 half))
    (λ none.
    ap test (omega (arith, placed-none bits place r mask none)) ∙ covers-each bits (suc place) test (mask / 2) n r (sym (covers-none bits place test mask (mask / 2) n none refl) ∙ covered) (omega (arith, count_of-none bits mask none)))

pub covers-from : (bits place : ℕ) (test : ℕ → Bool) (mask n : ℕ) → extracted_bits bits (n / 2 ^ place) mask ≡ 0
    → ((r : ℕ) → r < 2 ^ ones_of bits mask → test (n + 2 ^ place * deposited_bits bits r mask) ≡ true) → covers bits place test mask n ≡ true
covers-from zero place test mask n apart each = ap test (omega arith) ∙ each 0 (lit< tt)
covers-from (suc bits) place test mask n apart each =
    by_low_bit mask _
    (λ one.
    let of_n = sym (extracted-one bits (n / 2 ^ place) mask one) ∙ apart in
    let even : n / 2 ^ place % 2 ≡ 0 = omega (arith, of_n) in
    let rest : extracted_bits bits (n / 2 ^ suc place) (mask / 2) ≡ 0 = ap (λ k. extracted_bits bits k (mask / 2)) (sym (half_shifted n place)) ∙ omega (arith, of_n) in
    let same : (n + 2 ^ place) / 2 ^ suc place ≡ n / 2 ^ suc place =
    sym (half_shifted (n + 2 ^ place) place) ∙ ap (λ k. k / 2) (add-div_right n (pow_pos place)) ∙ omega arith ∙ half_shifted n place in
    let at_bit = λ (r bit : ℕ) (h : r < 2 ^ ones_of bits (mask / 2)) (b : bit < 2).
    let whole = placed-bit bits place r bit mask one b in
    let there : test (n + (bit * 2 ^ place + 2 ^ suc place * deposited_bits bits r (mask / 2))) ≡ true =
    rw (← whole) (each (2 * r + bit) (omega (arith, count_of-one bits mask one))) in
    there in
    covers-one bits place test mask (mask / 2) n one refl
    ∙ and_from _ _
    (and_from _ _ (eq-eqb _ _ even)
    (covers-from bits (suc place) test (mask / 2) n rest (λ r h. ap test (omega arith) ∙ at_bit r 0 h (lit< tt))))
    (covers-from bits (suc place) test (mask / 2) (n + 2 ^ place) (rw same rest) (λ r h. ap test (omega arith) ∙ at_bit r 1 h (lit< tt))))
    (λ none.
    covers-none bits place test mask (mask / 2) n none refl
    ∙ covers-from bits (suc place) test (mask / 2) n
    (ap (λ k. extracted_bits bits k (mask / 2)) (sym (half_shifted n place)) ∙ sym (extracted-none bits (n / 2 ^ place) mask none) ∙ apart)
    (λ r h. ap test (omega (arith, placed-none bits place r mask none)) ∙ each r (omega (arith, count_of-none bits mask none))))

-- a number that is reached is the base with a number put on the mask
pub placed-reached : (bits place mask base n : ℕ) → reaches bits place mask base n ≡ true
    → (r : ℕ) × (r < 2 ^ ones_of bits mask) × (n ≡ base + 2 ^ place * deposited_bits bits r mask)
placed-reached zero place mask base n reached = (0, lit< tt, omega (arith, eqb-true _ _ reached))
placed-reached (suc bits) place mask base n reached =
    by_low_bit mask _
    (λ one.
    elim (or_cases _ _ (sym (reaches-one bits place mask (mask / 2) base n one refl) ∙ reached)) [
      | inl here ↦
          let found = placed-reached bits (suc place) (mask / 2) base n here in
          (2 * found.0 + 0, omega (arith, found.1, count_of-one bits mask one), omega (arith, found.2, placed-bit bits place found.0 0 mask one (lit< tt)))
      | inr above ↦
          let parts = and_parts (nat_le (2 ^ place) n) (reaches bits (suc place) (mask / 2) base (n - 2 ^ place)) above in
          let found = placed-reached bits (suc place) (mask / 2) base (n - 2 ^ place) parts.1 in
          (2 * found.0 + 1, omega (arith, found.1, count_of-one bits mask one), omega (arith, found.2, leb-true _ _ parts.0, placed-bit bits place found.0 1 mask one (lit< tt)))
    ])
    (λ none.
    let found = placed-reached bits (suc place) (mask / 2) base n (sym (reaches-none bits place mask (mask / 2) base n none refl) ∙ reached) in
    (found.0, omega (arith, found.1, count_of-none bits mask none), omega (arith, found.2, placed-none bits place found.0 mask none)))

pub reaches-placed : (bits place mask base r : ℕ) → r < 2 ^ ones_of bits mask → reaches bits place mask base (base + 2 ^ place * deposited_bits bits r mask) ≡ true
reaches-placed zero place mask base r small = eq-eqb _ _ (omega arith)
reaches-placed (suc bits) place mask base r small =
    by_low_bit mask _
    (λ one.
    let half : r / 2 < 2 ^ ones_of bits (mask / 2) = omega (arith, count_of-one bits mask one) in
    let rest = reaches-placed bits (suc place) (mask / 2) base (r / 2) half in
    let whole = placed-one bits place r mask one in
    let n = base + 2 ^ place * deposited_bits (suc bits) r mask in
    let here = reaches bits (suc place) (mask / 2) base n in
    let below = reaches bits (suc place) (mask / 2) base (n - 2 ^ place) in
    reaches-one bits place mask (mask / 2) base n one refl
    ∙ by_low_bit r _
    (λ odd.
    let by = ap (λ x. x * 2 ^ place) odd in
    or_right here (nat_le (2 ^ place) n && below) (and_from (nat_le (2 ^ place) n) below (le-leb _ _ (omega (arith, whole, by))) (ap (λ m. reaches bits (suc place) (mask / 2) base m) (omega (arith, whole, by)) ∙ rest)))
    (λ even.
    let by = ap (λ x. x * 2 ^ place) even in
    or_left here (nat_le (2 ^ place) n && below) (ap (λ m. reaches bits (suc place) (mask / 2) base m) (omega (arith, whole, by)) ∙ rest)))
    (λ none.
    let rest = reaches-placed bits (suc place) (mask / 2) base r (omega (arith, count_of-none bits mask none)) in
    let whole = placed-none bits place r mask none in
    reaches-none bits place mask (mask / 2) base (base + 2 ^ place * deposited_bits (suc bits) r mask) none refl
    ∙ ap (λ n. reaches bits (suc place) (mask / 2) base n) (omega (arith, whole)) ∙ rest)
