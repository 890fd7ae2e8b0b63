-- One turn of the loops over the places of a word.
use Rattle.std.proofs.Common.{◌≡◌, ℕ, suc, ◌+◌, ◌-◌, ◌*◌, ◌/◌, ◌%◌, ◌^◌, ◌<◌, ◌≤◌, refl, sym, ap, ◌∙◌, arith, pow-suc, add-one, bit_and, inl, inr}
use Rattle.std.proofs.lemmas.Nat.{and_mask, shl_whole, pow_below}
use Rattle.std.proofs.lemmas.Bool.{cases_lt}
use Rattle.ce_model.specs.Subcubes.{deposited_bits, extracted_bits}
use Rattle.ce_model.proofs.Subcubes.{deposited-one, deposited-none, extracted-one, extracted-none}

pub low_bit : (n : ℕ) → bit_and n 1 ≡ n % 2
low_bit n = and_mask n 1

-- what the test of the lowest bit says
pub odd_where_set : (n : ℕ) → bit_and n 1 ≡ 1 → n % 2 ≡ 1
odd_where_set n set = sym (low_bit n) ∙ set

pub even_where_clear : (n : ℕ) → ¬ (bit_and n 1 ≡ 1) → n % 2 ≡ 0
even_where_clear n clear = omega (arith, low_bit n, clear)

-- the lowest bit of a number, shifted up
pub low_bit_shifted : (n place : ℕ) → place < 31 → bit_and n 1 * 2 ^ place % 4294967296 ≡ n % 2 * 2 ^ place
low_bit_shifted n place below = rw (low_bit n) (shl_whole (n % 2) 1 place 32 (omega arith) (omega arith))

twice : (place x y : ℕ) → 2 ^ place * (x + 2 * y) ≡ x * 2 ^ place + 2 ^ (place + 1) * y
twice place x y = rw (add-one, pow-suc) (omega arith)

pub deposit_more_one : (bits place node bits_left mask_left : ℕ) → place < bits → mask_left % 2 ≡ 1
    → node + bits_left % 2 * 2 ^ place + 2 ^ (place + 1) * deposited_bits (bits - (place + 1)) (bits_left / 2) (mask_left / 2) ≡ node + 2 ^ place * deposited_bits (bits - place) bits_left mask_left
deposit_more_one bits place node bits_left mask_left below one =
    let count : bits - place ≡ suc (bits - (place + 1)) = omega arith in
    rw (count, deposited-one (bits - (place + 1)) bits_left mask_left one) (omega (arith, twice place (bits_left % 2) (deposited_bits (bits - (place + 1)) (bits_left / 2) (mask_left / 2))))

pub deposit_more_none : (bits place node bits_left mask_left : ℕ) → place < bits → mask_left % 2 ≡ 0
    → node + 2 ^ (place + 1) * deposited_bits (bits - (place + 1)) bits_left (mask_left / 2) ≡ node + 2 ^ place * deposited_bits (bits - place) bits_left mask_left
deposit_more_none bits place node bits_left mask_left below none =
    let count : bits - place ≡ suc (bits - (place + 1)) = omega arith in
    rw (count, deposited-none (bits - (place + 1)) bits_left mask_left none) (omega (arith, twice place 0 (deposited_bits (bits - (place + 1)) bits_left (mask_left / 2))))

pub extract_more_one : (bits place bit_count r bits_left mask_left : ℕ) → place < bits → mask_left % 2 ≡ 1
    → r + bits_left % 2 * 2 ^ bit_count + 2 ^ (bit_count + 1) * extracted_bits (bits - (place + 1)) (bits_left / 2) (mask_left / 2) ≡ r + 2 ^ bit_count * extracted_bits (bits - place) bits_left mask_left
extract_more_one bits place bit_count r bits_left mask_left below one =
    let count : bits - place ≡ suc (bits - (place + 1)) = omega arith in
    rw (count, extracted-one (bits - (place + 1)) bits_left mask_left one) (omega (arith, twice bit_count (bits_left % 2) (extracted_bits (bits - (place + 1)) (bits_left / 2) (mask_left / 2))))

pub extract_more_none : (bits place bit_count r bits_left mask_left : ℕ) → place < bits → mask_left % 2 ≡ 0
    → r + 2 ^ bit_count * extracted_bits (bits - (place + 1)) (bits_left / 2) (mask_left / 2) ≡ r + 2 ^ bit_count * extracted_bits (bits - place) bits_left mask_left
extract_more_none bits place bit_count r bits_left mask_left below none =
    let count : bits - place ≡ suc (bits - (place + 1)) = omega arith in
    rw (count, extracted-none (bits - (place + 1)) bits_left mask_left none) refl

-- after the last place no bit is left
pub none_left : (of : ℕ → ℕ) (bits place weight part all : ℕ) → of 0 ≡ 0 → bits ≤ place → part + weight * of (bits - place) ≡ all → part ≡ all
none_left of bits place weight part all nothing past is =
    let none : bits - place ≡ 0 = omega arith in
    let after : part + weight * 0 ≡ all = rw (none, nothing) at is in
    omega arith

pub pow_le : (i j : ℕ) → i ≤ j → 2 ^ i ≤ 2 ^ j
pow_le i j below = elim (cases_lt i j) [ inl less ↦ omega (arith, pow_below i j less) | inr same ↦ omega (arith, ap (λ n. 2 ^ n) (antisymm i j below same)) ]
  where
    antisymm : (i j : ℕ) → i ≤ j → j ≤ i → i ≡ j
    antisymm i j a b = omega arith
