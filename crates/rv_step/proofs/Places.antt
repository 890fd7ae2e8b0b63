-- Addresses of private memory, and the one test that tells them.
use Rattle.std.proofs.Common.{◌≡◌, ℕ, ◌+◌, ◌-◌, ◌*◌, ◌/◌, ◌%◌, ◌^◌, ◌<◌, ◌≤◌, bit_and, arith, inl, inr, ◌∙◌, ap}
use Rattle.std.proofs.lemmas.Nat.{and_mask, and_block, pow_below}
use Rattle.rv_model.specs.Exec.{IsAccessSize}

-- the bits from bit 17 on, and those of a mask below
high_and_low : (n s : ℕ) → n < 2 ^ 32 → s < 2 ^ 17 → bit_and n (32767 * 2 ^ 17 + s) ≡ n / 2 ^ 17 * 2 ^ 17 + bit_and (n % 2 ^ 17) s
high_and_low n s fits small =
    let split : n ≡ n / 2 ^ 17 * 2 ^ 17 + n % 2 ^ 17 = omega arith in
    let high : bit_and (n / 2 ^ 17) 32767 ≡ n / 2 ^ 17 % 2 ^ 15 = and_mask (n / 2 ^ 17) 15 in
    let low : n / 2 ^ 17 % 2 ^ 15 ≡ n / 2 ^ 17 = omega arith in
    let both : bit_and (n / 2 ^ 17 * 2 ^ 17 + n % 2 ^ 17) (32767 * 2 ^ 17 + s) ≡ bit_and (n / 2 ^ 17) 32767 * 2 ^ 17 + bit_and (n % 2 ^ 17) s = and_block 17 (n / 2 ^ 17) 32767 (n % 2 ^ 17) s (omega arith) small in
    ap (λ m. bit_and m (32767 * 2 ^ 17 + s)) split ∙ both ∙ ap (λ m. m * 2 ^ 17 + bit_and (n % 2 ^ 17) s) (high ∙ low)

-- the bits from bit 17 on, and the lowest k
high_and_lowest : (n k : ℕ) → k < 17 → n % 2 ^ 17 % 2 ^ k ≡ n % 2 ^ k → n < 2 ^ 32 → bit_and n (32767 * 2 ^ 17 + (2 ^ k - 1)) ≡ n / 2 ^ 17 * 2 ^ 17 + n % 2 ^ k
high_and_lowest n k h e fits =
    let small : 2 ^ k < 2 ^ 17 = pow_below k 17 h in
    high_and_low n (2 ^ k - 1) fits (omega arith) ∙ ap (λ m. n / 2 ^ 17 * 2 ^ 17 + m) (and_mask (n % 2 ^ 17) k ∙ e)

-- what the mask leaves of an offset
pub masked : (n size : ℕ) → n < 2 ^ 32 → IsAccessSize size → bit_and n (0xFFFE0000 + (size - 1)) ≡ n / 0x20000 * 0x20000 + n % size
masked n size fits (inl e) = rw e (high_and_lowest n 0 (omega arith) (omega arith) fits)
masked n size fits (inr (inl e)) = rw e (high_and_lowest n 1 (omega arith) (omega arith) fits)
masked n size fits (inr (inr e)) = rw e (high_and_lowest n 2 (omega arith) (omega arith) fits)

-- an offset within the memory, at a multiple of the size, leaves room for the size
pub room : (n size : ℕ) → IsAccessSize size → n / 0x20000 * 0x20000 + n % size ≡ 0 → n + size ≤ 0x20000
room n size (inl e) h = omega arith
room n size (inr (inl e)) h = let h2 : n / 0x20000 * 0x20000 + n % 2 ≡ 0 = rw (← e) h in omega arith
room n size (inr (inr e)) h = let h4 : n / 0x20000 * 0x20000 + n % 4 ≡ 0 = rw (← e) h in omega arith

pub ruleset place_lemmas = (room)
