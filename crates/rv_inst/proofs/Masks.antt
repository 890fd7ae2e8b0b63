-- What the code's shifts and masks compute.
use Rattle.std.proofs.Common.{◌≡◌, ℕ, ◌-◌, ◌*◌, ◌%◌, ◌^◌, ◌<◌, bit_and}
use Rattle.std.proofs.lemmas.Nat.{one_shl, and_mask}

-- the mask of the low k bits
pub masked : (n k : ℕ) → k < 32 → bit_and n (1 * 2 ^ k % 2 ^ 32 - 1) ≡ n % 2 ^ k
masked n k h = rw (one_shl k 32 h) (and_mask n k)
