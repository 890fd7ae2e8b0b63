-- Numbers of 1, 2 and 4 bytes in a list of bytes.
use Rattle.std.proofs.Common.{◌≡◌, ℕ, suc, ◌+◌, ◌*◌, ◌≤◌, ◌<◌, List, length, get_or, arith, refl}
use Rattle.std.proofs.Math.Seq.{drop-cons}
use Rattle.std.proofs.Math.Numerals.{add-one}
use Rattle.rv_model.specs.LittleEndian.{number_at}

number_at-none : (bytes : List ℕ) (i : ℕ) → number_at bytes i 0 ≡ 0
unfolding number_at
number_at-none bytes i = refl

-- the lowest byte first
number_at-next : (bytes : List ℕ) (i j n : ℕ) → j ≡ i + 1 → i < length bytes → number_at bytes i (suc n) ≡ get_or bytes i 0 + 256 * number_at bytes j n
unfolding number_at
number_at-next bytes i j n e h = rw (e, add-one, drop-cons bytes i 0) refl

pub number_at-byte : (bytes : List ℕ) (i : ℕ) → i + 1 ≤ length bytes → number_at bytes i 1 ≡ get_or bytes i 0
number_at-byte bytes i h =
    omega (arith, number_at-next bytes i (i + 1) 0 refl (omega arith), number_at-none bytes (i + 1))

pub number_at-half : (bytes : List ℕ) (i : ℕ) → i + 2 ≤ length bytes → number_at bytes i 2 ≡ get_or bytes i 0 + get_or bytes (i + 1) 0 * 256
number_at-half bytes i h =
    omega (arith, number_at-next bytes i (i + 1) 1 refl (omega arith), number_at-byte bytes (i + 1) (omega arith))

pub number_at-word : (bytes : List ℕ) (i : ℕ) → i + 4 ≤ length bytes → number_at bytes i 4 ≡ get_or bytes i 0 + get_or bytes (i + 1) 0 * 256 + get_or bytes (i + 2) 0 * 65536 + get_or bytes (i + 3) 0 * 16777216
number_at-word bytes i h =
    let two = number_at-next bytes i (i + 1) 3 refl (omega arith) in
    let three = number_at-next bytes (i + 1) (i + 2) 2 (omega arith) (omega arith) in
    let four = number_at-next bytes (i + 2) (i + 3) 1 (omega arith) (omega arith) in
    omega (arith, number_at-byte bytes (i + 3) (omega arith))

-- for a proof that reads bytes one by one
pub ruleset number_lemmas = (number_at-byte, number_at-half, number_at-word)
