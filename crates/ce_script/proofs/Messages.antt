-- The bytes of messages.
use Rattle.std.proofs.Common.{◌≡◌, ℕ, ◌<◌, ◌≤◌, List, [], length, true, false, Some, None, refl, arith, nat_le, codes, bytes_eq}
use Rattle.std.proofs.lemmas.Bool.Decides.{nat_tests}
use Rattle.ce_model.specs.Limits.{block_room, block_room_lem}
use Rattle.ce_script.specs.Spellings.{are_byte_digits, digit_bytes, written_bytes, data_in}
use Rattle.ce_script.proofs.WithinLimits.{two_each}
use Rattle.ce_script.specs.declared.spelling.TheConstants.{DATA_DIGITS}

above : (n most : ℕ) → n ≤ most → nat_le n most ≡ true
above n most le = grind (arith, nat_tests)

over : (n most : ℕ) → most < n → nat_le n most ≡ false
over n most lt = grind (arith, nat_tests)

pub data_none : (word : List ℕ) → bytes_eq word (codes "-") ≡ true → data_in word ≡ Some []
unfolding data_in
data_none word e = rw e refl

pub data_long : (word : List ℕ) → bytes_eq word (codes "-") ≡ false → 8192 < length word → data_in word ≡ None
unfolding data_in
data_long word e lt = let long : nat_le (length word) DATA_DIGITS ≡ false = over (length word) DATA_DIGITS (omega (arith, block_room_lem)) in rw (e, long) refl

pub data_digits : (word : List ℕ) → bytes_eq word (codes "-") ≡ false → length word ≤ 8192 → are_byte_digits word ≡ true → data_in word ≡ Some (digit_bytes word)
unfolding data_in written_bytes
data_digits word e le are = let short : nat_le (length word) DATA_DIGITS ≡ true = above (length word) DATA_DIGITS (omega (arith, block_room_lem)) in rw (e, short, are) refl

pub data_other : (word : List ℕ) → bytes_eq word (codes "-") ≡ false → length word ≤ 8192 → are_byte_digits word ≡ false → data_in word ≡ None
unfolding data_in written_bytes
data_other word e le are = let short : nat_le (length word) DATA_DIGITS ≡ true = above (length word) DATA_DIGITS (omega (arith, block_room_lem)) in rw (e, short, are) refl

pub data_fits : (word : List ℕ) → length word ≤ 8192 → length (digit_bytes word) ≤ block_room
data_fits word le = omega (arith, two_each word, block_room_lem)
