-- The order of keys.
use Rattle.std.proofs.Common.{◌≡◌, ℕ, zero, suc, ◌+◌, ◌<◌, ◌≤◌, Bool, true, false, nat_lt, List, [], ◌∷◌, length, get_or, arith, refl, ap, sym, subst, ◌∙◌, inl, inr}
use Rattle.std.specs.List.{AllWithin, position_or_len, insert}
use Rattle.std.specs.List.Sorted.{IsPartitionedBy, IsPartitionPoint}
use Rattle.std.proofs.lemmas.Bool.{cases_lt}
use Rattle.std.proofs.lemmas.Bool.Decides.{nat_tests}
use Rattle.ce_model.specs.Rising.{IsRising}
use Rattle.xm_block.proofs.Rises.{AllPairs-insert}
use Rattle.xm_owner.specs.declared.key.Key.{Key}
use Rattle.xm_owner.specs.Tables.{is_key_before, is_same_key}

pub is_key_before-trans : (a b c : Key) → is_key_before a b ≡ true → is_key_before b c ≡ true → is_key_before a c ≡ true
is_key_before-trans a b c h k = grind (arith, nat_tests)

-- a key that is before another one isn't the same
pub is_key_before-other : (a b : Key) → is_key_before a b ≡ true → is_same_key b a ≡ false
is_key_before-other a b h = grind (arith, nat_tests)

pub is_key_before-apart : (a b : Key) → is_key_before a b ≡ true → is_key_before b a ≡ false
is_key_before-apart a b h = grind (arith, nat_tests)

-- of two keys one is before the other, or they are the same
pub key_after : (a b : Key) → is_key_before a b ≡ false → is_same_key b a ≡ false → is_key_before b a ≡ true
key_after a b h k = grind (arith, nat_tests)

pub is_same_key-before : (a b c : Key) → is_same_key a b ≡ true → is_key_before b c ≡ true → is_key_before a c ≡ true
is_same_key-before a b c h k = grind (arith, nat_tests)

pub is_key_before-behind : (a b : Key) → is_key_before a b ≡ true → is_same_key a b ≡ false
is_key_before-behind a b h = grind (arith, nat_tests)

-- among keys in order, those before a key come first
pub partitioned : (key : Key) (keys : List Key) → IsRising is_key_before keys → IsPartitionedBy (λ other. is_key_before other key) keys
partitioned key keys rising i j d low high h = elim (cases_lt i j) [
  | inl q ↦ is_key_before-trans (get_or keys i d) (get_or keys j d) key (rising i j d q high) h
  | inr q ↦ (let e : i ≡ j = omega arith in rw e h)
]

-- a key stands behind all those before it
pub position-here : (key : Key) (keys : List Key) (i : ℕ) → AllWithin (λ other. is_key_before other key ≡ true) keys 0 i
    → i < length keys → is_same_key key (get_or keys i key) ≡ true → position_or_len (is_same_key key) keys ≡ i
position-here key [] i passed within here = absurd (omega arith)
position-here key (other ∷ keys) zero passed within here = rw here refl
position-here key (other ∷ keys) (suc i) passed within here =
    let rest = position-here key keys i (λ k d low high. passed (suc k) d (omega arith) (omega arith)) (omega arith) here in
    rw (is_key_before-other other key (passed 0 key (omega arith) (omega arith))) (ap (λ n. 1 + n) rest ∙ omega arith)

-- or it is not there
pub position-absent : (key : Key) (keys : List Key) (i : ℕ) → IsRising is_key_before keys
    → AllWithin (λ other. is_key_before other key ≡ true) keys 0 i → AllWithin (λ other. is_key_before other key ≡ false) keys i (length keys)
    → (i < length keys → is_same_key key (get_or keys i key) ≡ false) → position_or_len (is_same_key key) keys ≡ length keys
position-absent key [] i rising passed ahead absent = refl
position-absent key (other ∷ keys) (suc i) rising passed ahead absent =
    let rest = position-absent key keys i (λ a b d low high. rising (suc a) (suc b) d (omega arith) (omega arith))
    (λ k d low high. passed (suc k) d (omega arith) (omega arith)) (λ k d low high. ahead (suc k) d (omega arith) (omega arith))
    (λ within. absent (omega arith)) in
    rw (is_key_before-other other key (passed 0 key (omega arith) (omega arith))) (ap (λ n. 1 + n) rest ∙ omega arith)
position-absent key (other ∷ keys) zero rising passed ahead absent =
    let differs = absent (omega arith) in
    let after = key_after other key (ahead 0 key (omega arith) (omega arith)) differs in
    let rest = position-absent key keys zero (λ a b d low high. rising (suc a) (suc b) d (omega arith) (omega arith))
    (λ k d low high. absurd (omega arith)) (λ k d low high. ahead (suc k) d (omega arith) (omega arith))
    (λ within. is_key_before-behind key _ (is_key_before-trans key other _ after (rising 0 1 key (omega arith) (omega arith)))) in
    rw differs (ap (λ n. 1 + n) rest ∙ omega arith)

-- among keys in order, those of processes below a limit come first
below-before : (a b : Key) (limit : ℕ) → is_key_before a b ≡ true → nat_lt b.pid limit ≡ true → nat_lt a.pid limit ≡ true
below-before a b limit h k = grind (arith, nat_tests)

pub partitioned-below : (limit : ℕ) (keys : List Key) → IsRising is_key_before keys → IsPartitionedBy (λ other. nat_lt other.pid limit) keys
partitioned-below limit keys rising i j d low high h = elim (cases_lt i j) [
  | inl q ↦ below-before (get_or keys i d) (get_or keys j d) limit (rising i j d q high) h
  | inr q ↦ (let e : i ≡ j = omega arith in rw e h)
]

-- a key that isn't there goes in between those that are before it and those that it is before
pub rising-insert : (key : Key) (keys : List Key) (i : ℕ) → i ≤ length keys → IsRising is_key_before keys
    → AllWithin (λ other. is_same_key key other ≡ false) keys 0 (length keys)
    → AllWithin (λ other. is_key_before other key ≡ true) keys 0 i → AllWithin (λ other. is_key_before other key ≡ false) keys i (length keys)
    → IsRising is_key_before (insert keys i key)
rising-insert key keys i within rising absent passed ahead =
    AllPairs-insert (λ a b. is_key_before a b ≡ true) keys i key within rising passed
    (λ k d low high. key_after _ key (ahead k d low high) (absent k d (omega arith) high))

-- a point that parts the keys which a reference shows parts the keys themselves
pub point-of : (test : Key → Bool) (keys shown : List Key) (point : ℕ) → shown ≡ keys → IsPartitionedBy test keys
    → (IsPartitionedBy test shown → IsPartitionPoint (λ key. test key ≡ true) (λ key. test key ≡ false) shown point)
    → IsPartitionPoint (λ key. test key ≡ true) (λ key. test key ≡ false) keys point
point-of test keys shown point same parted parts =
    subst (λ (some : List Key). IsPartitionPoint (λ key. test key ≡ true) (λ key. test key ≡ false) some point) same
    (parts (subst (λ (some : List Key). IsPartitionedBy test some) (sym same) parted))
