-- How a map is kept in two tables.
use Rattle.std.proofs.Common.{◌≡◌, ℕ, zero, suc, ◌+◌, ◌<◌, ◌≤◌, true, false, List, [], ◌∷◌, length, get_or, map, set, Option, Some, None, IsSome, IfSome, ◌↔◌, MutBor, arith, refl, ap, ◌∙◌, sym, inl, inr}
use Rattle.std.specs.List.{AllWithin, position_or_len, slice_get, insert, remove}
use Rattle.std.specs.Option.{option_copied_mut}
use Rattle.std.proofs.lemmas.Bool.{cases_Bool, cases_lt}
use Rattle.std.proofs.lemmas.Option.{slice_get_past, slice_get-get_or}
use Rattle.std.proofs.lemmas.List.{get_or-map, length-map}
use Rattle.ce_model.specs.Blocks.{Block}
use Rattle.ce_model.specs.Rising.{IsRising}
use Rattle.xm_owner.specs.Holdings.{Mapping, is_mapping_before, block_held_at, with_mapping, mappings_without, with_block_at}
use Rattle.xm_owner.specs.Tables.{is_key_before, is_same_key, mappings_of}
use Rattle.xm_owner.specs.declared.key.Key.{Key}
use Rattle.xm_owner.proofs.KeyOrder.{key_after, is_key_before-apart, is_key_before-behind, is_same_key-before}
use Rattle.xm_owner.proofs.Mappings.{vacant-head, vacant-tail, without-vacant}

-- the key of a mapping, and the mapping of a key
abbrev key_of : Mapping → Key
key_of mapping = record { pid = mapping.pid; window = mapping.window }

abbrev mapping : Key → Block → Mapping
mapping key block = record { pid = key.pid; window = key.window; block = block }

keys_of : (keys : List Key) (blocks : List Block) → length blocks ≡ length keys → map key_of (mappings_of keys blocks) ≡ keys
keys_of [] blocks h = refl
keys_of (key ∷ keys) [] h = absurd (omega arith)
keys_of (key ∷ keys) (block ∷ blocks) h = ap (λ rest. key ∷ rest) (keys_of keys blocks (omega arith))

pub length-mappings_of : (keys : List Key) (blocks : List Block) → length blocks ≡ length keys → length (mappings_of keys blocks) ≡ length keys
length-mappings_of keys blocks h = sym (length-map (mappings_of keys blocks) key_of) ∙ ap length (keys_of keys blocks h)

pub rising-mappings_of : (keys : List Key) (blocks : List Block) → length blocks ≡ length keys → IsRising is_key_before keys → IsRising is_mapping_before (mappings_of keys blocks)
rising-mappings_of keys blocks h rising i j d low high =
    let long = length-mappings_of keys blocks h in
    let at : (k : ℕ) → k < length keys → get_or keys k (key_of d) ≡ key_of (get_or (mappings_of keys blocks) k d) =
    λ k within. ap (λ ks. get_or ks k (key_of d)) (sym (keys_of keys blocks h)) ∙ get_or-map key_of (mappings_of keys blocks) k d (key_of d) (omega arith) in
    let before = rising i j (key_of d) low (omega arith) in
    rw (at i (omega arith), at j (omega arith)) at before

next : (n : ℕ) → 1 + n ≡ suc n
next n = omega arith

-- what a window holds stands where its key stands
pub held_at-mappings_of : (key : Key) (keys : List Key) (blocks : List Block) → length blocks ≡ length keys
    → block_held_at (mappings_of keys blocks) key.pid key.window ≡ slice_get blocks (position_or_len (is_same_key key) keys)
held_at-mappings_of key [] [] h = refl
held_at-mappings_of key [] (block ∷ blocks) h = absurd (omega arith)
held_at-mappings_of key (other ∷ keys) [] h = absurd (omega arith)
held_at-mappings_of key (other ∷ keys) (block ∷ blocks) h = elim (cases_Bool (is_same_key key other)) [
  | inl t ↦ rw t refl
  | inr f ↦ rw (f, next (position_or_len (is_same_key key) keys)) (held_at-mappings_of key keys blocks (omega arith))
]

-- where a window holds nothing, no key is its own
pub vacant-keys : (key : Key) (keys : List Key) (blocks : List Block) → length blocks ≡ length keys → block_held_at (mappings_of keys blocks) key.pid key.window ≡ None
    → AllWithin (λ other. is_same_key key other ≡ false) keys 0 (length keys)
vacant-keys key [] blocks h vacant k d low high = absurd (omega arith)
vacant-keys key (other ∷ keys) [] h vacant k d low high = absurd (omega arith)
vacant-keys key (other ∷ keys) (block ∷ blocks) h vacant zero d low high = vacant-head key.pid key.window (mapping other block) (mappings_of keys blocks) vacant
vacant-keys key (other ∷ keys) (block ∷ blocks) h vacant (suc k) d low high =
    vacant-keys key keys blocks (omega arith) (vacant-tail key.pid key.window (mapping other block) (mappings_of keys blocks) vacant) k d (omega arith) (omega arith)

pub mappings_of-insert : (key : Key) (block : Block) (keys : List Key) (blocks : List Block) (i : ℕ) → i ≤ length keys → length blocks ≡ length keys
    → block_held_at (mappings_of keys blocks) key.pid key.window ≡ None
    → AllWithin (λ other. is_key_before other key ≡ true) keys 0 i → AllWithin (λ other. is_key_before other key ≡ false) keys i (length keys)
    → mappings_of (insert keys i key) (insert blocks i block) ≡ with_mapping (mapping key block) (mappings_of keys blocks)
mappings_of-insert key block [] [] zero within h vacant passed ahead = refl
mappings_of-insert key block [] [] (suc i) within h vacant passed ahead = absurd (omega arith)
mappings_of-insert key block [] (b ∷ blocks) i within h vacant passed ahead = absurd (omega arith)
mappings_of-insert key block (other ∷ keys) [] i within h vacant passed ahead = absurd (omega arith)
mappings_of-insert key block (other ∷ keys) (b ∷ blocks) zero within h vacant passed ahead =
    let before = key_after other key (ahead 0 key (omega arith) (omega arith)) (vacant-head key.pid key.window (mapping other b) (mappings_of keys blocks) vacant) in
    rw before refl
mappings_of-insert key block (other ∷ keys) (b ∷ blocks) (suc i) within h vacant passed ahead =
    let behind = is_key_before-apart other key (passed 0 key (omega arith) (omega arith)) in
    let rest = mappings_of-insert key block keys blocks i (omega arith) (omega arith) (vacant-tail key.pid key.window (mapping other b) (mappings_of keys blocks) vacant)
    (λ k d low high. passed (suc k) d (omega arith) (omega arith)) (λ k d low high. ahead (suc k) d (omega arith) (omega arith)) in
    rw behind (ap (λ ms. mapping other b ∷ ms) rest)

-- keys behind the one of a window are others
vacant-behind : (key other : Key) (keys : List Key) (blocks : List Block) → is_same_key key other ≡ true
    → AllWithin (λ k. is_key_before other k ≡ true) keys 0 (length keys) → block_held_at (mappings_of keys blocks) key.pid key.window ≡ None
vacant-behind key other [] blocks same before = refl
vacant-behind key other (first ∷ keys) [] same before = refl
vacant-behind key other (first ∷ keys) (block ∷ blocks) same before =
    let apart = is_key_before-behind key first (is_same_key-before key other first same (before 0 key (omega arith) (omega arith))) in
    rw apart (vacant-behind key other keys blocks same (λ k d low high. before (suc k) d (omega arith) (omega arith)))

-- the place of a key is at the front exactly where the first key is the same
here-first : (key other : Key) (keys : List Key) → zero ≡ position_or_len (is_same_key key) (other ∷ keys) → is_same_key key other ≡ true
here-first key other keys at = elim (cases_Bool (is_same_key key other)) [
  | inl t ↦ t
  | inr f ↦ (let n : position_or_len (is_same_key key) (other ∷ keys) ≡ 1 + position_or_len (is_same_key key) keys = rw f refl in absurd (omega arith))
]

here-later : (key other : Key) (keys : List Key) (i : ℕ) → suc i ≡ position_or_len (is_same_key key) (other ∷ keys)
    → (is_same_key key other ≡ false) × (i ≡ position_or_len (is_same_key key) keys)
here-later key other keys i at = elim (cases_Bool (is_same_key key other)) [
  | inl t ↦ (let n : position_or_len (is_same_key key) (other ∷ keys) ≡ 0 = rw t refl in absurd (omega arith))
  | inr f ↦ (let n : position_or_len (is_same_key key) (other ∷ keys) ≡ 1 + position_or_len (is_same_key key) keys = rw f refl in (f, omega arith))
]

pub mappings_of-remove : (key : Key) (keys : List Key) (blocks : List Block) (i : ℕ) → i ≡ position_or_len (is_same_key key) keys → i < length keys → length blocks ≡ length keys
    → IsRising is_key_before keys → mappings_of (remove keys i) (remove blocks i) ≡ mappings_without key.pid key.window (mappings_of keys blocks)
mappings_of-remove key [] blocks i at within h rising = absurd (omega arith)
mappings_of-remove key (other ∷ keys) [] i at within h rising = absurd (omega arith)
mappings_of-remove key (other ∷ keys) (block ∷ blocks) zero at within h rising =
    let same = here-first key other keys at in
    let vacant = vacant-behind key other keys blocks same (λ k d low high. rising 0 (suc k) d (omega arith) (omega arith)) in
    rw same (sym (without-vacant key.pid key.window (mappings_of keys blocks) vacant))
mappings_of-remove key (other ∷ keys) (block ∷ blocks) (suc i) at within h rising =
    let later = here-later key other keys i at in
    let rest = mappings_of-remove key keys blocks i later.1 (omega arith) (omega arith) (λ a b d low high. rising (suc a) (suc b) d (omega arith) (omega arith)) in
    rw later.0 (ap (λ ms. mapping other block ∷ ms) rest)

-- another block in place of one; where the key isn't there, nothing changes
pub mappings_of-set : (key : Key) (block : Block) (keys : List Key) (blocks : List Block) (i : ℕ) → i ≡ position_or_len (is_same_key key) keys → length blocks ≡ length keys
    → mappings_of keys (set blocks i block) ≡ with_block_at key.pid key.window block (mappings_of keys blocks)
mappings_of-set key block [] blocks i at h = refl
mappings_of-set key block (other ∷ keys) [] i at h = absurd (omega arith)
mappings_of-set key block (other ∷ keys) (was ∷ blocks) zero at h = rw (here-first key other keys at) refl
mappings_of-set key block (other ∷ keys) (was ∷ blocks) (suc i) at h =
    let later = here-later key other keys i at in
    rw later.0 (ap (λ ms. mapping other was ∷ ms) (mappings_of-set key block keys blocks i later.1 (omega arith)))

-- what a reference to a place of a list is to
pub copied-from_place : {X : Type 0} (lent : Option (MutBor X)) (xs : List X) (n i : ℕ) → n ≡ length xs → (IsSome lent ↔ (i < n)) → IfSome lent (λ x. x.now ≡ get_or xs i x.now)
    → option_copied_mut lent ≡ slice_get xs i
copied-from_place None xs n i e there is = elim (cases_lt i n) [
  | inl q ↦ (let some = there.1 q in absurd (cc))
  | inr q ↦ sym (slice_get_past xs i (omega arith))
]
copied-from_place (Some x) xs n i e there is =
    let within = there.0 refl in
    ap Some is ∙ sym (slice_get-get_or xs i x.now (omega arith))
