-- What holds of the numbers of a subcube's nodes, for masks of any number of bits.
use Rattle.std.proofs.Common.{◌≡◌, ℕ, zero, suc, ◌+◌, ◌*◌, ◌/◌, ◌%◌, ◌^◌, ◌<◌, ◌≤◌, Bool, true, false, not, refl, ap, sym, ◌∙◌, arith, pow-suc, lit<, inl, inr, subst, List, [], ◌∷◌, ◌++◌, Some, None, ◌&&◌, ◌==◌}
use Rattle.std.specs.Prelude.{map, filter, find, flat_map, All}
use Rattle.std.specs.List.{list_all, range_with_len}
use Rattle.std.proofs.lemmas.Bool.{cases_lt, cases_order, eq-eqb, eqb-true, and_parts, and_from, not-true, cases_Bool}
use Rattle.std.proofs.lemmas.List.Elements.{All-append, All-nil, All-cons, All-head, All-tail, All-weaker}
use Rattle.std.proofs.lemmas.Nat.Bits.{bit_at_lowest, bit_at-suc, bit_at-zero}
use Rattle.ce_model.specs.declared.topology.Subcube.{Subcube}
use Rattle.ce_model.specs.Limits.{greatest_dim}
use Rattle.ce_model.specs.Subcubes.{extracted_bits, extract, deposited_bits, deposit, node_of, is_inside, ones_of, IsPart, are_all_nodes, IsSubcube, is_base, subcube, subcubes_with_mask, subcubes, first_free_subcube}

-- ---- one bit of the mask after the other

-- by the lowest bit of a number
pub by_low_bit : (n : ℕ) (P : Type 0) → (n % 2 ≡ 1 → P) → (n % 2 ≡ 0 → P) → P
by_low_bit n P one none = elim (cases_lt (n % 2) 1) [ inl h ↦ none (omega arith) | inr h ↦ one (omega arith) ]

pub extracted-one : (bits n mask : ℕ) → mask % 2 ≡ 1 → extracted_bits (suc bits) n mask ≡ n % 2 + 2 * extracted_bits bits (n / 2) (mask / 2)
extracted-one bits n mask one = rw one refl

pub extracted-none : (bits n mask : ℕ) → mask % 2 ≡ 0 → extracted_bits (suc bits) n mask ≡ extracted_bits bits (n / 2) (mask / 2)
extracted-none bits n mask none = rw none refl

pub deposited-one : (bits r mask : ℕ) → mask % 2 ≡ 1 → deposited_bits (suc bits) r mask ≡ r % 2 + 2 * deposited_bits bits (r / 2) (mask / 2)
deposited-one bits r mask one = rw one refl

pub deposited-none : (bits r mask : ℕ) → mask % 2 ≡ 0 → deposited_bits (suc bits) r mask ≡ 2 * deposited_bits bits r (mask / 2)
deposited-none bits r mask none = rw none refl

pub count_of-one : (bits mask : ℕ) → mask % 2 ≡ 1 → 2 ^ ones_of (suc bits) mask ≡ 2 * 2 ^ ones_of bits (mask / 2)
count_of-one bits mask one =
    let k = ones_of bits (mask / 2) in
    let next : 1 + k ≡ suc k = omega arith in
    rw (one, next) (omega (arith, pow-suc 2 k))

pub count_of-none : (bits mask : ℕ) → mask % 2 ≡ 0 → 2 ^ ones_of (suc bits) mask ≡ 2 ^ ones_of bits (mask / 2)
count_of-none bits mask none = rw none (ap (λ n. 2 ^ n) (omega arith))

-- ---- how large the numbers are

pub ones_of-bound : (bits n : ℕ) → ones_of bits n ≤ bits
ones_of-bound zero n = omega arith
ones_of-bound (suc bits) n = omega (arith, ones_of-bound bits (n / 2))

pub deposited-below : (bits r mask : ℕ) → deposited_bits bits r mask < 2 ^ bits
deposited-below zero r mask = lit< tt
deposited-below (suc bits) r mask =
    by_low_bit mask _
    (λ one. omega (arith, pow-suc 2 bits, deposited-one bits r mask one, deposited-below bits (r / 2) (mask / 2)))
    (λ none. omega (arith, pow-suc 2 bits, deposited-none bits r mask none, deposited-below bits r (mask / 2)))

-- the bits that a mask takes out of a number are a number of as many bits as the mask has ones
pub extracted-below : (bits n mask : ℕ) → extracted_bits bits n mask < 2 ^ ones_of bits mask
extracted-below zero n mask = lit< tt
extracted-below (suc bits) n mask =
    let rest = extracted-below bits (n / 2) (mask / 2) in
    by_low_bit mask _
    (λ one. omega (arith, rest, count_of-one bits mask one, extracted-one bits n mask one))
    (λ none. omega (arith, rest, count_of-none bits mask none, extracted-none bits n mask none))

pub extracted-zero : (bits mask : ℕ) → extracted_bits bits 0 mask ≡ 0
extracted-zero zero mask = refl
extracted-zero (suc bits) mask =
    let rest = extracted-zero bits (mask / 2) in
    by_low_bit mask _
    (λ one. omega (arith, rest, extracted-one bits 0 mask one)) (λ none. extracted-none bits 0 mask none ∙ rest)

pub deposited-no_mask : (bits r : ℕ) → deposited_bits bits r 0 ≡ 0
deposited-no_mask zero r = refl
deposited-no_mask (suc bits) r = omega (arith, deposited-no_mask bits r)

-- ---- deposit and extract are inverse

-- the bits that were put on the mask come back, whatever bits stand beside them
pub extracted-placed : (bits base r mask : ℕ) → extracted_bits bits base mask ≡ 0 → r < 2 ^ ones_of bits mask
    → extracted_bits bits (base + deposited_bits bits r mask) mask ≡ r
extracted-placed zero base r mask apart small = omega arith
extracted-placed (suc bits) base r mask apart small =
    by_low_bit mask _
    (λ one.
    let rest : extracted_bits bits (base / 2 + deposited_bits bits (r / 2) (mask / 2)) (mask / 2) ≡ r / 2 =
    extracted-placed bits (base / 2) (r / 2) (mask / 2) (omega (arith, extracted-one bits base mask one)) (omega (arith, count_of-one bits mask one)) in
    let even : base % 2 ≡ 0 = omega (arith, extracted-one bits base mask one) in
    let half : (base + (r % 2 + 2 * deposited_bits bits (r / 2) (mask / 2))) / 2 ≡ base / 2 + deposited_bits bits (r / 2) (mask / 2) = omega arith in
    rw (deposited-one bits r mask one, extracted-one bits (base + (r % 2 + 2 * deposited_bits bits (r / 2) (mask / 2))) mask one, half, rest) (omega arith))
    (λ none.
    let rest : extracted_bits bits (base / 2 + deposited_bits bits r (mask / 2)) (mask / 2) ≡ r =
    extracted-placed bits (base / 2) r (mask / 2) (omega (arith, extracted-none bits base mask none)) (omega (arith, count_of-none bits mask none)) in
    let half : (base + 2 * deposited_bits bits r (mask / 2)) / 2 ≡ base / 2 + deposited_bits bits r (mask / 2) = omega arith in
    rw (deposited-none bits r mask none, extracted-none bits (base + 2 * deposited_bits bits r (mask / 2)) mask none, half) rest)

pub extracted-deposited : (bits r mask : ℕ) → r < 2 ^ ones_of bits mask → extracted_bits bits (deposited_bits bits r mask) mask ≡ r
extracted-deposited bits r mask small =
    ap (λ n. extracted_bits bits n mask) (omega arith) ∙ extracted-placed bits 0 r mask (extracted-zero bits mask) small

half_part : (n mask : ℕ) → IsPart n mask → IsPart (n / 2) (mask / 2)
half_part n mask part = record {
  ones = λ place h. sym (bit_at-suc mask place) ∙ part.ones (suc place) (bit_at-suc n place ∙ h);
}

pub deposited-extracted : (bits n mask : ℕ) → n < 2 ^ bits → IsPart n mask → deposited_bits bits (extracted_bits bits n mask) mask ≡ n
deposited-extracted zero n mask small part = omega arith
deposited-extracted (suc bits) n mask small part =
    let rest = deposited-extracted bits (n / 2) (mask / 2) (omega (arith, pow-suc 2 bits)) (half_part n mask part) in
    by_low_bit mask _
    (λ one.
    let e = extracted_bits bits (n / 2) (mask / 2) in
    let half : (n % 2 + 2 * e) / 2 ≡ e = omega arith in
    rw (extracted-one bits n mask one, deposited-one bits (n % 2 + 2 * e) mask one, half, rest) (omega arith))
    (λ none.
    let even : n % 2 ≡ 0 = by_low_bit n _ (λ odd. omega (arith, bit_at_lowest mask, part.ones 0 (bit_at_lowest n ∙ odd))) (λ h. h) in
    rw (extracted-none bits n mask none, deposited-none bits (extracted_bits bits (n / 2) (mask / 2)) mask none, rest) (omega arith))

-- what is put on a mask has its ones there
deposited-part_at : (bits r mask place : ℕ) → deposited_bits bits r mask / 2 ^ place % 2 ≡ 1 → mask / 2 ^ place % 2 ≡ 1
deposited-part_at zero r mask place h = absurd (omega (arith, bit_at-zero place))
deposited-part_at (suc bits) r mask zero h =
    by_low_bit mask _ (λ one. bit_at_lowest mask ∙ one)
    (λ none. absurd (omega (arith, deposited-none bits r mask none, bit_at_lowest (deposited_bits (suc bits) r mask))))
deposited-part_at (suc bits) r mask (suc place) h =
    by_low_bit mask _
    (λ one.
    let half : deposited_bits (suc bits) r mask / 2 ≡ deposited_bits bits (r / 2) (mask / 2) = omega (arith, deposited-one bits r mask one) in
    bit_at-suc mask place
    ∙ deposited-part_at bits (r / 2) (mask / 2) place (ap (λ n. n / 2 ^ place % 2) (sym half) ∙ sym (bit_at-suc (deposited_bits (suc bits) r mask) place) ∙ h))
    (λ none.
    let half : deposited_bits (suc bits) r mask / 2 ≡ deposited_bits bits r (mask / 2) = omega (arith, deposited-none bits r mask none) in
    bit_at-suc mask place
    ∙ deposited-part_at bits r (mask / 2) place (ap (λ n. n / 2 ^ place % 2) (sym half) ∙ sym (bit_at-suc (deposited_bits (suc bits) r mask) place) ∙ h))

pub deposited-part : (bits r mask : ℕ) → IsPart (deposited_bits bits r mask) mask
deposited-part bits r mask = record { ones = deposited-part_at bits r mask }

-- ---- they keep order

pub deposited-rises : (bits r s mask : ℕ) → s < 2 ^ ones_of bits mask → r < s → deposited_bits bits r mask < deposited_bits bits s mask
deposited-rises zero r s mask small less = absurd (omega arith)
deposited-rises (suc bits) r s mask small less =
    by_low_bit mask _
    (λ one.
    elim (cases_lt (r / 2) (s / 2)) [
      | inl below ↦
          omega (arith, deposited-one bits r mask one, deposited-one bits s mask one, deposited-rises bits (r / 2) (s / 2) (mask / 2) (omega (arith, count_of-one bits mask one)) below)
      | inr above ↦
          let same : r / 2 ≡ s / 2 = omega arith in
          omega (arith, deposited-one bits r mask one, deposited-one bits s mask one, ap (λ n. deposited_bits bits n (mask / 2)) same)
    ])
    (λ none.
    omega (arith, deposited-none bits r mask none, deposited-none bits s mask none, deposited-rises bits r s (mask / 2) (omega (arith, count_of-none bits mask none)) less))

pub extracted-rises : (bits n m mask : ℕ) → m < 2 ^ bits → IsPart n mask → IsPart m mask → n < m → extracted_bits bits n mask < extracted_bits bits m mask
extracted-rises bits n m mask small of_n of_m less =
    let back_n = deposited-extracted bits n mask (omega arith) of_n in
    let back_m = deposited-extracted bits m mask small of_m in
    elim (cases_order (extracted_bits bits n mask) (extracted_bits bits m mask)) [
      | inl same ↦ absurd (omega (arith, ap (λ r. deposited_bits bits r mask) same, back_n, back_m))
      | inr (inl below) ↦ below
      | inr (inr above) ↦
          absurd (omega (arith, deposited-rises bits (extracted_bits bits m mask) (extracted_bits bits n mask) mask (extracted-below bits n mask) above, back_n, back_m))
    ]

-- ---- the nodes of a subcube

-- with a base that has no bit of the mask a node stays within the machine
pub placed-within : (bits dim base r mask : ℕ) → base < 2 ^ dim → mask < 2 ^ dim → extracted_bits bits base mask ≡ 0 → base + deposited_bits bits r mask < 2 ^ dim
placed-within zero dim base r mask base_in mask_in apart = omega arith
placed-within (suc bits) zero base r mask base_in mask_in apart =
    let none : mask ≡ 0 = omega arith in rw none (omega (arith, deposited-no_mask (suc bits) r))
placed-within (suc bits) (suc dim) base r mask base_in mask_in apart =
    by_low_bit mask _
    (λ one.
    omega (arith, extracted-one bits base mask one, deposited-one bits r mask one, pow-suc 2 dim, placed-within bits dim (base / 2) (r / 2) (mask / 2) (omega (arith, pow-suc 2 dim)) (omega (arith, pow-suc 2 dim)) (omega (arith, extracted-one bits base mask one))))
    (λ none.
    omega (arith, extracted-none bits base mask none, deposited-none bits r mask none, pow-suc 2 dim, placed-within bits dim (base / 2) r (mask / 2) (omega (arith, pow-suc 2 dim)) (omega (arith, pow-suc 2 dim)) (omega (arith, extracted-none bits base mask none))))

-- the relative number of a node is the one that it was placed by
pub extract-node_of : (sub : Subcube) (r : ℕ) → extract sub.base sub.mask ≡ 0 → r < 2 ^ ones_of greatest_dim sub.mask → extract (node_of sub r) sub.mask ≡ r
unfolding extract deposit
extract-node_of sub r apart small = extracted-placed greatest_dim sub.base r sub.mask apart small

pub extract-below : (n mask : ℕ) → extract n mask < 2 ^ ones_of greatest_dim mask
unfolding extract
extract-below n mask = extracted-below greatest_dim n mask

pub node_of-rises : (sub : Subcube) (r s : ℕ) → s < 2 ^ ones_of greatest_dim sub.mask → r < s → node_of sub r < node_of sub s
unfolding deposit
node_of-rises sub r s small less = omega (arith, deposited-rises greatest_dim r s sub.mask small less)

-- two relative numbers of one node are the same
pub same_from_node_of : (sub : Subcube) (r s : ℕ) → extract sub.base sub.mask ≡ 0 → r < 2 ^ ones_of greatest_dim sub.mask → s < 2 ^ ones_of greatest_dim sub.mask
    → node_of sub r ≡ node_of sub s → r ≡ s
same_from_node_of sub r s apart of_r of_s same =
    sym (extract-node_of sub r apart of_r) ∙ ap (λ n. extract n sub.mask) same ∙ extract-node_of sub s apart of_s

pub node_of-within : (dim r : ℕ) (sub : Subcube) → sub.base < 2 ^ dim → sub.mask < 2 ^ dim → extract sub.base sub.mask ≡ 0 → node_of sub r < 2 ^ dim
unfolding extract deposit
node_of-within dim r sub base_in mask_in apart = placed-within greatest_dim dim sub.base r sub.mask base_in mask_in apart

pub is_inside-node_of : (sub : Subcube) (r : ℕ) → extract sub.base sub.mask ≡ 0 → r < 2 ^ ones_of greatest_dim sub.mask → is_inside sub (node_of sub r) ≡ true
is_inside-node_of sub r apart small =
    eq-eqb _ _ (ap (λ s. node_of sub s) (extract-node_of sub r apart small))

-- a node inside is the one with its relative number
pub node_of-extract : (sub : Subcube) (node : ℕ) → is_inside sub node ≡ true → node_of sub (extract node sub.mask) ≡ node
node_of-extract sub node inside = eqb-true _ _ inside

pub same_from_extract : (sub : Subcube) (n m : ℕ) → is_inside sub n ≡ true → is_inside sub m ≡ true → extract n sub.mask ≡ extract m sub.mask → n ≡ m
same_from_extract sub n m of_n of_m same =
    sym (node_of-extract sub n of_n) ∙ ap (λ r. node_of sub r) same ∙ node_of-extract sub m of_m

pub is_inside-within : (dim node : ℕ) (sub : Subcube) → sub.base < 2 ^ dim → sub.mask < 2 ^ dim → extract sub.base sub.mask ≡ 0 → is_inside sub node ≡ true → node < 2 ^ dim
is_inside-within dim node sub base_in mask_in apart inside =
    let below = node_of-within dim (extract node sub.mask) sub base_in mask_in apart in
    rw (node_of-extract sub node inside) at below

-- ---- a test at all nodes

pub list_all-at : (test : ℕ → Bool) (from count k : ℕ) → list_all test (range_with_len from count) ≡ true → k < count → test (from + k) ≡ true
list_all-at test from zero k all below = absurd (omega arith)
list_all-at test from (suc count) zero all below = ap test (omega arith) ∙ (and_parts _ _ all).0
list_all-at test from (suc count) (suc k) all below =
    ap test (omega arith) ∙ list_all-at test (from + 1) count k (and_parts _ _ all).1 (omega arith)

pub list_all-each : (test : ℕ → Bool) (from count : ℕ) → ((k : ℕ) → k < count → test (from + k) ≡ true) → list_all test (range_with_len from count) ≡ true
list_all-each test from zero each = refl
list_all-each test from (suc count) each =
    and_from _ _ (ap test (omega arith) ∙ each 0 (omega arith))
    (list_all-each test (from + 1) count (λ k below. ap test (omega arith) ∙ each (suc k) (omega arith)))

pub all_nodes-at : (test : ℕ → Bool) (d : ℕ) (sub : Subcube) (r : ℕ) → are_all_nodes test d sub ≡ true → r < 2 ^ d → test (node_of sub r) ≡ true
all_nodes-at test d sub r all below = ap (λ s. test (node_of sub s)) (omega arith) ∙ list_all-at (λ s. test (node_of sub s)) 0 (2 ^ d) r all below

pub all_nodes-each : (test : ℕ → Bool) (d : ℕ) (sub : Subcube) → ((r : ℕ) → r < 2 ^ d → test (node_of sub r) ≡ true) → are_all_nodes test d sub ≡ true
all_nodes-each test d sub each =
    list_all-each (λ s. test (node_of sub s)) 0 (2 ^ d) (λ k below. ap (λ s. test (node_of sub s)) (omega arith) ∙ each k below)

-- each node inside passes a test that all nodes pass
pub all_nodes-inside : (test : ℕ → Bool) (d : ℕ) (sub : Subcube) (node : ℕ) → are_all_nodes test d sub ≡ true → ones_of greatest_dim sub.mask ≡ d → is_inside sub node ≡ true → test node ≡ true
all_nodes-inside test d sub node all ones inside =
    ap test (sym (node_of-extract sub node inside)) ∙ all_nodes-at test d sub (extract node sub.mask) all (rw (← ones) (extract-below node sub.mask))

-- subcubes of which one has all its nodes outside the other have no node in common
pub apart_nodes : (d : ℕ) (one other : Subcube) (node : ℕ) → are_all_nodes (λ n. not (is_inside other n)) d one ≡ true → ones_of greatest_dim one.mask ≡ d → is_inside one node ≡ true → is_inside other node ≡ false
apart_nodes d one other node all ones inside =
    not-true _ (all_nodes-inside (λ n. not (is_inside other n)) d one node all ones inside)

-- ---- the first subcube that is free

-- the first of a row of numbers that is picked and whose image passes
pub find-none : {X : Type 0} (test : X → Bool) (image : ℕ → X) (picked : ℕ → Bool) (from count : ℕ)
    → ((k : ℕ) → k < count → (picked (from + k) && test (image (from + k))) ≡ false)
    → find test (map image (filter picked (range_with_len from count))) ≡ None
find-none test image picked from zero none = refl
find-none test image picked from (suc count) none =
    let both = λ (n : ℕ). picked n && test (image n) in
    let rest = find-none test image picked (from + 1) count (λ k below. ap both (omega arith) ∙ none (suc k) (omega arith)) in
    let here : (picked from && test (image from)) ≡ false = ap both (omega arith) ∙ none 0 (omega arith) in
    elim (cases_Bool (picked from)) [
      | inl passes ↦
          let ill : test (image from) ≡ false = rw passes at here in
          rw (passes, ill) rest
      | inr fails ↦ rw fails rest
    ]

pub find-first : {X : Type 0} (test : X → Bool) (image : ℕ → X) (picked : ℕ → Bool) (from count k : ℕ) → k < count
    → (picked (from + k) && test (image (from + k))) ≡ true → ((i : ℕ) → i < k → (picked (from + i) && test (image (from + i))) ≡ false)
    → find test (map image (filter picked (range_with_len from count))) ≡ Some (image (from + k))
find-first test image picked from zero k below here before = absurd (omega arith)
find-first test image picked from (suc count) zero below here before =
    let same : from + 0 ≡ from = omega arith in
    let now : (picked from && test (image from)) ≡ true = rw same at here in
    let parts = and_parts (picked from) (test (image from)) now in
    rw (parts.0, parts.1, same) refl
find-first test image picked from (suc count) (suc k) below here before =
    let both = λ (n : ℕ). picked n && test (image n) in
    let next : from + suc k ≡ from + 1 + k = omega arith in
    let rest = find-first test image picked (from + 1) count k (omega arith) (ap both (sym next) ∙ here) (λ i less. ap both (omega arith) ∙ before (suc i) (omega arith)) in
    let first : (picked from && test (image from)) ≡ false = ap both (omega arith) ∙ before 0 (omega arith) in
    elim (cases_Bool (picked from)) [
      | inl passes ↦
          let ill : test (image from) ≡ false = rw passes at first in
          rw (passes, ill, next) rest
      | inr fails ↦ rw (fails, next) rest
    ]

pub find-append : {X : Type 0} (test : X → Bool) (xs ys : List X) → find test xs ≡ None → find test (xs ++ ys) ≡ find test ys
find-append test [] ys none = refl
find-append test (x ∷ xs) ys none =
    elim (cases_Bool (test x)) [
      | inl passes ↦ let found : Some x ≡ None = rw passes at none in absurd (cc)
      | inr fails ↦ let rest : find test xs ≡ None = rw fails at none in rw fails (find-append test xs ys rest)
    ]

pub find-append_found : {X : Type 0} (test : X → Bool) (xs ys : List X) (x : X) → find test xs ≡ Some x → find test (xs ++ ys) ≡ Some x
find-append_found test [] ys x found = absurd (cc)
find-append_found test (y ∷ xs) ys x found =
    elim (cases_Bool (test y)) [
      | inl passes ↦ let here : Some y ≡ Some x = rw passes at found in rw passes here
      | inr fails ↦ let rest : find test xs ≡ Some x = rw fails at found in rw fails (find-append_found test xs ys x rest)
    ]

-- what is found passes, and is as all that it was looked for among
pub find-passes : {X : Type 0} (test : X → Bool) (xs : List X) (x : X) → find test xs ≡ Some x → test x ≡ true
find-passes test [] x found = absurd (cc)
find-passes test (y ∷ xs) x found =
    elim (cases_Bool (test y)) [
      | inl passes ↦ let here : Some y ≡ Some x = rw passes at found in let same : y ≡ x = cc in rw (← same) passes
      | inr fails ↦ let rest : find test xs ≡ Some x = rw fails at found in find-passes test xs x rest
    ]

pub find-among : {X : Type 0} (P : X → Type 0) (test : X → Bool) (xs : List X) (x : X) → All P xs → find test xs ≡ Some x → P x
find-among P test [] x all found = absurd (cc)
find-among P test (y ∷ xs) x all found =
    elim (cases_Bool (test y)) [
      | inl passes ↦ let here : Some y ≡ Some x = rw passes at found in let same : y ≡ x = cc in subst P same (All-head P y xs all)
      | inr fails ↦ let rest : find test xs ≡ Some x = rw fails at found in find-among P test xs x (All-tail P y xs all) rest
    ]

-- all images of those that are picked
all_picked : {X : Type 0} (P : X → Type 0) (image : ℕ → X) (picked : ℕ → Bool) (from count : ℕ)
    → ((n : ℕ) → n < from + count → picked n ≡ true → P (image n)) → All P (map image (filter picked (range_with_len from count)))
all_picked P image picked from zero each = All-nil P
all_picked P image picked from (suc count) each =
    let rest = all_picked P image picked (from + 1) count (λ n below good. each n (omega arith) good) in
    elim (cases_Bool (picked from)) [ inl passes ↦ rw passes (All-cons P (image from) _ (each from (omega arith) passes) rest) | inr fails ↦ rw fails rest ]

all_images : {X : Type 0} (P : X → Type 0) (images : ℕ → List X) (picked : ℕ → Bool) (from count : ℕ)
    → ((n : ℕ) → n < from + count → picked n ≡ true → All P (images n)) → All P (flat_map images (filter picked (range_with_len from count)))
all_images P images picked from zero each = All-nil P
all_images P images picked from (suc count) each =
    let rest = all_images P images picked (from + 1) count (λ n below good. each n (omega arith) good) in
    elim (cases_Bool (picked from)) [
      | inl passes ↦ rw passes (All-append P (images from) _ (each from (omega arith) passes) rest)
      | inr fails ↦ rw fails rest
    ]

pub all_subcubes : (dim d : ℕ) → All (λ sub. IsSubcube dim d sub) (subcubes dim d)
unfolding subcubes
all_subcubes dim d =
    all_images (λ sub. IsSubcube dim d sub) (subcubes_with_mask (2 ^ dim)) (λ mask. ones_of greatest_dim mask == d) 0 (2 ^ dim)
    (λ mask mask_in ones.
    all_picked (λ sub. IsSubcube dim d sub) (subcube mask) (is_base mask) 0 (2 ^ dim)
    (λ base base_in is_apart. record {
      mask_within = omega arith;
      base_within = omega arith;
      dimension = eqb-true _ _ ones;
      apart = eqb-true _ _ is_apart;
    }))

-- the first free one is a subcube of the machine, and all its nodes are free
pub first_free-subcube : (is_free : ℕ → Bool) (dim d : ℕ) (sub : Subcube) → first_free_subcube is_free dim d ≡ Some sub → IsSubcube dim d sub
unfolding first_free_subcube
first_free-subcube is_free dim d sub found =
    find-among (λ s. IsSubcube dim d s) (are_all_nodes is_free d) (subcubes dim d) sub (all_subcubes dim d) found

pub first_free-all_free : (is_free : ℕ → Bool) (dim d : ℕ) (sub : Subcube) → first_free_subcube is_free dim d ≡ Some sub → are_all_nodes is_free d sub ≡ true
unfolding first_free_subcube
first_free-all_free is_free dim d sub found = find-passes (are_all_nodes is_free d) (subcubes dim d) sub found

-- ---- tests that agree on the nodes of the machine

list_all-same : (p q : ℕ → Bool) (from count : ℕ) → ((k : ℕ) → k < count → p (from + k) ≡ q (from + k)) → list_all p (range_with_len from count) ≡ list_all q (range_with_len from count)
list_all-same p q from zero same = refl
list_all-same p q from (suc count) same =
    let here : p from ≡ q from = ap p (omega arith) ∙ same 0 (omega arith) ∙ ap q (omega arith) in
    rw (here, list_all-same p q (from + 1) count (λ k below. ap p (omega arith) ∙ same (suc k) (omega arith) ∙ ap q (omega arith))) refl

find-same : {X : Type 0} (p q : X → Bool) (xs : List X) → All (λ x. p x ≡ q x) xs → find p xs ≡ find q xs
find-same p q [] same = refl
find-same p q (x ∷ xs) same =
    rw (All-head (λ y. p y ≡ q y) x xs same, find-same p q xs (All-tail (λ y. p y ≡ q y) x xs same)) refl

pub first_free-same : (p q : ℕ → Bool) (dim d : ℕ) → ((node : ℕ) → node < 2 ^ dim → p node ≡ q node) → first_free_subcube p dim d ≡ first_free_subcube q dim d
unfolding first_free_subcube
first_free-same p q dim d same =
    find-same (are_all_nodes p d) (are_all_nodes q d) (subcubes dim d)
    (All-weaker (λ sub. IsSubcube dim d sub) (λ sub. are_all_nodes p d sub ≡ are_all_nodes q d sub)
    (λ sub known. list_all-same (λ r. p (node_of sub r)) (λ r. q (node_of sub r)) 0 (2 ^ d) (λ k below. same (node_of sub (0 + k)) (node_of-within dim (0 + k) sub known.base_within known.mask_within known.apart)))
    (subcubes dim d) (all_subcubes dim d))
