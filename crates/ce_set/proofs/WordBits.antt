-- The bits of a word after the operations that sets are made with.
use Rattle.std.proofs.Common.{◌≡◌, ℕ, ◌+◌, ◌-◌, ◌*◌, ◌/◌, ◌%◌, ◌^◌, ◌<◌, ◌≤◌, min, max, Bool, true, false, ◌&&◌, ◌||◌, ◌==◌, refl, sym, ap, ◌∙◌, arith, add-zero, bit_and, bit_or, inl, inr, List, [], ◌∷◌, get_or}
use Rattle.std.specs.Prelude.{nat_le}
use Rattle.std.specs.Int.{bit_at}
use Rattle.std.specs.List.{list_all, range_with_len}
use Rattle.std.proofs.lemmas.Bool.{agree_below, agree_below_at, cases_lt, and_left, le-leb, lt-leb}
use Rattle.std.proofs.lemmas.Bool.Decides.{same_from_decides, nat_tests}
use Rattle.std.proofs.lemmas.Nat.{shr-shr, shr_split, pow_pos, mod_below}
use Rattle.std.proofs.lemmas.Nat.Bits.{bit_at_and, bit_at_or, bit_at-lt, bit_at_above, bit_at_cat_low, bit_at_cat_high, bit_at-zero, same_from_bits}
use Rattle.ce_model.specs.Parcels.{is_member}
use Rattle.ce_model.proofs.Subcubes.{list_all-at}

-- two tests are the same where each passes when the other does
pub same_test : (a b : Bool) → (a ≡ true → b ≡ true) → (b ≡ true → a ≡ true) → a ≡ b
same_test a b there back = same_from_decides {P = b ≡ true} a b (there, back) (λ h. h, λ h. h)

both_bits : (x y : ℕ) → x < 2 → y < 2 → (min x y == 1) ≡ (x == 1 && y == 1)
both_bits x y of_x of_y = grind (arith, nat_tests)

either_bit : (x y : ℕ) → x < 2 → y < 2 → (max x y == 1) ≡ (x == 1 || y == 1)
either_bit x y of_x of_y = grind (arith, nat_tests)

pub is_member-and : (a b n : ℕ) → is_member n (bit_and a b) ≡ (is_member n a && is_member n b)
is_member-and a b n = ap (λ x. x == 1) (bit_at_and a b n) ∙ both_bits (bit_at a n) (bit_at b n) (bit_at-lt a n) (bit_at-lt b n)

pub is_member-or : (a b n : ℕ) → is_member n (bit_or a b) ≡ (is_member n a || is_member n b)
is_member-or a b n = ap (λ x. x == 1) (bit_at_or a b n) ∙ either_bit (bit_at a n) (bit_at b n) (bit_at-lt a n) (bit_at-lt b n)

pub is_member-down : (a s n : ℕ) → is_member n (a / 2 ^ s) ≡ is_member (n + s) a
is_member-down a s n = ap (λ x. x % 2 == 1) (shr-shr a s n ∙ ap (λ k. a / 2 ^ k) (omega arith))

pub is_member-above : (a k n : ℕ) → a < 2 ^ k → k ≤ n → is_member n a ≡ false
is_member-above a k n small past = ap (λ x. x == 1) (bit_at_above a k n small past)

-- a set of numbers below k, where n is in it
pub below-is_member : (a k n : ℕ) → a < 2 ^ k → is_member n a ≡ true → n < k
below-is_member a k n small there =
    elim (cases_lt n k) [ inl less ↦ less | inr past ↦ let none = is_member-above a k n small past in let never : true ≡ false = sym there ∙ none in absurd (cc) ]

-- a set of numbers below k is a word of k bits
pub word-below : (a k : ℕ) → ((n : ℕ) → is_member n a ≡ true → n < k) → a < 2 ^ k
word-below a k small =
    let low = a % 2 ^ k in
    let of_low : low < 2 ^ k = mod_below a (2 ^ k) (pow_pos k) in
    let same : a ≡ low =
    same_from_bits a low (λ i.
    elim (cases_lt i k) [
      | inl within ↦ ap (λ x. bit_at x i) (sym (shr_split a k)) ∙ bit_at_cat_low (a / 2 ^ k) k low i within
      | inr past ↦ not_one (bit_at a i) (bit_at-lt a i) (λ one. absurd (omega (arith, small i (ap (λ x. x == 1) one)))) ∙ sym (bit_at_above low k i of_low past)
    ]) in
    rw same of_low
  where
    not_one : (x : ℕ) → x < 2 → (x ≡ 1 → x ≡ 0) → x ≡ 0
    not_one x below other = elim (cases_lt x 1) [ inl h ↦ omega arith | inr h ↦ other (omega arith) ]

-- each number of a word's set moved up; those that leave the word are lost
pub is_member-up : (a s n : ℕ) → n < 64 → is_member n (a * 2 ^ s % 2 ^ 64) ≡ (nat_le s n && is_member (n - s) a)
is_member-up a s n within =
    let whole = a * 2 ^ s in
    let cut : bit_at (whole % 2 ^ 64) n ≡ bit_at whole n =
    sym (bit_at_cat_low (whole / 2 ^ 64) 64 (whole % 2 ^ 64) n within) ∙ ap (λ x. bit_at x n) (shr_split whole 64) in
    elim (cases_lt n s) [
      | inl less ↦
          let low : bit_at whole n ≡ 0 = ap (λ x. bit_at x n) (sym (add-zero whole)) ∙ bit_at_cat_low a s 0 n less ∙ bit_at-zero n in
          ap (λ x. x == 1) (cut ∙ low) ∙ sym (and_left (nat_le s n) (is_member (n - s) a) (lt-leb s n less))
      | inr past ↦
          let high : bit_at whole n ≡ bit_at a (n - s) = ap (λ x. bit_at x n) (sym (add-zero whole)) ∙ bit_at_cat_high a s 0 n (pow_pos s) past in
          ap (λ x. x == 1) (cut ∙ high) ∙ sym (ap (λ (t : Bool). t && is_member (n - s) a) (le-leb s n past))
    ]

-- the numbers below 64 that have a 0 at a place
abbrev pub clear_masks : List ℕ
clear_masks = 0x5555_5555_5555_5555 ∷ 0x3333_3333_3333_3333 ∷ 0x0f0f_0f0f_0f0f_0f0f ∷ 0x00ff_00ff_00ff_00ff ∷ 0x0000_ffff_0000_ffff ∷ 0x0000_0000_ffff_ffff ∷ []

agrees_at : ℕ → Bool
agrees_at place = agree_below (λ k. is_member k (get_or clear_masks place 0)) (λ n. n / 2 ^ place % 2 == 0) 64

all_agree : list_all agrees_at (range_with_len 0 6) ≡ true
unfolding agrees_at
all_agree = refl

pub is_member-clear : (place n : ℕ) → place < 6 → n < 64 → is_member n (get_or clear_masks place 0) ≡ (n / 2 ^ place % 2 == 0)
unfolding agrees_at
is_member-clear place n of_place of_n =
    let same : place ≡ 0 + place = omega arith in
    let here : agrees_at place ≡ true = ap agrees_at same ∙ list_all-at agrees_at 0 6 place all_agree of_place in
    agree_below_at (λ k. is_member k (get_or clear_masks place 0)) (λ k. k / 2 ^ place % 2 == 0) 64 n here of_n
