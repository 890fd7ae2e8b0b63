-- Lists that are joined, filtered, or lose one of their members: what holds of each member, of each
-- two, and how many there are.
use Rattle.std.proofs.Common.{◌≡◌, ℕ, zero, suc, ◌+◌, ◌≤◌, Bool, true, false, not, if◌then◌else◌, List, [], ◌∷◌, ◌++◌, map, filter, find, count_by, slice_get, Some, IfSome, refl, ap, ◌∙◌, subst, arith, inl, inr, append-nil}
use Rattle.std.specs.List.{AllByRecursion, list_any}
use Rattle.std.proofs.lemmas.Bool.{cond_both, cases_Bool, both_ways, or_parts, or_from, not_from_true, not_from_false}
use Rattle.std.proofs.lemmas.List.Sums.{sum_by-cons, sum_by-append}
use Rattle.ce_model.specs.Lists.{ArePairwise}
pub use Rattle.ce_model.proofs.Members.{all-append, all-back, all-weaker, all-filter, all-filtered, all-both}

-- ---- all and each two

pub all-front : {X : Type 0} (P : X → Type 0) (xs ys : List X) → AllByRecursion P (xs ++ ys) → AllByRecursion P xs
all-front P [] ys all = tt
all-front P (x ∷ xs) ys all = (all.0, all-front P xs ys all.1)

pub all-get : {X : Type 0} (P : X → Type 0) (xs : List X) (k : ℕ) → AllByRecursion P xs → IfSome (slice_get xs k) P
all-get P [] k all = tt
all-get P (x ∷ xs) zero all = all.0
all-get P (x ∷ xs) (suc k) all = all-get P xs k all.1

pub all-map : {X Y : Type 0} (P : Y → Type 0) (f : X → Y) (xs : List X) → AllByRecursion (λ x. P (f x)) xs → AllByRecursion P (map f xs)
all-map P f [] all = tt
all-map P f (x ∷ xs) all = (all.0, all-map P f xs all.1)

pub all-of_map : {X Y : Type 0} (P : Y → Type 0) (f : X → Y) (xs : List X) → AllByRecursion P (map f xs) → AllByRecursion (λ x. P (f x)) xs
all-of_map P f [] all = tt
all-of_map P f (x ∷ xs) all = (all.0, all-of_map P f xs all.1)

pub all-split : {X : Type 0} (P : X → Type 0) (before : List X) (x : X) (behind : List X) → AllByRecursion P (before ++ x ∷ behind) → P x
all-split P [] x behind all = all.0
all-split P (y ∷ before) x behind all = all-split P before x behind all.1

pub pairwise-append : {X : Type 0} (R : X → X → Type 0) (xs ys : List X) → ArePairwise R xs → ArePairwise R ys
    → AllByRecursion (λ x. AllByRecursion (R x) ys) xs → ArePairwise R (xs ++ ys)
pairwise-append R [] ys of_xs of_ys across = of_ys
pairwise-append R (x ∷ xs) ys of_xs of_ys across =
    (all-append (R x) xs ys of_xs.0 across.0, pairwise-append R xs ys of_xs.1 of_ys across.1)

pub pairwise-filter : {X : Type 0} (R : X → X → Type 0) (test : X → Bool) (xs : List X) → ArePairwise R xs → ArePairwise R (filter test xs)
pairwise-filter R test [] of_xs = tt
pairwise-filter R test (x ∷ xs) of_xs =
    cond_both (test x) (x ∷ filter test xs) (filter test xs) (ArePairwise R)
    (λ t. (all-filter (R x) test xs of_xs.0, pairwise-filter R test xs of_xs.1)) (λ f. pairwise-filter R test xs of_xs.1)

-- ---- how many

pub count_by-cons : {X : Type 0} (test : X → Bool) (x : X) (xs : List X) → count_by test (x ∷ xs) ≡ (if test x then 1 else 0) + count_by test xs
count_by-cons test x xs = sum_by-cons (λ y. if test y then 1 else 0) x xs

pub count_by-append : {X : Type 0} (test : X → Bool) (xs ys : List X) → count_by test (xs ++ ys) ≡ count_by test xs + count_by test ys
count_by-append test xs ys = sum_by-append (λ y. if test y then 1 else 0) xs ys

abbrev pub truth_bit : Bool → ℕ
truth_bit b = if b then 1 else 0

pub truth_bit-true : (b : Bool) → b ≡ true → truth_bit b ≡ 1
truth_bit-true b t = ap truth_bit t

pub truth_bit-false : (b : Bool) → b ≡ false → truth_bit b ≡ 0
truth_bit-false b f = ap truth_bit f

pub truth_bit-le : (b : Bool) → truth_bit b ≤ 1
truth_bit-le true = omega arith
truth_bit-le false = omega arith

pub count_by-agree : {X : Type 0} (p q : X → Bool) (xs : List X) → ((x : X) → p x ≡ q x) → count_by p xs ≡ count_by q xs
count_by-agree p q [] same = refl
count_by-agree p q (x ∷ xs) same =
    omega (arith, count_by-cons p x xs, count_by-cons q x xs, count_by-agree p q xs same, ap {B = ℕ} (λ b. if b then 1 else 0) (same x))

pub count_by-filter : {X : Type 0} (p test : X → Bool) (xs : List X) → count_by p (filter test xs) ≤ count_by p xs
count_by-filter p test [] = omega arith
count_by-filter p test (x ∷ xs) =
    cond_both (test x) (x ∷ filter test xs) (filter test xs) (λ ys. count_by p ys ≤ count_by p (x ∷ xs))
    (λ t. omega (arith, count_by-cons p x xs, count_by-cons p x (filter test xs), count_by-filter p test xs))
    (λ f. omega (arith, count_by-cons p x xs, count_by-filter p test xs))

-- none passes
pub count_by-none : {X : Type 0} (p : X → Bool) (xs : List X) → AllByRecursion (λ x. p x ≡ false) xs → count_by p xs ≡ 0
count_by-none p [] all = refl
count_by-none p (x ∷ xs) all = omega (arith, count_by-cons p x xs, truth_bit-false (p x) all.0, count_by-none p xs all.1)

pub none-from_count : {X : Type 0} (p : X → Bool) (xs : List X) → count_by p xs ≡ 0 → AllByRecursion (λ x. p x ≡ false) xs
none-from_count p [] none = tt
none-from_count p (x ∷ xs) none = (
  elim (cases_Bool (p x)) [
    | inl t ↦ absurd (omega (arith, none, count_by-cons p x xs, truth_bit-true (p x) t))
    | inr f ↦ f
  ],
  none-from_count p xs (omega (arith, none, count_by-cons p x xs)),
)

pub any-none : {X : Type 0} (p : X → Bool) (xs : List X) → AllByRecursion (λ x. p x ≡ false) xs → list_any p xs ≡ false
any-none p [] all = refl
any-none p (x ∷ xs) all = or_from _ _ all.0 (any-none p xs all.1)

pub none-from_any : {X : Type 0} (p : X → Bool) (xs : List X) → list_any p xs ≡ false → AllByRecursion (λ x. p x ≡ false) xs
none-from_any p [] none = tt
none-from_any p (x ∷ xs) none = let parts = or_parts (p x) (list_any p xs) none in (parts.0, none-from_any p xs parts.1)

pub filter-all : {X : Type 0} (p : X → Bool) (xs : List X) → AllByRecursion (λ x. p x ≡ false) xs → filter (λ x. not (p x)) xs ≡ xs
filter-all p [] all = refl
filter-all p (x ∷ xs) all =
    cond_both (not (p x)) (x ∷ filter (λ y. not (p y)) xs) (filter (λ y. not (p y)) xs) (λ ys. ys ≡ x ∷ xs)
    (λ t. ap (λ ys. x ∷ ys) (filter-all p xs all.1)) (λ f. absurd (both_ways _ f (not_from_false (p x) all.0)))

pub filter-kept : {X : Type 0} (p : X → Bool) (xs : List X) → AllByRecursion (λ x. p x ≡ true) xs → filter p xs ≡ xs
filter-kept p [] all = refl
filter-kept p (x ∷ xs) all =
    cond_both (p x) (x ∷ filter p xs) (filter p xs) (λ ys. ys ≡ x ∷ xs)
    (λ t. ap (λ ys. x ∷ ys) (filter-kept p xs all.1)) (λ f. absurd (both_ways _ f all.0))

-- ---- one member is taken out

-- a member stands first among those that pass one test, and alone passes another
pub record IsOut {X : Type 0} (e named : X → Bool) (xs : List X) (x : X) : Type 0 where
  pub before : List X
  pub behind : List X
  pub whole : xs ≡ before ++ x ∷ behind
  pub rest : filter (λ y. not (named y)) xs ≡ before ++ behind
  pub earlier : AllByRecursion (λ y. e y ≡ false) before
  pub passes : e x ≡ true
  pub found : find named xs ≡ Some x

out-first : {X : Type 0} (e named : X → Bool) (x : X) (xs : List X) → e x ≡ true → named x ≡ true → count_by named (x ∷ xs) ≤ 1 → IsOut e named (x ∷ xs) x
out-first e named x xs passes name once =
    let none = none-from_count named xs (omega (arith, once, count_by-cons named x xs, truth_bit-true (named x) name)) in
    record {
      before = [];
      behind = xs;
      whole = refl;
      rest = cond_both (not (named x)) (x ∷ filter (λ y. not (named y)) xs) (filter (λ y. not (named y)) xs) (λ ys. ys ≡ xs)
          (λ t. absurd (both_ways _ (not_from_true (named x) name) t)) (λ f. filter-all named xs none);
      earlier = tt;
      passes = passes;
      found = cond_both (named x) (Some x) (find named xs) (λ y. y ≡ Some x) (λ t. refl) (λ f. absurd (both_ways _ f name));
    }

out-later : {X : Type 0} (e named : X → Bool) (x y : X) (ys : List X) → e y ≡ false → named x ≡ true → count_by named (y ∷ ys) ≤ 1
    → IsOut e named ys x → IsOut e named (y ∷ ys) x
out-later e named x y ys fails name once out =
    let other : named y ≡ false =
    elim (cases_Bool (named y)) [
      | inl t ↦
          absurd (omega (arith, once, count_by-cons named y ys, truth_bit-true (named y) t, ap (count_by named) out.whole, count_by-append named out.before (x ∷ out.behind), count_by-cons named x out.behind, truth_bit-true (named x) name))
      | inr f ↦ f
    ] in
    record {
      before = y ∷ out.before;
      behind = out.behind;
      whole = ap (λ zs. y ∷ zs) out.whole;
      rest = cond_both (not (named y)) (y ∷ filter (λ z. not (named z)) ys) (filter (λ z. not (named z)) ys) (λ zs. zs ≡ y ∷ (out.before ++ out.behind))
          (λ t. ap (λ zs. y ∷ zs) out.rest) (λ f. absurd (both_ways _ f (not_from_false (named y) other)));
      earlier = (fails, out.earlier);
      passes = out.passes;
      found = cond_both (named y) (Some y) (find named ys) (λ z. z ≡ Some x) (λ t. absurd (both_ways _ other t)) (λ f. out.found);
    }

pub find-out : {X : Type 0} (e named : X → Bool) (xs : List X) (x : X) → find e xs ≡ Some x → named x ≡ true → count_by named xs ≤ 1 → IsOut e named xs x
find-out e named [] x f name once = cc
find-out e named (y ∷ ys) x f name once =
    elim (cases_Bool (e y)) [
      | inl t ↦
          let here : Some y ≡ Some x = rw t at f in
          let same : y ≡ x = cc in
          subst (λ z. IsOut e named (y ∷ ys) z) same (out-first e named y ys t (ap named same ∙ name) once)
      | inr fails ↦
          let later : find e ys ≡ Some x = rw fails at f in
          out-later e named x y ys fails name once (find-out e named ys x later name (omega (arith, once, count_by-cons named y ys)))
    ]

-- ---- lists with another behind: with none behind, a list is as it was

abbrev pub with_appended : {X : Type 0} → List X → List X → List X
with_appended xs [] = xs
with_appended xs (y ∷ ys) = xs ++ y ∷ ys

pub with_appended-is : {X : Type 0} (xs ys : List X) → xs ++ ys ≡ with_appended xs ys
with_appended-is xs [] = append-nil xs
with_appended-is xs (y ∷ ys) = refl
