-- The first of a list that passes, by its place.
use Rattle.std.proofs.Common.{◌≡◌, ℕ, zero, suc, ◌+◌, ◌<◌, Bool, true, false, List, [], ◌∷◌, Option, None, Some, length, get_or, map, refl, sym, ap, ◌∙◌, arith, inl, inr, ◌||◌}
use Rattle.std.specs.Prelude.{find, position, option_map, remove, IsSome, OnSome}
use Rattle.std.proofs.lemmas.List.Quantifiers.{position-Some}
use Rattle.std.proofs.lemmas.Iterator.Adapters.{position_from-zero}
use Rattle.std.specs.List.{list_any, position_from}
use Rattle.std.proofs.lemmas.Bool.{cases_Bool, false≢true}
use Rattle.ce_model.specs.Lists.{without_first}
use Rattle.ce_model.specs.Parcels.{Item}

pub list_any-map : {X Y : Type 0} (test : Y → Bool) (image : X → Y) (xs : List X) → list_any (λ x. test (image x)) xs ≡ list_any test (map image xs)
list_any-map test image [] = refl
list_any-map test image (x ∷ xs) = ap (λ (rest : Bool). test (image x) || rest) (list_any-map test image xs)

found_at : {X : Type 0} (test : Item → Bool) (image : X → Item) (xs : List X) (k : ℕ) (d : X) → k < length xs → test (image (get_or xs k d)) ≡ true
    → ((i : ℕ) → i < k → test (image (get_or xs i d)) ≡ false)
    → (find test (map image xs) ≡ Some (image (get_or xs k d))) × (without_first test (map image xs) ≡ map image (remove xs k))
found_at test image [] k d below here before = absurd (omega arith)
found_at test image (x ∷ xs) zero d below here before = (rw here refl, rw here refl)
found_at test image (x ∷ xs) (suc k) d below here before =
    let rest = found_at test image xs k d (omega arith) here (λ i less. before (suc i) (omega arith)) in
    let first : test (image x) ≡ false = before 0 (omega arith) in
    (rw first rest.0, rw first (ap (λ items. image x ∷ items) rest.1))

-- the item at the first place that passes is the first that passes, and goes out alone
pub first_taken : {X : Type 0} (test : Item → Bool) (image : X → Item) (xs : List X) (k : ℕ) (taken : Option X) → position (λ x. test (image x)) xs ≡ Some k
    → ((d : X) → k < length xs → taken ≡ Some (get_or xs k d)) → option_map image taken ≡ find test (map image xs)
first_taken test image [] k taken at is = absurd (cc)
first_taken test image (x ∷ xs) k taken at is =
    let there = position-Some (λ y. test (image y)) (x ∷ xs) k x at in
    ap (option_map image) (is x there.0) ∙ sym (found_at test image (x ∷ xs) k x there.0 there.1 there.2).0

pub rest_left : {X : Type 0} (test : Item → Bool) (image : X → Item) (xs : List X) (k : ℕ) → position (λ x. test (image x)) xs ≡ Some k
    → map image (remove xs k) ≡ without_first test (map image xs)
rest_left test image [] k at = absurd (cc)
rest_left test image (x ∷ xs) k at =
    let there = position-Some (λ y. test (image y)) (x ∷ xs) k x at in
    sym (found_at test image (x ∷ xs) k x there.0 there.1 there.2).1

-- none passes where there is no place
none_from : {X : Type 0} (test : Item → Bool) (image : X → Item) (from : ℕ) (xs : List X) → position_from (λ x. test (image x)) from xs ≡ None
    → (find test (map image xs) ≡ None) × (without_first test (map image xs) ≡ map image xs)
none_from test image from [] none = (refl, refl)
none_from test image from (x ∷ xs) none =
    elim (cases_Bool (test (image x))) [
      | inl passes ↦ let found : Some from ≡ None = rw passes at none in absurd (cc)
      | inr fails ↦
          let rest = none_from test image (from + 1) xs (rw fails at none) in
          (rw fails rest.0, rw fails (ap (λ items. image x ∷ items) rest.1))
    ]

pub none_taken : {X : Type 0} (test : Item → Bool) (image : X → Item) (xs : List X) → position (λ x. test (image x)) xs ≡ None
    → (find test (map image xs) ≡ None) × (without_first test (map image xs) ≡ map image xs)
none_taken test image xs none = none_from test image 0 xs (sym (position_from-zero (λ x. test (image x)) xs) ∙ none)

pub place_below : {X : Type 0} (test : Item → Bool) (image : X → Item) (xs : List X) (k : ℕ) → position (λ x. test (image x)) xs ≡ Some k → k < length xs
place_below test image [] k at = absurd (cc)
place_below test image (x ∷ xs) k at = (position-Some (λ y. test (image y)) (x ∷ xs) k x at).0

pub at_some : {X : Type 0} (found : Option X) (P : Type 0) → IsSome found → OnSome found P → P
at_some None P some holds = absurd (false≢true some)
at_some (Some x) P some holds = holds
