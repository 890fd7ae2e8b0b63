-- What holds of each member of a list, and lists whose members are renamed.
use Rattle.std.proofs.Common.{◌≡◌, ℕ, zero, suc, Bool, true, false, if◌then◌else◌, List, [], ◌∷◌, map, drop, zip, slice_set, slice_index_or, flat_map, refl, ap, ◌∙◌}
use Rattle.std.specs.List.{AllByRecursion}
use Rattle.ce_solo.proofs.Lists.{all-front, all-back}

-- ---- choices

-- a function of a choice is the choice of its values
pub if_ap : {X Y : Type 0} (h : X → Y) (test : Bool) (x y : X) → h (if test then x else y) ≡ if test then h x else h y
if_ap h true x y = refl
if_ap h false x y = refl

pub if_both : {X Y : Type 0} (R : X → Y → Type 0) (test : Bool) (x y : X) (x' y' : Y) → R x x' → R y y'
    → R (if test then x else y) (if test then x' else y')
if_both R true x y x' y' here there = here
if_both R false x y x' y' here there = there

-- choices by one test, of which each value is the other's under a function
pub if_made : {X Y : Type 0} (h : X → Y) (test' test : Bool) (x' y' : Y) (x y : X) → test' ≡ test → x' ≡ h x → y' ≡ h y
    → (if test' then x' else y') ≡ h (if test then x else y)
if_made h test' test x' y' x y same here there =
    ap (λ t. if t then x' else y') same ∙ if_both (λ made value. made ≡ h value) test x' y' x y here there

pub if_each : {X : Type 0} (P : X → Type 0) (test : Bool) (x y : X) → P x → P y → P (if test then x else y)
if_each P true x y here there = here
if_each P false x y here there = there

-- ---- each member

pub all-drop : {X : Type 0} (P : X → Type 0) (n : ℕ) (xs : List X) → AllByRecursion P xs → AllByRecursion P (drop n xs)
all-drop P zero xs all = all
all-drop P (suc n) [] all = tt
all-drop P (suc n) (x ∷ xs) all = all-drop P n xs all.1

pub all-set : {X : Type 0} (P : X → Type 0) (xs : List X) (k : ℕ) (x : X) → AllByRecursion P xs → P x → AllByRecursion P (slice_set xs k x)
all-set P [] k x all new = tt
all-set P (y ∷ xs) zero x all new = (new, all.1)
all-set P (y ∷ xs) (suc k) x all new = (all.0, all-set P xs k x all.1 new)

pub all-at : {X : Type 0} (P : X → Type 0) (xs : List X) (k : ℕ) (otherwise : X) → AllByRecursion P xs → P otherwise → P (slice_index_or xs k otherwise)
all-at P [] k otherwise all last = last
all-at P (x ∷ xs) zero otherwise all last = all.0
all-at P (x ∷ xs) (suc k) otherwise all last = all-at P xs k otherwise all.1 last

pub all-flat : {X Y : Type 0} (P : Y → Type 0) (h : X → List Y) (xs : List X) → AllByRecursion P (flat_map h xs)
    → AllByRecursion (λ x. AllByRecursion P (h x)) xs
all-flat P h [] all = tt
all-flat P h (x ∷ xs) all = (all-front P (h x) (flat_map h xs) all, all-flat P h xs (all-back P (h x) (flat_map h xs) all))

-- ---- what is made of each member

pub at-map : {X Y : Type 0} (h : X → Y) (xs : List X) (k : ℕ) (otherwise : X) → slice_index_or (map h xs) k (h otherwise) ≡ h (slice_index_or xs k otherwise)
at-map h [] k otherwise = refl
at-map h (x ∷ xs) zero otherwise = refl
at-map h (x ∷ xs) (suc k) otherwise = at-map h xs k otherwise

pub set-map : {X Y : Type 0} (h : X → Y) (xs : List X) (k : ℕ) (x : X) → slice_set (map h xs) k (h x) ≡ map h (slice_set xs k x)
set-map h [] k x = refl
set-map h (y ∷ xs) zero x = refl
set-map h (y ∷ xs) (suc k) x = ap (λ rest. h y ∷ rest) (set-map h xs k x)

pub zip-map : {X Y Z : Type 0} (h : Y → Z) (xs : List X) (ys : List Y) → zip xs (map h ys) ≡ map (λ pair. (pair.0, h pair.1)) (zip xs ys)
zip-map h [] ys = refl
zip-map h (x ∷ xs) [] = refl
zip-map h (x ∷ xs) (y ∷ ys) = ap (λ rest. (x, h y) ∷ rest) (zip-map h xs ys)
