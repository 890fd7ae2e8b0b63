-- Words on lists of entries and of items that the field has no name for.
use Rattle.std.specs.Prelude.{◌≡◌, Bool, if◌then◌else◌, List, [], ◌∷◌, ◌++◌}
use Rattle.std.specs.List.{AllByRecursion}

-- a list without the first of its members that passes a test
abbrev pub without_first : {X : Type 0} → (X → Bool) → List X → List X
without_first test [] = []
without_first test (x ∷ xs) = if test x then xs else x ∷ without_first test xs

-- what comes of a state when a list is walked from its front, each member seen with those before it
abbrev pub fold_behind : {S X : Type 0} → (List X → S → X → S) → List X → S → List X → S
fold_behind next before state [] = state
fold_behind next before state (x ∷ behind) =
    fold_behind next (before ++ x ∷ []) (next before state x) behind

abbrev pub fold_with_front : {S X : Type 0} → (List X → S → X → S) → S → List X → S
fold_with_front next state xs = fold_behind next [] state xs

-- each member of a list that stands behind others has a property that may speak of those before it
abbrev pub EachAfter : {X : Type 0} → (List X → X → Type 0) → List X → List X → Type 0
EachAfter P before [] = Unit {0}
EachAfter P before (x ∷ behind) = P before x × EachAfter P (before ++ x ∷ []) behind

-- each member of a list, and each later one, are in a relation
abbrev pub ArePairwise : {X : Type 0} → (X → X → Type 0) → List X → Type 0
ArePairwise R [] = Unit {0}
ArePairwise R (x ∷ xs) = AllByRecursion (R x) xs × ArePairwise R xs

-- the one list is a front of the other
abbrev pub IsFront : {X : Type 0} → List X → List X → Type 0
IsFront {X} front whole = (behind : List X) × (front ++ behind ≡ whole)
