-- Lists in order, and one element more in its place.
use Rattle.std.specs.Prelude.{Bool, IsTrue, if◌then◌else◌, List, [], ◌∷◌, AllPairs}

-- each element is before all those behind it
abbrev pub IsRising : {X : Type 0} → (X → X → Bool) → List X → Type 0
IsRising before xs = AllPairs (λ a b. IsTrue (before a b)) xs

-- a list with one element more, in front of the first one that it is before
abbrev pub with_inserted : {X : Type 0} → (X → X → Bool) → X → List X → List X
with_inserted before x [] = x ∷ []
with_inserted before x (y ∷ ys) = if before x y then x ∷ y ∷ ys else y ∷ with_inserted before x ys
