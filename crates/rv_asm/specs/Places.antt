-- The places of texts among others.
use Rattle.std.specs.Prelude.{ℕ, ◌+◌, ◌-◌, nat_lt, ◌==◌, List, [], ◌∷◌, Option, Some, None, if◌then◌else◌, bytes_eq}
use Rattle.rv_model.specs.declared.limits.TheConstants.{REGISTER_COUNT}

-- the first place of a text among others, of which the first has this place
abbrev pub place_of : ℕ → List (List ℕ) → List ℕ → Option ℕ
place_of place [] text = None
place_of place (word ∷ words) text =
    if bytes_eq word text then Some place else place_of (place + 1) words text

-- the number of a register by the place of its name: the names of the calling convention, `fp`, and
-- the numbers
abbrev pub register_number : ℕ → ℕ
register_number place = if nat_lt place REGISTER_COUNT then place else if place == REGISTER_COUNT
    then 8 else place - (REGISTER_COUNT + 1)
