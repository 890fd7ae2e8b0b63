-- Words behind others.
use Rattle.std.specs.Prelude.{ℕ, List, ◌∷◌, flat_map}
use Rattle.ce_text.specs.Bytes.{space}

-- words, with one space before each
abbrev pub spaced_words : List (List ℕ) → List ℕ
spaced_words words = flat_map (λ word. space ∷ word) words
