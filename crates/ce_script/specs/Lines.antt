-- The lines of a script and their words.
use Rattle.std.specs.Prelude.{ℕ, suc, Bool, not, List, [], ◌∷◌, ◌++◌, map, length, Option, Some, None}
use Rattle.std.specs.List.{list_all, enumerate_from}
use Rattle.ce_text.specs.Bytes.{is_plain}
use Rattle.ce_text.specs.Line.{line_texts, before_comment}
use Rattle.ce_text.specs.Words.{line_words}

-- ---- members of a list, each with its surroundings

-- a member of a list, the members before it and the members behind it
pub record Spot (A : Type 0) : Type 0 where
  pub before : List A
  pub here : A
  pub behind : List A

-- the spots of a list that stands behind these members
abbrev pub later_spots : {A : Type 0} → List A → List A → List (Spot A)
later_spots before [] = []
later_spots before (here ∷ behind) =
    record { before = before; here = here; behind = behind }
    ∷ later_spots (before ++ here ∷ []) behind

-- the spots of a list
abbrev pub spots : {A : Type 0} → List A → List (Spot A)
spots list = later_spots [] list

-- ---- lines

-- a line of a text, with its number
pub record Line : Type 0 where
  pub number : ℕ
  pub text : List ℕ

-- lines with these texts, the first of which has this number
abbrev pub numbered_lines : ℕ → List (List ℕ) → List Line
numbered_lines first texts =
    map (λ line. record { number = line.0; text = line.1 }) (enumerate_from first texts)

-- the lines of a text, which end with a line feed or with the text, counted from 1
unfoldable pub lines : List ℕ → List Line
lines text = numbered_lines 1 (line_texts text)

-- the words of a line: what stands between blanks before its comment
abbrev pub words : Line → List (List ℕ)
words line = line_words (before_comment line.text)

-- before the comment of a line stands a byte that is neither a blank nor a character of ASCII that
-- can be seen
abbrev pub has_bad_byte : Line → Bool
has_bad_byte line = not (list_all is_plain (before_comment line.text))

-- one more than how many bytes are left, and 0 at the end
abbrev pub rest_size : Option (List ℕ) → ℕ
rest_size None = 0
rest_size (Some text) = suc (length text)
