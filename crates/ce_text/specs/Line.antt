-- The lines of a text, and the parts of a line.
use Rattle.std.specs.Prelude.{ℕ, Bool, nat_lt, if◌then◌else◌, List, [], ◌∷◌, Option, Some, None, length, ◌++◌, flat_map}
use Rattle.std.specs.List.{slice_split, before_first, after_first, position_or_len}
use Rattle.ce_text.specs.Bytes.{is_blank, is_line_feed, is_hash, line_feed}

-- ---- cutting

-- what stands behind the first byte that passes, where there is one
abbrev pub behind_first : (ℕ → Bool) → List ℕ → Option (List ℕ)
behind_first test bytes = if nat_lt (position_or_len test bytes) (length bytes)
    then Some (after_first test bytes) else None

-- what stands before the first byte that passes, and what stands behind it
unfoldable pub cut_parts : (ℕ → Bool) → List ℕ → List ℕ × Option (List ℕ)
cut_parts test bytes = (before_first test bytes, behind_first test bytes)

-- the bytes without the blanks at their front
unfoldable pub without_front_blanks : List ℕ → List ℕ
without_front_blanks [] = []
without_front_blanks (byte ∷ bytes) =
    if is_blank byte then without_front_blanks bytes else byte ∷ bytes

-- a byte in front of bytes, but no blank in front of nothing
abbrev pub with_front_byte : ℕ → List ℕ → List ℕ
with_front_byte byte [] = if is_blank byte then [] else byte ∷ []
with_front_byte byte (next ∷ bytes) = byte ∷ next ∷ bytes

-- the bytes without the blanks at their end
unfoldable pub without_end_blanks : List ℕ → List ℕ
without_end_blanks [] = []
without_end_blanks (byte ∷ bytes) = with_front_byte byte (without_end_blanks bytes)

-- the bytes without the blanks at their ends
unfoldable pub without_outer_blanks : List ℕ → List ℕ
without_outer_blanks bytes = without_end_blanks (without_front_blanks bytes)

-- ---- lines

-- the pieces of a text between its line feeds
abbrev pub line_texts : List ℕ → List (List ℕ)
line_texts text = slice_split is_line_feed text

-- a text of lines, each ended by a line feed
abbrev pub lines_text : List (List ℕ) → List ℕ
lines_text texts = flat_map (λ text. text ++ line_feed ∷ []) texts

-- what a line has before its comment, which begins with `#`
unfoldable pub before_comment : List ℕ → List ℕ
before_comment line = (cut_parts is_hash line).0
