-- What stands in a line of assembly.
use Rattle.std.specs.Prelude.{ℕ, Bool, false, not, ◌||◌, ◌==◌, List, [], ◌∷◌, map, Option, Some, None}
use Rattle.std.specs.List.{slice_split, list_all}
use Rattle.ce_text.specs.Bytes.{is_blank}
use Rattle.ce_text.specs.Line.{without_outer_blanks}

-- ---- bytes that part what stands in a line

abbrev pub colon : ℕ
colon = 58

abbrev pub comma : ℕ
comma = 44

abbrev pub opening_bracket : ℕ
opening_bracket = 40

abbrev pub closing_bracket : ℕ
closing_bracket = 41

abbrev pub is_colon : ℕ → Bool
is_colon byte = byte == colon

abbrev pub is_comma : ℕ → Bool
is_comma byte = byte == comma

abbrev pub is_opening : ℕ → Bool
is_opening byte = byte == opening_bracket

abbrev pub is_closing : ℕ → Bool
is_closing byte = byte == closing_bracket

-- what a token consists of: no blank, no bracket and no comma
abbrev pub is_token_byte : ℕ → Bool
is_token_byte byte = not (is_blank byte || is_opening byte || is_closing byte || is_comma byte)

-- at least one byte, and only bytes of tokens
unfoldable pub is_token : List ℕ → Bool
is_token [] = false
is_token (byte ∷ bytes) = list_all is_token_byte (byte ∷ bytes)

-- the pieces between commas, without blanks at their ends
unfoldable pub pieces : List ℕ → List (List ℕ)
pieces operands = map without_outer_blanks (slice_split is_comma operands)

-- the same of what stands behind a comma, where there is one
abbrev pub comma_pieces : Option (List ℕ) → List (List ℕ)
comma_pieces None = []
comma_pieces (Some rest) = pieces rest
