-- The words of a line.
use Rattle.std.specs.Prelude.{ℕ, not, ◌==◌, List, length, filter}
use Rattle.std.specs.List.{slice_split}
use Rattle.ce_text.specs.Bytes.{is_blank}

-- what stands between blanks, where there is something
unfoldable pub line_words : List ℕ → List (List ℕ)
line_words line = filter (λ piece. not (length piece == 0)) (slice_split is_blank line)
