-- Tables from texts to values.
use Rattle.std.specs.Prelude.{ℕ, List, [], ◌∷◌, Option, Some, None, if◌then◌else◌, bytes_eq}

-- the value of a table's first row for a text
abbrev pub table_value : {X : Type 0} → List (List ℕ × X) → List ℕ → Option X
table_value [] text = None
table_value (row ∷ rows) text = if bytes_eq row.0 text then Some row.1 else table_value rows text
