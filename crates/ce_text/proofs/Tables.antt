-- Looking a text up in a table, row by row.
use Rattle.std.proofs.Common.{◌≡◌, ℕ, ◌+◌, ◌<◌, ◌≤◌, Bool, true, false, cond, List, ◌∷◌, length, get_or, drop, map, Some, None, Bor, refl, ◌∙◌}
use Rattle.std.specs.Str.{bytes_eq}
use Rattle.std.proofs.lemmas.List.{at_drop_more, at_drop_all}
use Rattle.ce_text.specs.Table.{table_value}

-- the rows from a place on, as texts and values
abbrev pub rows_from : {X : Type 0} → List (Bor (List ℕ) × X) → ℕ → List (List ℕ × X)
rows_from rows i = map (λ row. (row.0.now, row.1)) (drop i rows)

found_by : {X : Type 0} (row : Bor (List ℕ) × X) (rows : List (Bor (List ℕ) × X)) (text : List ℕ) (same : Bool) → bytes_eq row.0.now text ≡ same
    → table_value (map (λ (r : Bor (List ℕ) × X). (r.0.now, r.1)) (row ∷ rows)) text ≡ cond same (Some row.1) (table_value (map (λ (r : Bor (List ℕ) × X). (r.0.now, r.1)) rows) text)
found_by row rows text true e = rw e refl
found_by row rows text false e = rw e refl

pub look_up_more : {X : Type 0} (rows : List (Bor (List ℕ) × X)) (text : List ℕ) (i : ℕ) (d : Bor (List ℕ) × X) (same : Bool) → i < length rows → bytes_eq (get_or rows i d).0.now text ≡ same
    → table_value (rows_from rows i) text ≡ cond same (Some (get_or rows i d).1) (table_value (rows_from rows (i + 1)) text)
look_up_more {X} rows text i d same lt e =
    at_drop_more (λ (rs : List (Bor (List ℕ) × X)). table_value (map (λ (r : Bor (List ℕ) × X). (r.0.now, r.1)) rs) text) rows i d lt
    ∙ found_by (get_or rows i d) (drop (i + 1) rows) text same e

pub look_up_end : {X : Type 0} (rows : List (Bor (List ℕ) × X)) (text : List ℕ) (i : ℕ) → length rows ≤ i → table_value (rows_from rows i) text ≡ None
look_up_end {X} rows text i le =
    at_drop_all (λ (rs : List (Bor (List ℕ) × X)). table_value (map (λ (r : Bor (List ℕ) × X). (r.0.now, r.1)) rs) text) rows i le
