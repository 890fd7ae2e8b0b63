-- Any two rows of the table fix one field to two values, so a word matches at most one of them.
use Rattle.std.proofs.Common.{◌≡◌, ℕ, ◌≤◌, Bool, true, false, not, ◌&&◌, ◌||◌, cond, ◌==◌, List, [], ◌∷◌, length, Some, None, refl, ap, ◌∙◌, inl, inr, ◌⊎◌, arith}
use Rattle.std.specs.Prelude.{filter, find, option_map, All, IsTrue}
use Rattle.std.specs.List.{list_any, list_all, AllByRecursion}
use Rattle.std.proofs.lemmas.List.Elements.{All-from_recursion, recursion_from_All}
use Rattle.std.proofs.lemmas.Bool.{and_parts, and_right}
use Rattle.std.proofs.lemmas.Bool.Decides.{nat_tests}
use Rattle.rv_model.specs.Words.{bits_of, FixedField, DecodingRow, has_fixed_fields, table, instruction_of}

abbrev holds : ℕ → FixedField → Bool
holds word field = bits_of field.low field.width word == field.value

-- the same field, with two values
abbrev clash : FixedField → FixedField → Bool
clash f g = f.low == g.low && (f.width == g.width && not (f.value == g.value))

abbrev apart : DecodingRow → DecodingRow → Bool
apart r s = list_any (λ f. list_any (clash f) s.fixed_fields) r.fixed_fields

abbrev all_apart : List DecodingRow → Bool
all_apart [] = true
all_apart (r ∷ rs) = list_all (apart r) rs && all_apart rs

clash_fails : (w : ℕ) (f g : FixedField) → clash f g ≡ true → holds w f ≡ true → holds w g ≡ false
clash_fails w f g c h = grind (arith, nat_tests)

clashes_fail : (w : ℕ) (f : FixedField) (gs : List FixedField) → list_any (clash f) gs ≡ true → holds w f ≡ true → list_all (holds w) gs ≡ false
clashes_fail w f [] c h = absurd cc
clashes_fail w f (g ∷ gs) c h =
    elim (clash f g) as (λ b. clash f g ≡ b → b || list_any (clash f) gs ≡ true → holds w g && list_all (holds w) gs ≡ false) [
      | true ↦ λ here _. rw (clash_fails w f g here h) refl
      | false ↦ λ _ later. rw (clashes_fail w f gs later h) (and_right (holds w g) false refl)
    ] refl c

apart_fails : (w : ℕ) (fs gs : List FixedField) → list_any (λ f. list_any (clash f) gs) fs ≡ true → list_all (holds w) fs ≡ true → list_all (holds w) gs ≡ false
apart_fails w [] gs c h = absurd cc
apart_fails w (f ∷ fs) gs c h =
    elim (list_any (clash f) gs) as (λ b. list_any (clash f) gs ≡ b → b || list_any (λ e. list_any (clash e) gs) fs ≡ true → list_all (holds w) gs ≡ false) [
      | true ↦ λ here _. clashes_fail w f gs here (and_parts (holds w f) (list_all (holds w) fs) h).0
      | false ↦ λ _ later. apart_fails w fs gs later (and_parts (holds w f) (list_all (holds w) fs) h).1
    ] refl c

none_left : (w : ℕ) (r : DecodingRow) (rs : List DecodingRow) → list_all (apart r) rs ≡ true → has_fixed_fields w r ≡ true → filter (has_fixed_fields w) rs ≡ []
none_left w r [] c h = refl
none_left w r (s ∷ rs) c h = rw (apart_fails w r.fixed_fields s.fixed_fields (and_parts (apart r s) (list_all (apart r) rs) c).0 h) (none_left w r rs (and_parts (apart r s) (list_all (apart r) rs) c).1 h)

at_most_one : (w : ℕ) (rs : List DecodingRow) → all_apart rs ≡ true → length (filter (has_fixed_fields w) rs) ≤ 1
at_most_one w [] c = omega arith
at_most_one w (r ∷ rs) c =
    elim (has_fixed_fields w r) as (λ b. has_fixed_fields w r ≡ b → length (cond b (r ∷ filter (has_fixed_fields w) rs) (filter (has_fixed_fields w) rs)) ≤ 1) [
      | true ↦ λ m. rw (none_left w r rs (and_parts (list_all (apart r) rs) (all_apart rs) c).0 m) (omega arith)
      | false ↦ λ m. at_most_one w rs (and_parts (list_all (apart r) rs) (all_apart rs) c).1
    ] refl

pub table_at_most_one : (w : ℕ) → length (filter (has_fixed_fields w) table) ≤ 1
unfolding table
table_at_most_one w = at_most_one w table refl

-- ---- so the order of the rows does not matter

abbrev IsAmong : DecodingRow → List DecodingRow → Type 0
IsAmong s [] = ⊥
IsAmong s (r ∷ rs) = (r ≡ s) ⊎ IsAmong s rs

all_at : (p : DecodingRow → Bool) (rs : List DecodingRow) (s : DecodingRow) → list_all p rs ≡ true → IsAmong s rs → p s ≡ true
all_at p [] s h k = absurd k
all_at p (r ∷ rs) s h (inl e) = rw (← e) (and_parts (p r) (list_all p rs) h).0
all_at p (r ∷ rs) s h (inr k) = all_at p rs s (and_parts (p r) (list_all p rs) h).1 k

found : (w : ℕ) (rs : List DecodingRow) → all_apart rs ≡ true → (s : DecodingRow) → IsAmong s rs → has_fixed_fields w s ≡ true → find (has_fixed_fields w) rs ≡ Some s
found w [] c s k m = absurd k
found w (r ∷ rs) c s (inl e) m = let t : has_fixed_fields w r ≡ true = ap (has_fixed_fields w) e ∙ m in rw t (ap (λ (q : DecodingRow). Some q) e)
found w (r ∷ rs) c s (inr k) m =
    let clashes : apart r s ≡ true = all_at (apart r) rs s (and_parts (list_all (apart r) rs) (all_apart rs) c).0 k in
    elim (has_fixed_fields w r) as (λ b. has_fixed_fields w r ≡ b → cond b (Some r) (find (has_fixed_fields w) rs) ≡ Some s) [
      | true ↦ λ t. let f : has_fixed_fields w s ≡ false = apart_fails w r.fixed_fields s.fixed_fields clashes t in absurd cc
      | false ↦ λ _. found w rs (and_parts (list_all (apart r) rs) (all_apart rs) c).1 s k m
    ] refl

each : (P : DecodingRow → Type 0) (rs : List DecodingRow) → ((s : DecodingRow) → IsAmong s rs → P s) → AllByRecursion P rs
each P [] h = tt
each P (r ∷ rs) h = (h r (inl refl), each P rs (λ s k. h s (inr k)))

not_found : (w : ℕ) (rs : List DecodingRow) → AllByRecursion (λ row. ¬ IsTrue (has_fixed_fields w row)) rs → find (has_fixed_fields w) rs ≡ None
not_found w [] h = refl
not_found w (r ∷ rs) h =
    elim (has_fixed_fields w r) as (λ b. has_fixed_fields w r ≡ b → cond b (Some r) (find (has_fixed_fields w) rs) ≡ None) [
      | true ↦ λ t. absurd (h.0 t)
      | false ↦ λ _. not_found w rs h.1
    ] refl

pub instruction_of-matched : (w : ℕ) → All (λ row. IsTrue (has_fixed_fields w row) → instruction_of w ≡ Some (row.meaning w)) table
unfolding instruction_of table
instruction_of-matched w =
    All-from_recursion (λ row. IsTrue (has_fixed_fields w row) → instruction_of w ≡ Some (row.meaning w)) table
    (each (λ row. IsTrue (has_fixed_fields w row) → instruction_of w ≡ Some (row.meaning w)) table (λ s k m. ap (option_map (λ (row : DecodingRow). row.meaning w)) (found w table refl s k m)))

pub instruction_of-unmatched : (w : ℕ) → All (λ row. ¬ IsTrue (has_fixed_fields w row)) table → instruction_of w ≡ None
unfolding instruction_of table
instruction_of-unmatched w h = ap (option_map (λ (row : DecodingRow). row.meaning w)) (not_found w table (recursion_from_All (λ row. ¬ IsTrue (has_fixed_fields w row)) table h))

pub ruleset decided = (instruction_of-matched, instruction_of-unmatched)
