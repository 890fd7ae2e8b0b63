-- An index after a name got its place.
use Rattle.std.proofs.Common.{◌≡◌, ℕ, ◌+◌, ◌≤◌, Bool, true, false, cond, ◌==◌, List, [], ◌∷◌, ◌++◌, length, Option, Some, None, refl, sym, ap, ◌∙◌, arith, nat_lt, not}
use Rattle.std.proofs.lemmas.Bool.Decides.{nat_tests}
use Rattle.std.proofs.lemmas.List.{length-append}
use Rattle.std.proofs.lemmas.List.Folds.{position_or_len_push}
use Rattle.std.proofs.lemmas.List.Sums.{prefix_len-le-length}
use Rattle.std.proofs.lemmas.Slice.Eq.{bytes_eq-Decides}
use Rattle.std.specs.Prelude.{bytes_eq, position, is_some}
use Rattle.std.specs.Option.{option_or}
use Rattle.std.specs.List.{position_or_len}
use Rattle.std.specs.Cmp.Lexicographic.{nat_list_eq_equiv}
use Rattle.std.specs.Map.{update}
use Rattle.ce_text.specs.declared.names.NameTable.{NameTable}
use Rattle.ce_text.specs.Names.{meanings_of}
use Rattle.ce_script.specs.declared.script.ScriptKind.TheVariants.{NameTaken}
use Rattle.ce_script.specs.Faults.{kind_where, is_one_name_of, operand_fault}
use Rattle.ce_script.specs.Places.{IsIndexOf}
use Rattle.ce_script.specs.Standing.{new_image_fault}
use Rattle.ce_script.specs.Verbs.{NewImage}
use Rattle.ce_script.proofs.Judging.{among_place}
use Rattle.ce_script.proofs.Spots.{option_or-none, or_none, refused_none}

-- ---- the places of names with one more

place_by : (n most : ℕ) (same : Bool) → n ≤ most
    → cond (nat_lt (cond (n == most) (most + cond same 0 1) n) (most + 1)) (Some (cond (n == most) (most + cond same 0 1) n)) None
    ≡ option_or (cond (nat_lt n most) (Some n) None) (cond same (Some most) None)
place_by n most true le = grind (arith, nat_tests)
place_by n most false le = grind (arith, nat_tests)

place_pushed : (test : List ℕ → Bool) (names : List (List ℕ)) (name : List ℕ) (same : Bool) → test name ≡ same
    → position test (names ++ name ∷ []) ≡ option_or (position test names) (cond same (Some (length names)) None)
place_pushed test names name same e =
    let n = position_or_len test names in
    let most = length names in
    let place : position_or_len test (names ++ name ∷ []) ≡ cond (n == most) (most + cond same 0 1) n =
    position_or_len_push test names name ∙ ap (λ (b : Bool). cond (n == most) (most + cond b 0 1) n) e in
    ap (λ (k : ℕ). cond (nat_lt k (length (names ++ name ∷ []))) (Some k) None) place
    ∙ ap (λ (size : ℕ). cond (nat_lt (cond (n == most) (most + cond same 0 1) n) size) (Some (cond (n == most) (most + cond same 0 1) n)) None) (length-append names (name ∷ []))
    ∙ place_by n most same (within test names)
  where
    within : (test : List ℕ → Bool) (names : List (List ℕ)) → position_or_len test names ≤ length names
    within test names = prefix_len-le-length (λ name. not (test name)) names

place_more : (names : List (List ℕ)) (name other : List ℕ) (same : Bool) → bytes_eq name other ≡ same → position (bytes_eq name) names ≡ None
    → cond same (Some (length names)) (position (bytes_eq other) names) ≡ position (bytes_eq other) (names ++ name ∷ [])
place_more names name other true e none =
    let is : name ≡ other = (bytes_eq-Decides name other).0 e in
    sym (place_pushed (bytes_eq other) names name true ((bytes_eq-Decides other name).1 (sym is))
    ∙ ap (λ (found : Option ℕ). option_or found (Some (length names))) (ap (λ (word : List ℕ). position (bytes_eq word) names) (sym is) ∙ none))
place_more names name other false e none =
    sym (place_pushed (bytes_eq other) names name false (nat_list_eq_equiv.symm other name ∙ e) ∙ option_or-none (position (bytes_eq other) names))

-- an index of no names
pub no_index : (index : NameTable ℕ) → meanings_of index ≡ (λ name. None) → IsIndexOf index []
no_index index e name = ap (λ (f : List ℕ → Option ℕ). f name) e

-- an index of names, with the next name at the next place
pub index_more : (old new : NameTable ℕ) (names : List (List ℕ)) (name : List ℕ) (place : ℕ) → IsIndexOf old names → position (bytes_eq name) names ≡ None → place ≡ length names
    → meanings_of new ≡ update bytes_eq (meanings_of old) name (Some place) → IsIndexOf new (names ++ name ∷ [])
index_more old new names name place is none last e other =
    ap (λ (f : List ℕ → Option ℕ). f other) e
    ∙ ap (λ (n : ℕ). cond (bytes_eq name other) (Some n) (meanings_of old other)) last
    ∙ ap (λ (found : Option ℕ). cond (bytes_eq name other) (Some (length names)) found) (is other)
    ∙ place_more names name other (bytes_eq name other) refl none

-- the name of an image that may begin has no place
pub no_place : (names : List (List ℕ)) (name : List ℕ) → new_image_fault names name ≡ None → position (bytes_eq name) names ≡ None
no_place names name e =
    let named = (or_none (operand_fault names NewImage name) _ e).0 in
    let free = (or_none _ (kind_where (is_one_name_of names name) NameTaken) named).1 in
    by (position (bytes_eq name) names) (among_place names name ∙ refused_none (is_one_name_of names name) NameTaken free)
  where
    by : (found : Option ℕ) → is_some found ≡ false → found ≡ None
    by None e = refl
    by (Some n) e = absurd cc
