-- A list that is split at each byte that passes, from the first such byte on.
use Rattle.std.proofs.Common.{◌≡◌, ℕ, ◌+◌, ◌≤◌, Bool, true, false, cond, ltb, List, [], ◌∷◌, length, Option, Some, None, refl, sym, ap, ◌∙◌, arith}
use Rattle.std.specs.List.{slice_split, onto_first, position_or_len, before_first, after_first}
use Rattle.std.proofs.lemmas.Bool.{ltb-false, ltb-true}
use Rattle.std.proofs.lemmas.List.{take_all}
use Rattle.std.proofs.lemmas.List.Splits.{slice_split_first, slice_split-cons_no}
use Rattle.ce_text.specs.Line.{cut_parts}

-- the pieces of what stands behind a cut
abbrev pub split_behind : (ℕ → Bool) → Option (List ℕ) → List (List ℕ)
split_behind test None = []
split_behind test (Some rest) = slice_split test rest

abbrev pub cut_pieces : (ℕ → Bool) → List ℕ × Option (List ℕ) → List (List ℕ)
cut_pieces test parts = parts.0 ∷ split_behind test parts.1

unsplit_by : (test : ℕ → Bool) (byte : ℕ) (bytes : List ℕ) (passes : Bool) → test byte ≡ passes → (length bytes ≤ position_or_len test bytes → slice_split test bytes ≡ bytes ∷ [])
    → length (byte ∷ bytes) ≤ position_or_len test (byte ∷ bytes) → slice_split test (byte ∷ bytes) ≡ (byte ∷ bytes) ∷ []
unsplit_by test byte bytes true e others le =
    let none : position_or_len test (byte ∷ bytes) ≡ 0 = rw e refl in
    absurd (omega arith)
unsplit_by test byte bytes false e others le =
    let more : position_or_len test (byte ∷ bytes) ≡ 1 + position_or_len test bytes = rw e refl in
    slice_split-cons_no test byte bytes e ∙ ap (onto_first byte) (others (omega arith))

unsplit : (test : ℕ → Bool) (bytes : List ℕ) → length bytes ≤ position_or_len test bytes → slice_split test bytes ≡ bytes ∷ []
unsplit test [] le = refl
unsplit test (byte ∷ bytes) le = unsplit_by test byte bytes (test byte) refl (unsplit test bytes) le

split_by : (test : ℕ → Bool) (bytes : List ℕ) (within : Bool) → ltb (position_or_len test bytes) (length bytes) ≡ within
    → slice_split test bytes ≡ cut_pieces test (before_first test bytes, cond within (Some (after_first test bytes)) None)
split_by test bytes true e = slice_split_first test bytes 0 (ltb-true (position_or_len test bytes) (length bytes) e)
split_by test bytes false e =
    let le : length bytes ≤ position_or_len test bytes = ltb-false (position_or_len test bytes) (length bytes) e in
    unsplit test bytes le ∙ ap (λ (front : List ℕ). front ∷ []) (sym (take_all (position_or_len test bytes) bytes le))

-- the pieces are what stands before the first cut, and the pieces of what stands behind it
pub split_cut : (test : ℕ → Bool) (bytes : List ℕ) → slice_split test bytes ≡ cut_pieces test (cut_parts test bytes)
unfolding cut_parts
split_cut test bytes = split_by test bytes (ltb (position_or_len test bytes) (length bytes)) refl
