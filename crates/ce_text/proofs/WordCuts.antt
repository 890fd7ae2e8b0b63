-- The first word of a line.
use Rattle.std.proofs.Common.{◌≡◌, ℕ, ◌<◌, Bool, true, false, cond, not, eqb, List, [], ◌∷◌, length, Option, Some, None, refl, sym, ap, ◌∙◌, arith}
use Rattle.std.specs.Prelude.{filter}
use Rattle.std.proofs.lemmas.Bool.{ne_eqb}
use Rattle.ce_text.specs.Bytes.{is_blank}
use Rattle.ce_text.specs.Line.{cut_parts, without_front_blanks}
use Rattle.ce_text.specs.Words.{line_words}
use Rattle.ce_text.proofs.CutParts.{cut_later}
use Rattle.ce_text.proofs.Splitting.{split_cut, split_behind, cut_pieces}

-- the words of what stands behind the first one
abbrev pub words_behind : Option (List ℕ) → List (List ℕ)
words_behind None = line_words []
words_behind (Some rest) = line_words rest

blank_goes : (byte : ℕ) (bytes : List ℕ) → is_blank byte ≡ true → line_words (byte ∷ bytes) ≡ line_words bytes
unfolding line_words
blank_goes byte bytes e = rw e refl

words_by : (byte : ℕ) (bytes : List ℕ) (blank : Bool) → is_blank byte ≡ blank → line_words bytes ≡ line_words (without_front_blanks bytes) → line_words (byte ∷ bytes) ≡ line_words (without_front_blanks (byte ∷ bytes))
unfolding without_front_blanks
words_by byte bytes true e others = rw e (blank_goes byte bytes e ∙ others)
words_by byte bytes false e others = rw e refl

words_trimmed : (bytes : List ℕ) → line_words bytes ≡ line_words (without_front_blanks bytes)
unfolding without_front_blanks
words_trimmed [] = refl
words_trimmed (byte ∷ bytes) = words_by byte bytes (is_blank byte) refl (words_trimmed bytes)

first_by : (byte : ℕ) (bytes : List ℕ) (first : ℕ) (others : List ℕ) (blank : Bool) → is_blank byte ≡ blank → (without_front_blanks bytes ≡ first ∷ others → is_blank first ≡ false)
    → cond blank (without_front_blanks bytes) (byte ∷ bytes) ≡ first ∷ others → is_blank first ≡ false
first_by byte bytes first others true e inner h = inner h
first_by byte bytes first others false e inner h =
    let same : byte ≡ first = ap (λ (xs : List ℕ). elim xs as (λ _. ℕ) [ [] ↦ 0 | x ∷ more ↦ x ]) h in
    ap is_blank (sym same) ∙ e

-- what stands behind the blanks at the front does not begin with one
first_stays : (bytes : List ℕ) (first : ℕ) (others : List ℕ) → without_front_blanks bytes ≡ first ∷ others → is_blank first ≡ false
unfolding without_front_blanks
first_stays [] first others h = absurd cc
first_stays (byte ∷ bytes) first others h = first_by byte bytes first others (is_blank byte) refl (first_stays bytes first others) h

-- a front with a byte is a word
kept : (byte : ℕ) (front : List ℕ) (pieces : List (List ℕ)) → filter (λ piece. not (eqb (length piece) 0)) ((byte ∷ front) ∷ pieces) ≡ (byte ∷ front) ∷ filter (λ piece. not (eqb (length piece) 0)) pieces
kept byte front pieces =
    let some : eqb (length (byte ∷ front)) 0 ≡ false = ne_eqb _ _ (λ e. absurd (omega arith)) in
    rw some refl

words_split : (bytes : List ℕ) (behind : Option (List ℕ)) → filter (λ piece. not (eqb (length piece) 0)) (split_behind is_blank behind) ≡ words_behind behind
unfolding line_words
words_split bytes None = refl
words_split bytes (Some rest) = refl

words_cut : (byte : ℕ) (bytes front : List ℕ) (behind : Option (List ℕ)) → is_blank byte ≡ false → (front, behind) ≡ cut_parts is_blank (byte ∷ bytes) → line_words (byte ∷ bytes) ≡ front ∷ words_behind behind
unfolding line_words
words_cut byte bytes front behind e h =
    let rest = (cut_parts is_blank bytes).0 in
    let front_is : front ≡ byte ∷ rest = ap (λ (parts : List ℕ × Option (List ℕ)). parts.0) (h ∙ cut_later is_blank byte bytes e) in
    ap (filter (λ piece. not (eqb (length piece) 0))) (split_cut is_blank (byte ∷ bytes) ∙ ap (cut_pieces is_blank) (sym h))
    ∙ ap (λ (first : List ℕ). filter (λ piece. not (eqb (length piece) 0)) (first ∷ split_behind is_blank behind)) front_is
    ∙ kept byte rest (split_behind is_blank behind)
    ∙ ap (λ (pieces : List (List ℕ)). (byte ∷ rest) ∷ pieces) (words_split bytes behind)
    ∙ ap (λ (first : List ℕ). first ∷ words_behind behind) (sym front_is)

rest_by : (line rest front : List ℕ) (behind : Option (List ℕ)) → without_front_blanks line ≡ rest → 0 < length rest → (front, behind) ≡ cut_parts is_blank rest → line_words rest ≡ front ∷ words_behind behind
rest_by line [] front behind e some h = absurd (omega arith)
rest_by line (byte ∷ bytes) front behind e some h = words_cut byte bytes front behind (first_stays line byte bytes e) h

pub words_first : (line rest front : List ℕ) (behind : Option (List ℕ)) → rest ≡ without_front_blanks line → 0 < length rest → (front, behind) ≡ cut_parts is_blank rest → line_words line ≡ front ∷ words_behind behind
words_first line rest front behind e some h =
    words_trimmed line ∙ ap line_words (sym e) ∙ rest_by line rest front behind (sym e) some h

none_by : (rest : List ℕ) → length rest ≡ 0 → line_words rest ≡ []
unfolding line_words
none_by [] e = refl
none_by (byte ∷ bytes) e = absurd (omega arith)

pub words_none : (line rest : List ℕ) → rest ≡ without_front_blanks line → length rest ≡ 0 → line_words line ≡ []
words_none line rest e none = words_trimmed line ∙ ap line_words (sym e) ∙ none_by rest none
