-- The lines of what is left of a text, one further.
use Rattle.std.proofs.Common.{◌≡◌, ℕ, ◌+◌, ◌≤◌, ◌<◌, List, [], ◌∷◌, ◌++◌, length, Bool, true, false, cond, Option, Some, None, Bor, refl, sym, ap, ◌∙◌, arith, append-nil}
use Rattle.std.proofs.lemmas.List.Folds.{find-append}
use Rattle.std.proofs.lemmas.List.Concat.{flat_map-append}
use Rattle.std.specs.Prelude.{find, flat_map, option_map, unwrap_or, is_none, IfSome}
use Rattle.std.specs.Option.{option_or}
use Rattle.std.specs.List.{list_any, slice_split}
use Rattle.ce_text.specs.Bytes.{is_line_feed}
use Rattle.ce_text.specs.Line.{cut_parts, before_comment, lines_text}
use Rattle.ce_text.specs.Words.{line_words}
use Rattle.ce_text.proofs.Splitting.{split_cut, split_behind, cut_pieces}
use Rattle.ce_script.specs.Lines.{Line, numbered_lines, words, has_bad_byte, rest_size}
use Rattle.ce_script.specs.Bodies.{has_bad_word, body_bytes, body_text}
use Rattle.ce_script.specs.ReadLines.{texts_left, with_empty_line}

-- the bytes that are left, if any
abbrev pub bytes_left : Option (Bor (List ℕ)) → Option (List ℕ)
bytes_left rest = option_map (λ bytes. bytes.now) rest

pub left_shorter : (rest : Option (Bor (List ℕ))) (n : ℕ) → IfSome rest (λ bytes. length bytes.now < n) → rest_size (bytes_left rest) ≤ n
left_shorter None n h = omega arith
left_shorter (Some rest) n h = omega arith

same_pieces : (rest : Option (List ℕ)) → split_behind is_line_feed rest ≡ texts_left rest
same_pieces None = refl
same_pieces (Some rest) = refl

abbrev pub line_at : ℕ → List ℕ → Line
line_at n text = record { number = n; text = text }

-- what is left begins with its first line
pub first_line : (n : ℕ) (bytes front : List ℕ) (after : Option (List ℕ)) → (front, after) ≡ cut_parts is_line_feed bytes
    → numbered_lines n (slice_split is_line_feed bytes) ≡ line_at n front ∷ numbered_lines (n + 1) (texts_left after)
first_line n bytes front after e =
    ap (numbered_lines n) (split_cut is_line_feed bytes ∙ ap (cut_pieces is_line_feed) (sym e) ∙ ap (λ rest. front ∷ rest) (same_pieces after))

module _ (n : ℕ) (bytes front : List ℕ) (after : Option (List ℕ)) (parts : (front, after) ≡ cut_parts is_line_feed bytes) where
  pub found_here : (test : Line → Bool) → test (line_at n front) ≡ true → find test (numbered_lines n (slice_split is_line_feed bytes)) ≡ Some (line_at n front)
  found_here test e = ap (find test) (first_line n bytes front after parts) ∙ ap (λ here. cond here (Some (line_at n front)) (find test (numbered_lines (n + 1) (texts_left after)))) e

  pub goes_on : (test : Line → Bool) → test (line_at n front) ≡ false → find test (numbered_lines n (slice_split is_line_feed bytes)) ≡ find test (numbered_lines (n + 1) (texts_left after))
  goes_on test e = ap (find test) (first_line n bytes front after parts) ∙ ap (λ here. cond here (Some (line_at n front)) (find test (numbered_lines (n + 1) (texts_left after)))) e

  pub bytes_on : (read : List ℕ → Option (List ℕ)) → body_bytes read (numbered_lines n (slice_split is_line_feed bytes)) ≡ flat_map (λ word. unwrap_or (read word) []) (words (line_at n front)) ++ body_bytes read (numbered_lines (n + 1) (texts_left after))
  unfolding body_bytes
  bytes_on read = ap (body_bytes read) (first_line n bytes front after parts)

pub no_bytes : (read : List ℕ → Option (List ℕ)) (n : ℕ) → body_bytes read (numbered_lines n []) ≡ []
unfolding body_bytes
no_bytes read n = refl

-- ---- an empty line at the end

pub numbered_append : (n : ℕ) (front back : List (List ℕ)) → numbered_lines n (front ++ back) ≡ numbered_lines n front ++ numbered_lines (n + length front) back
numbered_append n [] back = ap (λ m. numbered_lines m back) (omega arith)
numbered_append n (text ∷ front) back =
    let same : n + 1 + length front ≡ n + length (text ∷ front) = omega arith in
    ap (λ rest. line_at n text ∷ rest) (numbered_append (n + 1) front back ∙ ap (λ m. numbered_lines (n + 1) front ++ numbered_lines m back) same)

find_last : (test : Line → Bool) (lines : List Line) (last : ℕ) → test (line_at last []) ≡ false → find test (with_empty_line lines last) ≡ find test lines
find_last test lines last e =
    find-append test lines (line_at last [] ∷ []) ∙ ap (λ here. option_or (find test lines) (cond here (Some (line_at last [])) None)) e ∙ or_none (find test lines)
  where
    or_none : (one : Option Line) → option_or one None ≡ one
    or_none None = refl
    or_none (Some x) = refl

empty_plain : (last : ℕ) → has_bad_byte (line_at last []) ≡ false
unfolding before_comment cut_parts
empty_plain last = refl

empty_words : (last : ℕ) → words (line_at last []) ≡ []
unfolding line_words before_comment cut_parts
empty_words last = refl

pub shown_bad_byte : (lines : List Line) (last : ℕ) → find has_bad_byte (with_empty_line lines last) ≡ find has_bad_byte lines
shown_bad_byte lines last = find_last has_bad_byte lines last (empty_plain last)

pub shown_bad_word : (read : List ℕ → Option (List ℕ)) (lines : List Line) (last : ℕ) → find (has_bad_word read) (with_empty_line lines last) ≡ find (has_bad_word read) lines
shown_bad_word read lines last = find_last (has_bad_word read) lines last (ap (list_any (λ word. is_none (read word))) (empty_words last))

pub shown_bytes : (read : List ℕ → Option (List ℕ)) (lines : List Line) (last : ℕ) → body_bytes read (with_empty_line lines last) ≡ body_bytes read lines
unfolding body_bytes
shown_bytes read lines last =
    let f : Line → List ℕ = λ line. flat_map (λ word. unwrap_or (read word) []) (words line) in
    flat_map-append f lines (line_at last [] ∷ [])
    ∙ ap (λ none. flat_map f lines ++ (flat_map (λ word. unwrap_or (read word) []) none ++ [])) (empty_words last)
    ∙ append-nil (flat_map f lines)

-- ---- the bytes of lines

pub text_is : (n : ℕ) (texts : List (List ℕ)) → body_text (numbered_lines n texts) ≡ lines_text texts
unfolding body_text
text_is n [] = refl
text_is n (text ∷ texts) = ap (λ rest. (text ++ 10 ∷ []) ++ rest) (text_is (n + 1) texts)
