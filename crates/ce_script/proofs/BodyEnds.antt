-- The body of an image, up to its end.
use Rattle.std.proofs.Common.{◌≡◌, ℕ, ◌+◌, ◌-◌, ◌≤◌, ◌<◌, List, [], ◌∷◌, ◌++◌, length, take, get_or, nat_lt, Bool, true, false, cond, ◌||◌, Option, Some, None, Bor, refl, sym, ap, subst, ◌∙◌, arith, append_assoc}
use Rattle.std.proofs.lemmas.Bool.{ltb-true}
use Rattle.std.proofs.lemmas.Bool.Decides.{nat_tests}
use Rattle.std.proofs.lemmas.List.{length-append, take_at, append-nil, append_cancel_right}
use Rattle.std.proofs.lemmas.List.Sums.{split_at_first, passes_at_first}
use Rattle.ce_text.proofs.Splitting.{split_cut, cut_pieces}
use Rattle.std.proofs.lemmas.List.Folds.{list_any-append}
use Rattle.std.proofs.lemmas.List.Concat.{flat_map-append}
use Rattle.std.specs.Prelude.{option_map, IfSome}
use Rattle.std.specs.List.{list_any, slice_split, onto_first, position_or_len, before_first, after_first, AllByRecursion}
use Rattle.ce_text.specs.Bytes.{is_line_feed}
use Rattle.ce_text.specs.Line.{cut_parts, lines_text}
use Rattle.ce_script.specs.declared.reader.rest.Rest.{Rest}
use Rattle.ce_script.specs.declared.reader.rest.Body.{Body}
use Rattle.ce_script.specs.Lines.{Line, numbered_lines, rest_size}
use Rattle.ce_script.specs.Statements.{is_end, found_body}
use Rattle.ce_script.specs.ReadLines.{texts_left, rest_text, lines_left, reach_of, IsFirstLine, IsBodyIn, remaining_statements}
use Rattle.ce_script.proofs.BodyLines.{left_shorter, line_at, text_is, first_line, numbered_append, bytes_left}
use Rattle.ce_script.proofs.Outside.{past_body, body_there, body_missing}

-- ---- pieces

not_none : {A : Type 0} (test : A → Bool) (all : List A) → (first : List A) × (others : List (List A)) × (slice_split test all ≡ first ∷ others)
not_none test [] = ([], [], refl)
not_none {A} test (one ∷ all) =
    let more = not_none test all in
    elim (test one) as (λ b. (first : List A) × (others : List (List A)) × (cond b ([] ∷ slice_split test all) (onto_first one (slice_split test all)) ≡ first ∷ others)) [
      | true ↦ ([], slice_split test all, refl)
      | false ↦ (one ∷ more.0, more.1, ap (onto_first one) more.2)
    ]

onto_some : {A : Type 0} (one : A) (pieces more : List (List A)) (first : List A) (others : List (List A)) → pieces ≡ first ∷ others → onto_first one (pieces ++ more) ≡ onto_first one pieces ++ more
onto_some one pieces more first others e = ap (λ all. onto_first one (all ++ more)) e ∙ sym (ap (λ all. onto_first one all ++ more) e)

split_apart : (front behind : List ℕ) → slice_split is_line_feed (front ++ 10 ∷ behind) ≡ slice_split is_line_feed front ++ slice_split is_line_feed behind
split_apart [] behind = refl
split_apart (byte ∷ front) behind =
    let more = split_apart front behind in
    let some = not_none is_line_feed front in
    elim (is_line_feed byte) as (λ b. cond b ([] ∷ slice_split is_line_feed (front ++ 10 ∷ behind)) (onto_first byte (slice_split is_line_feed (front ++ 10 ∷ behind)))
    ≡ cond b ([] ∷ slice_split is_line_feed front) (onto_first byte (slice_split is_line_feed front)) ++ slice_split is_line_feed behind) [
      | true ↦ ap (λ rest. [] ∷ rest) more
      | false ↦ ap (onto_first byte) more ∙ onto_some byte (slice_split is_line_feed front) (slice_split is_line_feed behind) some.0 some.1 some.2
    ]

-- a text without a line feed is one piece
abbrev pub IsPiece : List ℕ → Type 0
IsPiece text = slice_split is_line_feed text ≡ text ∷ []

pub split_joined : (texts : List (List ℕ)) → AllByRecursion IsPiece texts → slice_split is_line_feed (lines_text texts) ≡ texts ++ [] ∷ []
split_joined [] each = refl
split_joined (text ∷ texts) each =
    ap (slice_split is_line_feed) (append_assoc text (10 ∷ []) (lines_text texts))
    ∙ split_apart text (lines_text texts)
    ∙ ap (λ pieces. pieces ++ slice_split is_line_feed (lines_text texts)) each.0
    ∙ ap (λ rest. text ∷ rest) (split_joined texts each.1)

same_byte : (byte : ℕ) → is_line_feed byte ≡ true → byte ≡ 10
same_byte byte e = grind (arith, nat_tests)

parted : (front behind bytes : List ℕ) (within : Bool) → nat_lt (position_or_len is_line_feed bytes) (length bytes) ≡ within
    → front ≡ before_first is_line_feed bytes → Some behind ≡ cond within (Some (after_first is_line_feed bytes)) None → bytes ≡ front ++ 10 ∷ behind
parted front behind bytes true lt same found =
    let within : position_or_len is_line_feed bytes < length bytes = ltb-true _ _ lt in
    let after : behind ≡ after_first is_line_feed bytes = cc in
    let feed : get_or bytes (position_or_len is_line_feed bytes) 0 ≡ 10 = same_byte _ (passes_at_first is_line_feed bytes 0 within) in
    split_at_first is_line_feed bytes 0 within
    ∙ ap (λ (byte : ℕ). before_first is_line_feed bytes ++ (byte ∷ after_first is_line_feed bytes)) feed
    ∙ ap (λ (text : List ℕ). text ++ (10 ∷ after_first is_line_feed bytes)) (sym same)
    ∙ ap (λ (text : List ℕ). front ++ (10 ∷ text)) (sym after)
parted front behind bytes false lt same found = absurd cc

cut_bytes : (front behind bytes : List ℕ) → (front, Some behind) ≡ cut_parts is_line_feed bytes → bytes ≡ front ++ 10 ∷ behind
unfolding cut_parts
cut_bytes front behind bytes e = parted front behind bytes (nat_lt (position_or_len is_line_feed bytes) (length bytes)) refl
    (ap (λ (parts : List ℕ × Option (List ℕ)). parts.0) e) (ap (λ (parts : List ℕ × Option (List ℕ)). parts.1) e)

cut_piece : (front behind bytes : List ℕ) → (front, Some behind) ≡ cut_parts is_line_feed bytes → IsPiece front
cut_piece front behind bytes e =
    append_cancel_right (slice_split is_line_feed front) (front ∷ []) (slice_split is_line_feed behind)
    (sym (split_apart front behind) ∙ ap (slice_split is_line_feed) (sym (cut_bytes front behind bytes e))
    ∙ split_cut is_line_feed bytes ∙ ap (cut_pieces is_line_feed) (sym e))

-- ---- the search for the end

-- what was passed, and what is left of it all
pub record IsAt (done : List (List ℕ)) (all bytes : List ℕ) : Type 0 where
  pub joins : all ≡ lines_text done ++ bytes
  pub each : AllByRecursion IsPiece done

-- what was passed before bytes that are left
pub is_at : (done : List (List ℕ)) (all : List ℕ) (bytes_left : Option (Bor (List ℕ))) (bytes : List ℕ) → option_map (λ b. b.now) bytes_left ≡ Some bytes
    → IfSome bytes_left (λ bytes. IsAt done all bytes.now) → IsAt done all bytes
is_at done all None bytes e at = absurd cc
is_at done all (Some it) bytes e at = let same : it.now ≡ bytes = cc in subst (IsAt done all) same at

-- the search for the end of a body, at what is left
pub record IsUpTo (rest : Rest) (all : List ℕ) (here : Rest) : Type 0 where
  pub done : List (List ℕ)
  pub lines : lines_left rest ≡ numbered_lines (rest.line_count + 1) done ++ lines_left here
  pub going : list_any is_end (numbered_lines (rest.line_count + 1) done) ≡ false
  pub bytes : IfSome here.text (λ bytes. IsAt done all bytes.now)
  pub before : here.line_count ≡ rest.line_count + length done
  pub reach : reach_of here ≤ reach_of rest

-- ---- one line further

joined_more : (texts : List (List ℕ)) (text : List ℕ) → lines_text (texts ++ text ∷ []) ≡ lines_text texts ++ (text ++ 10 ∷ [])
joined_more texts text = flat_map-append (λ (it : List ℕ). it ++ 10 ∷ []) texts (text ∷ []) ∙ ap (λ (last : List ℕ). lines_text texts ++ last) (append-nil (text ++ 10 ∷ []))

each_more : (texts : List (List ℕ)) (text : List ℕ) → AllByRecursion IsPiece texts → IsPiece text → AllByRecursion IsPiece (texts ++ text ∷ [])
each_more [] text each is = (is, tt)
each_more (one ∷ texts) text each is = (each.0, each_more texts text each.1 is)

pub reach_shorter : (here : Rest) (bytes : List ℕ) (behind : Option (Bor (List ℕ))) → rest_text here ≡ Some bytes → IfSome behind (λ behind. length behind.now < length bytes)
    → here.line_count + 1 + rest_size (bytes_left behind) ≤ reach_of here
reach_shorter here bytes behind e shorter = omega (arith, ap rest_size e, left_shorter behind (length bytes) shorter)

-- the lines that are left begin with the next one
pub next_line : (here : Rest) (front : List ℕ) (next : Rest) → IsFirstLine here front next → lines_left here ≡ line_at next.line_count front ∷ lines_left next
next_line here front next step =
    ap (λ (bytes_left : Option (List ℕ)). numbered_lines (here.line_count + 1) (texts_left bytes_left)) step.is
    ∙ first_line (here.line_count + 1) step.bytes front (rest_text next) step.parts
    ∙ ap (λ (n : ℕ). line_at n front ∷ numbered_lines (n + 1) (texts_left (rest_text next))) (sym step.before)

module _ (rest here next : Rest) (all front : List ℕ) (up : IsUpTo rest all here) (step : IsFirstLine here front next) where
  abbrev line : Line
  line = line_at next.line_count front

  further : reach_of next ≤ reach_of here
  further = omega (arith, reach_shorter here step.bytes next.text step.is step.shorter, step.before)

  pub all_lines : lines_left rest ≡ numbered_lines (rest.line_count + 1) up.done ++ line ∷ lines_left next
  all_lines = up.lines ∙ ap (λ lines. numbered_lines (rest.line_count + 1) up.done ++ lines) (next_line here front next step)

  -- the line is the end
  pub body_found : (body : Body) → body.line ≡ rest.line_count → is_end line ≡ true → body.text.now ≡ lines_text up.done → AllByRecursion IsPiece up.done → IsBodyIn rest body next
  body_found body at ends text each =
      let lines = numbered_lines (rest.line_count + 1) up.done in
      record {
        lines = lines;
        here = ap found_body all_lines ∙ body_there lines (lines_left next) line up.going ends;
        is = record {
          text = text_is (rest.line_count + 1) up.done ∙ sym text;
          last = rest.line_count + 1 + length up.done;
          shown =
              ap (λ (n : ℕ). numbered_lines (n + 1) (slice_split is_line_feed body.text.now)) at
              ∙ ap (λ (bytes : List ℕ). numbered_lines (rest.line_count + 1) (slice_split is_line_feed bytes)) text
              ∙ ap (numbered_lines (rest.line_count + 1)) (split_joined up.done each)
              ∙ numbered_append (rest.line_count + 1) up.done ([] ∷ []);
        };
        at = at;
        past = ap (remaining_statements true) all_lines ∙ past_body lines (lines_left next) line up.going ends;
        later = record { lines = omega (arith, up.before, step.before); reach = omega (arith, further, up.reach) };
      }

  more_lines : numbered_lines (rest.line_count + 1) (up.done ++ front ∷ []) ≡ numbered_lines (rest.line_count + 1) up.done ++ line ∷ []
  more_lines =
      let same : rest.line_count + 1 + length up.done ≡ next.line_count = omega (arith, up.before, step.before) in
      numbered_append (rest.line_count + 1) up.done (front ∷ []) ∙ ap (λ (n : ℕ). numbered_lines (rest.line_count + 1) up.done ++ line_at n front ∷ []) same

  more_bytes : (bytes_left : Option (Bor (List ℕ))) → next.text ≡ bytes_left → IfSome here.text (λ bytes. IsAt up.done all bytes.now) → IfSome bytes_left (λ behind. IsAt (up.done ++ front ∷ []) all behind.now)
  more_bytes None e at = tt
  more_bytes (Some behind) e at =
      let behind_is : (front, Some behind.now) ≡ cut_parts is_line_feed step.bytes = ap (λ (it : Option (Bor (List ℕ))). (front, option_map (λ b. b.now) it)) (sym e) ∙ step.parts in
      let here_at = is_at up.done all here.text step.bytes step.is at in
      record {
        joins =
            here_at.joins
            ∙ ap (λ (bytes_left : List ℕ). lines_text up.done ++ bytes_left) (cut_bytes front behind.now step.bytes behind_is ∙ sym (append_assoc front (10 ∷ []) behind.now))
            ∙ sym (append_assoc (lines_text up.done) (front ++ 10 ∷ []) behind.now)
            ∙ ap (λ (text : List ℕ). text ++ behind.now) (sym (joined_more up.done front));
        each = each_more up.done front here_at.each (cut_piece front behind.now step.bytes behind_is);
      }

  -- the line is another
  pub body_goes_on : is_end line ≡ false → IsUpTo rest all next
  body_goes_on other =
      record {
        done = up.done ++ front ∷ [];
        lines = all_lines ∙ sym (append_assoc (numbered_lines (rest.line_count + 1) up.done) (line ∷ []) (lines_left next)) ∙ ap (λ lines. lines ++ lines_left next) (sym more_lines);
        going =
            ap (list_any is_end) more_lines ∙ list_any-append is_end (numbered_lines (rest.line_count + 1) up.done) (line ∷ [])
            ∙ ap (λ found. found || (is_end line || false)) up.going ∙ ap (λ ends. ends || false) other;
        bytes = more_bytes next.text refl up.bytes;
        before = step.before ∙ omega (arith, up.before, length-append up.done (front ∷ []));
        reach = omega (arith, further, up.reach);
      }

-- the search begins
pub begins : (rest : Rest) (all : List ℕ) → IfSome rest.text (λ bytes. all ≡ bytes.now) → IsUpTo rest all rest
begins rest all e = record {
  done = [];
  lines = refl;
  going = refl;
  bytes = at rest.text e;
  before = omega arith;
  reach = omega arith;
}
  where
    at : (bytes_left : Option (Bor (List ℕ))) → IfSome bytes_left (λ bytes. all ≡ bytes.now) → IfSome bytes_left (λ bytes. IsAt [] all bytes.now)
    at None e = tt
    at (Some it) e = record { joins = e; each = tt }

-- nothing is left, and no end was found
pub body_ended : (rest here : Rest) (all : List ℕ) → IsUpTo rest all here → rest_text here ≡ None → found_body (lines_left rest) ≡ None
body_ended rest here all up none =
    let lines = numbered_lines (rest.line_count + 1) up.done in
    let empty : lines_left here ≡ [] = ap (λ (bytes_left : Option (List ℕ)). numbered_lines (here.line_count + 1) (texts_left bytes_left)) none in
    let all_lines : lines_left rest ≡ lines = up.lines ∙ ap (λ rest. lines ++ rest) empty ∙ append-nil lines in
    body_missing (lines_left rest) (ap (list_any is_end) all_lines ∙ up.going)

pub nothing_left : (rest : Rest) → rest_text rest ≡ None → found_body (lines_left rest) ≡ None
nothing_left rest none = body_missing (lines_left rest) (ap (λ (bytes_left : Option (List ℕ)). list_any is_end (numbered_lines (rest.line_count + 1) (texts_left bytes_left))) none)

-- what stands before what is left
pub taken : (all front bytes : List ℕ) → all ≡ front ++ bytes → take (length all - length bytes) all ≡ front
taken all front bytes e =
    let count : length front ≡ length all - length bytes = omega (arith, ap length e, length-append front bytes) in
    ap (take (length all - length bytes)) e ∙ take_at front bytes (length all - length bytes) count
