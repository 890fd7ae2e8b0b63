-- The statements of a text, line by line.
use Rattle.std.proofs.Common.{◌≡◌, ℕ, suc, ◌+◌, ◌-◌, ◌==◌, ◌≤◌, List, [], ◌∷◌, ◌++◌, length, drop, Bool, true, false, not, cond, ◌||◌, Some, None, refl, sym, ap, ◌∙◌, arith}
use Rattle.std.proofs.lemmas.Bool.{or_parts}
use Rattle.std.proofs.lemmas.List.{reverse-append, length-reverse, length-append, drop_all, drop-append-le, take_at}
use Rattle.std.proofs.lemmas.List.Folds.{list_any-append}
use Rattle.std.specs.Prelude.{filter_map, reverse}
use Rattle.std.specs.List.{list_any, cons_option, suffix_len, prefix_len, before_first, position_or_len}
use Rattle.ce_script.specs.Lines.{Line, later_spots, lines, words}
use Rattle.ce_script.specs.Statements.{is_end, begins_image, is_inside_image, found_body, line_statement, standing_statement, statements}
use Rattle.ce_script.specs.ReadLines.{is_inside_image_behind, remaining_statements}

-- ---- inside an image, one line further

last_suffix : {A : Type 0} (test : A → Bool) (before : List A) (one : A) → suffix_len test (before ++ one ∷ []) ≡ cond (test one) (1 + suffix_len test before) 0
last_suffix test before one = ap (prefix_len test) (reverse-append before (one ∷ []))

suffix_short : {A : Type 0} (test : A → Bool) (all : List A) → prefix_len test all ≤ length all
suffix_short test [] = omega arith
suffix_short {A} test (one ∷ others) =
    let more = suffix_short test others in
    elim (test one) as (λ b. cond b (1 + prefix_len test others) 0 ≤ suc (length others)) [ true ↦ omega (arith, more) | false ↦ omega arith ]

or_no : (a : Bool) → a || false ≡ a
or_no true = refl
or_no false = refl

after_by : (before : List Line) (line : Line) (ends : Bool) (n : ℕ) → n ≤ length before
    → list_any begins_image (drop (length (before ++ line ∷ []) - cond (not ends) (1 + n) 0) (before ++ line ∷ []))
    ≡ cond ends false (list_any begins_image (drop (length before - n) before) || begins_image line)
after_by before line true n le = ap (list_any begins_image) (drop_all (length (before ++ line ∷ []) - 0) (before ++ line ∷ []) (omega arith))
after_by before line false n le =
    let count : length (before ++ line ∷ []) - (1 + n) ≡ length before - n = omega (arith, length-append before (line ∷ [])) in
    ap (λ (k : ℕ). list_any begins_image (drop k (before ++ line ∷ []))) count
    ∙ ap (list_any begins_image) (drop-append-le (length before - n) before (line ∷ []) (omega arith))
    ∙ list_any-append begins_image (drop (length before - n) before) (line ∷ [])
    ∙ ap (λ last. list_any begins_image (drop (length before - n) before) || last) (or_no (begins_image line))

inside_more : (before : List Line) (line : Line) → is_inside_image (before ++ line ∷ []) ≡ is_inside_image_behind (is_inside_image before) line
inside_more before line =
    let goes : Line → Bool = λ one. not (is_end one) in
    ap (λ (n : ℕ). list_any begins_image (drop (length (before ++ line ∷ []) - n) (before ++ line ∷ []))) (last_suffix goes before line)
    ∙ after_by before line (is_end line) (suffix_len goes before) (omega (arith, suffix_short goes (reverse before), length-reverse before))

-- the statements of lines that stand behind others
statements_behind : (before behind : List Line) → filter_map standing_statement (later_spots before behind) ≡ remaining_statements (is_inside_image before) behind
unfolding remaining_statements standing_statement
statements_behind before [] = refl
statements_behind before (line ∷ behind) =
    let others = statements_behind (before ++ line ∷ []) behind ∙ ap (λ inside. remaining_statements inside behind) (inside_more before line) in
    elim ((length (words line) == 0) || is_inside_image before) as (λ test. cons_option (cond test None (Some (line_statement (record { before = before; here = line; behind = behind })))) (filter_map standing_statement (later_spots (before ++ line ∷ []) behind)) ≡ cond test (remaining_statements (is_inside_image_behind (is_inside_image before) line) behind) (record { line = line; body = cond (begins_image line) (found_body behind) None } ∷ remaining_statements (is_inside_image_behind (is_inside_image before) line) behind)) [
      | true ↦ others
      | false ↦ ap (λ rest. record { line = line; body = cond (begins_image line) (found_body behind) None } ∷ rest) others
    ]

pub from_outside : (text : List ℕ) → statements text ≡ remaining_statements false (lines text)
unfolding statements
from_outside text = statements_behind [] (lines text)

-- ---- behind a body

inside_goes : (line : Line) (behind : List Line) → remaining_statements true (line ∷ behind) ≡ remaining_statements (is_inside_image_behind true line) behind
unfolding remaining_statements
inside_goes line behind =
    elim (length (words line) == 0) as (λ empty. cond (empty || true) (remaining_statements (is_inside_image_behind true line) behind) (record { line = line; body = cond (begins_image line) (found_body behind) None } ∷ remaining_statements (is_inside_image_behind true line) behind) ≡ remaining_statements (is_inside_image_behind true line) behind) [
      | true ↦ refl
      | false ↦ refl
    ]

-- the lines of a body and its end say nothing
pub past_body : (body behind : List Line) (end : Line) → list_any is_end body ≡ false → is_end end ≡ true → remaining_statements true (body ++ end ∷ behind) ≡ remaining_statements false behind
past_body [] behind end none e =
    inside_goes end behind ∙ ap (λ ends. remaining_statements (cond ends false (true || begins_image end)) behind) e
past_body (line ∷ body) behind end none e =
    let both = or_parts (is_end line) (list_any is_end body) none in
    inside_goes line (body ++ end ∷ behind)
    ∙ ap (λ ends. remaining_statements (cond ends false (true || begins_image line)) (body ++ end ∷ behind)) both.0
    ∙ past_body body behind end both.1 e

first_end : (body behind : List Line) (end : Line) → list_any is_end body ≡ false → is_end end ≡ true → position_or_len is_end (body ++ end ∷ behind) ≡ length body
first_end [] behind end none e = ap (λ ends. cond (not ends) (1 + position_or_len is_end behind) 0) e
first_end (line ∷ body) behind end none e =
    let both = or_parts (is_end line) (list_any is_end body) none in
    let more = first_end body behind end both.1 e in
    ap (λ ends. cond (not ends) (1 + position_or_len is_end (body ++ end ∷ behind)) 0) both.0 ∙ omega (arith, more)

some_end : (body behind : List Line) (end : Line) → list_any is_end body ≡ false → is_end end ≡ true → list_any is_end (body ++ end ∷ behind) ≡ true
some_end body behind end none e =
    list_any-append is_end body (end ∷ behind) ∙ ap (λ found. found || (is_end end || list_any is_end behind)) none ∙ ap (λ ends. ends || list_any is_end behind) e

-- the body of an image, where its lines and its end are known
pub body_there : (body behind : List Line) (end : Line) → list_any is_end body ≡ false → is_end end ≡ true → found_body (body ++ end ∷ behind) ≡ Some body
unfolding found_body
body_there body behind end none e =
    ap (λ found. cond found (Some (before_first is_end (body ++ end ∷ behind))) None) (some_end body behind end none e)
    ∙ ap Some (take_at body (end ∷ behind) (position_or_len is_end (body ++ end ∷ behind)) (sym (first_end body behind end none e)))

pub body_missing : (behind : List Line) → list_any is_end behind ≡ false → found_body behind ≡ None
unfolding found_body
body_missing behind none = ap (λ found. cond found (Some (before_first is_end behind)) None) none
