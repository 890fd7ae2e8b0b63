-- How the reader's calls come together to a statement and to a line.
use Rattle.std.proofs.Common.{◌≡◌, ℕ, ◌+◌, ◌≤◌, nat_lt, codes, vec_len, Bor, List, [], ◌∷◌, ◌++◌, length, get_or, Bool, true, false, not, cond, ◌&&◌, ◌||◌, ◌==◌, Option, Some, None, Result, Ok, Err, refl, sym, ap, subst, ◌∙◌, arith, map, append-nil}
use Rattle.std.proofs.lemmas.Bool.{not-false}
use Rattle.std.proofs.lemmas.Bool.Decides.{Decides-eqb, nat_tests}
use Rattle.std.proofs.lemmas.List.{length-append, length-map}
use Rattle.std.proofs.lemmas.Slice.Eq.{bytes_eq-Decides}
use Rattle.std.specs.Prelude.{IfOk, IsTrue, is_none, is_some, option_map, option_and_then}
use Rattle.std.specs.List.{slice_split}
use Rattle.std.specs.Option.{option_or, option_map_or}
use Rattle.ce_text.specs.Bytes.{is_line_feed}
use Rattle.rv_model.specs.declared.memory.NoMemory.{NoMemory}
use Rattle.rv_asm.specs.declared.fault.AsmKind.TheVariants as kinds
use Rattle.ce_model.specs.Limits.{greatest_images}
use Rattle.ce_script.specs.declared.grammar.ImageForm.{ImageForm}
use Rattle.ce_script.specs.declared.grammar.Verb.{Verb}
use Rattle.ce_script.specs.declared.grammar.Verb.TheVariants.{Image}
use Rattle.ce_script.specs.declared.reader.line.WordedLine.{WordedLine}
use Rattle.ce_script.specs.declared.reader.rest.Rest.{Rest}
use Rattle.ce_script.specs.declared.reader.so_far.ScriptSoFar.{ScriptSoFar}
use Rattle.ce_script.specs.declared.reader.state.Reader.{Reader}
use Rattle.ce_script.specs.declared.script.NamedImage.{NamedImage}
use Rattle.ce_script.specs.declared.script.ScriptFault.{ScriptFault}
use Rattle.ce_script.specs.declared.script.ScriptKind.{ScriptKind}
use Rattle.ce_script.specs.declared.script.ScriptKind.TheVariants.{BadByte, UnknownWord, WordCount, TooMany, Assembly, Memory}
use Rattle.ce_script.specs.Lines.{Line, lines, numbered_lines, words, has_bad_byte, later_spots}
use Rattle.ce_script.specs.Verbs.{verbs, verb_of, is_image, is_command, form_of, verb_operands, NewImage}
use Rattle.ce_script.specs.Statements.{ScriptStatement, operand, are_only, is_end, begins_image, found_body, statements}
use Rattle.ce_script.specs.Bodies.{located_fault, body_fault}
use Rattle.ce_script.specs.Faults.{first_script_fault, first_some, kind_where, operand_fault, has_unknown_word, has_unknown_form, has_wrong_count, image_fault, statement_fault, first_statement_fault}
use Rattle.ce_script.specs.Sayings.{dimension, images, users, commands}
use Rattle.ce_script.specs.Reading.{ScriptUnless, word_fault, place_fault}
use Rattle.ce_script.specs.ReadLines.{plain_line, statement_of_line, lines_left, is_inside_image_behind, remaining_statements, texts_left, rest_text}
use Rattle.ce_script.specs.Scripts.{IsScript, IsNoMemory}
use Rattle.ce_script.specs.Standing.{blank_script, HasReadFront, names_so_far, AreFew, new_image_fault, HasReadUpTo, with_statement, rest_fault, verb_fault, begin_fault, statement_judgment, statement_with_body, statement_on_line, HasReadPast}
use Rattle.ce_script.specs.ReaderCalls.{HasReadImage, HasReadStatement, HasReadStatements}
use Rattle.ce_script.proofs.BodyFaults.{unless_map}
use Rattle.ce_script.proofs.Following.{has_user, one_further}
use Rattle.ce_script.proofs.Outside.{from_outside}
use Rattle.ce_script.proofs.Spots.{or_none, refused_none}
use Rattle.ce_script.proofs.Stepping.{statement_same}

-- ---- an image's form is there

form_there : (all : List (List ℕ)) → has_unknown_form all ≡ false → length all ≡ 3 → form_of (get_or all 2 []) ≡ None → ⊥
form_there [] known e none = omega arith
form_there (verb ∷ []) known e none = omega arith
form_there (verb ∷ name ∷ []) known e none = omega arith
form_there (verb ∷ name ∷ form ∷ others) known e none = let missing = ap is_none none in cc

pub image_has_form : (here : ScriptStatement) → verb_of (words here.line) ≡ Some Image → word_fault here ≡ None → form_of (operand 2 here) ≡ None → ⊥
unfolding word_fault
image_has_form here e right none =
    let behind = (or_none (kind_where (has_bad_byte here.line) BadByte) (option_or (kind_where (has_unknown_word here) UnknownWord) (kind_where (has_wrong_count here) WordCount)) right).1 in
    let both = or_none (kind_where (has_unknown_word here) UnknownWord) (kind_where (has_wrong_count here) WordCount) behind in
    let all = words here.line in
    let known : has_unknown_form all ≡ false =
    sym (ap (λ (found : Option Verb). is_none found || (option_map_or is_image found false && has_unknown_form all)) e) ∙ refused_none (has_unknown_word here) UnknownWord both.0 in
    let count : not (length all == 3) ≡ false =
    sym (ap (λ (found : Option Verb). not (length all == 1 + length (option_map_or verb_operands found []))) e) ∙ refused_none (has_wrong_count here) WordCount both.1 in
    form_there all known ((Decides-eqb (length all) 3).0 (not-false (length all == 3) count)) none

pub no_image : (verb : Verb) → (verb ≡ Image → ⊥) → is_image verb ≡ false
no_image Image other = absurd (other refl)
no_image verb other = refl

-- ---- a statement on a line

begin_leads : (word : Option ScriptKind) (found : Option Verb) (place rest : Verb → Option ScriptKind) (kind : ScriptKind)
    → option_or word (option_and_then place found) ≡ Some kind → option_or word (option_and_then (λ verb. option_or (place verb) (rest verb)) found) ≡ Some kind
begin_leads None None place rest kind e = absurd cc
begin_leads None (Some verb) place rest kind e = ap (λ one. option_or one (rest verb)) e
begin_leads (Some other) found place rest kind e = e

no_body : (number : ℕ) (found : Option ImageForm) → option_and_then (λ form. option_and_then (body_fault form number) None) found ≡ None
no_body number None = refl
no_body number (Some form) = refl

module _ (so_far : ScriptSoFar) (line : WordedLine) (rest : Rest) where
  abbrev here : ScriptStatement
  here = statement_on_line line rest

  abbrev found : Option Verb
  found = verb_of (words (plain_line line))

  abbrev place : Verb → Option ScriptKind
  place = place_fault (is_some so_far.script.dim) (is_some so_far.user)

  word_same : word_fault here ≡ word_fault (statement_of_line line)
  unfolding word_fault
  word_same = refl

  pub begun_wrong : (kind : ScriptKind) → ScriptUnless kind (begin_fault so_far (statement_of_line line) ≡ Some kind) → ScriptUnless kind (statement_judgment so_far here ≡ Some (located_fault line.number kind))
  begun_wrong kind wrong =
      unless_map kind _ _
      (λ (e : begin_fault so_far (statement_of_line line) ≡ Some kind).
      ap (λ judged. option_or (option_map (located_fault line.number) judged) (image_fault here))
      (begin_leads (word_fault here) found place (λ verb. rest_fault so_far verb here) kind (ap (λ word. option_or word (option_and_then place found)) word_same ∙ e)))
      wrong

  module _ (verb : Verb) (right : word_fault (statement_of_line line) ≡ None) (is : found ≡ Some verb) (placed : place verb ≡ None) where
    pub user_there : IsTrue (is_command verb) → IsTrue (is_some so_far.user)
    user_there command = has_user (is_some so_far.script.dim) (is_some so_far.user) verb command placed

    pub begins_same : begins_image (plain_line line) ≡ is_image verb
    begins_same = ap (λ it. option_map_or is_image it false) is

    -- behind the words and the place
    judged_behind : statement_judgment so_far here ≡ option_or (option_map (located_fault line.number) (rest_fault so_far verb here)) (image_fault here)
    judged_behind =
        ap (λ judged. option_or (option_map (located_fault line.number) judged) (image_fault here))
        (ap (λ word. option_or word (option_and_then (λ it. verb_fault so_far it here) found)) (word_same ∙ right)
        ∙ ap (option_and_then (λ it. verb_fault so_far it here)) is
        ∙ ap (λ one. option_or one (rest_fault so_far verb here)) placed)

    here_is : (image : Bool) → is_image verb ≡ image → here ≡ record { line = plain_line line; body = cond image (found_body (lines_left rest)) None }
    here_is image e = ap (λ (b : Bool). record { line = plain_line line; body = cond b (found_body (lines_left rest)) None }) (begins_same ∙ e)

    -- a statement that is no image
    module _ (other : is_image verb ≡ false) where
      plain_judged : statement_judgment so_far here ≡ option_map (located_fault line.number) (rest_fault so_far verb (statement_of_line line))
      plain_judged =
          judged_behind
          ∙ ap (λ it. option_or (option_map (located_fault line.number) (rest_fault so_far verb it)) (image_fault it)) (here_is false other)
          ∙ ap (λ body. option_or (option_map (located_fault line.number) (rest_fault so_far verb (statement_of_line line))) body) (no_body line.number (form_of (operand 2 (statement_of_line line))))
          ∙ alone (option_map (located_fault line.number) (rest_fault so_far verb (statement_of_line line)))
        where
          alone : (one : Option ScriptFault) → option_or one None ≡ one
          alone None = refl
          alone (Some it) = refl

      pub plain_wrong : (kind : ScriptKind) → ScriptUnless kind (rest_fault so_far verb (statement_of_line line) ≡ Some kind) → ScriptUnless kind (statement_judgment so_far here ≡ Some (located_fault line.number kind))
      plain_wrong kind wrong =
          unless_map kind _ _ (λ (e : rest_fault so_far verb (statement_of_line line) ≡ Some kind). plain_judged ∙ ap (option_map (located_fault line.number)) e) wrong

      pub plain_past : (new : ScriptSoFar) → rest_fault so_far verb (statement_of_line line) ≡ None → new ≡ with_statement so_far verb (statement_of_line line) → HasReadPast so_far new line rest rest
      plain_past new none says = record {
        verb = verb;
        is = is;
        none = plain_judged ∙ ap (option_map (located_fault line.number)) none;
        state = says ∙ ap (with_statement so_far verb) (sym (here_is false other));
        past = ap (λ inside. remaining_statements inside (lines_left rest)) (begins_same ∙ other);
      }

  -- an image
  module _ (right : word_fault (statement_of_line line) ≡ None) (is : found ≡ Some Image) (placed : place Image ≡ None) where
    image_judged : statement_judgment so_far here ≡ option_or (option_map (located_fault line.number) (rest_fault so_far Image (statement_with_body line rest))) (image_fault (statement_with_body line rest))
    image_judged =
        judged_behind Image right is placed
        ∙ ap (λ it. option_or (option_map (located_fault line.number) (rest_fault so_far Image it)) (image_fault it)) (here_is Image right is placed true refl)

    pub image_says : (result : Result (Reader × Rest) ScriptFault) → HasReadImage result so_far line rest
        → IfOk result (λ next. remaining_statements true (lines_left rest) ≡ remaining_statements false (lines_left next.1)) → HasReadStatement result so_far line rest
    image_says (Ok next) says past = record {
      verb = Image;
      is = is;
      none =
          image_judged
          ∙ ap (λ one. option_or (option_map (located_fault line.number) one) (image_fault (statement_with_body line rest))) says.0 ∙ says.1;
      state = says.2 ∙ ap (with_statement so_far Image) (sym (here_is Image right is placed true refl));
      past = ap (λ inside. remaining_statements inside (lines_left rest)) (begins_same Image right is placed) ∙ past;
    }
    image_says (Err fault) says past = unless_map fault.kind _ _ (λ e. image_judged ∙ e) says

-- ---- images stay few

at_most : (most n : ℕ) → nat_lt most n ≡ false → n ≤ most
at_most most n e = grind (arith, nat_tests)

pub few_images : (so_far : ScriptSoFar) (named : NamedImage) → new_image_fault (names_so_far so_far) named.name ≡ None → length (so_far.script.images ++ named ∷ []) ≤ greatest_images
few_images so_far named none =
    let names = names_so_far so_far ++ named.name ∷ [] in
    let over = (or_none (operand_fault (names_so_far so_far) NewImage named.name) (kind_where (nat_lt greatest_images (length names)) TooMany) none).1 in
    let most = at_most greatest_images (length names) (refused_none (nat_lt greatest_images (length names)) TooMany over) in
    omega (
      arith,
      most,
      length-append (names_so_far so_far) (named.name ∷ []),
      length-map so_far.script.images (λ (named : NamedImage). named.name),
      length-append so_far.script.images (named ∷ []),
    )

-- ---- a line

-- a line has as many words as were found
pub words_counted : (line : WordedLine) → map (λ (word : Bor (List ℕ)). word.now) line.words.items ≡ words (plain_line line) → (vec_len line.words == 0) ≡ (length (words (plain_line line)) == 0)
words_counted line split =
    let count : vec_len line.words ≡ length line.words.items = cc (line.words.ok.0) in
    ap (λ n. n == 0) (count ∙ sym (length-map line.words.items (λ (word : Bor (List ℕ)). word.now)) ∙ ap length split)

no_words : (all : List (List ℕ)) → (length all == 0) ≡ true → all ≡ []
no_words [] e = refl
no_words (word ∷ others) e = absurd (let n = (Decides-eqb (length (word ∷ others)) 0).0 e in omega arith)

pub statements_empty : (line : Line) (lines : List Line) → (length (words line) == 0) ≡ true → remaining_statements false (line ∷ lines) ≡ remaining_statements false lines
unfolding remaining_statements verb_of
statements_empty line lines e =
    let others : List (List ℕ) → List ScriptStatement = λ all. remaining_statements (cond (are_only (codes "end") all) false (false || option_map_or is_image (verb_of all) false)) lines in
    ap (λ (all : List (List ℕ)). cond ((length all == 0) || false) (others all) (record { line = line; body = cond (begins_image line) (found_body lines) None } ∷ others all)) (no_words (words line) e)

statements_first : (line : Line) (lines : List Line) → (length (words line) == 0) ≡ false
    → remaining_statements false (line ∷ lines) ≡ record { line = line; body = cond (begins_image line) (found_body lines) None } ∷ remaining_statements (is_inside_image_behind false line) lines
unfolding remaining_statements
statements_first line lines e =
    let others = remaining_statements (is_inside_image_behind false line) lines in
    ap (λ empty. cond (empty || false) others (record { line = line; body = cond (begins_image line) (found_body lines) None } ∷ others)) e

end_is_no_verb : (all : List (List ℕ)) → are_only (codes "end") all ≡ true → verb_of all ≡ None
unfolding verb_of verbs
end_is_no_verb [] e = absurd cc
end_is_no_verb (first ∷ []) e = ap (λ word. verb_of (word ∷ [])) ((bytes_eq-Decides first (codes "end")).0 e)
end_is_no_verb (first ∷ second ∷ others) e = absurd cc

inside_line : (line : Line) (verb : Verb) → verb_of (words line) ≡ Some verb → is_inside_image_behind false line ≡ begins_image line
inside_line line verb is = by (is_end line) refl
  where
    by : (ends : Bool) → is_end line ≡ ends → is_inside_image_behind false line ≡ begins_image line
    by true e = let none = end_is_no_verb (words line) e in absurd cc
    by false e = ap (λ ends. cond ends false (false || begins_image line)) e

pub line_keeps : (old : ScriptSoFar) (line : WordedLine) (rest : Rest) (result : Result (Reader × Rest) ScriptFault) → AreFew old → (length (words (plain_line line)) == 0) ≡ false
    → HasReadStatement result old line rest → (all : List ScriptStatement) → HasReadUpTo all old (remaining_statements false (plain_line line ∷ lines_left rest)) → HasReadStatements all result
line_keeps old line rest (Ok next) few some past all stands =
    let here = statement_on_line line rest in
    let lines = lines_left rest in
    let first = statements_first (plain_line line) lines some ∙ ap (λ inside. here ∷ remaining_statements inside lines) (inside_line (plain_line line) past.verb past.is) in
    let further = one_further all (remaining_statements (begins_image (plain_line line)) lines) here old past.verb past.is (subst (HasReadUpTo all old) first stands) few past.none in
    subst (λ so_far. HasReadUpTo all so_far (remaining_statements false (lines_left next.1))) (sym past.state)
    (subst (HasReadUpTo all (with_statement old past.verb here)) past.past further)
line_keeps old line rest (Err fault) few some wrong all stands =
    let here = statement_on_line line rest in
    let others = remaining_statements (is_inside_image_behind false (plain_line line)) (lines_left rest) in
    let at : HasReadUpTo all old (here ∷ others) = subst (HasReadUpTo all old) (statements_first (plain_line line) (lines_left rest) some) stands in
    unless_map fault.kind _ _
    (λ (e : statement_judgment old here ≡ Some fault).
    at.faults
    ∙ ap (λ one. option_or one (first_some (map statement_fault (later_spots (at.front ++ here ∷ []) others)))) (statement_same at.front others here old at.behind few ∙ e))
    wrong

-- ---- a text

behind_nothing : HasReadFront blank_script []
unfolding dimension images users
behind_nothing = record { dim = refl; machine = refl; has_user = refl; user = tt; images = refl; users = refl }

-- the reader begins
pub begins_reading : (text : List ℕ) (so_far : ScriptSoFar) (rest : Rest) → so_far ≡ blank_script → rest.line_count ≡ 0 → rest_text rest ≡ Some text
    → HasReadUpTo (statements text) so_far (remaining_statements false (lines_left rest))
unfolding commands lines
begins_reading text so_far rest none before left =
    let all : lines_left rest ≡ numbered_lines 1 (slice_split is_line_feed text) =
    ap (λ (n : ℕ). numbered_lines (n + 1) (texts_left (rest_text rest))) before ∙ ap (λ (left : Option (List ℕ)). numbered_lines 1 (texts_left left)) left in
    subst (λ (so_far : ScriptSoFar). HasReadUpTo (statements text) so_far (remaining_statements false (lines_left rest))) (sym none)
    (subst (HasReadUpTo (statements text) blank_script) (from_outside text ∙ ap (remaining_statements false) (sym all))
    (record { front = []; whole = refl; behind = behind_nothing; faults = refl; commands = refl }))

-- nobody is too many
pub few_at_first : AreFew blank_script
few_at_first = record { users = omega arith; images = omega arith }

-- the reader is at the end
pub ends_reading : (text : List ℕ) (so_far : ScriptSoFar) (rest : Rest) → rest_text rest ≡ None → HasReadUpTo (statements text) so_far (remaining_statements false (lines_left rest)) → IsScript text so_far.script
unfolding first_script_fault remaining_statements
ends_reading text so_far rest none stands = by (subst (HasReadUpTo (statements text) so_far) (ap (λ (left : Option (List ℕ)). remaining_statements false (numbered_lines (rest.line_count + 1) (texts_left left))) none) stands)
  where
    by : HasReadUpTo (statements text) so_far [] → IsScript text so_far.script
    by at =
        let all : at.front ≡ statements text = sym (at.whole ∙ append-nil at.front) in
        record {
          no_fault = at.faults;
          dim = at.behind.dim ∙ ap dimension all;
          images = at.behind.images ∙ ap images all;
          users = at.behind.users ∙ ap users all;
          commands = sym (at.commands ∙ append-nil so_far.script.commands);
        }

-- what is known of a fault that is no want of memory
pub is_known : (kind : ScriptKind) (P : Type 0) → ScriptUnless kind P → (IsNoMemory kind → ⊥) → P
is_known (Memory want) P known other = absurd (other tt)
is_known (Assembly (kinds.Memory want)) P known other = absurd known
is_known kind P known other = known

-- the assembler tells nothing of memory
pub is_no_want : (kind : ScriptKind) (P : Type 0) → ScriptUnless kind P → (want : NoMemory) → kind ≡ Assembly (kinds.Memory want) → ⊥
is_no_want (Assembly (kinds.Memory want)) P known other e = known
is_no_want kind P known other e = cc

pub first_is : (text : List ℕ) (fault : ScriptFault) → first_statement_fault (statements text) ≡ Some fault → first_script_fault text ≡ Some fault
unfolding first_script_fault
first_is text fault e = e
