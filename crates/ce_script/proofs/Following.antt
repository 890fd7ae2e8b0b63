-- The reader stands one statement further.
use Rattle.std.proofs.Common.{◌≡◌, ℕ, suc, ◌+◌, ◌<◌, List, [], ◌∷◌, ◌++◌, length, Bool, true, false, not, cond, ◌&&◌, ◌||◌, Option, Some, None, refl, sym, ap, ◌∙◌, append-nil, append_assoc, arith, nat_lt, map}
use Rattle.std.proofs.lemmas.Bool.{lt-ltb, not-false}
use Rattle.std.proofs.lemmas.List.{length-append}
use Rattle.std.specs.Prelude.{IfSome, is_some, filter_map, option_map, option_and_then, unwrap_or, bytes_eq}
use Rattle.std.specs.Option.{option_or}
use Rattle.std.specs.List.{list_any, cons_option, position_or_len}
use Rattle.ce_host.specs.declared.command.Command.{Command}
use Rattle.ce_host.specs.declared.command.Command.TheVariants as command
use Rattle.ce_script.specs.declared.grammar.Verb.{Verb}
use Rattle.ce_script.specs.declared.grammar.Verb.TheVariants.{Machine, Image, User, Getcube, Peek, Freecube, Spawn, Kill, Send, Run, Recv, Dump, Trace}
use Rattle.ce_script.specs.declared.reader.so_far.ScriptSoFar.{ScriptSoFar}
use Rattle.ce_script.specs.declared.script.ScriptKind.{ScriptKind}
use Rattle.ce_script.specs.declared.script.ScriptKind.TheVariants.{BadName, UnknownImage, NoMachine, SecondMachine, NoUser}
use Rattle.ce_script.specs.Lines.{Spot, later_spots, words}
use Rattle.ce_script.specs.Names.{is_name}
use Rattle.ce_script.specs.Verbs.{verb_of, is_machine, is_image, is_user, is_command}
use Rattle.ce_script.specs.Statements.{ScriptStatement, operand, has_verb_kind}
use Rattle.ce_script.specs.Bodies.{located_fault}
use Rattle.ce_script.specs.Sayings.{statements_of_kind, stated_names, without_repeats, name_number, operand_place, image_names, users, last_user, command_of_verb, command_of_statement, numbered_command}
use Rattle.ce_script.specs.Faults.{kind_where, is_one_name_of, first_some, statement_fault, image_fault}
use Rattle.ce_script.specs.Reading.{with_user_name, word_fault, place_fault, operands_judgment}
use Rattle.ce_script.specs.Standing.{names_so_far, AreFew, with_statement, with_command, rest_fault, verb_fault, line_judgment, statement_judgment, HasReadFront, HasReadUpTo}
use Rattle.ce_script.proofs.Spots.{or_none, map_none, refused_none}
use Rattle.ce_script.proofs.Judged.{names_append}
use Rattle.ce_script.proofs.Members.{among_distinct}
use Rattle.ce_script.proofs.Users.{distinct_behind_one}
use Rattle.ce_script.proofs.WithinLimits.{last_user_among, images_append}
use Rattle.ce_script.proofs.Stepping.{known_names, statement_same}
use Rattle.ce_script.proofs.Learning.{behind_command, behind_machine, behind_image, behind_user}

-- ---- numbers of names stay

place_front : (test : List ℕ → Bool) (names more : List (List ℕ)) → list_any test names ≡ true → position_or_len test (names ++ more) ≡ position_or_len test names
place_front test [] more e = absurd cc
place_front test (name ∷ names) more e =
    elim (test name) as (λ here. here || list_any test names ≡ true → cond (not here) (1 + position_or_len test (names ++ more)) 0 ≡ cond (not here) (1 + position_or_len test names) 0) [
      | true ↦ λ _. refl
      | false ↦ λ later. ap (λ n. 1 + n) (place_front test names more later)
    ] e

place_below : (test : List ℕ → Bool) (names : List (List ℕ)) → list_any test names ≡ true → position_or_len test names < length names
place_below test [] e = absurd cc
place_below test (name ∷ names) e =
    elim (test name) as (λ here. here || list_any test names ≡ true → cond (not here) (1 + position_or_len test names) 0 < suc (length names)) [
      | true ↦ λ _. omega arith
      | false ↦ λ later. let below = place_below test names later in omega (arith, below)
    ] e

number_front : (names more : List (List ℕ)) (name : List ℕ) → is_one_name_of names name ≡ true → name_number name (names ++ more) ≡ name_number name names
number_front names more name e =
    let n = position_or_len (bytes_eq name) names in
    let below = place_below (bytes_eq name) names e in
    let short : nat_lt n (length names) ≡ true = lt-ltb n (length names) below in
    let long : nat_lt n (length (names ++ more)) ≡ true = lt-ltb n (length (names ++ more)) (omega (arith, below, length-append names more)) in
    ap (λ (p : ℕ). unwrap_or (cond (nat_lt p (length (names ++ more))) (Some p) None) 0) (place_front (bytes_eq name) names more e)
    ∙ ap (λ (b : Bool). unwrap_or (cond b (Some n) None) 0) (long ∙ sym short)

with_front : (names : List (List ℕ)) (name : List ℕ) → (extra : List (List ℕ)) × (with_user_name names name ≡ names ++ extra)
with_front names name =
    elim (is_one_name_of names name) as (λ b. (extra : List (List ℕ)) × (cond b names (names ++ name ∷ []) ≡ names ++ extra)) [
      | true ↦ ([], sym (append-nil names))
      | false ↦ (name ∷ [], refl)
    ]

distinct_front : (names more : List (List ℕ)) → (extra : List (List ℕ)) × (without_repeats (names ++ more) ≡ without_repeats names ++ extra)
distinct_front names [] = ([], ap without_repeats (append-nil names) ∙ sym (append-nil (without_repeats names)))
distinct_front names (name ∷ more) =
    let later = distinct_front (names ++ name ∷ []) more in
    let one = with_front (without_repeats names) name in (
      one.0 ++ later.0,
      ap without_repeats (sym (append_assoc names (name ∷ []) more)) ∙ later.1
          ∙ ap (λ known. known ++ later.0) (distinct_behind_one names name ∙ one.1)
          ∙ append_assoc (without_repeats names) one.0 later.0,
    )

-- the number of the user who speaks
user_number : (front more : List ScriptStatement) → list_any (has_verb_kind is_user) front ≡ true → name_number (last_user front) (users (front ++ more)) ≡ name_number (last_user front) (users front)
unfolding users
user_number front more e =
    let names = stated_names (statements_of_kind is_user front) in
    let later = distinct_front names (stated_names (statements_of_kind is_user more)) in
    ap (λ all. name_number (last_user front) (without_repeats all)) (names_append is_user front more)
    ∙ ap (name_number (last_user front)) later.1
    ∙ number_front (without_repeats names) later.0 (last_user front) (among_distinct names (last_user front) (last_user_among front e))

-- ---- commands

no_operand : (names : List (List ℕ)) (name : List ℕ) (rest : Option ScriptKind)
    → option_or (option_or (kind_where (not (is_name name)) BadName) (kind_where (not (is_one_name_of names name)) UnknownImage)) rest ≡ None → is_one_name_of names name ≡ true
no_operand names name rest e =
    not-false (is_one_name_of names name)
    (refused_none (not (is_one_name_of names name)) UnknownImage (or_none (kind_where (not (is_name name)) BadName) (kind_where (not (is_one_name_of names name)) UnknownImage) (or_none _ rest e).0).1)

command_same : (verb : Verb) (names more : List (List ℕ)) (here : ScriptStatement) → is_command verb ≡ true → operands_judgment names verb here ≡ None → command_of_verb verb (names ++ more) here ≡ command_of_verb verb names here
unfolding operands_judgment
command_same Machine names more here c e = refl
command_same Image names more here c e = refl
command_same User names more here c e = refl
command_same Getcube names more here c e = refl
command_same Peek names more here c e = refl
command_same Freecube names more here c e = refl
command_same Spawn names more here c e =
    let among = no_operand names (operand 1 here) _ e in
    ap (λ (n : ℕ). Some (command.Spawn n (operand_place 2 here))) (number_front names more (operand 1 here) among)
command_same Kill names more here c e = refl
command_same Send names more here c e = refl
command_same Run names more here c e = refl
command_same Recv names more here c e = refl
command_same Dump names more here c e = refl
command_same Trace names more here c e = refl

speaker : (user : Option ℕ) (number : ℕ) → is_some user ≡ true → IfSome user (λ n. n ≡ number) → unwrap_or user 0 ≡ number
speaker None number e h = absurd cc
speaker (Some n) number e h = h

-- the command of a statement among all is the one that the reader adds
command_added : (so_far : ScriptSoFar) (front rest : List ScriptStatement) (here : ScriptStatement) (verb : Verb) → HasReadFront so_far front → verb_of (words here.line) ≡ Some verb
    → is_some so_far.user ≡ true → is_command verb ≡ true → operands_judgment (names_so_far so_far) verb here ≡ None
    → numbered_command (front ++ here ∷ rest) (record { before = front; here = here; behind = rest }) ≡ option_map (λ it. (unwrap_or so_far.user 0, it)) (command_of_verb verb (names_so_far so_far) here)
unfolding command_of_statement
command_added so_far front rest here verb is e user command none =
    let all = front ++ here ∷ rest in
    let number = user_number front (here ∷ rest) (sym is.has_user ∙ user) ∙ sym (speaker so_far.user (name_number (last_user front) (users front)) user is.user) in
    let known = known_names so_far front is in
    ap (λ (found : Option Verb). option_map (λ (it : Command). (name_number (last_user front) (users all), it)) (option_and_then (λ v. command_of_verb v (image_names all) here) found)) e
    ∙ ap (λ (names : List (List ℕ)). option_map (λ (it : Command). (name_number (last_user front) (users all), it)) (command_of_verb verb names here))
    (images_append front (here ∷ rest) ∙ ap (λ (names : List (List ℕ)). names ++ image_names (here ∷ rest)) (sym known))
    ∙ ap (option_map (λ (it : Command). (name_number (last_user front) (users all), it))) (command_same verb (names_so_far so_far) (image_names (here ∷ rest)) here command none)
    ∙ ap (λ (n : ℕ). option_map (λ (it : Command). (n, it)) (command_of_verb verb (names_so_far so_far) here)) number

no_command : (front rest : List ScriptStatement) (here : ScriptStatement) (verb : Verb) → verb_of (words here.line) ≡ Some verb → ((names : List (List ℕ)) → command_of_verb verb names here ≡ None)
    → numbered_command (front ++ here ∷ rest) (record { before = front; here = here; behind = rest }) ≡ None
unfolding command_of_statement
no_command front rest here verb e none =
    let all = front ++ here ∷ rest in
    ap (λ (found : Option Verb). option_map (λ (it : Command). (name_number (last_user front) (users all), it)) (option_and_then (λ v. command_of_verb v (image_names all) here) found)) e
    ∙ ap (option_map (λ (it : Command). (name_number (last_user front) (users all), it))) (none (image_names all))

-- ---- one statement further

-- what is known of a statement without a fault
pub record IsFree (so_far : ScriptSoFar) (verb : Verb) (here : ScriptStatement) : Type 0 where
  pub place : place_fault (is_some so_far.script.dim) (is_some so_far.user) verb ≡ None
  pub rest : rest_fault so_far verb here ≡ None

pub free : (so_far : ScriptSoFar) (verb : Verb) (here : ScriptStatement) → verb_of (words here.line) ≡ Some verb → statement_judgment so_far here ≡ None → IsFree so_far verb here
free so_far verb here e none =
    let line = map_none (located_fault here.line.number) (line_judgment so_far here) (or_none (option_map (located_fault here.line.number) (line_judgment so_far here)) (image_fault here) none).0 in
    let behind = (or_none (word_fault here) (option_and_then (λ it. verb_fault so_far it here) (verb_of (words here.line))) line).1 in
    let judged : verb_fault so_far verb here ≡ None = sym (ap (λ (found : Option Verb). option_and_then (λ it. verb_fault so_far it here) found) e) ∙ behind in
    let both = or_none (place_fault (is_some so_far.script.dim) (is_some so_far.user) verb) (rest_fault so_far verb here) judged in
    record { place = both.0; rest = both.1 }

first_machine : (machine user : Bool) → place_fault machine user Machine ≡ None → machine ≡ false
unfolding place_fault
first_machine true user e = absurd cc
first_machine false user e = refl

pub has_user : (machine user : Bool) (verb : Verb) → is_command verb ≡ true → place_fault machine user verb ≡ None → user ≡ true
unfolding place_fault
has_user machine user verb command e =
    let one = kind_where (not (is_machine verb) && not machine) NoMachine in
    let two = kind_where (is_machine verb && machine) SecondMachine in
    let last = (or_none two (kind_where (is_command verb && not user) NoUser) (or_none one _ e).1).1 in
    not-false user (sym (ap (λ b. b && not user) command) ∙ refused_none (is_command verb && not user) NoUser last)

module _ (all rest : List ScriptStatement) (here : ScriptStatement) (so_far : ScriptSoFar) (verb : Verb) (is : verb_of (words here.line) ≡ Some verb) (st : HasReadUpTo all so_far (here ∷ rest)) (few : AreFew so_far)
    (none : statement_judgment so_far here ≡ None) where
  abbrev spot : Spot ScriptStatement
  spot = record { before = st.front; here = here; behind = rest }

  steps : (next : ScriptSoFar) → HasReadFront next (st.front ++ here ∷ []) → so_far.script.commands ++ cons_option (numbered_command all spot) [] ≡ next.script.commands → HasReadUpTo all next rest
  steps next behind added = record {
    front = st.front ++ here ∷ [];
    whole = st.whole ∙ sym (append_assoc st.front (here ∷ []) rest);
    behind = behind;
    faults = st.faults ∙ ap (λ fault. option_or fault (first_some (map statement_fault (later_spots (st.front ++ here ∷ []) rest)))) (statement_same st.front rest here so_far st.behind few ∙ none);
    commands =
        st.commands ∙ by (numbered_command all spot) (filter_map (numbered_command all) (later_spots (st.front ++ here ∷ []) rest))
        ∙ ap (λ said. said ++ filter_map (numbered_command all) (later_spots (st.front ++ here ∷ []) rest)) added;
  }
    where
      by : (one : Option (ℕ × Command)) (others : List (ℕ × Command)) → so_far.script.commands ++ cons_option one others ≡ (so_far.script.commands ++ cons_option one []) ++ others
      by None others = ap (λ said. said ++ others) (sym (append-nil so_far.script.commands))
      by (Some one) others = sym (append_assoc so_far.script.commands (one ∷ []) others)

  quiet : ((names : List (List ℕ)) → command_of_verb verb names here ≡ None) → so_far.script.commands ++ cons_option (numbered_command all spot) [] ≡ so_far.script.commands
  quiet silent =
      ap (λ every. so_far.script.commands ++ cons_option (numbered_command every spot) []) st.whole
      ∙ ap (λ said. so_far.script.commands ++ cons_option said []) (no_command st.front rest here verb is silent)
      ∙ append-nil so_far.script.commands

  speaks : is_machine verb ≡ false → is_image verb ≡ false → is_user verb ≡ false → is_command verb ≡ true → operands_judgment (names_so_far so_far) verb here ≡ None
      → HasReadUpTo all (with_command so_far (command_of_verb verb (names_so_far so_far) here)) rest
  speaks machine image user command right =
      let there = has_user _ _ verb command (free so_far verb here is none).place in
      steps (with_command so_far (command_of_verb verb (names_so_far so_far) here)) (behind_command so_far st.front here verb _ is machine image user st.behind)
      (ap (λ every. so_far.script.commands ++ cons_option (numbered_command every spot) []) st.whole
      ∙ ap (λ said. so_far.script.commands ++ cons_option said []) (command_added so_far st.front rest here verb st.behind is there command right))

pub one_further : (all rest : List ScriptStatement) (here : ScriptStatement) (so_far : ScriptSoFar) (verb : Verb) → verb_of (words here.line) ≡ Some verb → HasReadUpTo all so_far (here ∷ rest) → AreFew so_far
    → statement_judgment so_far here ≡ None → HasReadUpTo all (with_statement so_far verb here) rest
one_further all rest here so_far Machine is st few none =
    steps all rest here so_far Machine is st few none (with_statement so_far Machine here) (behind_machine so_far st.front here is (first_machine _ _ (free so_far Machine here is none).place) st.behind) (quiet all rest here so_far Machine is st few none (λ names. refl))
one_further all rest here so_far Image is st few none =
    steps all rest here so_far Image is st few none (with_statement so_far Image here) (behind_image so_far st.front here is st.behind) (quiet all rest here so_far Image is st few none (λ names. refl))
one_further all rest here so_far User is st few none =
    steps all rest here so_far User is st few none (with_statement so_far User here) (behind_user so_far st.front here is st.behind) (quiet all rest here so_far User is st few none (λ names. refl))
one_further all rest here so_far Getcube is st few none = speaks all rest here so_far Getcube is st few none refl refl refl refl (free so_far Getcube here is none).rest
one_further all rest here so_far Peek is st few none = speaks all rest here so_far Peek is st few none refl refl refl refl (free so_far Peek here is none).rest
one_further all rest here so_far Freecube is st few none = speaks all rest here so_far Freecube is st few none refl refl refl refl (free so_far Freecube here is none).rest
one_further all rest here so_far Spawn is st few none = speaks all rest here so_far Spawn is st few none refl refl refl refl (free so_far Spawn here is none).rest
one_further all rest here so_far Kill is st few none = speaks all rest here so_far Kill is st few none refl refl refl refl (free so_far Kill here is none).rest
one_further all rest here so_far Send is st few none = speaks all rest here so_far Send is st few none refl refl refl refl (free so_far Send here is none).rest
one_further all rest here so_far Run is st few none = speaks all rest here so_far Run is st few none refl refl refl refl (free so_far Run here is none).rest
one_further all rest here so_far Recv is st few none = speaks all rest here so_far Recv is st few none refl refl refl refl (free so_far Recv here is none).rest
one_further all rest here so_far Dump is st few none = speaks all rest here so_far Dump is st few none refl refl refl refl (free so_far Dump here is none).rest
one_further all rest here so_far Trace is st few none = speaks all rest here so_far Trace is st few none refl refl refl refl (free so_far Trace here is none).rest
