-- How the parts of a fault come together, and how a statement is judged by what the earlier ones
-- say.
use Rattle.std.proofs.Common.{◌≡◌, ℕ, ◌≤◌, List, [], ◌∷◌, ◌++◌, length, Bool, true, false, not, cond, ◌&&◌, ◌||◌, Option, Some, None, refl, sym, ap, ◌∙◌, append-nil, arith, nat_lt, map}
use Rattle.std.proofs.lemmas.Bool.Decides.{nat_tests}
use Rattle.std.proofs.lemmas.List.{length-map}
use Rattle.std.specs.Prelude.{is_none, is_some, option_map, option_and_then}
use Rattle.std.specs.Option.{option_or, option_map_or}
use Rattle.std.specs.List.{list_any, enumerate_from}
use Rattle.ce_model.specs.Limits.{greatest_users, greatest_images}
use Rattle.ce_script.specs.declared.grammar.Verb.{Verb}
use Rattle.ce_script.specs.declared.grammar.Verb.TheVariants.{Machine, Image, User, Getcube, Peek, Freecube, Spawn, Kill, Send, Run, Recv, Dump, Trace}
use Rattle.ce_script.specs.declared.reader.so_far.ScriptSoFar.{ScriptSoFar}
use Rattle.ce_script.specs.declared.script.NamedImage.{NamedImage}
use Rattle.ce_script.specs.declared.script.ScriptKind.{ScriptKind}
use Rattle.ce_script.specs.declared.script.ScriptKind.TheVariants.{BadByte, WordCount, NoMachine, SecondMachine, NoUser, BadName, TooMany, NoEnd, UnknownWord}
use Rattle.ce_script.specs.Lines.{Spot, words, has_bad_byte}
use Rattle.ce_script.specs.Names.{is_name}
use Rattle.ce_script.specs.Verbs.{verb_of, is_machine, is_image, is_user, is_command, Operand, verb_operands, NewImage}
use Rattle.ce_script.specs.Statements.{ScriptStatement, operand, has_verb_kind}
use Rattle.ce_script.specs.Bodies.{located_fault}
use Rattle.ce_script.specs.Sayings.{statements_of_kind, stated_names, without_repeats, stated_image, images, image_names, users}
use Rattle.ce_script.specs.Faults.{first_some, kind_where, has_unknown_word, has_wrong_count, has_unknown_form, operand_fault, operands_fault, is_one_too_many, lacks_end, lacks_machine, lacks_user, is_second_machine, own_line_fault, image_fault, statement_fault}
use Rattle.ce_script.specs.Reading.{word_fault, place_fault, operands_judgment, with_user_name}
use Rattle.ce_script.specs.Standing.{names_so_far, AreFew, rest_fault, verb_fault, line_judgment, statement_judgment, HasReadFront}
use Rattle.ce_script.proofs.Judged.{names_append}
use Rattle.ce_script.proofs.Spots.{option_or-none, option_or-assoc}
use Rattle.ce_script.proofs.Users.{distinct_behind_one}

-- ---- what one statement more says

pub names_more : (kind : Verb → Bool) (front : List ScriptStatement) (here : ScriptStatement) (is : Bool) → has_verb_kind kind here ≡ is
    → stated_names (statements_of_kind kind (front ++ here ∷ [])) ≡ cond is (stated_names (statements_of_kind kind front) ++ operand 1 here ∷ []) (stated_names (statements_of_kind kind front) ++ [])
names_more kind front here true e =
    names_append kind front (here ∷ []) ∙ ap (λ (b : Bool). stated_names (statements_of_kind kind front) ++ stated_names (cond b (here ∷ []) [])) e
names_more kind front here false e =
    names_append kind front (here ∷ []) ∙ ap (λ (b : Bool). stated_names (statements_of_kind kind front) ++ stated_names (cond b (here ∷ []) [])) e

-- the kind of a statement with this verb
pub kind_is : (kind : Verb → Bool) (here : ScriptStatement) (verb : Verb) → verb_of (words here.line) ≡ Some verb → has_verb_kind kind here ≡ kind verb
kind_is kind here verb e = ap (λ found. option_map_or kind found false) e

named_names : (front : List ScriptStatement) → map (λ (named : NamedImage). named.name) (images front) ≡ image_names front
unfolding images image_names
named_names front = mapped (statements_of_kind is_image front)
  where
    mapped : (all : List ScriptStatement) → map (λ (named : NamedImage). named.name) (map (λ (one : ScriptStatement). record { name = operand 1 one; image = stated_image one }) all) ≡ stated_names all
    mapped [] = refl
    mapped (one ∷ others) = ap (λ names. operand 1 one ∷ names) (mapped others)

-- the names of the images that the reader knows
pub known_names : (so_far : ScriptSoFar) (front : List ScriptStatement) → HasReadFront so_far front → names_so_far so_far ≡ image_names front
known_names so_far front is = ap (map (λ (named : NamedImage). named.name)) is.images ∙ named_names front

-- ---- the parts of a statement's fault

placed_on : (images : List (List ℕ)) → ScriptStatement → ℕ × Operand → Option ScriptKind
placed_on images here placed = operand_fault images placed.1 (operand placed.0 here)

-- the faults from the words to the place, and those behind them
module _ (bytes unknown count machine second user operands many end : Option ScriptKind) where
  in_parts : first_some (bytes ∷ unknown ∷ count ∷ machine ∷ second ∷ user ∷ operands ∷ many ∷ end ∷ [])
      ≡ option_or (option_or bytes (option_or unknown count)) (option_or (option_or machine (option_or second user)) (option_or operands (option_or many end)))
  in_parts =
      ap (λ last. option_or bytes (option_or unknown (option_or count (option_or machine (option_or second (option_or user (option_or operands (option_or many last)))))))) (option_or-none end)
      ∙ ap (λ rest. option_or bytes (option_or unknown (option_or count rest))) (sym (ap (λ rest. option_or machine rest) (option_or-assoc second user (option_or operands (option_or many end)))) ∙ sym (option_or-assoc machine (option_or second user) (option_or operands (option_or many end))))
      ∙ ap (λ rest. option_or bytes rest) (sym (option_or-assoc unknown count (option_or (option_or machine (option_or second user)) (option_or operands (option_or many end)))))
      ∙ sym (option_or-assoc bytes (option_or unknown count) (option_or (option_or machine (option_or second user)) (option_or operands (option_or many end))))

-- ---- how many users and images there are

more_names : (kind : Verb → Bool) (front : List ScriptStatement) (here : ScriptStatement) (verb : Verb) → verb_of (words here.line) ≡ Some verb
    → stated_names (statements_of_kind kind (front ++ here ∷ [])) ≡ stated_names (statements_of_kind kind front) ++ cond (kind verb) (operand 1 here ∷ []) []
more_names kind front here verb e = by (kind verb) (kind_is kind here verb e)
  where
    by : (is : Bool) → has_verb_kind kind here ≡ is → stated_names (statements_of_kind kind (front ++ here ∷ [])) ≡ stated_names (statements_of_kind kind front) ++ cond is (operand 1 here ∷ []) []
    by true e = names_more kind front here true e
    by false e = names_more kind front here false e

-- the users behind one statement more
pub more_users : (front : List ScriptStatement) (here : ScriptStatement) (verb : Verb) → verb_of (words here.line) ≡ Some verb
    → users (front ++ here ∷ []) ≡ cond (is_user verb) (with_user_name (users front) (operand 1 here)) (users front)
unfolding users
more_users front here verb e = ap without_repeats (more_names is_user front here verb e) ∙ by (is_user verb)
  where
    by : (is : Bool) → without_repeats (stated_names (statements_of_kind is_user front) ++ cond is (operand 1 here ∷ []) []) ≡ cond is (with_user_name (without_repeats (stated_names (statements_of_kind is_user front))) (operand 1 here)) (without_repeats (stated_names (statements_of_kind is_user front)))
    by true = distinct_behind_one (stated_names (statements_of_kind is_user front)) (operand 1 here)
    by false = ap without_repeats (append-nil (stated_names (statements_of_kind is_user front)))

-- the names of the images behind one statement more
pub more_images : (front : List ScriptStatement) (here : ScriptStatement) (verb : Verb) → verb_of (words here.line) ≡ Some verb
    → image_names (front ++ here ∷ []) ≡ image_names front ++ cond (is_image verb) (operand 1 here ∷ []) []
unfolding image_names
more_images front here verb e = more_names is_image front here verb e

no_more_than : (most n : ℕ) → n ≤ most → nat_lt most n ≡ false
no_more_than most n le = grind (arith, nat_tests)

-- what the reader asks behind some statements
pub too_many : (so_far : ScriptSoFar) (front rest : List ScriptStatement) (here : ScriptStatement) (verb : Verb) → HasReadFront so_far front → AreFew so_far → verb_of (words here.line) ≡ Some verb
    → is_one_too_many (record { before = front; here = here; behind = rest })
    ≡ (nat_lt greatest_users (length (cond (is_user verb) (with_user_name so_far.script.users (operand 1 here)) so_far.script.users))
    || nat_lt greatest_images (length (names_so_far so_far ++ cond (is_image verb) (operand 1 here ∷ []) [])))
too_many so_far front rest here verb is few e =
    ap (λ all. nat_lt greatest_users (length all) || nat_lt greatest_images (length (image_names (front ++ here ∷ [])))) (more_users front here verb e ∙ ap (λ known. cond (is_user verb) (with_user_name known (operand 1 here)) known) (sym is.users))
    ∙ ap (λ all. nat_lt greatest_users (length (cond (is_user verb) (with_user_name so_far.script.users (operand 1 here)) so_far.script.users)) || nat_lt greatest_images (length all)) (more_images front here verb e ∙ ap (λ known. known ++ cond (is_image verb) (operand 1 here ∷ []) []) (sym (known_names so_far front is)))

-- ---- the whole fault of a statement

placed_same : (front rest : List ScriptStatement) (here : ScriptStatement) (so_far : ScriptSoFar) (verb : Verb) → HasReadFront so_far front → verb_of (words here.line) ≡ Some verb
    → operands_fault (record { before = front; here = here; behind = rest }) ≡ operands_judgment (names_so_far so_far) verb here
unfolding operands_fault operands_judgment
placed_same front rest here so_far verb is e =
    ap (λ (names : List (List ℕ)). first_some (map (λ placed. operand_fault names placed.1 (operand placed.0 here)) (enumerate_from 1 (option_map_or verb_operands (verb_of (words here.line)) [])))) (sym (known_names so_far front is))
    ∙ ap (λ (found : Option Verb). first_some (map (λ placed. operand_fault (names_so_far so_far) placed.1 (operand placed.0 here)) (enumerate_from 1 (option_map_or verb_operands found [])))) e

-- the fault of the place
place_same : (front rest : List ScriptStatement) (here : ScriptStatement) (so_far : ScriptSoFar) (verb : Verb) → HasReadFront so_far front → verb_of (words here.line) ≡ Some verb
    → option_or (kind_where (lacks_machine (record { before = front; here = here; behind = rest })) NoMachine)
    (option_or (kind_where (is_second_machine (record { before = front; here = here; behind = rest })) SecondMachine) (kind_where (lacks_user (record { before = front; here = here; behind = rest })) NoUser))
    ≡ place_fault (is_some so_far.script.dim) (is_some so_far.user) verb
unfolding place_fault
place_same front rest here so_far verb is e =
    let table : Bool → Bool → Bool → Bool → Option ScriptKind = λ machine begun command user.
    option_or (kind_where (not machine && not begun) NoMachine) (option_or (kind_where (machine && begun) SecondMachine) (kind_where (command && not user) NoUser)) in
    ap (λ b. table b (list_any (has_verb_kind is_machine) front) (has_verb_kind is_command here) (list_any (has_verb_kind is_user) front)) (kind_is is_machine here verb e)
    ∙ ap (λ b. table (is_machine verb) b (has_verb_kind is_command here) (list_any (has_verb_kind is_user) front)) (sym is.machine)
    ∙ ap (λ b. table (is_machine verb) (is_some so_far.script.dim) b (list_any (has_verb_kind is_user) front)) (kind_is is_command here verb e)
    ∙ ap (λ b. table (is_machine verb) (is_some so_far.script.dim) (is_command verb) b) (sym is.has_user)

-- what stands behind the operands
abbrev behind_operands : (so_far : ScriptSoFar) (verb : Verb) (here : ScriptStatement) → Option ScriptKind
behind_operands so_far verb here =
    option_or (kind_where (nat_lt greatest_users (length (cond (is_user verb) (with_user_name so_far.script.users (operand 1 here)) so_far.script.users))
    || nat_lt greatest_images (length (names_so_far so_far ++ cond (is_image verb) (operand 1 here ∷ []) []))) TooMany)
    (kind_where (is_image verb && is_none here.body) NoEnd)

few_by : (users images : Bool) (operands : Option ScriptKind) → users ≡ false → images ≡ false → option_or operands (option_or (kind_where (users || images) TooMany) (kind_where (false && true) NoEnd)) ≡ operands
few_by users images operands e f = ap (λ u. option_or operands (option_or (kind_where (u || images) TooMany) None)) e ∙ ap (λ i. option_or operands (option_or (kind_where i TooMany) None)) f ∙ option_or-none operands

few_images : (so_far : ScriptSoFar) → AreFew so_far → nat_lt greatest_images (length (names_so_far so_far ++ [])) ≡ false
few_images so_far few =
    let none : length (names_so_far so_far ++ []) ≡ length so_far.script.images = ap length (append-nil (names_so_far so_far)) ∙ length-map so_far.script.images (λ (named : NamedImage). named.name) in
    no_more_than greatest_images (length (names_so_far so_far ++ [])) (omega (arith, none, few.images))

few_users : (so_far : ScriptSoFar) → AreFew so_far → nat_lt greatest_users (length so_far.script.users) ≡ false
few_users so_far few = no_more_than greatest_users (length so_far.script.users) few.users

or_false : (b : Bool) → b || false ≡ b
or_false true = refl
or_false false = refl

-- what is asked behind the place
rest_same : (so_far : ScriptSoFar) (verb : Verb) (here : ScriptStatement) → AreFew so_far → option_or (operands_judgment (names_so_far so_far) verb here) (behind_operands so_far verb here) ≡ rest_fault so_far verb here
unfolding operands_judgment
rest_same so_far User here few =
    let name = operand 1 here in
    let bad = kind_where (not (is_name name)) BadName in
    let more = nat_lt greatest_users (length (with_user_name so_far.script.users name)) in
    ap (λ images. option_or (option_or bad None) (option_or (kind_where (more || images) TooMany) None)) (few_images so_far few)
    ∙ ap (λ over. option_or (option_or bad None) (option_or (kind_where over TooMany) None)) (or_false more)
    ∙ ap (λ rest. option_or (option_or bad None) rest) (option_or-none (kind_where more TooMany))
    ∙ ap (λ front. option_or front (kind_where more TooMany)) (option_or-none bad)
rest_same so_far Image here few =
    let name = operand 1 here in
    let named = operand_fault (names_so_far so_far) NewImage name in
    let over = nat_lt greatest_images (length (names_so_far so_far ++ name ∷ [])) in
    let end = kind_where (is_none here.body) NoEnd in
    ap (λ users. option_or (option_or named None) (option_or (kind_where (users || over) TooMany) end)) (few_users so_far few)
    ∙ ap (λ front. option_or front (option_or (kind_where over TooMany) end)) (option_or-none named)
    ∙ sym (option_or-assoc named (kind_where over TooMany) end)
rest_same so_far Machine here few = few_by _ _ (operands_judgment (names_so_far so_far) Machine here) (few_users so_far few) (few_images so_far few)
rest_same so_far Getcube here few = few_by _ _ (operands_judgment (names_so_far so_far) Getcube here) (few_users so_far few) (few_images so_far few)
rest_same so_far Peek here few = few_by _ _ (operands_judgment (names_so_far so_far) Peek here) (few_users so_far few) (few_images so_far few)
rest_same so_far Freecube here few = few_by _ _ (operands_judgment (names_so_far so_far) Freecube here) (few_users so_far few) (few_images so_far few)
rest_same so_far Spawn here few = few_by _ _ (operands_judgment (names_so_far so_far) Spawn here) (few_users so_far few) (few_images so_far few)
rest_same so_far Kill here few = few_by _ _ (operands_judgment (names_so_far so_far) Kill here) (few_users so_far few) (few_images so_far few)
rest_same so_far Send here few = few_by _ _ (operands_judgment (names_so_far so_far) Send here) (few_users so_far few) (few_images so_far few)
rest_same so_far Run here few = few_by _ _ (operands_judgment (names_so_far so_far) Run here) (few_users so_far few) (few_images so_far few)
rest_same so_far Recv here few = few_by _ _ (operands_judgment (names_so_far so_far) Recv here) (few_users so_far few) (few_images so_far few)
rest_same so_far Dump here few = few_by _ _ (operands_judgment (names_so_far so_far) Dump here) (few_users so_far few) (few_images so_far few)
rest_same so_far Trace here few = few_by _ _ (operands_judgment (names_so_far so_far) Trace here) (few_users so_far few) (few_images so_far few)

-- the table of a statement with a verb
with_verb : (front rest : List ScriptStatement) (here : ScriptStatement) (so_far : ScriptSoFar) (verb : Verb) → HasReadFront so_far front → AreFew so_far → verb_of (words here.line) ≡ Some verb
    → own_line_fault (record { before = front; here = here; behind = rest }) ≡ line_judgment so_far here
unfolding own_line_fault word_fault
with_verb front rest here so_far verb is few e =
    let spot : Spot ScriptStatement = record { before = front; here = here; behind = rest } in
    let word = word_fault here in
    let end = kind_where (lacks_end here) NoEnd in
    let many = kind_where (is_one_too_many spot) TooMany in
    in_parts (kind_where (has_bad_byte here.line) BadByte) (kind_where (has_unknown_word here) UnknownWord) (kind_where (has_wrong_count here) WordCount) (kind_where (lacks_machine spot) NoMachine) (kind_where (is_second_machine spot) SecondMachine) (kind_where (lacks_user spot) NoUser) (operands_fault spot) many end
    ∙ ap (λ place. option_or word (option_or place (option_or (operands_fault spot) (option_or many end)))) (place_same front rest here so_far verb is e)
    ∙ ap (λ operands. option_or word (option_or (place_fault (is_some so_far.script.dim) (is_some so_far.user) verb) (option_or operands (option_or many end)))) (placed_same front rest here so_far verb is e)
    ∙ ap (λ over. option_or word (option_or (place_fault (is_some so_far.script.dim) (is_some so_far.user) verb) (option_or (operands_judgment (names_so_far so_far) verb here) (option_or (kind_where over TooMany) end)))) (too_many so_far front rest here verb is few e)
    ∙ ap (λ image. option_or word (option_or (place_fault (is_some so_far.script.dim) (is_some so_far.user) verb) (option_or (operands_judgment (names_so_far so_far) verb here) (option_or (kind_where (nat_lt greatest_users (length (cond (is_user verb) (with_user_name so_far.script.users (operand 1 here)) so_far.script.users)) || nat_lt greatest_images (length (names_so_far so_far ++ cond (is_image verb) (operand 1 here ∷ []) []))) TooMany) (kind_where (image && is_none here.body) NoEnd))))) (kind_is is_image here verb e)
    ∙ ap (λ rest. option_or word (option_or (place_fault (is_some so_far.script.dim) (is_some so_far.user) verb) rest)) (rest_same so_far verb here few)
    ∙ ap (λ found. option_or word (option_and_then (λ it. verb_fault so_far it here) found)) (sym e)

without_verb : (front rest : List ScriptStatement) (here : ScriptStatement) (so_far : ScriptSoFar) → verb_of (words here.line) ≡ None
    → own_line_fault (record { before = front; here = here; behind = rest }) ≡ line_judgment so_far here
unfolding own_line_fault word_fault
without_verb front rest here so_far e =
    let bytes = kind_where (has_bad_byte here.line) BadByte in
    let spot : Spot ScriptStatement = record { before = front; here = here; behind = rest } in
    let count = kind_where (has_wrong_count here) WordCount in
    let later = option_or count (option_or (kind_where (lacks_machine spot) NoMachine) (option_or (kind_where (is_second_machine spot) SecondMachine) (option_or (kind_where (lacks_user spot) NoUser) (option_or (operands_fault spot) (option_or (kind_where (is_one_too_many spot) TooMany) (option_or (kind_where (lacks_end here) NoEnd) None)))))) in
    let unknown : kind_where (has_unknown_word here) UnknownWord ≡ Some UnknownWord = ap (λ (found : Option Verb). kind_where (is_none found || (has_verb_kind is_image here && has_unknown_form (words here.line))) UnknownWord) e in
    ap (λ it. option_or bytes (option_or it later)) unknown
    ∙ last bytes (option_and_then (λ it. verb_fault so_far it here) (verb_of (words here.line)))
    ∙ sym (ap (λ it. option_or (option_or bytes (option_or it count)) (option_and_then (λ it. verb_fault so_far it here) (verb_of (words here.line)))) unknown)
  where
    last : (bytes behind : Option ScriptKind) → option_or bytes (Some UnknownWord) ≡ option_or (option_or bytes (Some UnknownWord)) behind
    last None behind = refl
    last (Some kind) behind = refl

pub line_same : (front rest : List ScriptStatement) (here : ScriptStatement) (so_far : ScriptSoFar) → HasReadFront so_far front → AreFew so_far
    → own_line_fault (record { before = front; here = here; behind = rest }) ≡ line_judgment so_far here
line_same front rest here so_far is few = by (verb_of (words here.line)) refl
  where
    by : (found : Option Verb) → verb_of (words here.line) ≡ found → own_line_fault (record { before = front; here = here; behind = rest }) ≡ line_judgment so_far here
    by None e = without_verb front rest here so_far e
    by (Some verb) e = with_verb front rest here so_far verb is few e

-- a statement is judged by what the reader knows
pub statement_same : (front rest : List ScriptStatement) (here : ScriptStatement) (so_far : ScriptSoFar) → HasReadFront so_far front → AreFew so_far
    → statement_fault (record { before = front; here = here; behind = rest }) ≡ statement_judgment so_far here
statement_same front rest here so_far is few = ap (λ line. option_or (option_map (located_fault here.line.number) line) (image_fault here)) (line_same front rest here so_far is few)
