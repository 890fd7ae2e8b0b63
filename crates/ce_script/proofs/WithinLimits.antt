-- A text without a fault keeps the limits.
use Rattle.std.proofs.Common.{◌≡◌, ℕ, ◌*◌, ◌<◌, ◌≤◌, List, [], ◌∷◌, ◌++◌, length, Bool, true, false, not, cond, ◌&&◌, ◌||◌, Option, Some, None, refl, sym, ap, subst, ◌∙◌, arith, nat_lt, nat_le, map}
use Rattle.std.proofs.lemmas.Bool.{not-false, or_parts}
use Rattle.std.proofs.lemmas.Bool.Decides.{nat_tests}
use Rattle.std.proofs.lemmas.List.{length-map}
use Rattle.std.specs.Prelude.{IfSome, find, is_none, unwrap_or, option_map, option_and_then, bytes_eq, codes}
use Rattle.std.specs.Option.{option_map_or}
use Rattle.std.specs.Str.Parse.{digits_value}
use Rattle.std.specs.List.{AllByRecursion, list_any, last_or}
use Rattle.ce_model.proofs.Members.{all-both, all-weaker}
use Rattle.ce_script.specs.declared.spelling.TheConstants.{NUMBER_DIGITS, DATA_DIGITS}
use Rattle.ce_model.specs.Limits.{greatest_dim, greatest_count, greatest_users, greatest_images, block_room, block_room_lem}
use Rattle.ce_host.specs.declared.command.Command.{Command}
use Rattle.ce_script.specs.declared.grammar.Verb.{Verb}
use Rattle.ce_script.specs.declared.grammar.Verb.TheVariants.{Machine, Image, User, Getcube, Peek, Freecube, Spawn, Kill, Send, Run, Recv, Dump, Trace}
use Rattle.ce_script.specs.declared.script.NamedImage.{NamedImage}
use Rattle.ce_script.specs.declared.script.Script.{Script}
use Rattle.ce_script.specs.declared.script.ScriptKind.TheVariants.{BadNumber, UnknownImage}
use Rattle.ce_script.specs.Lines.{Spot, spots, later_spots, words}
use Rattle.ce_text.specs.Number.{are_digits, number_of_digits}
use Rattle.ce_script.specs.Spellings.{are_byte_digits, digit_bytes, greatest_number, bounded_number, written_bytes, data_in}
use Rattle.ce_script.specs.Verbs.{verb_of, is_machine, is_image, is_user, is_command, Number, OldImage}
use Rattle.ce_script.specs.Statements.{ScriptStatement, operand, has_verb_kind, statements}
use Rattle.ce_script.specs.Sayings.{statements_of_kind, stated_names, name_number, operand_number, stated_image, without_repeats, dimension, images, image_names, users, command_of_verb, command_of_statement, last_user, numbered_command, commands}
use Rattle.ce_script.specs.Faults.{is_one_name_of, operand_fault, statement_fault, first_script_fault}
use Rattle.ce_script.specs.Scripts.{IsScript}
use Rattle.ce_script.specs.Bounds.{AreNames, IsCommandWithin, IsUserCommandWithin, IsWithinLimits}
use Rattle.ce_script.proofs.Spots.{or_none, each_mapped_none, refused_none, each_made, each_whole, last_spot}
use Rattle.ce_script.proofs.Judged.{IsRight, each_right, operands_right, the_verb, machine_alone, names_append}
use Rattle.ce_script.proofs.NamesSaid.{user_names_are, image_names_are}
use Rattle.ce_script.proofs.Members.{number_below, among_front, among_distinct, last_among}

-- ---- operands

number_within : (short few : Bool) (n most : ℕ) → is_none (cond short (cond (few && nat_le n most) (Some n) None) None) ≡ false
    → unwrap_or (cond short (cond (few && nat_le n greatest_number) (Some n) None) None) 0 ≤ most
number_within true true n most e =
    let small : n ≤ most = elim (nat_le n most) as (λ b. nat_le n most ≡ b → is_none (cond b (Some n) None) ≡ false → n ≤ most) [
      | true ↦ λ le _. grind (arith, nat_tests)
      | false ↦ λ _ none. absurd cc
    ] refl e in
    elim (nat_le n greatest_number) as (λ b. unwrap_or (cond b (Some n) None) 0 ≤ most) [ true ↦ small | false ↦ omega arith ]
number_within true false n most e = absurd cc
number_within false few n most e = absurd cc

-- a number that was not refused is at most this
at_most : (most : ℕ) (names : List (List ℕ)) (word : List ℕ) → operand_fault names (Number most) word ≡ None → unwrap_or (bounded_number greatest_number word) 0 ≤ most
unfolding bounded_number number_of_digits
at_most most names word e =
    number_within (nat_le (length word) NUMBER_DIGITS) (are_digits 10 word) (digits_value 10 word) most (refused_none (is_none (bounded_number most word)) BadNumber e)

-- the image of a name that was not refused is one of those
old_image : (before more : List (List ℕ)) (word : List ℕ) → operand_fault before OldImage word ≡ None → name_number word (before ++ more) < length (before ++ more)
old_image before more word e =
    let unknown = refused_none (not (is_one_name_of before word)) UnknownImage (or_none _ _ e).1 in
    number_below (before ++ more) word (among_front before more word (not-false (is_one_name_of before word) unknown))

pub two_each : (digits : List ℕ) → 2 * length (digit_bytes digits) ≤ length digits
two_each [] = omega arith
two_each (digit ∷ []) = omega arith
two_each (high ∷ low ∷ digits) = let others = two_each digits in omega (arith, others)

data_by : (none few digits : Bool) (word : List ℕ) (room : ℕ) → (few ≡ true → length word ≤ 2 * room)
    → length (unwrap_or (cond none (Some []) (cond few (cond digits (Some (digit_bytes word)) None) None)) []) ≤ room
data_by true few digits word room h = omega arith
data_by false true true word room h = let short = h refl in let others = two_each word in omega (arith, short, others)
data_by false true false word room h = omega arith
data_by false false digits word room h = omega arith

below : (n most : ℕ) → nat_le n most ≡ true → n ≤ most
below n most e = grind (arith, nat_tests)

-- no message has more bytes than a block can hold
data_within : (word : List ℕ) → length (unwrap_or (data_in word) []) ≤ block_room
unfolding data_in written_bytes
data_within word =
    data_by (bytes_eq word (codes "-")) (nat_le (length word) DATA_DIGITS) (are_byte_digits word) word block_room (λ short. omega (arith, block_room_lem, below (length word) DATA_DIGITS short))

-- ---- commands

some : {A : Type 0} (one other : A) → Some one ≡ Some other → one ≡ other
some one other e = cc

none : {A : Type 0} (one : A) → None ≡ Some one → ⊥
none one e = cc

-- the command of a statement keeps the limits, where these images stand before it and these more
-- behind
command_within : (spot : Spot ScriptStatement) (verb : Verb) (more : List (List ℕ)) (command : Command) → IsRight spot → verb_of (words spot.here.line) ≡ Some verb
    → command_of_verb verb (image_names spot.before ++ more) spot.here ≡ Some command → IsCommandWithin (length (image_names spot.before ++ more)) command
command_within spot Machine more command is v e = absurd (none command e)
command_within spot Image more command is v e = absurd (none command e)
command_within spot User more command is v e = absurd (none command e)
command_within spot Getcube more command is v e =
    subst (IsCommandWithin (length (image_names spot.before ++ more))) (some _ command e)
    (at_most greatest_dim (image_names spot.before) (operand 1 spot.here) (operands_right spot Getcube v is).0)
command_within spot Peek more command is v e = subst (IsCommandWithin (length (image_names spot.before ++ more))) (some _ command e) tt
command_within spot Freecube more command is v e = subst (IsCommandWithin (length (image_names spot.before ++ more))) (some _ command e) tt
command_within spot Spawn more command is v e =
    subst (IsCommandWithin (length (image_names spot.before ++ more))) (some _ command e)
    (old_image (image_names spot.before) more (operand 1 spot.here) (operands_right spot Spawn v is).0)
command_within spot Kill more command is v e = subst (IsCommandWithin (length (image_names spot.before ++ more))) (some _ command e) tt
command_within spot Send more command is v e =
    subst (IsCommandWithin (length (image_names spot.before ++ more))) (some _ command e) (data_within (operand 3 spot.here))
command_within spot Run more command is v e =
    subst (IsCommandWithin (length (image_names spot.before ++ more))) (some _ command e)
    (at_most greatest_count (image_names spot.before) (operand 1 spot.here) (operands_right spot Run v is).0)
command_within spot Recv more command is v e =
    subst (IsCommandWithin (length (image_names spot.before ++ more))) (some _ command e)
    (at_most greatest_count (image_names spot.before) (operand 1 spot.here) (operands_right spot Recv v is).0)
command_within spot Dump more command is v e = subst (IsCommandWithin (length (image_names spot.before ++ more))) (some _ command e) tt
command_within spot Trace more command is v e = subst (IsCommandWithin (length (image_names spot.before ++ more))) (some _ command e) tt

-- ---- users

there_is : (kind : Verb → Bool) (all : List ScriptStatement) → list_any (has_verb_kind kind) all ≡ true
    → (one : ScriptStatement) × (others : List ScriptStatement) × (statements_of_kind kind all ≡ one ∷ others)
there_is kind [] e = absurd cc
there_is kind (one ∷ others) e =
    elim (has_verb_kind kind one) as (λ b. b || list_any (has_verb_kind kind) others ≡ true → (first : ScriptStatement) × (rest : List ScriptStatement) × (cond b (one ∷ statements_of_kind kind others) (statements_of_kind kind others) ≡ first ∷ rest)) [
      | true ↦ λ _. (one, statements_of_kind kind others, refl)
      | false ↦ λ later. there_is kind others later
    ] e

-- the last user is among the users, where there is one
pub last_user_among : (before : List ScriptStatement) → list_any (has_verb_kind is_user) before ≡ true → is_one_name_of (stated_names (statements_of_kind is_user before)) (last_user before) ≡ true
last_user_among before e =
    let found = there_is is_user before e in
    let P : List ScriptStatement → Type 0 = λ those. is_one_name_of (stated_names those) (unwrap_or (last_or None (stated_names those)) []) ≡ true in
    subst P (sym found.2) (last_among (operand 1 found.0) (stated_names found.1))

is_said : (verb : Verb) (images : List (List ℕ)) (statement : ScriptStatement) (command : Command) → command_of_verb verb images statement ≡ Some command → is_command verb ≡ true
is_said Machine images statement command e = absurd (none command e)
is_said Image images statement command e = absurd (none command e)
is_said User images statement command e = absurd (none command e)
is_said other images statement command e = refl

both_false : (a b : Bool) → a && not b ≡ false → a ≡ true → b ≡ true
both_false true true e h = refl
both_false true false e h = absurd cc
both_false false b e h = absurd cc

-- the user of a command is one of the users
user_within : (spot : Spot ScriptStatement) (verb : Verb) → IsRight spot → verb_of (words spot.here.line) ≡ Some verb → is_command verb ≡ true
    → name_number (last_user spot.before) (users (spot.before ++ spot.here ∷ spot.behind)) < length (users (spot.before ++ spot.here ∷ spot.behind))
unfolding users
user_within spot verb is v says =
    let more = stated_names (statements_of_kind is_user (spot.here ∷ spot.behind)) in
    let said = ap (λ found. option_map_or is_command found false) v ∙ says in
    let there = last_user_among spot.before (both_false (has_verb_kind is_command spot.here) (list_any (has_verb_kind is_user) spot.before) is.user said) in
    let among = among_front (stated_names (statements_of_kind is_user spot.before)) more (last_user spot.before) there in
    let P : List (List ℕ) → Type 0 = λ names. name_number (last_user spot.before) (without_repeats names) < length (without_repeats names) in
    subst P (sym (names_append is_user spot.before (spot.here ∷ spot.behind)))
    (number_below (without_repeats (stated_names (statements_of_kind is_user spot.before) ++ more)) (last_user spot.before) (among_distinct (stated_names (statements_of_kind is_user spot.before) ++ more) (last_user spot.before) among))

pub images_append : (before more : List ScriptStatement) → image_names (before ++ more) ≡ image_names before ++ image_names more
unfolding image_names
images_append before more = names_append is_image before more

mapped : {A B : Type 0} (f : A → B) (found : Option A) (made : B) → option_map f found ≡ Some made → (one : A) × (found ≡ Some one) × (f one ≡ made)
mapped f None made e = absurd (none made e)
mapped f (Some one) made e = (one, refl, some (f one) made e)

chained : {A B : Type 0} (f : A → Option B) (found : Option A) (made : B) → option_and_then f found ≡ Some made → (one : A) × (found ≡ Some one) × (f one ≡ Some made)
chained f None made e = absurd (none made e)
chained f (Some one) made e = (one, refl, e)

-- a command among all statements is one of the users', and keeps the limits
own_within : (spot : Spot ScriptStatement) → IsRight spot → (own : ℕ × Command) → numbered_command (spot.before ++ spot.here ∷ spot.behind) spot ≡ Some own
    → IsUserCommandWithin (length (users (spot.before ++ spot.here ∷ spot.behind))) (length (image_names (spot.before ++ spot.here ∷ spot.behind))) own
unfolding command_of_statement
own_within spot is own e =
    let all = spot.before ++ spot.here ∷ spot.behind in
    let made = mapped (λ command. (name_number (last_user spot.before) (users all), command)) (command_of_statement (image_names all) spot.here) own e in
    let found = chained (λ verb. command_of_verb verb (image_names all) spot.here) (verb_of (words spot.here.line)) made.0 made.1 in
    let P : List (List ℕ) → Type 0 = λ images. command_of_verb found.0 images spot.here ≡ Some made.0 → IsCommandWithin (length images) made.0 in
    let within = subst P (sym (images_append spot.before (spot.here ∷ spot.behind)))
    (command_within spot found.0 (image_names (spot.here ∷ spot.behind)) made.0 is found.1) found.2 in
    subst (IsUserCommandWithin (length (users all)) (length (image_names all))) made.2
    (user_within spot found.0 is found.1 (is_said found.0 (image_names all) spot.here made.0 found.2), within)

each_own_within : (all : List ScriptStatement) → AllByRecursion IsRight (spots all) → AllByRecursion (IsUserCommandWithin (length (users all)) (length (image_names all))) (commands all)
unfolding commands
each_own_within all each =
    let IsWhole : Spot ScriptStatement → Type 0 = λ spot. spot.before ++ spot.here ∷ spot.behind ≡ all in
    let IsWithin : ℕ × Command → Type 0 = IsUserCommandWithin (length (users all)) (length (image_names all)) in
    let IsKnown : Spot ScriptStatement → Type 0 = λ spot. IsRight spot × IsWhole spot in
    let IsMadeWithin : Spot ScriptStatement → Type 0 = λ spot. (own : ℕ × Command) → numbered_command all spot ≡ Some own → IsWithin own in
    each_made (numbered_command all) IsWithin (spots all)
    (all-weaker IsKnown IsMadeWithin (spots all)
    (λ spot known own e. subst (λ (every : List ScriptStatement). numbered_command every spot ≡ Some own → IsUserCommandWithin (length (users every)) (length (image_names every)) own) known.1 (own_within spot known.0 own) e)
    (all-both IsRight IsWhole (spots all) each (each_whole [] all)))

-- ---- how many users and images

not_more : (n most : ℕ) → nat_lt most n ≡ false → n ≤ most
not_more n most e = grind (arith, nat_tests)

few : (all : List ScriptStatement) → AllByRecursion IsRight (spots all) → (length (users all) ≤ greatest_users) × (length (image_names all) ≤ greatest_images)
unfolding users image_names
few [] each = (omega arith, omega arith)
few (first ∷ others) each =
    let last = last_spot IsRight [] first others each in
    let P : List ScriptStatement → Type 0 = λ all. nat_lt greatest_users (length (users all)) || nat_lt greatest_images (length (image_names all)) ≡ false in
    let both = or_parts (nat_lt greatest_users (length (users (first ∷ others)))) (nat_lt greatest_images (length (image_names (first ∷ others)))) (subst P last.2 last.1.many) in
    (not_more _ greatest_users both.0, not_more _ greatest_images both.1)

-- ---- the machine

found_spot : {A : Type 0} (P : Spot A → Type 0) (test : A → Bool) (before list : List A) → AllByRecursion P (later_spots before list)
    → IfSome (find test list) (λ one. (spot : Spot A) × P spot × (spot.here ≡ one) × (test one ≡ true))
found_spot P test before [] each = tt
found_spot {A} P test before (here ∷ behind) each =
    elim (test here) as (λ b. test here ≡ b → IfSome (cond b (Some here) (find test behind)) (λ one. (spot : Spot A) × P spot × (spot.here ≡ one) × (test one ≡ true))) [
      | true ↦ λ passes. (record { before = before; here = here; behind = behind }, each.0, refl, passes)
      | false ↦ λ _. found_spot P test (before ++ here ∷ []) behind each.1
    ] refl

dim_of : (found : Option ScriptStatement) → IfSome found (λ one. (spot : Spot ScriptStatement) × IsRight spot × (spot.here ≡ one) × (has_verb_kind is_machine one ≡ true))
    → IfSome (option_map (operand_number 1) found) (λ dim. dim ≤ greatest_dim)
dim_of None known = tt
dim_of (Some one) known =
    let here = the_verb is_machine Machine machine_alone (verb_of (words known.0.here.line)) (ap (has_verb_kind is_machine) known.2 ∙ known.3) in
    subst (λ (statement : ScriptStatement). operand_number 1 statement ≤ greatest_dim) known.2
    (at_most greatest_dim (image_names known.0.before) (operand 1 known.0.here) (operands_right known.0 Machine here known.1).0)

dim_within : (all : List ScriptStatement) → AllByRecursion IsRight (spots all) → IfSome (dimension all) (λ dim. dim ≤ greatest_dim)
unfolding dimension
dim_within all each = dim_of (find (has_verb_kind is_machine) all) (found_spot IsRight (has_verb_kind is_machine) [] all each)

first_is_machine : (is : Bool) → not is && not false ≡ false → is ≡ true
first_is_machine true e = refl
first_is_machine false e = absurd cc

no_machine : (all : List ScriptStatement) → AllByRecursion IsRight (spots all) → dimension all ≡ None → all ≡ []
unfolding dimension
no_machine [] each e = refl
no_machine (first ∷ others) each e =
    let machine = first_is_machine (has_verb_kind is_machine first) each.0.machine in
    let P : Bool → Type 0 = λ is. option_map (operand_number 1) (cond is (Some first) (find (has_verb_kind is_machine) others)) ≡ None in
    absurd (none (operand_number 1 first) (sym (subst P machine e)))

-- ---- the script

none_at_all : (all : List ScriptStatement) → all ≡ [] → (images all ≡ []) × (users all ≡ []) × (commands all ≡ [])
unfolding images users commands
none_at_all all e = (ap images e, ap users e, ap commands e)

named_alike : (all : List ScriptStatement) → map (λ (named : NamedImage). named.name) (map (λ (one : ScriptStatement). record { name = operand 1 one; image = stated_image one }) all) ≡ stated_names all
named_alike [] = refl
named_alike (one ∷ others) = ap (λ names. operand 1 one ∷ names) (named_alike others)

same_count : (all : List ScriptStatement) → length (images all) ≡ length (image_names all)
unfolding images image_names
same_count all = length-map (statements_of_kind is_image all) _ ∙ sym (length-map (statements_of_kind is_image all) (operand 1))

same_names : (all : List ScriptStatement) → map (λ (named : NamedImage). named.name) (images all) ≡ image_names all
unfolding images image_names
same_names all = named_alike (statements_of_kind is_image all)

all_right : (text : List ℕ) → first_script_fault text ≡ None → AllByRecursion IsRight (spots (statements text))
unfolding first_script_fault
all_right text e = each_right (statements text) (each_mapped_none statement_fault (spots (statements text)) e)

-- a text that is a script keeps the limits
pub within_limits : (text : List ℕ) (script : Script) → IsScript text script → IsWithinLimits script
within_limits text script is =
    let all = statements text in
    let each = all_right text is.no_fault in
    let counts = few all each in
    let image_count : length script.images ≡ length (image_names all) = ap length is.images ∙ same_count all in
    let AreWithin : ℕ → ℕ → List (ℕ × Command) → Type 0 = λ users images said. AllByRecursion (IsUserCommandWithin users images) said in
    record {
      dim = subst (λ (dim : Option ℕ). IfSome dim (λ d. d ≤ greatest_dim)) (sym is.dim) (dim_within all each);
      users = subst (λ (users : List (List ℕ)). length users ≤ greatest_users) (sym is.users) counts.0;
      user_names = subst AreNames (sym is.users) (user_names_are all each);
      images = subst (λ (n : ℕ). n ≤ greatest_images) (sym image_count) counts.1;
      image_names = subst AreNames (sym (ap (map (λ (named : NamedImage). named.name)) is.images ∙ same_names all)) (image_names_are all each);
      commands = subst (λ said. AreWithin (length script.users) (length script.images) said) (sym is.commands)
          (subst (λ (n : ℕ). AreWithin n (length script.images) (commands all)) (sym (ap length is.users))
          (subst (λ (n : ℕ). AreWithin (length (users all)) n (commands all)) (sym image_count) (each_own_within all each)));
      machine = λ e.
          let empty = none_at_all all (no_machine all each (sym is.dim ∙ e)) in
          (is.images ∙ empty.0, is.users ∙ empty.1, is.commands ∙ empty.2);
    }
