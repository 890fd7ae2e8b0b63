-- How the reader's tests are those of the definitions.
use Rattle.std.proofs.Common.{◌≡◌, ℕ, suc, ◌+◌, ◌<◌, ◌≤◌, List, [], ◌∷◌, ◌++◌, length, get_or, Bool, true, false, not, cond, ◌&&◌, ◌||◌, ◌==◌, Option, Some, None, refl, sym, ap, ◌∙◌, arith, nat_lt}
use Rattle.std.proofs.lemmas.Bool.{and_parts, or_parts}
use Rattle.std.proofs.lemmas.Bool.Decides.{nat_tests}
use Rattle.std.proofs.lemmas.List.{length-append}
use Rattle.std.proofs.lemmas.Slice.Eq.{bytes_eq-Decides}
use Rattle.std.specs.Prelude.{is_none, is_some, unwrap_or, position, bytes_eq}
use Rattle.std.proofs.lemmas.Str.{IsUtf8-from_ascii}
use Rattle.std.proofs.lemmas.Str.Ascii.{IsAscii-nil, IsAscii-cons}
use Rattle.std.specs.Str.{IsAscii, IsUtf8}
use Rattle.std.specs.Option.{option_or, option_map_or}
use Rattle.std.specs.List.{list_any, list_all, position_or_len}
use Rattle.ce_model.specs.Limits.{greatest_users, greatest_images, greatest_users_lem, greatest_images_lem}
use Rattle.ce_script.specs.declared.grammar.Verb.{Verb}
use Rattle.ce_script.specs.declared.reader.so_far.ScriptSoFar.{ScriptSoFar}
use Rattle.ce_script.specs.declared.script.ScriptKind.{ScriptKind}
use Rattle.ce_script.specs.declared.script.ScriptKind.TheVariants.{BadByte, UnknownWord, WordCount, NameTaken, TooMany, UnknownImage}
use Rattle.ce_script.specs.Lines.{words, has_bad_byte}
use Rattle.ce_text.specs.Bytes.{is_digit, is_letter, is_name_byte}
use Rattle.ce_text.specs.Name as text
use Rattle.ce_script.specs.Names.{is_name}
use Rattle.ce_text.specs.Table.{table_value}
use Rattle.ce_script.specs.Verbs.{verbs, verb_of, is_image, verb_operands, OldImage}
use Rattle.ce_script.specs.Statements.{ScriptStatement, operand}
use Rattle.ce_script.specs.Sayings.{name_number}
use Rattle.ce_script.specs.Faults.{kind_where, has_unknown_form, is_one_name_of, operand_fault}
use Rattle.ce_script.specs.Reading.{word_fault, user_fault}
use Rattle.ce_script.specs.Standing.{new_image_fault, with_user}

-- ---- names among names

any_place : {A : Type 0} (test : A → Bool) (all : List A) → list_any test all ≡ nat_lt (position_or_len test all) (length all)
any_place test [] = refl
any_place {A} test (one ∷ others) =
    let more = any_place test others in
    elim (test one) as (λ here. here || list_any test others ≡ nat_lt (cond (not here) (1 + position_or_len test others) 0) (suc (length others))) [
      | true ↦ above
      | false ↦ more ∙ below (position_or_len test others) (length others)
    ]
  where
    above : true ≡ nat_lt 0 (suc (length others))
    above = grind (arith, nat_tests)

    below : (m n : ℕ) → nat_lt m n ≡ nat_lt (1 + m) (suc n)
    below m n = grind (arith, nat_tests)

some_is : {A : Type 0} (test : Bool) (one : A) → is_some (cond test (Some one) None) ≡ test
some_is true one = refl
some_is false one = refl

-- a name is among names where it has a place
pub among_place : (names : List (List ℕ)) (name : List ℕ) → is_some (position (bytes_eq name) names) ≡ is_one_name_of names name
among_place names name = some_is (nat_lt (position_or_len (bytes_eq name) names) (length names)) _ ∙ sym (any_place (bytes_eq name) names)

pub among_there : (names : List (List ℕ)) (name : List ℕ) (n : ℕ) → position (bytes_eq name) names ≡ Some n → is_one_name_of names name ≡ true
among_there names name n e = sym (among_place names name) ∙ ap is_some e

pub among_missing : (names : List (List ℕ)) (name : List ℕ) → position (bytes_eq name) names ≡ None → is_one_name_of names name ≡ false
among_missing names name e = sym (among_place names name) ∙ ap is_some e

pub number_there : (names : List (List ℕ)) (name : List ℕ) (n : ℕ) → position (bytes_eq name) names ≡ Some n → name_number name names ≡ n
number_there names name n e = ap (λ found. unwrap_or found 0) e

below_by : (n size : ℕ) (within : Bool) (found : ℕ) → nat_lt n size ≡ within → cond within (Some n) None ≡ Some found → found < size
below_by n size true found e f = let same : n ≡ found = cc in let lt : n < size = grind (arith, nat_tests) in omega arith
below_by n size false found e f = absurd cc

pub place_below : (names : List (List ℕ)) (name : List ℕ) (n : ℕ) → position (bytes_eq name) names ≡ Some n → n < length names
place_below names name n e = below_by (position_or_len (bytes_eq name) names) (length names) (nat_lt (position_or_len (bytes_eq name) names) (length names)) n refl e

-- ---- images

pub old_there : (names : List (List ℕ)) (name : List ℕ) (n : ℕ) → is_name name ≡ true → position (bytes_eq name) names ≡ Some n
    → (operand_fault names OldImage name ≡ None) × (Some (name_number name names) ≡ Some n)
old_there names name n e f = let among = among_there names name n f in (rw (e, among) refl, ap Some (number_there names name n f))

pub old_missing : (names : List (List ℕ)) (name : List ℕ) → is_name name ≡ true → position (bytes_eq name) names ≡ None → operand_fault names OldImage name ≡ Some UnknownImage
old_missing names name e f = let among = among_missing names name f in rw (e, among) refl

more_than : (most n : ℕ) → most < n → nat_lt most n ≡ true
more_than most n lt = grind (arith, nat_tests)

no_more_than : (most n : ℕ) → n ≤ most → nat_lt most n ≡ false
no_more_than most n le = grind (arith, nat_tests)

pub image_taken : (names : List (List ℕ)) (name : List ℕ) → is_name name ≡ true → is_one_name_of names name ≡ true → new_image_fault names name ≡ Some NameTaken
image_taken names name e f = rw (e, f) refl

pub image_over : (names : List (List ℕ)) (name : List ℕ) → is_name name ≡ true → is_one_name_of names name ≡ false → 64 ≤ length names → new_image_fault names name ≡ Some TooMany
image_over names name e f le =
    let many = more_than greatest_images (length (names ++ name ∷ [])) (omega (arith, greatest_images_lem, length-append names (name ∷ []))) in
    rw (e, f, many) refl

pub image_fits : (names : List (List ℕ)) (name : List ℕ) → is_name name ≡ true → is_one_name_of names name ≡ false → length names < 64 → new_image_fault names name ≡ None
image_fits names name e f lt =
    let few = no_more_than greatest_images (length (names ++ name ∷ [])) (omega (arith, greatest_images_lem, length-append names (name ∷ []))) in
    rw (e, f, few) refl

-- ---- users

pub known_user : (names : List (List ℕ)) (name : List ℕ) (n : ℕ) → length names ≤ greatest_users → is_name name ≡ true → position (bytes_eq name) names ≡ Some n
    → user_fault names name ≡ None
known_user names name n le e f =
    let among = among_there names name n f in
    let few = no_more_than greatest_users (length names) le in
    rw (e, among, few) refl

pub user_over : (names : List (List ℕ)) (name : List ℕ) → is_name name ≡ true → position (bytes_eq name) names ≡ None → 8 ≤ length names → user_fault names name ≡ Some TooMany
user_over names name e f le =
    let among = among_missing names name f in
    let many = more_than greatest_users (length (names ++ name ∷ [])) (omega (arith, greatest_users_lem, length-append names (name ∷ []))) in
    rw (e, among, many) refl

pub user_fits : (names : List (List ℕ)) (name : List ℕ) → is_name name ≡ true → position (bytes_eq name) names ≡ None → length names < 8 → user_fault names name ≡ None
user_fits names name e f lt =
    let among = among_missing names name f in
    let few = no_more_than greatest_users (length (names ++ name ∷ [])) (omega (arith, greatest_users_lem, length-append names (name ∷ []))) in
    rw (e, among, few) refl

same : (name : List ℕ) → bytes_eq name name ≡ true
same name = (bytes_eq-Decides name name).1 refl

last_place : (names : List (List ℕ)) (name : List ℕ) → is_one_name_of names name ≡ false → position_or_len (bytes_eq name) (names ++ name ∷ []) ≡ length names
last_place [] name e = ap (λ same. cond (not same) (1 + 0) 0) (same name)
last_place (one ∷ names) name e =
    let both = or_parts (bytes_eq name one) (is_one_name_of names name) e in
    let more = last_place names name both.1 in
    ap (λ here. cond (not here) (1 + position_or_len (bytes_eq name) (names ++ name ∷ [])) 0) both.0 ∙ omega (arith, more)

last_number : (names : List (List ℕ)) (name : List ℕ) → is_one_name_of names name ≡ false → name_number name (names ++ name ∷ []) ≡ length names
last_number names name e =
    let place = last_place names name e in
    let within : nat_lt (length names) (length (names ++ name ∷ [])) ≡ true = more_than _ _ (omega (arith, length-append names (name ∷ []))) in
    rw (place, within) refl

pub known_speaks : (so_far : ScriptSoFar) (name : List ℕ) (n : ℕ) → position (bytes_eq name) so_far.script.users ≡ Some n
    → record { script = so_far.script; user = Some n } ≡ with_user so_far name
known_speaks so_far name n e =
    let names = so_far.script.users in
    let among = among_there names name n e in
    let number = number_there names name n e in
    rw (among, number) refl

pub new_speaks : (so_far : ScriptSoFar) (name : List ℕ) (n : ℕ) → position (bytes_eq name) so_far.script.users ≡ None → n ≡ length so_far.script.users
    → record { script = record { dim = so_far.script.dim; images = so_far.script.images; users = so_far.script.users ++ name ∷ []; commands = so_far.script.commands }; user = Some n } ≡ with_user so_far name
new_speaks so_far name n e f =
    let names = so_far.script.users in
    let among = among_missing names name e in
    let number = last_number names name among in
    rw (among, number, f) refl

-- ---- words

first_word : (all : List (List ℕ)) → table_value verbs (get_or all 0 []) ≡ verb_of all
unfolding verb_of verbs
first_word [] = refl
first_word (word ∷ words) = refl

pub verb_found : (here : ScriptStatement) (found : Option Verb) → found ≡ table_value verbs (operand 0 here) → verb_of (words here.line) ≡ found
verb_found here found e = sym (e ∙ first_word (words here.line))

abbrev judged_by : (here : ScriptStatement) (found : Option Verb) → Option ScriptKind
judged_by here found =
    option_or (kind_where (has_bad_byte here.line) BadByte)
    (option_or (kind_where (is_none found || (option_map_or is_image found false && has_unknown_form (words here.line))) UnknownWord)
    (kind_where (not (length (words here.line) == 1 + length (option_map_or verb_operands found []))) WordCount))

judged_is : (here : ScriptStatement) (found : Option Verb) → verb_of (words here.line) ≡ found → word_fault here ≡ judged_by here found
unfolding word_fault
judged_is here found e = ap (judged_by here) e

pub bad_byte : (here : ScriptStatement) → has_bad_byte here.line ≡ true → word_fault here ≡ Some BadByte
unfolding word_fault
bad_byte here e = rw e refl

pub no_verb : (here : ScriptStatement) → has_bad_byte here.line ≡ false → verb_of (words here.line) ≡ None → word_fault here ≡ Some UnknownWord
no_verb here e f = judged_is here None f ∙ rw e refl

pub no_form : (here : ScriptStatement) (verb : Verb) → has_bad_byte here.line ≡ false → verb_of (words here.line) ≡ Some verb → is_image verb && has_unknown_form (words here.line) ≡ true
    → word_fault here ≡ Some UnknownWord
no_form here verb e f unknown = judged_is here (Some verb) f ∙ rw (e, unknown) refl

-- an image has a form or no third word
abbrev pub HasForm : Verb → ScriptStatement → Type 0
HasForm verb here = is_image verb && has_unknown_form (words here.line) ≡ false

differ : (m n : ℕ) → (m ≡ n → ⊥) → m == n ≡ false
differ m n h = grind (arith, nat_tests)

agree : (m n : ℕ) → m ≡ n → m == n ≡ true
agree m n h = grind (arith, nat_tests)

pub wrong_count : (here : ScriptStatement) (verb : Verb) → has_bad_byte here.line ≡ false → verb_of (words here.line) ≡ Some verb → HasForm verb here
    → (length (words here.line) ≡ 1 + length (verb_operands verb) → ⊥) → word_fault here ≡ Some WordCount
wrong_count here verb e f form ne =
    let count = differ (length (words here.line)) (1 + length (verb_operands verb)) ne in
    judged_is here (Some verb) f ∙ rw (e, form, count) refl

pub right_words : (here : ScriptStatement) (verb : Verb) → has_bad_byte here.line ≡ false → verb_of (words here.line) ≡ Some verb → HasForm verb here
    → length (words here.line) ≡ 1 + length (verb_operands verb) → word_fault here ≡ None
right_words here verb e f form same =
    let count = agree (length (words here.line)) (1 + length (verb_operands verb)) same in
    judged_is here (Some verb) f ∙ rw (e, form, count) refl

-- ---- names as text

ascii_byte : (byte : ℕ) → is_name_byte byte ≡ true → byte < 128
ascii_byte byte e = grind (arith, nat_tests)

ascii_bytes : (bytes : List ℕ) → list_all is_name_byte bytes ≡ true → IsAscii bytes
ascii_bytes [] e = IsAscii-nil
ascii_bytes (byte ∷ bytes) e =
    let both = and_parts (is_name_byte byte) _ e in
    IsAscii-cons byte bytes (ascii_byte byte both.0) (ascii_bytes bytes both.1)

pub name_is_text : (name : List ℕ) → is_name name ≡ true → IsUtf8 name
unfolding is_name text.is_name
name_is_text [] e = absurd cc
name_is_text (byte ∷ bytes) e =
    let named = and_parts (is_letter byte) _ e in
    let front = and_parts (not (is_digit byte) && list_all is_name_byte (byte ∷ bytes)) _ named.1 in
    let each = and_parts (not (is_digit byte)) _ front.0 in
    IsUtf8-from_ascii (byte ∷ bytes) (ascii_bytes (byte ∷ bytes) each.1)
