-- The first fault of a text that is no script.
use Rattle.std.specs.Prelude.{ℕ, ◌+◌, Bool, false, not, ◌&&◌, ◌||◌, ◌==◌, nat_lt, if◌then◌else◌, List, [], ◌∷◌, ◌++◌, map, length, Option, Some, None, is_none, option_map, option_and_then}
use Rattle.std.specs.List.{list_any, enumerate_from}
use Rattle.std.specs.Option.{option_or, option_map_or}
use Rattle.std.specs.Str.{bytes_eq}
use Rattle.ce_model.specs.Limits.{greatest_users, greatest_images}
use Rattle.ce_script.specs.declared.script.ScriptFault.{ScriptFault}
use Rattle.ce_script.specs.declared.script.ScriptKind.{ScriptKind}
use Rattle.ce_script.specs.declared.script.ScriptKind.TheVariants.{BadByte, UnknownWord, WordCount, NoMachine, SecondMachine, NoUser, BadNumber, BadName, BadHex, NameTaken, TooMany, UnknownImage, NoEnd}
use Rattle.ce_script.specs.Lines.{Spot, spots, words, has_bad_byte}
use Rattle.ce_script.specs.Spellings.{bounded_number, data_in}
use Rattle.ce_script.specs.Names.{is_name}
use Rattle.ce_script.specs.Verbs.{verb_of, is_machine, is_image, is_user, is_command, form_of, verb_operands, Operand, Number, NewImage, Form, OldImage, Name, Data}
use Rattle.ce_script.specs.Statements.{ScriptStatement, operand, has_verb_kind, statements}
use Rattle.ce_script.specs.Bodies.{located_fault, body_fault}
use Rattle.ce_script.specs.Sayings.{image_names, users}

-- ---- the first of several

-- the first that is there
abbrev pub first_some : {A : Type 0} → List (Option A) → Option A
first_some [] = None
first_some (one ∷ others) = option_or one (first_some others)

-- this kind, where the test holds
abbrev pub kind_where : Bool → ScriptKind → Option ScriptKind
kind_where test kind = if test then Some kind else None

-- ---- questions about a statement

-- there is a third word, and it is no form
abbrev pub has_unknown_form : List (List ℕ) → Bool
has_unknown_form (verb ∷ name ∷ form ∷ others) = is_none (form_of form)
has_unknown_form shorter = false

-- the first word is no verb, or the third word of an image is no form
abbrev pub has_unknown_word : ScriptStatement → Bool
has_unknown_word statement =
    is_none (verb_of (words statement.line))
    || (has_verb_kind is_image statement && has_unknown_form (words statement.line))

-- the words that belong behind the first word
abbrev pub expected_operands : ScriptStatement → List Operand
expected_operands statement = option_map_or verb_operands (verb_of (words statement.line)) []

-- it has not as many words as belong to its verb
abbrev pub has_wrong_count : ScriptStatement → Bool
has_wrong_count statement =
    not (length (words statement.line) == 1 + length (expected_operands statement))

-- ---- questions about a statement and the earlier ones

-- it is no `machine`, and none is before it
abbrev pub lacks_machine : Spot ScriptStatement → Bool
lacks_machine spot =
    not (has_verb_kind is_machine spot.here)
    && not (list_any (has_verb_kind is_machine) spot.before)

-- it is a `machine` behind another
abbrev pub is_second_machine : Spot ScriptStatement → Bool
is_second_machine spot =
    has_verb_kind is_machine spot.here && list_any (has_verb_kind is_machine) spot.before

-- it is a command, and no `user` is before it
abbrev pub lacks_user : Spot ScriptStatement → Bool
lacks_user spot =
    has_verb_kind is_command spot.here && not (list_any (has_verb_kind is_user) spot.before)

-- a name is one of these
abbrev pub is_one_name_of : List (List ℕ) → List ℕ → Bool
is_one_name_of names name = list_any (bytes_eq name) names

-- what is wrong with an operand, where the earlier images have these names
abbrev pub operand_fault : List (List ℕ) → Operand → List ℕ → Option ScriptKind
operand_fault names (Number greatest) word =
    kind_where (is_none (bounded_number greatest word)) BadNumber
operand_fault names NewImage word =
    option_or (kind_where (not (is_name word)) BadName)
    (kind_where (is_one_name_of names word) NameTaken)
operand_fault names Form word = None
operand_fault names OldImage word =
    option_or (kind_where (not (is_name word)) BadName)
    (kind_where (not (is_one_name_of names word)) UnknownImage)
operand_fault names Name word = kind_where (not (is_name word)) BadName
operand_fault names Data word = kind_where (is_none (data_in word)) BadHex

-- what is wrong with the operand at a place
abbrev pub placed_fault : Spot ScriptStatement → ℕ × Operand → Option ScriptKind
placed_fault spot placed_operand =
    operand_fault (image_names spot.before) placed_operand.1 (operand placed_operand.0 spot.here)

-- what is wrong with the operands, from left to right
unfoldable pub operands_fault : Spot ScriptStatement → Option ScriptKind
operands_fault spot =
    first_some (map (placed_fault spot) (enumerate_from 1 (expected_operands spot.here)))

-- with it there are more users or images than a machine can have
abbrev pub is_one_too_many : Spot ScriptStatement → Bool
is_one_too_many spot =
    let all = spot.before ++ spot.here ∷ [] in
    nat_lt greatest_users (length (users all)) || nat_lt greatest_images (length (image_names all))

-- it begins an image that no `end` follows
abbrev pub lacks_end : ScriptStatement → Bool
lacks_end statement = has_verb_kind is_image statement && is_none statement.body

-- ---- faults

-- what may be wrong with a statement's own line: the table of kinds, in their order
abbrev pub own_line_faults : Spot ScriptStatement → List (Option ScriptKind)
own_line_faults spot =
    kind_where (has_bad_byte spot.here.line) BadByte
    ∷ kind_where (has_unknown_word spot.here) UnknownWord
    ∷ kind_where (has_wrong_count spot.here) WordCount
    ∷ kind_where (lacks_machine spot) NoMachine
    ∷ kind_where (is_second_machine spot) SecondMachine
    ∷ kind_where (lacks_user spot) NoUser
    ∷ operands_fault spot
    ∷ kind_where (is_one_too_many spot) TooMany
    ∷ kind_where (lacks_end spot.here) NoEnd
    ∷ []

-- the first fault of a statement's own line
unfoldable pub own_line_fault : Spot ScriptStatement → Option ScriptKind
own_line_fault spot = first_some (own_line_faults spot)

-- the first fault of the body of an image
abbrev pub image_fault : ScriptStatement → Option ScriptFault
image_fault statement =
    option_and_then (λ form. option_and_then (body_fault form statement.line.number) statement.body)
    (form_of (operand 2 statement))

-- the first fault of a statement: of its own line, and then of its body
abbrev pub statement_fault : Spot ScriptStatement → Option ScriptFault
statement_fault spot =
    option_or (option_map (located_fault spot.here.line.number) (own_line_fault spot))
    (image_fault spot.here)

-- the first fault of statements
abbrev pub first_statement_fault : List ScriptStatement → Option ScriptFault
first_statement_fault all = first_some (map statement_fault (spots all))

-- the first fault of a text
unfoldable pub first_script_fault : List ℕ → Option ScriptFault
first_script_fault text = first_statement_fault (statements text)
