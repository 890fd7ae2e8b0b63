-- What the statements of a script say, each part by itself.
use Rattle.std.specs.Prelude.{ℕ, ◌+◌, Bool, not, List, [], ◌∷◌, map, filter, filter_map, find, position, Option, Some, None, option_map, option_and_then, unwrap_or, bytes_eq}
use Rattle.std.specs.List.{last_or}
use Rattle.rv_model.specs.Image.{ImageParts}
use Rattle.ce_model.specs.declared.topology.Place.{Place}
use Rattle.ce_host.specs.declared.command.Command.{Command}
use Rattle.ce_host.specs.declared.command.Command.TheVariants as command
use Rattle.ce_script.specs.declared.grammar.Verb.{Verb}
use Rattle.ce_script.specs.declared.grammar.Verb.TheVariants.{Machine, Image, User, Getcube, Peek, Freecube, Spawn, Kill, Send, Run, Recv, Dump, Trace}
use Rattle.ce_script.specs.declared.script.NamedImage.{NamedImage}
use Rattle.ce_script.specs.Lines.{Spot, spots, words}
use Rattle.ce_script.specs.Spellings.{greatest_number, bounded_number, data_in}
use Rattle.ce_script.specs.Verbs.{verb_of, is_machine, is_image, is_user, form_of}
use Rattle.ce_script.specs.Statements.{ScriptStatement, operand, has_verb_kind}
use Rattle.ce_script.specs.Bodies.{empty_image, form_image}

-- ---- statements of one kind

-- the statements that begin with a verb of this kind
abbrev pub statements_of_kind : (Verb → Bool) → List ScriptStatement → List ScriptStatement
statements_of_kind test all = filter (has_verb_kind test) all

-- the first words behind the verbs of these statements
abbrev pub stated_names : List ScriptStatement → List (List ℕ)
stated_names all = map (operand 1) all

-- the number of a name: its place among names
abbrev pub name_number : List ℕ → List (List ℕ) → ℕ
name_number name names = unwrap_or (position (bytes_eq name) names) 0

-- names, each where it first appears alone
abbrev pub without_repeats : List (List ℕ) → List (List ℕ)
without_repeats [] = []
without_repeats (name ∷ names) =
    name ∷ filter (λ other. not (bytes_eq name other)) (without_repeats names)

-- ---- operands

-- the number that an operand writes
abbrev pub operand_number : ℕ → ScriptStatement → ℕ
operand_number index statement =
    unwrap_or (bounded_number greatest_number (operand index statement)) 0

-- the node and the process id that two operands write, the first of them this one
abbrev pub operand_place : ℕ → ScriptStatement → Place
operand_place index statement =
    record { node = operand_number index statement; pid = operand_number (index + 1) statement }

-- ---- the machine, the images and the users

-- the dimension of the machine: none in a script without statements
unfoldable pub dimension : List ScriptStatement → Option ℕ
dimension all = option_map (operand_number 1) (find (has_verb_kind is_machine) all)

-- the image that a statement begins
abbrev pub stated_image : ScriptStatement → ImageParts
stated_image statement =
    unwrap_or
    (option_and_then (λ form. option_map (form_image form) statement.body)
    (form_of (operand 2 statement))) empty_image

-- the images, by number, in the order of their statements
unfoldable pub images : List ScriptStatement → List NamedImage
images all =
    map (λ statement. record { name = operand 1 statement; image = stated_image statement })
    (statements_of_kind is_image all)

-- the names of the images, by number
unfoldable pub image_names : List ScriptStatement → List (List ℕ)
image_names all = stated_names (statements_of_kind is_image all)

-- the names of the users, by number, in order of first appearance
unfoldable pub users : List ScriptStatement → List (List ℕ)
users all = without_repeats (stated_names (statements_of_kind is_user all))

-- ---- commands

-- the command of a statement with this verb, where the images have these names
abbrev pub command_of_verb : Verb → List (List ℕ) → ScriptStatement → Option Command
command_of_verb Machine names statement = None
command_of_verb Image names statement = None
command_of_verb User names statement = None
command_of_verb Getcube names statement = Some (command.Getcube (operand_number 1 statement))
command_of_verb Peek names statement = Some command.Peek
command_of_verb Freecube names statement = Some command.Freecube
command_of_verb Spawn names statement =
    Some (command.Spawn (name_number (operand 1 statement) names) (operand_place 2 statement))
command_of_verb Kill names statement = Some (command.Kill (operand_place 1 statement))
command_of_verb Send names statement =
    Some (command.Send (operand_place 1 statement) (unwrap_or (data_in (operand 3 statement)) []))
command_of_verb Run names statement = Some (command.Run (operand_number 1 statement))
command_of_verb Recv names statement = Some (command.Recv (operand_number 1 statement))
command_of_verb Dump names statement = Some (command.Dump (operand_place 1 statement))
command_of_verb Trace names statement = Some command.Trace

-- the command of a statement, where it is one and the images have these names
unfoldable pub command_of_statement : List (List ℕ) → ScriptStatement → Option Command
command_of_statement names statement =
    option_and_then (λ verb. command_of_verb verb names statement) (verb_of (words statement.line))

-- the name in the last `user` statement
abbrev pub last_user : List ScriptStatement → List ℕ
last_user earlier_statements =
    unwrap_or (last_or None (stated_names (statements_of_kind is_user earlier_statements))) []

-- the command of a statement among all, with the number of the user whose `user` statement comes
-- last before it
abbrev pub numbered_command : List ScriptStatement → Spot ScriptStatement → Option (ℕ × Command)
numbered_command all spot =
    option_map (λ command. (name_number (last_user spot.before) (users all), command))
    (command_of_statement (image_names all) spot.here)

-- the commands, each with its user's number
unfoldable pub commands : List ScriptStatement → List (ℕ × Command)
commands all = filter_map (numbered_command all) (spots all)
