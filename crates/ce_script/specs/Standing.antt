-- What is known behind some statements, and how a statement is judged and adds to it.
use Rattle.std.specs.Prelude.{◌≡◌, ℕ, ◌≤◌, false, nat_lt, if◌then◌else◌, List, [], ◌∷◌, ◌++◌, map, filter_map, length, Option, Some, None, is_none, is_some, unwrap_or, option_map, option_and_then, IfSome}
use Rattle.std.specs.Coded.{le_prop}
use Rattle.std.specs.List.{list_any, cons_option}
use Rattle.std.specs.Option.{option_or}
use Rattle.rv_model.specs.Image.{ImageParts}
use Rattle.ce_model.specs.Limits.{greatest_users, greatest_images}
use Rattle.ce_host.specs.declared.command.Command.{Command}
use Rattle.ce_script.specs.declared.grammar.Verb.{Verb}
use Rattle.ce_script.specs.declared.grammar.Verb.TheVariants.{Machine, Image, User}
use Rattle.ce_script.specs.declared.reader.line.WordedLine.{WordedLine}
use Rattle.ce_script.specs.declared.reader.rest.Rest.{Rest}
use Rattle.ce_script.specs.declared.reader.so_far.ScriptSoFar.{ScriptSoFar}
use Rattle.ce_script.specs.declared.script.Script.{Script}
use Rattle.ce_script.specs.declared.script.ScriptFault.{ScriptFault}
use Rattle.ce_script.specs.declared.script.ScriptKind.{ScriptKind}
use Rattle.ce_script.specs.declared.script.ScriptKind.TheVariants.{TooMany, NoEnd}
use Rattle.ce_script.specs.Lines.{later_spots, words}
use Rattle.ce_script.specs.Verbs.{verb_of, is_machine, is_user, NewImage}
use Rattle.ce_script.specs.Statements.{ScriptStatement, operand, has_verb_kind, begins_image, found_body, statement_before}
use Rattle.ce_script.specs.Bodies.{located_fault}
use Rattle.ce_script.specs.Sayings.{operand_number, name_number, stated_image, dimension, images, users, last_user, command_of_verb, numbered_command, commands}
use Rattle.ce_script.specs.Faults.{first_some, kind_where, operand_fault, image_fault, statement_fault, first_statement_fault}
use Rattle.ce_script.specs.ReadLines.{plain_line, lines_left, remaining_statements}
use Rattle.ce_script.specs.Reading.{word_fault, place_fault, operands_judgment, with_user_name, user_fault}

-- ---- the script so far

-- the names of the images
abbrev pub names_so_far : ScriptSoFar → List (List ℕ)
names_so_far so_far = map (λ named_image. named_image.name) so_far.script.images

-- no more users and images than a machine can have
pub record AreFew (so_far : ScriptSoFar) : Type 0 where
  pub users : length so_far.script.users ≤ greatest_users
  pub images : length so_far.script.images ≤ greatest_images

pub AreFew-prop : (so_far : ScriptSoFar) → IsProp (AreFew so_far)
AreFew-prop so_far a b = λ i. record {
  users = le_prop a.users b.users i;
  images = le_prop a.images b.images i;
}

-- ---- what a statement adds

-- another script, with the same user
abbrev pub with_script : ScriptSoFar → Script → ScriptSoFar
with_script so_far script = record { script = script; user = so_far.user }

-- this is the machine's dimension
abbrev pub with_dim : ScriptSoFar → ℕ → ScriptSoFar
with_dim so_far dim =
    with_script so_far
    (record {
      dim = Some dim;
      images = so_far.script.images;
      users = so_far.script.users;
      commands = so_far.script.commands;
    })

-- this user speaks
abbrev pub with_user : ScriptSoFar → List ℕ → ScriptSoFar
with_user so_far name =
    let names = with_user_name so_far.script.users name in
    record {
      script = record {
        dim = so_far.script.dim;
        images = so_far.script.images;
        users = names;
        commands = so_far.script.commands;
      };
      user = Some (name_number name names);
    }

-- one image more
abbrev pub with_image : ScriptSoFar → List ℕ → ImageParts → ScriptSoFar
with_image so_far name image =
    with_script so_far
    (record {
      dim = so_far.script.dim;
      images = so_far.script.images ++ record { name = name; image = image } ∷ [];
      users = so_far.script.users;
      commands = so_far.script.commands;
    })

-- one command more, if there is one
abbrev pub with_command : ScriptSoFar → Option Command → ScriptSoFar
with_command so_far command =
    with_script so_far
    (record {
      dim = so_far.script.dim;
      images = so_far.script.images;
      users = so_far.script.users;
      commands =
          so_far.script.commands
          ++ cons_option
          (option_map (λ own_command. (unwrap_or so_far.user 0, own_command)) command) [];
    })

-- what is known behind a statement with this verb
abbrev pub with_statement : ScriptSoFar → Verb → ScriptStatement → ScriptSoFar
with_statement so_far Machine statement = with_dim so_far (operand_number 1 statement)
with_statement so_far Image statement =
    with_image so_far (operand 1 statement) (stated_image statement)
with_statement so_far User statement = with_user so_far (operand 1 statement)
with_statement so_far verb statement =
    with_command so_far (command_of_verb verb (names_so_far so_far) statement)

-- ---- what is wrong with a statement

-- with the name of an image that begins, or with their number
abbrev pub new_image_fault : List (List ℕ) → List ℕ → Option ScriptKind
new_image_fault names name =
    option_or (operand_fault names NewImage name)
    (kind_where (nat_lt greatest_images (length (names ++ name ∷ []))) TooMany)

-- with what stands behind its verb
abbrev pub rest_fault : ScriptSoFar → Verb → ScriptStatement → Option ScriptKind
rest_fault so_far User statement = user_fault so_far.script.users (operand 1 statement)
rest_fault so_far Image statement =
    option_or (new_image_fault (names_so_far so_far) (operand 1 statement))
    (kind_where (is_none statement.body) NoEnd)
rest_fault so_far verb statement = operands_judgment (names_so_far so_far) verb statement

-- with the place and what stands behind the verb
abbrev pub verb_fault : ScriptSoFar → Verb → ScriptStatement → Option ScriptKind
verb_fault so_far verb statement =
    option_or (place_fault (is_some so_far.script.dim) (is_some so_far.user) verb)
    (rest_fault so_far verb statement)

-- with its line
abbrev pub line_judgment : ScriptSoFar → ScriptStatement → Option ScriptKind
line_judgment so_far statement =
    option_or (word_fault statement)
    (option_and_then (λ verb. verb_fault so_far verb statement) (verb_of (words statement.line)))

-- with its line and its body
abbrev pub statement_judgment : ScriptSoFar → ScriptStatement → Option ScriptFault
statement_judgment so_far statement =
    option_or (option_map (located_fault statement.line.number) (line_judgment so_far statement))
    (image_fault statement)

-- what is wrong with its words or with its place
abbrev pub begin_fault : ScriptSoFar → ScriptStatement → Option ScriptKind
begin_fault so_far statement =
    option_or (word_fault statement)
    (option_and_then (place_fault (is_some so_far.script.dim) (is_some so_far.user))
    (verb_of (words statement.line)))

-- ---- the statement on a line

-- a line, and the body that may follow it
abbrev pub statement_with_body : WordedLine → Rest → ScriptStatement
statement_with_body line rest =
    record { line = plain_line line; body = found_body (lines_left rest) }

-- the statement of the line
abbrev pub statement_on_line : WordedLine → Rest → ScriptStatement
statement_on_line line rest = statement_before (plain_line line) (lines_left rest)

-- the reader knows what a statement says, and this is left behind it
pub record HasReadPast (old new : ScriptSoFar) (line : WordedLine) (rest next : Rest) : Type 0 where
  pub verb : Verb
  pub is : verb_of (words (plain_line line)) ≡ Some verb
  pub none : statement_judgment old (statement_on_line line rest) ≡ None
  pub state : new ≡ with_statement old verb (statement_on_line line rest)
  pub past : remaining_statements (begins_image (plain_line line)) (lines_left rest)
      ≡ remaining_statements false (lines_left next)

-- nothing is said
abbrev pub blank_script : ScriptSoFar
blank_script =
    record { script = record { dim = None; images = []; users = []; commands = [] }; user = None }

-- ---- the whole

-- the reader knows what these statements say
pub record HasReadFront (so_far : ScriptSoFar) (front : List ScriptStatement) : Type 0 where
  pub dim : so_far.script.dim ≡ dimension front
  pub machine : is_some so_far.script.dim ≡ list_any (has_verb_kind is_machine) front
  pub has_user : is_some so_far.user ≡ list_any (has_verb_kind is_user) front
  pub user : IfSome so_far.user (λ number. number ≡ name_number (last_user front) (users front))
  pub images : so_far.script.images ≡ images front
  pub users : so_far.script.users ≡ users front

-- The reader knows what all statements but these last say, and none of those has a fault.
pub record HasReadUpTo (all : List ScriptStatement) (so_far : ScriptSoFar)
    (rest : List ScriptStatement) : Type 0 where
  pub front : List ScriptStatement
  pub whole : all ≡ front ++ rest
  pub behind : HasReadFront so_far front
  pub faults : first_statement_fault all ≡ first_some (map statement_fault (later_spots front rest))
  pub commands : commands all
      ≡ so_far.script.commands ++ filter_map (numbered_command all) (later_spots front rest)
