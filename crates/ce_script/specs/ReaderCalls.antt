-- What the calls of a reader do.
use Rattle.std.specs.Prelude.{◌≡◌, false, List, Option, Some, None, is_some, Result, Ok, Err, option_map}
use Rattle.std.specs.Option.{option_or}
use Rattle.ce_script.specs.declared.grammar.Verb.{Verb}
use Rattle.ce_script.specs.declared.grammar.Verb.TheVariants.{Image}
use Rattle.ce_script.specs.declared.reader.line.WordedLine.{WordedLine}
use Rattle.ce_script.specs.declared.reader.rest.Rest.{Rest}
use Rattle.ce_script.specs.declared.reader.so_far.ScriptSoFar.{ScriptSoFar}
use Rattle.ce_script.specs.declared.reader.state.Reader.{Reader}
use Rattle.ce_script.specs.declared.script.ScriptFault.{ScriptFault}
use Rattle.ce_script.specs.declared.script.ScriptKind.{ScriptKind}
use Rattle.ce_script.specs.Lines.{words}
use Rattle.ce_script.specs.Verbs.{verb_of}
use Rattle.ce_script.specs.Statements.{ScriptStatement}
use Rattle.ce_script.specs.Bodies.{located_fault}
use Rattle.ce_script.specs.Faults.{image_fault, first_statement_fault}
use Rattle.ce_script.specs.Reading.{ScriptUnless, word_fault, place_fault}
use Rattle.ce_script.specs.ReadLines.{lines_left, remaining_statements}
use Rattle.ce_script.specs.Standing.{begin_fault, with_statement, rest_fault, statement_judgment, statement_with_body, statement_on_line, HasReadPast, HasReadUpTo}

-- the reader found the verb of a statement that may stand here,
-- or what is wrong with its words or its place
abbrev pub HasReadVerb : Result Verb ScriptKind → ScriptSoFar → ScriptStatement → Type 0
HasReadVerb (Ok verb) so_far statement =
    (word_fault statement ≡ None) × (verb_of (words statement.line) ≡ Some verb)
    × (place_fault (is_some so_far.script.dim) (is_some so_far.user) verb ≡ None)
HasReadVerb (Err kind) so_far statement =
    ScriptUnless kind (begin_fault so_far statement ≡ Some kind)

-- the reader knows this now where there is no fault, and else the fault was found
abbrev pub HasReadPart : Result Reader ScriptKind → Option ScriptKind → ScriptSoFar → Type 0
HasReadPart (Ok reader) fault so_far = (fault ≡ None) × (reader.so_far ≡ so_far)
HasReadPart (Err kind) fault so_far = ScriptUnless kind (fault ≡ Some kind)

-- the reader added the image that a line begins, or found what is wrong
abbrev pub HasReadImage : Result (Reader × Rest) ScriptFault → ScriptSoFar → WordedLine → Rest
    → Type 0
HasReadImage (Ok next) old line rest =
    (rest_fault old Image (statement_with_body line rest) ≡ None)
    × (image_fault (statement_with_body line rest) ≡ None)
    × (next.0.so_far ≡ with_statement old Image (statement_with_body line rest))
HasReadImage (Err fault) old line rest =
    ScriptUnless fault.kind
    (option_or (option_map (located_fault line.number)
    (rest_fault old Image (statement_with_body line rest)))
    (image_fault (statement_with_body line rest)) ≡ Some fault)

-- the reader added what a statement says, or found what is wrong
abbrev pub HasReadStatement : Result (Reader × Rest) ScriptFault → ScriptSoFar → WordedLine → Rest
    → Type 0
HasReadStatement (Ok next) old line rest = HasReadPast old next.0.so_far line rest next.1
HasReadStatement (Err fault) old line rest =
    ScriptUnless fault.kind (statement_judgment old (statement_on_line line rest) ≡ Some fault)

-- the reader went on to where these lines are left, or found the first fault
abbrev pub HasReadStatements : List ScriptStatement → Result (Reader × Rest) ScriptFault → Type 0
HasReadStatements all (Ok next) =
    HasReadUpTo all next.0.so_far (remaining_statements false (lines_left next.1))
HasReadStatements all (Err fault) = ScriptUnless fault.kind (first_statement_fault all ≡ Some fault)
