-- The statements of a script.
use Rattle.std.specs.Prelude.{ℕ, Bool, false, ◌||◌, if◌then◌else◌, List, [], ◌∷◌, Option, Some, None, get_or, length, ◌==◌, filter_map, bytes_eq, codes}
use Rattle.std.specs.List.{list_any, before_first, after_last}
use Rattle.ce_script.specs.Lines.{Line, Spot, spots, lines, words}
use Rattle.ce_script.specs.declared.grammar.Verb.{Verb}
use Rattle.ce_script.specs.Verbs.{has_verb, is_image}

-- a statement: its line, and for an image the lines of its body, where an `end` follows them
pub record ScriptStatement : Type 0 where
  pub line : Line
  pub body : Option (List Line)

-- the word with this number behind the first of a statement
abbrev pub operand : ℕ → ScriptStatement → List ℕ
operand index statement = get_or (words statement.line) index []

-- the statement begins with a verb of this kind
abbrev pub has_verb_kind : (Verb → Bool) → ScriptStatement → Bool
has_verb_kind test statement = has_verb test (words statement.line)

-- ---- bodies of images

-- the words are this one alone
abbrev pub are_only : List ℕ → List (List ℕ) → Bool
are_only word [] = false
are_only word (first ∷ []) = bytes_eq first word
are_only word (first ∷ second ∷ others) = false

-- the line's only word is `end`
abbrev pub is_end : Line → Bool
is_end line = are_only (codes "end") (words line)

-- the line's first word is `image`
abbrev pub begins_image : Line → Bool
begins_image line = has_verb is_image (words line)

-- A line belongs to the body of an image, or ends one, where an image begins before it and no `end`
-- comes between.
abbrev pub is_inside_image : List Line → Bool
is_inside_image earlier_lines = list_any begins_image (after_last is_end earlier_lines)

-- the lines of an image's body: those behind its own, up to an `end`
unfoldable pub found_body : List Line → Option (List Line)
found_body later_lines =
    if list_any is_end later_lines then Some (before_first is_end later_lines) else None

-- ---- statements

-- the statement of a line before these lines
abbrev pub statement_before : Line → List Line → ScriptStatement
statement_before line later_lines =
    record { line = line; body = if begins_image line then found_body later_lines else None }

-- the statement of a line
abbrev pub line_statement : Spot Line → ScriptStatement
line_statement spot = statement_before spot.here spot.behind

-- a statement stands on each line that has words and is not inside an image
unfoldable pub standing_statement : Spot Line → Option ScriptStatement
standing_statement spot =
    if (length (words spot.here) == 0) || is_inside_image spot.before then None
    else Some (line_statement spot)

-- the statements of a text, in order
unfoldable pub statements : List ℕ → List ScriptStatement
statements text = filter_map standing_statement (spots (lines text))
