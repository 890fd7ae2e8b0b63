-- The lines that the reader has, as the definitions see them.
use Rattle.std.specs.Prelude.{◌≡◌, ℕ, ◌+◌, ◌<◌, ◌≤◌, ◌==◌, Bool, true, false, ◌||◌, if◌then◌else◌, List, [], ◌∷◌, ◌++◌, Option, Some, None, length, option_map, IfSome}
use Rattle.std.specs.List.{slice_split}
use Rattle.ce_text.specs.Bytes.{is_line_feed}
use Rattle.ce_text.specs.Line.{cut_parts}
use Rattle.ce_script.specs.declared.reader.line.WordedLine.{WordedLine}
use Rattle.ce_script.specs.declared.reader.rest.Rest.{Rest}
use Rattle.ce_script.specs.declared.reader.rest.Body.{Body}
use Rattle.ce_script.specs.Lines.{Line, numbered_lines, words, rest_size}
use Rattle.ce_script.specs.Statements.{ScriptStatement, is_end, begins_image, found_body, statement_before}
use Rattle.ce_script.specs.Bodies.{body_text}

-- the line
abbrev pub plain_line : WordedLine → Line
plain_line line = record { number = line.number; text = line.text.now }

-- the statement of the line, but for the body of an image
abbrev pub statement_of_line : WordedLine → ScriptStatement
statement_of_line line = record { line = plain_line line; body = None }

-- the texts of the lines of what is left of a text
abbrev pub texts_left : Option (List ℕ) → List (List ℕ)
texts_left None = []
texts_left (Some text) = slice_split is_line_feed text

-- the bytes that are left
abbrev pub rest_text : Rest → Option (List ℕ)
rest_text rest = option_map (λ text. text.now) rest.text

-- the lines that are left
abbrev pub lines_left : Rest → List Line
lines_left rest = numbered_lines (rest.line_count + 1) (texts_left (rest_text rest))

-- how many lines are done, and how many bytes are left
abbrev pub reach_of : Rest → ℕ
reach_of rest = rest.line_count + rest_size (rest_text rest)

-- these lines are left behind those, or are the same
pub record IsLater (rest next : Rest) : Type 0 where
  pub lines : rest.line_count ≤ next.line_count
  pub reach : reach_of next ≤ reach_of rest

-- the first line that is left has this text, and behind it these lines are left
pub record IsFirstLine (rest : Rest) (line : List ℕ) (next : Rest) : Type 0 where
  pub bytes : List ℕ
  pub is : rest_text rest ≡ Some bytes
  pub parts : (line, rest_text next) ≡ cut_parts is_line_feed bytes
  pub before : next.line_count ≡ rest.line_count + 1
  pub shorter : IfSome next.text (λ text. length text.now < length bytes)

-- ---- statements, line by line

-- whether what follows a line stands inside an image, where the line does or does not
abbrev pub is_inside_image_behind : Bool → Line → Bool
is_inside_image_behind is_inside line =
    if is_end line then false else (is_inside || begins_image line)

-- the statements on lines, where the first stands inside an image or not
unfoldable pub remaining_statements : Bool → List Line → List ScriptStatement
remaining_statements is_inside [] = []
remaining_statements is_inside (line ∷ lines) =
    let others = remaining_statements (is_inside_image_behind is_inside line) lines in
    if (length (words line) == 0) || is_inside then others
    else statement_before line lines ∷ others

-- ---- bodies

-- the lines of a body, and an empty one behind its last line feed
abbrev pub body_lines : Body → List Line
body_lines body = numbered_lines (body.line + 1) (slice_split is_line_feed body.text.now)

-- an empty line behind others
abbrev pub with_empty_line : List Line → ℕ → List Line
with_empty_line lines number = lines ++ record { number = number; text = [] } ∷ []

-- the body has these lines
pub record IsBody (body : Body) (lines : List Line) : Type 0 where
  pub text : body_text lines ≡ body.text.now
  pub last : ℕ
  pub shown : body_lines body ≡ with_empty_line lines last

-- the body of the image whose line stands before what is left, and what is left behind its `end`
pub record IsBodyIn (rest : Rest) (body : Body) (next : Rest) : Type 0 where
  pub lines : List Line
  pub here : found_body (lines_left rest) ≡ Some lines
  pub is : IsBody body lines
  pub at : body.line ≡ rest.line_count
  pub past : remaining_statements true (lines_left rest)
      ≡ remaining_statements false (lines_left next)
  pub later : IsLater rest next
