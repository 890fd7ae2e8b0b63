-- What stands before a line, and what its label is.
use Rattle.std.specs.Prelude.{◌≡◌, ℕ, ◌+◌, ◌<◌, List, [], ◌∷◌, length, take, slice_index_or, Option, Some, None, Result, Ok, Err, IsOk}
use Rattle.rv_model.specs.declared.limits.TheConstants.{PRIVATE_START}
use Rattle.rv_asm.specs.declared.fault.AsmKind.{AsmKind}
use Rattle.rv_asm.specs.declared.fault.AsmFault.{AsmFault}
use Rattle.ce_text.specs.Line.{cut_parts, before_comment, without_outer_blanks}
use Rattle.rv_asm.specs.Line.{is_colon}
use Rattle.rv_asm.specs.FirstPass.{LayoutSoFar, empty_layout, layout_with_line}

abbrev pub label_part : List ℕ × Option (List ℕ) → Option (List ℕ)
label_part (front, None) = None
label_part (front, Some rest) = Some (without_outer_blanks front)

-- the label of a line: what stands before its first colon
unfoldable pub label_of : List ℕ → Option (List ℕ)
label_of line = label_part (cut_parts is_colon (before_comment line))

abbrev pub layout_behind_line : LayoutSoFar → Result LayoutSoFar AsmKind → LayoutSoFar
layout_behind_line layout (Ok next) = next
layout_behind_line layout (Err kind) = layout

-- what is laid once lines are done, behind so many others: a line with a fault lays nothing
unfoldable pub layout_of_lines : ℕ → LayoutSoFar → List (List ℕ) → LayoutSoFar
layout_of_lines line_count layout [] = layout
layout_of_lines line_count layout (line ∷ lines) = layout_of_lines (line_count + 1)
    (layout_behind_line layout (layout_with_line (line_count + 1) layout line)) lines

-- what stands before a line of a text, which is counted from 0
abbrev pub layout_before : List (List ℕ) → ℕ → LayoutSoFar
layout_before lines i = layout_of_lines 0 empty_layout (take i lines)

-- a line of a text, counted from 0
abbrev pub line_at : List (List ℕ) → ℕ → List ℕ
line_at lines i = slice_index_or lines i []

-- the judgment of a line, after those before it: what is laid then, or the fault of the line
abbrev pub layout_judgment : List (List ℕ) → ℕ → Result LayoutSoFar AsmKind
layout_judgment lines i = layout_with_line (i + 1) (layout_before lines i) (line_at lines i)

-- the line of a fault is the first that has one, and the kind is that line's
pub record IsFirstFault (lines : List (List ℕ)) (fault : AsmFault) : Type 0 where
  pub place : ℕ
  pub number : fault.line ≡ place + 1
  pub within : place < length lines
  pub here : layout_judgment lines place ≡ Err fault.kind
  pub before : (i : ℕ) → i < place → IsOk (layout_judgment lines i)

-- no line has a fault, and this is what they lay
pub record AreLaid (lines : List (List ℕ)) (layout : LayoutSoFar) : Type 0 where
  pub each : (i : ℕ) → i < length lines → IsOk (layout_judgment lines i)
  pub all : layout_before lines (length lines) ≡ layout

-- the address of a line's label: where what it lays begins
abbrev pub address_at : List (List ℕ) → ℕ → ℕ
address_at lines i = PRIVATE_START + (layout_before lines i).size
