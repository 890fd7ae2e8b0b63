-- The first pass, line by line.
use Rattle.std.proofs.Common.{◌≡◌, ℕ, ◌+◌, true, List, ◌∷◌, Option, Some, None, Result, Ok, sym, ap, ◌∙◌}
use Rattle.std.specs.List.{slice_split, list_all}
use Rattle.rv_asm.specs.declared.fault.AsmKind.{AsmKind}
use Rattle.ce_text.specs.Bytes.{is_line_feed, is_plain}
use Rattle.ce_text.specs.Line.{cut_parts, before_comment, without_outer_blanks}
use Rattle.rv_asm.specs.Line.{is_colon}
use Rattle.rv_asm.specs.Faults.{◌>>=◌}
use Rattle.rv_asm.specs.FirstPass.{LayoutSoFar, judgment_at_line, layout_with_line, layout_with_lines, layout_with_labelled_statement, layout_with_statement_text}
use Rattle.ce_text.proofs.Splitting.{split_cut, split_behind}

-- the lines that are left, the first of which ends at the first line feed
pub lines_step : (before : ℕ) (layout : LayoutSoFar) (bytes front : List ℕ) (after : Option (List ℕ)) → (front, after) ≡ cut_parts is_line_feed bytes
    → layout_with_lines before layout (slice_split is_line_feed bytes)
    ≡ (judgment_at_line (before + 1) (layout_with_line (before + 1) layout front) >>= λ one. layout_with_lines (before + 1) one (split_behind is_line_feed after))
unfolding layout_with_lines
lines_step before layout bytes front after e =
    ap (layout_with_lines before layout) (split_cut is_line_feed bytes)
    ∙ ap (λ (parts : List ℕ × Option (List ℕ)). layout_with_lines before layout (parts.0 ∷ split_behind is_line_feed parts.1)) (sym e)

pub lines_more : (before : ℕ) (layout next : LayoutSoFar) (bytes front : List ℕ) (after : Option (List ℕ)) → (front, after) ≡ cut_parts is_line_feed bytes → layout_with_line (before + 1) layout front ≡ Ok next
    → layout_with_lines (before + 1) next (split_behind is_line_feed after) ≡ layout_with_lines before layout (slice_split is_line_feed bytes)
lines_more before layout next bytes front after e h =
    sym (lines_step before layout bytes front after e ∙ ap (λ (judgment : Result LayoutSoFar AsmKind). judgment_at_line (before + 1) judgment >>= λ one. layout_with_lines (before + 1) one (split_behind is_line_feed after)) h)

-- ---- one line

module _ (number : ℕ) (layout : LayoutSoFar) (line front : List ℕ) (plain : list_all is_plain (before_comment line) ≡ true) where
  pub line_alone : (front, None) ≡ cut_parts is_colon (before_comment line) → layout_with_line number layout line ≡ layout_with_statement_text number layout (without_outer_blanks front)
  unfolding layout_with_line
  line_alone e = rw plain (ap (λ (parts : List ℕ × Option (List ℕ)). layout_with_labelled_statement number layout parts.0 parts.1) (sym e))

  pub line_labelled : (rest : List ℕ) → (front, Some rest) ≡ cut_parts is_colon (before_comment line) → layout_with_line number layout line ≡ layout_with_labelled_statement number layout front (Some rest)
  unfolding layout_with_line
  line_labelled rest e = rw plain (ap (λ (parts : List ℕ × Option (List ℕ)). layout_with_labelled_statement number layout parts.0 parts.1) (sym e))
