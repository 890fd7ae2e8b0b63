use Rattle.std.proofs.Common.{◌≡◌, ◌+◌, ◌≤◌, length}
use Rattle.ce_text.specs.Bytes.{is_line_feed}
use Rattle.ce_text.specs.Line.{line_texts}
use Rattle.rv_asm.specs.FirstPass.{layout_with_lines, empty_layout}
use Rattle.rv_asm.specs.LayoutView.{layout_view}
use Rattle.ce_text.proofs.Splitting.{split_behind}
use Rattle.rv_asm.proofs.Gathering.{rest_bytes, rest_size}
use Rattle.rv_asm.proofs.first_pass.first_pass.Given as goal

abbrev pub invariant-loop-rest : goal.invariant-loop-rest
invariant-loop-rest l = record {
  whole : layout_with_lines l.line_number (layout_view l.layout) (split_behind is_line_feed (rest_bytes l.rest)) ≡ layout_with_lines 0 empty_layout (line_texts l.fn.text);
  count : l.line_number + rest_size l.rest ≤ length l.fn.text + 1;
}

abbrev pub decreases-loop-rest : goal.decreases-loop-rest
decreases-loop-rest l = rest_size l.rest
