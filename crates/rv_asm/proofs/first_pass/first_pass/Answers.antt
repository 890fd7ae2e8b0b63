use Rattle.std.proofs.Common.{◌+◌, ◌∙◌, sym, arith, length}
use Rattle.ce_text.specs.Bytes.{is_line_feed}
use Rattle.rv_asm.specs.FirstPass.{LayoutSoFar, layout_with_line, layout_with_lines, first_pass}
use Rattle.rv_asm.specs.LayoutView.{layout_view}
use Rattle.ce_text.proofs.Splitting.{split_behind}
use Rattle.rv_asm.proofs.Gathering.{rest_bytes, left_shorter}
use Rattle.rv_asm.proofs.Stopping.{stops_all}
use Rattle.rv_asm.proofs.Passes.{lines_step, lines_more}
use Rattle.rv_asm.proofs.first_pass.first_pass.Goals as goal

pub returns-in-Err : goal.returns-in-Err
unfolding first_pass
returns-in-Err c =
    let parts = rw c.in-Some.bytes-is at c.next_line.ensures.parts in
    let so_far = rw c.in-Some.is at c.loop-rest.invariant.whole in
    let next = λ (one : LayoutSoFar). layout_with_lines (c.loop-rest.line_number + 1) one (split_behind is_line_feed (rest_bytes c.next_line.result.1)) in
    let step = lines_step c.loop-rest.line_number (layout_view c.loop-rest.layout) c.in-Some.bytes.now c.next_line.result.0.now (rest_bytes c.next_line.result.1) parts in
    rw c.fault_of_line.ensures
    (stops_all c.in-Err.halt (c.loop-rest.line_number + 1) (layout_with_line (c.loop-rest.line_number + 1) (layout_view c.loop-rest.layout) c.next_line.result.0.now) next (first_pass c.args.text.now) (sym so_far ∙ step) c.in-Err.ensures)

pub loop-rest-preserved : goal.loop-rest-preserved
loop-rest-preserved c =
    let parts = rw c.in-Some.bytes-is at c.next_line.ensures.parts in
    let so_far = rw c.in-Some.is at c.loop-rest.invariant.whole in
    record {
      whole = lines_more c.loop-rest.line_number (layout_view c.loop-rest.layout) (layout_view c.lay_line.new.self) c.in-Some.bytes.now c.next_line.result.0.now (rest_bytes c.next_line.result.1) parts c.in_default-lay_line.ensures ∙ so_far;
      count =
          let before = rw c.in-Some.is at c.loop-rest.invariant.count in
          let shorter = rw c.in-Some.bytes-is at c.next_line.ensures.shorter in
          omega (arith, before, left_shorter c.next_line.result.1 (length c.in-Some.bytes.now) shorter);
    }

pub returns : goal.returns
unfolding first_pass layout_with_lines
returns c =
    let ended = rw c.in_default.is at c.loop-rest.invariant.whole in
    sym ended
