use Rattle.std.proofs.Common.{◌≡◌, true, sym, ap, ◌∙◌}
use Rattle.std.specs.List.{list_all}
use Rattle.ce_text.specs.Bytes.{is_plain}
use Rattle.ce_text.specs.Line.{before_comment}
use Rattle.rv_asm.specs.LayoutView.{layout_view}
use Rattle.rv_asm.proofs.Passes.{line_alone, line_labelled}
use Rattle.rv_asm.proofs.layout.Layout.lay_line.Goals as goal

pub returns-in-None : goal.returns-in-None
returns-in-None c =
    let plain : list_all is_plain (before_comment c.args.bytes.now) ≡ true = ap (list_all is_plain) (sym c.before_comment-code.ensures) ∙ sym c.if-not-are_plain.ensures in
    let parts = rw (c.in-None.is, c.before_comment-code.ensures) at c.cut_at.ensures.parts in
    let whole = line_alone c.args.line_number (layout_view c.args.self.now) c.args.bytes.now c.cut_at.result.0.now plain parts in
    rw (whole, ← c.without_outer_blanks.ensures) c.lay_statement_text.ensures

pub returns-in-Some : goal.returns-in-Some
returns-in-Some c =
    let plain : list_all is_plain (before_comment c.args.bytes.now) ≡ true = ap (list_all is_plain) (sym c.before_comment-code.ensures) ∙ sym c.if-not-are_plain.ensures in
    let parts = rw (c.in-Some.is, c.before_comment-code.ensures) at c.cut_at.ensures.parts in
    let whole = line_labelled c.args.line_number (layout_view c.args.self.now) c.args.bytes.now c.cut_at.result.0.now plain c.in-Some.rest.now parts in
    let layout = rw c.in-Some.rest-is at c.lay_labelled_statement.ensures in
    rw whole layout
