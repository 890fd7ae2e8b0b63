use Rattle.std.proofs.Common.{◌∙◌, ◌∷◌, sym, ap, subst, false}
use Rattle.ce_script.specs.Lines.{Line}
use Rattle.ce_script.specs.ReadLines.{plain_line, lines_left, remaining_statements}
use Rattle.ce_script.specs.Standing.{HasReadUpTo}
use Rattle.ce_script.proofs.Further.{words_counted, statements_empty, line_keeps}
use Rattle.ce_script.proofs.reader.state.Reader.read_line.Goals as goal

pub returns-then-is_empty-clause-stands : goal.returns-then-is_empty-clause-stands
returns-then-is_empty-clause-stands c =
    let lines = lines_left c.args.rest in
    let empty = sym (words_counted c.in-Ok.line c.in-Ok.line.split) ∙ sym c.is_empty.ensures ∙ c.if-is_empty.true in
    λ all stands.
    subst (HasReadUpTo all c.args.self.so_far)
    (ap (λ (line : Line). remaining_statements false (line ∷ lines)) (sym c.in-Ok.ensures) ∙ statements_empty (plain_line c.in-Ok.line) lines empty)
    stands

pub returns-clause-stands : goal.returns-clause-stands
returns-clause-stands c =
    let some = sym (words_counted c.in-Ok.line c.in-Ok.line.split) ∙ sym c.is_empty.ensures ∙ c.if-is_empty.false in
    λ all stands.
    line_keeps c.args.self.so_far c.in-Ok.line c.args.rest c.read_statement.result c.args.self.few some c.read_statement.ensures.said all
    (subst (λ (line : Line). HasReadUpTo all c.args.self.so_far (remaining_statements false (line ∷ lines_left c.args.rest))) (sym c.in-Ok.ensures) stands)
