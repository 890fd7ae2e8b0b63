use Rattle.std.proofs.Common.{◌∙◌, sym, ap, not, ◌+◌}
use Rattle.ce_text.specs.Table.{table_value}
use Rattle.ce_script.specs.Verbs.{verbs}
use Rattle.ce_script.specs.ReadLines.{statement_of_line}
use Rattle.ce_script.proofs.Judging.{verb_found, bad_byte, no_verb, no_form, wrong_count, right_words}
use Rattle.ce_script.proofs.reader.state.line_verb.Goals as goal

pub returns-then-not-are_plain : goal.returns-then-not-are_plain
returns-then-not-are_plain c =
    let plain = rw c.before_comment.ensures at c.if-not-are_plain.ensures in
    bad_byte (statement_of_line c.args.line.now) (ap not (sym plain))

pub returns-in-None : goal.returns-in-None
returns-in-None c =
    let plain = rw c.before_comment.ensures at c.if-not-are_plain.ensures in
    let found = verb_found (statement_of_line c.args.line.now) c.verb_of.result (c.verb_of.ensures ∙ ap (table_value verbs) c.operand.ensures) in
    no_verb (statement_of_line c.args.line.now) (ap not (sym plain)) (found ∙ c.in-None.is)

pub returns-then-begins_unknown_form : goal.returns-then-begins_unknown_form
returns-then-begins_unknown_form c =
    let plain = rw c.before_comment.ensures at c.if-not-are_plain.ensures in
    let found = verb_found (statement_of_line c.args.line.now) c.verb_of.result (c.verb_of.ensures ∙ ap (table_value verbs) c.operand.ensures) in
    no_form (statement_of_line c.args.line.now) c.in-Some.verb (ap not (sym plain)) (found ∙ c.in-Some.is) (sym c.if-begins_unknown_form.ensures)

pub returns-then-count-operand_count : goal.returns-then-count-operand_count
returns-then-count-operand_count c =
    let plain = rw c.before_comment.ensures at c.if-not-are_plain.ensures in
    let found = verb_found (statement_of_line c.args.line.now) c.verb_of.result (c.verb_of.ensures ∙ ap (table_value verbs) c.operand.ensures) in
    wrong_count (statement_of_line c.args.line.now) c.in-Some.verb (ap not (sym plain)) (found ∙ c.in-Some.is) (sym c.if-begins_unknown_form.ensures)
    (λ same. c.if-count-operand_count.true (c.count.ensures ∙ same ∙ ap (λ n. 1 + n) (sym c.operand_count.ensures)))

pub returns : goal.returns
returns c =
    let plain = rw c.before_comment.ensures at c.if-not-are_plain.ensures in
    let found = verb_found (statement_of_line c.args.line.now) c.verb_of.result (c.verb_of.ensures ∙ ap (table_value verbs) c.operand.ensures) in (
      right_words (statement_of_line c.args.line.now) c.in-Some.verb (ap not (sym plain)) (found ∙ c.in-Some.is) (sym c.if-begins_unknown_form.ensures)
          (sym c.count.ensures ∙ c.if-count-operand_count.false ∙ ap (λ n. 1 + n) c.operand_count.ensures),
      found ∙ c.in-Some.is,
    )
