use Rattle.std.proofs.Common.{Some, None, sym, ◌∙◌, arith}
use Rattle.std.proofs.lemmas.Bool.{eqb-true, eqb-false}
use Rattle.ce_text.proofs.WordCuts.{words_first, words_none}
use Rattle.ce_text.proofs.words.next_word.Goals as goal

pub returns-then-is_empty-clause-words : goal.returns-then-is_empty-clause-words
returns-then-is_empty-clause-words c =
    words_none c.args.line.now c.without_front_blanks-rest.result.now c.without_front_blanks-rest.ensures.value (eqb-true _ _ (sym c.is_empty.ensures ∙ c.if-is_empty.true))

pub returns-in_default-None-clause-words : goal.returns-in_default-None-clause-words
returns-in_default-None-clause-words c =
    let parts = rw c.in_default-None.is-1 at c.cut_at_blank.ensures.parts in
    let some = eqb-false _ _ (sym c.is_empty.ensures ∙ c.if-is_empty.false) in
    words_first c.args.line.now c.without_front_blanks-rest.result.now c.cut_at_blank.result.0.now None c.without_front_blanks-rest.ensures.value (omega arith) parts

pub returns-in_default-Some-clause-words : goal.returns-in_default-Some-clause-words
returns-in_default-Some-clause-words c =
    let parts = rw c.in_default-Some.is-1 at c.cut_at_blank.ensures.parts in
    let some = eqb-false _ _ (sym c.is_empty.ensures ∙ c.if-is_empty.false) in
    let first = words_first c.args.line.now c.without_front_blanks-rest.result.now c.cut_at_blank.result.0.now (Some c.in_default-Some.others.now) c.without_front_blanks-rest.ensures.value (omega arith) parts in
    rw c.in_default-Some.others-is first
