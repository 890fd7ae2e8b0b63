use Rattle.std.proofs.Common.{◌∙◌, sym}
use Rattle.ce_script.proofs.Judging.{old_there, old_missing}
use Rattle.ce_script.proofs.reader.operand.old_image.Goals as goal

pub returns-in-Some : goal.returns-in-Some
returns-in-Some c = λ names is.
    old_there names c.args.word.now c.in-Some.number
    (sym c.if-not-is_name.ensures) (sym (is c.args.word.now) ∙ sym c.meaning.ensures ∙ c.in-Some.is)

pub returns-in-None : goal.returns-in-None
returns-in-None c = λ names is.
    old_missing names c.args.word.now
    (sym c.if-not-is_name.ensures) (sym (is c.args.word.now) ∙ sym c.meaning.ensures ∙ c.in-None.is)
