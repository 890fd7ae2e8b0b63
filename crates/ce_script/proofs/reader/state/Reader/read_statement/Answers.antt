use Rattle.std.proofs.Common.{◌≡◌, ◌∙◌, false, sym, ap, Some}
use Rattle.ce_script.specs.declared.grammar.Verb.TheVariants.{Image}
use Rattle.ce_script.specs.Verbs.{form_of, is_image, verb_of}
use Rattle.ce_script.specs.Lines.{words}
use Rattle.ce_script.specs.ReadLines.{statement_of_line, plain_line}
use Rattle.ce_script.proofs.Further.{begun_wrong, user_there, image_has_form, no_image, plain_wrong, plain_past, image_says}
use Rattle.ce_script.proofs.reader.state.Reader.read_statement.Goals as goal
use Rattle.ce_script.proofs.reader.state.Reader.read_statement.Goals.{In_default, in_default-via-in-Image+in_default, in_default-via-in_default}

pub returns-in-Err-clause-said : goal.returns-in-Err-clause-said
returns-in-Err-clause-said c = rw c.fault_of_line.ensures (begun_wrong c.args.self.so_far c.args.line.now c.args.rest c.in-Err.kind c.in-Err.ensures)

-- the statement is no image
is_plain : (c : In_default) → is_image c.in-Ok.verb ≡ false
is_plain c =
    no_image c.in-Ok.verb (elim c.in_default.branch [
      | in_default-via-in-Image+in_default w ↦ λ is.
          image_has_form (statement_of_line c.args.line.now) (c.in-Ok.ensures.1 ∙ ap Some is) c.in-Ok.ensures.0
          (sym (c.form_of.ensures ∙ ap form_of c.operand.ensures) ∙ w.in_default.is-1)
      | in_default-via-in_default w ↦ w.in_default.not-Image-0
    ])

pub read_other_statement-requires-clause-plain : goal.read_other_statement-requires-clause-plain
read_other_statement-requires-clause-plain c = is_plain (goal.at.read_other_statement-requires-clause-plain c).In_default

pub read_other_statement-requires-clause-user : goal.read_other_statement-requires-clause-user
read_other_statement-requires-clause-user c =
    user_there c.args.self.so_far c.args.line.now c.args.rest c.in-Ok.verb c.in-Ok.ensures.0 c.in-Ok.ensures.1 c.in-Ok.ensures.2

pub returns-in-Image-Some-clause-said : goal.returns-in-Image-Some-clause-said
returns-in-Image-Some-clause-said c =
    let is : verb_of (words (plain_line c.args.line.now)) ≡ Some Image = c.in-Ok.ensures.1 ∙ ap Some c.in-Image-Some.is-0 in
    let placed = rw c.in-Image-Some.is-0 at c.in-Ok.ensures.2 in
    image_says c.args.self.so_far c.args.line.now c.args.rest c.in-Ok.ensures.0 is placed c.read_image.result c.read_image.ensures.image c.read_image.ensures.past

pub returns-in-Err-read_other_statement-clause-said : goal.returns-in-Err-read_other_statement-clause-said
returns-in-Err-read_other_statement-clause-said c =
    let plain = is_plain (goal.at.returns-in-Err-read_other_statement-clause-said c).In_default in
    rw c.fault_of_line-in-Err-read_other_statement.ensures
    (plain_wrong c.args.self.so_far c.args.line.now c.args.rest c.in-Ok.verb c.in-Ok.ensures.0 c.in-Ok.ensures.1 c.in-Ok.ensures.2 plain c.in-Err-read_other_statement.kind c.in-Err-read_other_statement.ensures)

pub returns-in-Ok-read_other_statement-clause-said : goal.returns-in-Ok-read_other_statement-clause-said
returns-in-Ok-read_other_statement-clause-said c =
    let plain = is_plain (goal.at.returns-in-Ok-read_other_statement-clause-said c).In_default in
    plain_past c.args.self.so_far c.args.line.now c.args.rest c.in-Ok.verb c.in-Ok.ensures.0 c.in-Ok.ensures.1 c.in-Ok.ensures.2 plain
    c.in-Ok-read_other_statement.reader.so_far c.in-Ok-read_other_statement.ensures.0 c.in-Ok-read_other_statement.ensures.1
