use Rattle.std.proofs.Common.{List, length, ap, ◌∙◌, subst}
use Rattle.rv_model.specs.Image.{ImageParts}
use Rattle.ce_model.specs.Hearing.{node_after_hearing}
use Rattle.rk_mail.specs.Talk.{hearing_model}
use Rattle.rk_rows.specs.Lone.{IsAnsweredAlone}
use Rattle.rk_rows.proofs.Exchanges.{said-images, heard-rests}
use Rattle.rk_rows.proofs.lone_node.LoneNode.exchange.Goals as goal

pub hears-requires-clause-images : goal.hears-requires-clause-images
hears-requires-clause-images c =
    ap (λ (images : List ImageParts). length images) c.as_slice-2.ensures.value
    ∙ said-images c.self.inside.images.items c.self.inside.node c.says-say.new.self c.self.inside.desk.mailbox
    (c.self.invariant c.if-self.false) c.says-say.ensures.node

pub invariant_of-self-2 : goal.invariant_of-self-2
invariant_of-self-2 c = λ same.
    let before = c.self.inside in
    let said = c.says-say.new.self in
    let hearing = c.in_ok-hearing.hearing in
    let after = c.answer.new.self in
    heard-rests before.images.items before.node said c.hears.new.self hearing before.desk.mailbox after.mailbox
    (c.self.invariant c.if-self.false) c.says-say.ensures.node c.says-say.ensures.room
    (subst (λ images. IsAnsweredAlone images said hearing after.mailbox.items) c.as_slice.ensures.value c.in_ok-hearing.ensures)
    (c.hears.ensures.node ∙ ap (λ images. node_after_hearing images said.node (hearing_model hearing)) c.as_slice-2.ensures.value)
    c.hears.ensures.room c.hears.ensures.out
