use Rattle.std.proofs.Common.{IfSome, ap, sym, ◌∙◌, subst}
use Rattle.ce_model.specs.Hearing.{node_after_hearing}
use Rattle.ce_model.specs.Sound.{IsSoundTurn}
use Rattle.ce_solo.proofs.Nodes.{IsWell}
use Rattle.rk_mail.specs.Talk.{hearing_model}
use Rattle.rk_node.specs.Boxes.{Box}
use Rattle.rk_node.specs.Hearings.{IsNodeWork}
use Rattle.rk_node.specs.Wording.{HasBatch}
use Rattle.rk_node.proofs.Answered.{IsWellNow, work-of, hears-well, heard-batch, room-for}
use Rattle.rk_node.proofs.Limits.{sound_if}
use Rattle.rk_node.proofs.node_box.NodeBox.hears.Goals as goal

pub hears-requires-clause-work : goal.hears-requires-clause-work
hears-requires-clause-work c =
    let well = subst (λ (b : Box). IsWell b.node.turn b.node) c.self.view_is c.self.invariant.well in
    let sound = subst (λ (b : Box). IfSome b.node.turn IsSoundTurn) c.self.view_is (sound_if c.self.inside.node.turn) in
    subst (λ (b : Box). IsNodeWork c.args.images.now b.node c.args.hearing) (sym c.self.view_is)
    (work-of c.args.images.now c.args.self.now well sound c.args.hearing c.requires.heard)

pub hears-requires-clause-room : goal.hears-requires-clause-room
hears-requires-clause-room c =
    room-for c.args.images.now c.args.self.now c.self.inside.node c.args.hearing (ap (λ (b : Box). b.node) (sym c.self.view_is)) (ap (λ (b : Box). b.room) (sym c.self.view_is))
    c.requires.heard.work

pub invariant_of-self : goal.invariant_of-self
invariant_of-self c =
    let images = c.args.images.now in
    let box = c.args.self.now in
    let well = subst (λ (b : Box). IsWell b.node.turn b.node) c.self.view_is c.self.invariant.well in
    let sound = subst (λ (b : Box). IfSome b.node.turn IsSoundTurn) c.self.view_is (sound_if c.self.inside.node.turn) in
    let has = subst (λ (b : Box). HasBatch b.awaited_call c.self.inside.node.batch) c.self.view_is c.self.invariant.batch in
    let can = c.requires.heard in
    let after = subst IsWellNow (ap (λ (b : Box). node_after_hearing images b.node (hearing_model c.args.hearing)) (sym c.self.view_is) ∙ sym c.hears.ensures.node)
    (hears-well images box well sound c.args.hearing can) in
    record {
      well = after;
      batch = c.hears.ensures.batch ∙ heard-batch box can.call c.args.hearing c.self.inside.node.batch can.said can.answer has;
    }
