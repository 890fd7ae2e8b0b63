use Rattle.std.proofs.Common.{length, refl, subst, sym, ap, ◌∙◌}
use Rattle.rk_node.specs.Answering.{IsAbleToHear}
use Rattle.rk_node.specs.Boxes.{Box, IsCleanBox}
use Rattle.ce_model.specs.Machine.{IsFitting, cube_request}
use Rattle.rk_mail.specs.Talk.{call_of_say, hearing_model}
use Rattle.ce_model.specs.Hearing.{node_after_hearing}
use Rattle.ce_cube.specs.Exchanges.{HasExchanged}
use Rattle.ce_machine.specs.Meanings.{IsAnsweredBy}
use Rattle.ce_machine.specs.declared.call.Call.TheVariants.{Say}
use Rattle.ce_cube.proofs.Exchanging.{mask-small, base-small, base-apart, number-small, call-fits, images-are, stands-heard, stands-hear, stands-exchanged}
use Rattle.ce_cube.proofs.exchange.exchange.Goals as goal

pub node_of-requires-clause-mask_within : goal.node_of-requires-clause-mask_within
node_of-requires-clause-mask_within c = mask-small c.args.machine.now c.args.grant.now c.args.r c.requires.node

pub node_of-requires-clause-base_within : goal.node_of-requires-clause-base_within
node_of-requires-clause-base_within c = base-small c.args.machine.now c.args.grant.now c.args.r c.requires.node

pub node_of-requires-clause-apart : goal.node_of-requires-clause-apart
node_of-requires-clause-apart c = base-apart c.args.machine.now c.args.grant.now c.args.r c.requires.node

pub node_of-requires-clause-relative : goal.node_of-requires-clause-relative
node_of-requires-clause-relative c = number-small c.args.machine.now c.args.grant.now c.args.r c.requires.node

pub act-requires : goal.act-requires
act-requires c = record {
  machine = c.requires.node.sound.within;
  fits = subst (λ actor. IsFitting c.args.machine.now.parts c.args.machine.now.history c.args.grant.now.user actor (cube_request (call_of_say c.args.say))) (sym c.node_of.ensures)
      (call-fits c.args.machine.now c.args.grant.now c.args.r c.requires.node c.requires.said.0 c.args.node_box.now (call_of_say c.args.say) c.requires.said.1);
  boxes = tt;
}

pub hears-requires-clause-images : goal.hears-requires-clause-images
hears-requires-clause-images c =
    ap length c.requires.images
    ∙ sym (images-are c.args.machine.now c.args.grant.now c.args.r c.requires.node c.requires.said.0 c.args.node_box.now (call_of_say c.args.say) c.requires.said.1)

pub hears-requires-clause-heard : goal.hears-requires-clause-heard
hears-requires-clause-heard c =
    let grown = c.in-Ok.ensures.grows in
    subst (λ images. IsAbleToHear images c.args.node_box.now c.hearing_of_reply-hearing.result) (sym c.requires.images)
    (stands-hear c.args.machine.now c.args.grant.now c.args.r c.requires.node c.requires.said.0 c.args.node_box.now (call_of_say c.args.say) c.requires.said.1
    (λ box. box.node.home) IsCleanBox c.args.say refl c.hearing_of_reply-hearing.result grown.0 c.node_of.result c.node_of.ensures
    (subst (IsAnsweredBy (λ (box : Box). box.node.home) IsCleanBox c.args.machine.now.parts c.args.machine.now.history grown.0 (record { family = c.args.grant.now.user; actor = c.node_of.result }) (Say c.args.say)) c.hearing_of_reply-hearing.ensures grown.2))

pub returns : goal.returns
returns c box called =
    let grown = c.in-Ok.ensures.grows in
    let m = c.args.machine.now in
    subst (HasExchanged m c.act.new.self c.args.grant.now c.args.r box c.hears.new.self (call_of_say c.args.say)) (sym c.is_work-gives_work.ensures)
    (stands-exchanged m c.args.grant.now c.args.r c.requires.node box c.args.node_box.now (call_of_say c.args.say) called
    (λ box. box.node.home) IsCleanBox c.args.say refl c.hearing_of_reply-hearing.result grown.0 c.node_of.result c.node_of.ensures
    (subst (IsAnsweredBy (λ (box : Box). box.node.home) IsCleanBox m.parts m.history grown.0 (record { family = c.args.grant.now.user; actor = c.node_of.result }) (Say c.args.say)) c.hearing_of_reply-hearing.ensures grown.2)
    c.act.new.self c.hears.new.self c.in-Ok.ensures.fixed grown.1
    (c.hears.ensures.node ∙ ap (λ images. node_after_hearing images c.args.node_box.now.node (hearing_model c.hearing_of_reply-hearing.result)) c.requires.images) c.hears.ensures.room c.hears.ensures.out c.in-Ok.ensures.few)

pub hearing_of_reply-hearing-requires : goal.hearing_of_reply-hearing-requires
hearing_of_reply-hearing-requires c =
    let grown = c.in-Ok.ensures.grows in
    stands-heard c.args.machine.now c.args.grant.now c.args.r c.requires.node c.requires.said.0 c.args.node_box.now (call_of_say c.args.say) c.requires.said.1
    (λ box. box.node.home) IsCleanBox c.args.say refl grown.0 c.node_of.result c.in-Ok.reply grown.2
