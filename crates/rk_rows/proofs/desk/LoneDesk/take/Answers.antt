use Rattle.std.proofs.Common.{sym, ap, subst}
use Rattle.ce_model.specs.Node.{take_call}
use Rattle.rk_mail.specs.declared.talk.Hearing.TheVariants.{Poll, Idle}
use Rattle.rk_mail.specs.Queue.{Queue}
use Rattle.rk_mail.specs.Items.{item_of}
use Rattle.rk_rows.specs.Lone.{IsAnswerable, IsAnsweredAlone}
use Rattle.rk_rows.proofs.Answers.{item-for, item-answers, poll-answers, idle-answers}
use Rattle.rk_rows.proofs.desk.LoneDesk.take.Goals.{in-Some+in_ok-hearing-in-Some, in-None+in-Some-poller, in-None+in-None-poller}
use Rattle.rk_rows.proofs.desk.LoneDesk.take.Goals as goal

pub hearing_of_item-requires : goal.hearing_of_item-requires
hearing_of_item-requires c =
    item-for c.args.node.now c.args.asking c.args.dead c.args.poller c.args.self.now.mailbox.items (item_of c.in-Some.item) c.requires (sym c.in-Some.ensures.first)

pub returns : goal.returns
returns c =
    let images = c.args.images.now in
    let node = c.args.node.now in
    let before = c.args.self.now.mailbox.items in
    let after = c.take_next.new.self.items in
    elim c.match-take_next.branch [
      | in-Some+in_ok-hearing-in-Some w ↦ (let left = w.in-Some.ensures.rest in
          let given = w.in_ok-hearing-in-Some in
          subst (λ hearing. IsAnsweredAlone images node hearing after) (sym w.hearing-is)
          (item-answers images node c.args.asking c.args.dead c.args.poller before after (item_of w.in-Some.item) given.hearing c.requires
          (sym w.in-Some.ensures.first) left given.ensures.work given.ensures.take given.ensures.blocks))
      | in-None+in-Some-poller w ↦ (let same = ap (λ (queue : Queue). queue.items) w.in-None.ensures.unchanged in
          let can = subst (λ poller. IsAnswerable node (take_call c.args.asking c.args.dead poller) before) w.in-Some-poller.is c.requires in
          subst (λ hearing. IsAnsweredAlone images node hearing after) (sym w.hearing-is)
          (subst (λ items. IsAnsweredAlone images node (Poll w.in-Some-poller.pid) items) (sym same) (poll-answers images node c.args.asking c.args.dead w.in-Some-poller.pid before can)))
      | in-None+in-None-poller w ↦ (let same = ap (λ (queue : Queue). queue.items) w.in-None.ensures.unchanged in
          let can = subst (λ poller. IsAnswerable node (take_call c.args.asking c.args.dead poller) before) w.in-None-poller.is c.requires in
          subst (λ hearing. IsAnsweredAlone images node hearing after) (sym w.hearing-is)
          (subst (λ items. IsAnsweredAlone images node Idle items) (sym same) (idle-answers images node c.args.asking c.args.dead before can)))
    ]
