use Rattle.std.proofs.Common.{refl, ap, sym, subst}
use Rattle.ce_model.specs.Node.{spawn_call}
use Rattle.rk_mail.specs.declared.talk.Hearing.TheVariants.{Posted}
use Rattle.rk_mail.specs.declared.talk.Say.TheVariants.{Send}
use Rattle.rk_mail.specs.Talk.{call_of_say}
use Rattle.rk_rows.specs.Lone.{IsAnswerable, IsAnsweredAlone}
use Rattle.rk_rows.proofs.Answers.{call-answers, spawn-answers, kill-answers}
use Rattle.rk_rows.proofs.desk.LoneDesk.answer.Goals as goal

pub returns-in_ok-send-in-Send : goal.returns-in_ok-send-in-Send
returns-in_ok-send-in-Send c =
    let before = c.args.self.now.mailbox.items in
    let can = subst (λ say. IsAnswerable c.args.node.now (call_of_say say) before) c.in-Send.is c.requires in
    call-answers c.args.images.now c.args.node.now (call_of_say (Send c.in-Send.pid c.in-Send.batch)) before c.send.new.self.mailbox.items
    (Posted c.in_ok-send-in-Send.field-0) can (ap Posted c.in_ok-send-in-Send.ensures.emptied) tt refl c.in_ok-send-in-Send.ensures.queued

pub returns-in_ok-write_spawn-in-Spawn : goal.returns-in_ok-write_spawn-in-Spawn
returns-in_ok-write_spawn-in-Spawn c =
    let images = c.args.images.now in
    let node = c.args.node.now in
    let before = c.args.self.now.mailbox.items in
    let after = c.accept_spawn.new.self.mailbox.items in
    let call = spawn_call c.in-Spawn.pid c.in-Spawn.image c.in-Spawn.to in
    let can = subst (λ say. IsAnswerable node (call_of_say say) before) c.in-Spawn.is c.requires in
    subst (λ hearing. IsAnsweredAlone images node hearing after) (sym c.spawn_hearing.ensures)
    (spawn-answers images node c.in-Spawn.pid c.in-Spawn.image c.in-Spawn.to before after c.in_ok-is_fresh-in-Spawn.is_fresh can c.in_ok-is_fresh-in-Spawn.ensures)

pub returns-in_ok-write_kill-in-Kill : goal.returns-in_ok-write_kill-in-Kill
returns-in_ok-write_kill-in-Kill c =
    let images = c.args.images.now in
    let node = c.args.node.now in
    let before = c.args.self.now.mailbox.items in
    let after = c.accept_kill.new.self.mailbox.items in
    let can = subst (λ say. IsAnswerable node (call_of_say say) before) c.in-Kill.is c.requires in
    subst (λ hearing. IsAnsweredAlone images node hearing after) (sym c.kill_hearing.ensures)
    (kill-answers images node c.in-Kill.pid c.in-Kill.to before after c.in_ok-found-in-Kill.found can c.in_ok-found-in-Kill.ensures)
