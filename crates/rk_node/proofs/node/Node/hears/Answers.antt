use Rattle.std.proofs.Common.{◌≡◌, List, refl, ap, ◌∙◌, sym, subst}
use Rattle.std.proofs.lemmas.List.{get_or_read}
use Rattle.ce_model.specs.Hearing.{node_after_hearing, with_turn}
use Rattle.ce_model.specs.Process.{started_process}
use Rattle.rv_model.specs.Image.{ImageParts}
use Rattle.ce_model.specs.Node.{Node}
use Rattle.rk_mail.specs.declared.talk.Hearing.{Hearing}
use Rattle.rk_mail.specs.Talk.{hearing_model}
use Rattle.rk_node.specs.Standing.{node_model}
use Rattle.rk_node.specs.Hearings.{IsNodeWork}
use Rattle.rk_node.proofs.node.Node.hears.Goals as goal

-- what the node becomes by the answer that this one is
by_answer : (images : List ImageParts) (node : Node) {after : Node} {hearing heard' : Hearing} → hearing ≡ heard' → after ≡ node_after_hearing images node (hearing_model heard')
    → after ≡ node_after_hearing images node (hearing_model hearing)
by_answer images node is e = e ∙ sym (ap (λ hearing. node_after_hearing images node (hearing_model hearing)) is)

pub returns-in-Start-clause-node : goal.returns-in-Start-clause-node
unfolding node_after_hearing
returns-in-Start-clause-node c =
    by_answer c.args.images.now (node_model c.args.self.now) c.in-Start.is
    (c.start.ensures.node
    ∙ ap (λ image. with_turn (node_model c.args.self.now) c.in-Start.pid (started_process image)) (get_or_read c.args.images.now c.in-Start.image _ (subst (IsNodeWork c.args.images.now (node_model c.args.self.now)) c.in-Start.is c.requires.work).2 c.index-images-image.is _))

pub returns-in-Mail-clause-node : goal.returns-in-Mail-clause-node
unfolding node_after_hearing
returns-in-Mail-clause-node c = by_answer c.args.images.now (node_model c.args.self.now) c.in-Mail.is c.take_mail.ensures.node

pub returns-in-Kill-clause-node : goal.returns-in-Kill-clause-node
unfolding node_after_hearing
returns-in-Kill-clause-node c = by_answer c.args.images.now (node_model c.args.self.now) c.in-Kill.is c.end_process.ensures.node

pub returns-in-Poll-clause-node : goal.returns-in-Poll-clause-node
unfolding node_after_hearing
returns-in-Poll-clause-node c = by_answer c.args.images.now (node_model c.args.self.now) c.in-Poll.is c.begin_answered_turn.ensures.node

pub returns-in-Posted-clause-node : goal.returns-in-Posted-clause-node
unfolding node_after_hearing
returns-in-Posted-clause-node c = by_answer c.args.images.now (node_model c.args.self.now) c.in-Posted.is c.regain_batch.ensures.node

pub returns-in-Spawned-clause-node : goal.returns-in-Spawned-clause-node
unfolding node_after_hearing
returns-in-Spawned-clause-node c = by_answer c.args.images.now (node_model c.args.self.now) c.in-Spawned.is c.answer_call.ensures.node

pub returns-in-Killed-clause-node : goal.returns-in-Killed-clause-node
unfolding node_after_hearing
returns-in-Killed-clause-node c = by_answer c.args.images.now (node_model c.args.self.now) c.in-Killed.is c.answer_call-in-Killed.ensures.node

pub returns-in-Used-clause-node : goal.returns-in-Used-clause-node
unfolding node_after_hearing
returns-in-Used-clause-node c = by_answer c.args.images.now (node_model c.args.self.now) c.in-Used.is c.answer_call-in-Used.ensures.node

pub returns-in-Unused-clause-node : goal.returns-in-Unused-clause-node
unfolding node_after_hearing
returns-in-Unused-clause-node c = by_answer c.args.images.now (node_model c.args.self.now) c.in-Unused.is c.answer_call-in-Unused.ensures.node

pub returns-in-Already-clause-node : goal.returns-in-Already-clause-node
unfolding node_after_hearing
returns-in-Already-clause-node c = by_answer c.args.images.now (node_model c.args.self.now) c.in-Already.is c.answer_call-in-Already.ensures.node

pub returns-in-Idle-clause-node : goal.returns-in-Idle-clause-node
unfolding node_after_hearing
returns-in-Idle-clause-node c = by_answer c.args.images.now (node_model c.args.self.now) c.in-Idle.is refl

pub returns-in-Spent-clause-node : goal.returns-in-Spent-clause-node
unfolding node_after_hearing
returns-in-Spent-clause-node c = by_answer c.args.images.now (node_model c.args.self.now) c.in-Spent.is refl

pub returns-in-Noted-clause-node : goal.returns-in-Noted-clause-node
unfolding node_after_hearing
returns-in-Noted-clause-node c = by_answer c.args.images.now (node_model c.args.self.now) c.in-Noted.is refl
