use Rattle.std.proofs.Common.{ap, sym, ◌∙◌, arith}
use Rattle.rk_mail.proofs.Places.{at_some}
use Rattle.rk_node.specs.Standing.{node_model}
use Rattle.rk_node.proofs.Polling.{removed, place_within, not_there}
use Rattle.rk_node.proofs.node.Node.leave_polling.Goals as goal

pub returns-in-Some-clause-node : goal.returns-in-Some-clause-node
returns-in-Some-clause-node c =
    let polling = c.args.self.now.polling_ids.items in
    let at = sym c.in-Some.ensures in
    let within = place_within c.args.pid.number polling c.in-Some.place at in
    let gone = at_some c.remove.result _ (c.remove.ensures.variant.1 (omega arith)) c.remove.ensures.items in
    ap (λ polling. record (node_model c.args.self.now) { polling_ids = polling }) (gone ∙ removed c.args.pid.number polling c.in-Some.place at)

pub returns-in-None-clause-node : goal.returns-in-None-clause-node
returns-in-None-clause-node c =
    ap (λ polling. record (node_model c.args.self.now) { polling_ids = polling }) (sym (not_there c.args.pid.number c.args.self.now.polling_ids.items (sym c.in-None.ensures)))
