use Rattle.ce_model.specs.Parcels.{is_eligible}
use Rattle.ce_model.specs.Limits.{node_room}
use Rattle.ce_machine.proofs.Firsts.{next-kept}
use Rattle.ce_machine.proofs.desk.Desk.take_next.Goals as goal

pub invariant_of-self : goal.invariant_of-self
invariant_of-self c =
    let e = c.take_next.ensures in
    (next-kept (is_eligible c.args.asking c.args.dead) c.take_next.result c.self.inside.mailbox c.take_next.new.self node_room e.first e.rest e.spare e.unchanged c.self.invariant.0, c.self.invariant.1, c.self.invariant.2)
