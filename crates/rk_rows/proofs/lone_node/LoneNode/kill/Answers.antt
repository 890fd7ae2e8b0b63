use Rattle.rk_rows.proofs.Exchanges.{queued-rests}
use Rattle.rk_rows.proofs.lone_node.LoneNode.kill.Goals as goal

pub invariant_of-self-2 : goal.invariant_of-self-2
invariant_of-self-2 c = λ same.
    let before = c.self.inside in
    queued-rests before.node before.images.items before.desk.mailbox c.accept_kill.new.self.mailbox
    (c.self.invariant c.if-self.false) c.in_ok-found.ensures
