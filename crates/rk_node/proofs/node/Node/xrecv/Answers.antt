use Rattle.std.proofs.Common.{◌≡◌, length, ap, arith}
use Rattle.ce_model.specs.Node.{Node, process_at}
use Rattle.ce_solo.proofs.Words.{polls_before}
use Rattle.ce_solo.proofs.Says.{now_in_turn}
use Rattle.rk_node.specs.Standing.{node_model, turn_model}
use Rattle.rk_node.proofs.Limits.{sound_of}
use Rattle.rk_node.proofs.Polling.{room_to_poll}
use Rattle.rk_node.proofs.node.Node.xrecv.Goals as goal

pub push_back_reserved-requires : goal.push_back_reserved-requires
push_back_reserved-requires c =
    let node = node_model c.args.self.now in
    let turn = turn_model c.args.turn in
    let none = polls_before node turn (process_at node turn.pid) (now_in_turn node turn c.requires.well (sound_of c.args.turn)) in
    let same : length c.set_status.new.self.polling_ids.items ≡ length c.args.self.now.polling_ids.items = ap (λ (n : Node). length n.polling_ids) c.set_status.ensures.node in
    omega (arith, room_to_poll node turn c.requires.well c.args.turn.pid.within none, same, c.set_status.new.self.poll_room)
