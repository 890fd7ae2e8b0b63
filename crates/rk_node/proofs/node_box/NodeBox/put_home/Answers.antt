use Rattle.std.proofs.Common.{◌≡◌, ◌<◌, length, sym, subst, arith}
use Rattle.std.specs.List.{Contains}
use Rattle.ce_model.specs.Node.{Node, blocks_of}
use Rattle.ce_solo.proofs.Counting.{count}
use Rattle.ce_solo.proofs.Nodes.{IsWell}
use Rattle.rk_node.specs.Standing.{node_model}
use Rattle.rk_node.specs.Boxes.{Box, HasRoomForBlock}
use Rattle.rk_node.specs.Wording.{HasBatch}
use Rattle.rk_node.proofs.Heard.{apart-stored}
use Rattle.rk_node.proofs.Counted.{count-blocks}
use Rattle.rk_node.proofs.Answered.{not-counted, put-well}
use Rattle.rk_node.proofs.node_box.NodeBox.put_home.Goals as goal

pub give-requires-clause-room : goal.give-requires-clause-room
give-requires-clause-room c =
    let room : length (blocks_of (node_model c.self.inside.node)) < c.self.inside.node.room = subst HasRoomForBlock (sym c.self.view_is) c.requires.room in
    omega (arith, room, count-blocks c.self.inside.node)

pub give-requires-clause-apart : goal.give-requires-clause-apart
give-requires-clause-apart c =
    let n = node_model c.self.inside.node in
    let id = c.args.block.id in
    apart-stored n id (not-counted id (blocks_of n) (subst (λ (b : Box). ¬ (Contains (blocks_of b.node) id)) (sym c.self.view_is) c.requires.apart))

pub invariant_of-self : goal.invariant_of-self
invariant_of-self c =
    let n = node_model c.self.inside.node in
    let id = c.args.block.id in
    let whole = c.self.invariant in
    let none : count id (blocks_of n) ≡ 0 = not-counted id (blocks_of n) (subst (λ (b : Box). ¬ (Contains (blocks_of b.node) id)) (sym c.self.view_is) c.requires.apart) in
    record {
      well = subst (λ (n : Node). IsWell n.turn n) (sym c.give.ensures.node) (put-well n.turn n id whole.well none);
      batch = subst (HasBatch c.self.inside.awaited_call) (sym c.give.ensures.batch) whole.batch;
    }
