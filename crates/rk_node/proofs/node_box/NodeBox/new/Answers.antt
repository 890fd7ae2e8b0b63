use Rattle.std.proofs.Common.{◌≤◌, refl, ap, sym, ◌∙◌, subst, arith}
use Rattle.ce_model.specs.Limits.{home_blocks_lem, greatest_blocks, greatest_blocks_lem}
use Rattle.ce_model.specs.Node.{Node}
use Rattle.ce_solo.proofs.Nodes.{IsWell}
use Rattle.rk_node.specs.Boxes.{fresh_node_at}
use Rattle.rk_node.proofs.Sorted.{idle-well, idle-fresh}
use Rattle.rk_node.proofs.node_box.NodeBox.new.Goals as goal

pub new-requires : goal.new-requires
new-requires c = omega (arith, c.requires, home_blocks_lem, greatest_blocks_lem)

pub returns-clause-clean : goal.returns-clause-clean
returns-clause-clean c =
    let made = c.in_ok-new.ensures in
    record {
      node = made.fresh ∙ sym (ap (λ (n : Node). fresh_node_at n.home n.number n.dim n.images) made.fresh);
      awaited_call = refl;
      room = subst (λ room. greatest_blocks ≤ room) (sym made.has_room) c.requires;
    }

pub invariant_of-result : goal.invariant_of-result
invariant_of-result c =
    let made = c.in_ok-new.ensures in
    record {
      well = subst (λ (n : Node). IsWell n.turn n) (sym made.fresh) (idle-well (fresh_node_at c.args.home 0 0 0) (idle-fresh c.args.home 0 0 0));
      batch = made.batch;
    }
