use Rattle.std.proofs.Common.{◌≡◌, ◌+◌, ◌*◌, ◌%◌, ◌^◌, ap, sym, ◌∙◌, subst, arith}
use Rattle.std.proofs.Math.Nat.{mod-eq_of_lt}
use Rattle.ce_solo.proofs.Renaming.Grants.{few_nodes}
use Rattle.ce_daemon.specs.Boxes.{AreBoxes}
use Rattle.ce_daemon.proofs.Rows.{AreBoxes-push}
use Rattle.rk_node.specs.Boxes.{IsCleanBox, home_of}
use Rattle.rk_node.proofs.node_box.node_boxes.Goals as goal

pub returns : goal.returns
returns c =
    let few = few_nodes c.args.dim c.requires in
    let one : 1 * 2 ^ c.args.dim ≡ 2 ^ c.args.dim = omega arith in
    let fits : 1 * 2 ^ c.args.dim % 4294967296 ≡ 2 ^ c.args.dim = ap (λ n. n % 4294967296) one ∙ mod-eq_of_lt (omega (arith, few)) in
    let same : c.loop-node.node ≡ 2 ^ c.args.dim = omega (arith, fits, c.loop-node-test.false, c.loop-node.auto.node-end) in
    subst (λ n. AreBoxes home_of IsCleanBox n (λ node. node) c.loop-node.boxes.items) same c.loop-node.invariant

pub loop-node-preserved : goal.loop-node-preserved
loop-node-preserved c =
    let node_box = c.in_ok-new.field-0 in
    subst (λ all. AreBoxes home_of IsCleanBox (c.loop-node.node + 1) (λ node. node) all) (sym c.in_ok-push.ensures.items)
    (AreBoxes-push home_of IsCleanBox c.loop-node.node (λ node. node) c.loop-node.boxes.items node_box c.loop-node.invariant
    (c.in_ok-new.ensures.home, c.in_ok-new.ensures.clean))
