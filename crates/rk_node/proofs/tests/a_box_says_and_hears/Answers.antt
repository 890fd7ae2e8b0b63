use Rattle.std.proofs.Common.{None, refl, ap, sym, ◌∙◌, arith}
use Rattle.ce_model.specs.Limits.{process_count_lem}
use Rattle.ce_model.specs.Node.{Node, take_call}
use Rattle.ce_model.specs.Saying.{says}
use Rattle.rk_node.proofs.Begun.{images-said}
use Rattle.rk_node.proofs.tests.a_box_says_and_hears.Goals as goal

pub hears-requires-clause-heard : goal.hears-requires-clause-heard
hears-requires-clause-heard g c = record {
  call = take_call 0 0 None;
  said = c.in_ok-node.ensures.said;
  answer = refl;
  work = (omega (arith, process_count_lem), c.in_ok-node.ensures.unborn, omega arith);
}

pub hears-requires-2-clause-images : goal.hears-requires-2-clause-images
hears-requires-2-clause-images g c =
    sym (ap (λ (n : Node). n.images) c.says.ensures.node ∙ ap (λ (n : Node). (says n).node.images) c.hears.ensures.node
    ∙ images-said _ c.in_ok-node.node.node 0 0 0 1 c.in_ok-node.ensures.node)
