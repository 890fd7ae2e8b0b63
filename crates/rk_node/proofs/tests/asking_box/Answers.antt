use Rattle.std.proofs.Common.{ap, ◌∙◌, arith}
use Rattle.ce_model.specs.Limits.{greatest_images_lem, greatest_blocks_lem}
use Rattle.ce_model.specs.Node.{Node}
use Rattle.ce_model.specs.Saying.{says}
use Rattle.rk_node.specs.Boxes.{Box, fresh_node_at}
use Rattle.rk_node.proofs.tests.asking_box.Goals as goal

pub new-requires : goal.new-requires
new-requires c = omega (arith, greatest_blocks_lem)

pub enter-requires-clause-images : goal.enter-requires-clause-images
enter-requires-clause-images c = omega (arith, greatest_images_lem)

pub returns-clause-node : goal.returns-clause-node
unfolding says
returns-clause-node c =
    c.says.ensures.node ∙ ap (λ (box : Box). (says box.node).node) c.enter.ensures ∙ ap (λ home. fresh_node_at home 0 0 1) c.in_ok-node_box.ensures.home

pub returns-clause-images : goal.returns-clause-images
unfolding says
returns-clause-images c = ap (λ (n : Node). n.images) c.says.ensures.node ∙ ap (λ (box : Box). (says box.node).node.images) c.enter.ensures
