use Rattle.std.proofs.Common.{ap, sym, ◌∙◌, arith}
use Rattle.ce_model.specs.Limits.{greatest_blocks_lem, greatest_images_lem}
use Rattle.rk_node.specs.Boxes.{Box, fresh_node_at}
use Rattle.rk_rows.proofs.Exchanges.{fresh-rests}
use Rattle.rk_rows.proofs.lone_node.LoneNode.new.Goals as goal

pub new-requires : goal.new-requires
new-requires c = omega (arith, greatest_blocks_lem)

pub enter-requires-clause-images : goal.enter-requires-clause-images
enter-requires-clause-images c = omega (arith, greatest_images_lem, c.if-len.false, c.len.ensures, c.len-2.ensures)

pub invariant_of-result : goal.invariant_of-result
invariant_of-result c = λ same.
    let made = c.in_ok-node in
    let desk = c.in_ok-new in
    fresh-rests c.enter.new.self c.args.images.items desk.field-0.mailbox c.len-2.result
    (ap (λ (box : Box). box.node) c.enter.ensures ∙ ap (λ home. fresh_node_at home 0 0 c.len-2.result) made.ensures.home)
    (ap (λ (box : Box). box.awaited_call) c.enter.ensures ∙ made.ensures.clean.awaited_call)
    (omega (arith, ap (λ (box : Box). box.room) c.enter.ensures, made.ensures.clean.room))
    (sym (c.len-2.ensures ∙ c.args.images.ok.0)) desk.ensures
