use Rattle.std.proofs.Common.{ap, ◌∙◌, sym, get_or, arith}
use Rattle.ce_model.specs.Limits.{home_blocks}
use Rattle.ce_model.specs.Blocks.{blocks_of_home}
use Rattle.xm_block.specs.Stores.{ids_of}
use Rattle.xm_block.proofs.HomeBlocks.{length-blocks_of_home}
use Rattle.rk_node.specs.Boxes.{Box}
use Rattle.ce_cube.specs.Homecoming.{refilled_box}
use Rattle.ce_cube.proofs.Gathering.{next-is, one_changed, length-more, next-begins, rest-more}
use Rattle.ce_cube.proofs.rehoming.send_all_home.Goals as goal

pub send_home-requires-clause-least : goal.send_home-requires-clause-least
send_home-requires-clause-least c =
    let d : Box = c.node_box-item.result in
    let same = next-is refilled_box c.args.boxes.now c.loop-node_box.boxes c.loop-node_box.node_box-index c.loop-node_box-test.true c.loop-node_box.invariant.boxes d in
    rw same (next-begins (λ (box : Box). blocks_of_home box.node.home) c.args.boxes.now c.loop-node_box.node_box-index d c.loop-node_box-test.true
    (ids_of c.args.store.now.blocks) (ids_of c.loop-node_box.store.blocks) c.loop-node_box.invariant.rest c.requires.least)

pub loop-node_box-preserved : goal.loop-node_box-preserved
loop-node_box-preserved c =
    let d : Box = c.node_box-item.result in
    let i = c.loop-node_box.node_box-index in
    let within = c.loop-node_box-test.true in
    let has = λ (box : Box). blocks_of_home box.node.home in
    let same = next-is refilled_box c.args.boxes.now c.loop-node_box.boxes i within c.loop-node_box.invariant.boxes d in
    let long = length-blocks_of_home (get_or c.args.boxes.now i d).node.home in
    record {
      boxes = one_changed refilled_box c.args.boxes.now c.loop-node_box.boxes i within c.loop-node_box.invariant.boxes d c.send_home.new.node_box (c.send_home.ensures.after ∙ ap refilled_box same);
      rest = rest-more has c.args.boxes.now i d within home_blocks (ids_of c.args.store.now.blocks) (ids_of c.loop-node_box.store.blocks) (ids_of c.send_home.new.store.blocks)
          (sym long) c.loop-node_box.invariant.rest c.send_home.ensures.rest;
      spare = omega (arith, length-more has c.args.boxes.now i d within, long, c.loop-node_box.invariant.spare, c.send_home.ensures.spare);
    }
