use Rattle.std.proofs.Common.{length, ap, ◌∙◌, arith}
use Rattle.ce_model.specs.Blocks.{with_ids}
use Rattle.ce_model.specs.Node.{blocks_of}
use Rattle.xm_block.specs.Stores.{ids_of}
use Rattle.rk_node.specs.Boxes.{Box}
use Rattle.ce_cube.specs.Homecoming.{emptied_box}
use Rattle.ce_cube.proofs.Gathering.{next-is, one_changed, length-more, length-next, next-apart, moved-more}
use Rattle.ce_cube.proofs.rehoming.scrub_all.Goals as goal

pub scrub-requires-clause-idle : goal.scrub-requires-clause-idle
scrub-requires-clause-idle c =
    let d : Box = c.node_box-item.result in
    ap (λ (box : Box). box.awaited_call) (next-is emptied_box c.args.boxes.now c.loop-node_box.boxes c.loop-node_box.node_box-index c.loop-node_box-test.true c.loop-node_box.invariant.boxes d)
    ∙ c.requires.idle c.loop-node_box.node_box-index d c.loop-node_box-test.true

pub scrub-requires-clause-room : goal.scrub-requires-clause-room
scrub-requires-clause-room c =
    let d : Box = c.node_box-item.result in
    let same = next-is emptied_box c.args.boxes.now c.loop-node_box.boxes c.loop-node_box.node_box-index c.loop-node_box-test.true c.loop-node_box.invariant.boxes d in
    let next = length-next (λ (box : Box). blocks_of box.node) c.args.boxes.now c.loop-node_box.node_box-index d c.loop-node_box-test.true in
    rw same (omega (arith, next, c.requires.room, c.loop-node_box.invariant.spare))

pub scrub-requires-clause-apart : goal.scrub-requires-clause-apart
scrub-requires-clause-apart c =
    let d : Box = c.node_box-item.result in
    let same = next-is emptied_box c.args.boxes.now c.loop-node_box.boxes c.loop-node_box.node_box-index c.loop-node_box-test.true c.loop-node_box.invariant.boxes d in
    rw same (next-apart (λ (box : Box). blocks_of box.node) c.args.boxes.now c.loop-node_box.node_box-index d c.loop-node_box-test.true c.args.store.now c.loop-node_box.store
    c.loop-node_box.invariant.moved c.requires.apart)

pub loop-node_box-preserved : goal.loop-node_box-preserved
loop-node_box-preserved c =
    let d : Box = c.node_box-item.result in
    let i = c.loop-node_box.node_box-index in
    let within = c.loop-node_box-test.true in
    let has = λ (box : Box). blocks_of box.node in
    let same = next-is emptied_box c.args.boxes.now c.loop-node_box.boxes i within c.loop-node_box.invariant.boxes d in
    record {
      boxes = one_changed emptied_box c.args.boxes.now c.loop-node_box.boxes i within c.loop-node_box.invariant.boxes d c.scrub.new.self (c.scrub.ensures.after ∙ ap emptied_box same);
      moved = moved-more has c.args.boxes.now i d within (ids_of c.args.store.now.blocks) (ids_of c.loop-node_box.store.blocks) (ids_of c.scrub.new.out.blocks)
          c.loop-node_box.invariant.moved (c.scrub.ensures.moved ∙ ap (λ (box : Box). with_ids (blocks_of box.node) (ids_of c.loop-node_box.store.blocks)) same);
      spare = omega (
        arith,
        length-more has c.args.boxes.now i d within,
        ap (λ (box : Box). length (blocks_of box.node)) same,
        c.loop-node_box.invariant.spare,
        c.scrub.ensures.spare,
      );
    }
