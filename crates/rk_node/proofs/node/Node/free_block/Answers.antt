use Rattle.std.proofs.Common.{ℕ, ap, ◌∙◌, arith}
use Rattle.ce_model.specs.Blocks.{with_id}
use Rattle.ce_model.specs.Node as model
use Rattle.ce_model.specs.Kernel.{process_left_behind, with_store}
use Rattle.ce_solo.proofs.Counting.{count}
use Rattle.rk_node.specs.Standing.{node_model, turn_model}
use Rattle.rk_node.proofs.Processes.{length-processes}
use Rattle.rk_node.proofs.Made.{well-once, window-held, store-apart, returns-after}
use Rattle.rk_node.proofs.node.Node.free_block.Goals as goal

pub give-requires-clause-apart : goal.give-requires-clause-apart
give-requires-clause-apart c =
    let node = c.args.self.now in
    let at = window-held node.held_blocks.mappings node.processes.items c.args.turn.pid.number c.args.window c.take_out-block.result (omega (arith, node.stocked.every_id, c.args.turn.pid.within)) node.stocked.windows c.take_out-block.ensures.block in
    ap {B = ℕ} (λ (n : model.Node). count c.take_out-block.result.id n.store) c.take_out-block.ensures.node
    ∙ store-apart (node_model node) c.args.turn.pid.number c.args.window c.take_out-block.result (well-once _ (node_model node) c.requires.ready.well) (omega (arith, length-processes node, c.args.turn.pid.within)) at

pub returns : goal.returns
returns c =
    let node = c.args.self.now in
    let p = model.process_at (node_model node) c.args.turn.pid.number in
    let block = c.take_out-block.result in
    let store = with_id block.id (node_model node).store in
    let after = c.give.ensures.node ∙ ap (λ (n : model.Node). with_store (with_id block.id n.store) n) c.take_out-block.ensures.node in
    rw c.take_out-block.ensures.block (record {
      did = c.return_value.ensures.did ∙ returns-after (node_model node) (node_model c.give.new.self) (turn_model c.args.turn) (process_left_behind c.args.window p) store 0 (omega (arith, length-processes node, c.args.turn.pid.within)) after;
      batch = c.return_value.ensures.batch;
      room = c.return_value.ensures.room ∙ c.give.ensures.room ∙ c.take_out-block.ensures.size;
    })
