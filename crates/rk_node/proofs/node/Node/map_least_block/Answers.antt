use Rattle.std.proofs.Common.{◌≡◌, ◌∷◌, replicate, ap, sym, ◌∙◌, arith}
use Rattle.ce_model.specs.Blocks.{Block}
use Rattle.ce_model.specs.Node.{process_at}
use Rattle.ce_model.specs.Kernel.{return_outcome, map_outcome, with_store}
use Rattle.xm_block.specs.Stores.{ids_of}
use Rattle.rk_node.specs.Moves.{with_mapped_block}
use Rattle.rk_node.specs.Standing.{node_model, turn_model}
use Rattle.rk_node.proofs.Processes.{length-processes}
use Rattle.rk_node.proofs.Made.{returns-after}
use Rattle.rk_node.proofs.node.Node.map_least_block.Goals as goal

pub returns-in-Some : goal.returns-in-Some
returns-in-Some c =
    let node = c.args.self.now in
    let n = node_model node in
    let turn = turn_model c.args.turn in
    let p = process_at n turn.pid in
    let rest = ids_of c.take_least.new.self.blocks in
    let taken : ids_of node.store.blocks ≡ c.in-Some.block.id ∷ rest = ap ids_of c.in-Some.ensures.taken in
    let block : c.reset.new.self ≡ record { id = c.in-Some.block.id; bytes = replicate c.args.length 0 } = c.reset.ensures in
    record {
      did = c.return_value-in-Some.ensures.did
          ∙ returns-after n (node_model c.map-address.new.self) turn (with_mapped_block c.reset.new.self p) rest c.map-address.result (omega (arith, length-processes node, c.args.turn.pid.within)) c.map-address.ensures.node
          ∙ ap (λ (b : Block). return_outcome (with_store rest n) turn (with_mapped_block b p) c.map-address.result) block
          ∙ ap (λ a. return_outcome (with_store rest n) turn (with_mapped_block (record { id = c.in-Some.block.id; bytes = replicate c.args.length 0 }) p) a) c.map-address.ensures.start
          ∙ sym (ap (λ ids. map_outcome n turn p c.args.length ids) taken);
      batch = c.return_value-in-Some.ensures.batch;
      room = c.return_value-in-Some.ensures.room ∙ c.map-address.ensures.room;
    }
