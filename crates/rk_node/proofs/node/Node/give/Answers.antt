use Rattle.std.proofs.Common.{length, ap, ◌∙◌, arith}
use Rattle.xm_block.specs.Stores.{BlockStore}
use Rattle.rk_node.specs.Standing.{node_model}
use Rattle.rk_node.proofs.Names.{not_contained, length-with_block}
use Rattle.rk_node.proofs.node.Node.give.Goals as goal

pub give-requires-clause-apart : goal.give-requires-clause-apart
give-requires-clause-apart c = not_contained c.args.block.id _ c.requires.apart

pub returns-clause-node : goal.returns-clause-node
returns-clause-node c = ap (λ store. record (node_model c.args.self.now) { store = store }) c.give.ensures.ids

pub invariant_of-self-clause-stocked : goal.invariant_of-self-clause-stocked
invariant_of-self-clause-stocked c =
    let s = c.args.self.now.stocked in
    let more = ap (λ (store : BlockStore). length store.blocks) c.give.ensures.after ∙ length-with_block c.args.block c.args.self.now.store.blocks in
    let spare = ap (λ (store : BlockStore). store.spare) c.give.ensures.after in
    record {
      every_id = s.every_id;
      windows = s.windows;
      rising = s.rising;
      held_room = s.held_room;
      store_room = omega (arith, more, spare, s.store_room, c.requires.room);
      within = omega (arith, more, c.requires.room);
    }
