use Rattle.std.proofs.Common.{◌∙◌, sym}
use Rattle.std.proofs.lemmas.List.{map-id}
use Rattle.std.proofs.lemmas.Iterator.Adapters.{YieldsList-from_vec}
use Rattle.std.proofs.lemmas.Iterator.Consumers.{YieldsList-turn, YieldsList-so_far}
use Rattle.ce_cube.proofs.Gathering.{given-apart}
use Rattle.ce_cube.proofs.rehoming.give_all.Goals as goal

pub give-requires-clause-apart : goal.give-requires-clause-apart
give-requires-clause-apart c =
    let all = YieldsList-from_vec {s = c.into_iter-block-iterator.result} c.args.blocks.items c.into_iter-block-iterator.ensures.into_iter_gives.0 (c.into_iter-block-iterator.ensures.into_iter_gives.1 ∙ c.args.blocks.ok.0) in
    let next = YieldsList-turn all c.loop-block.yielded c.loop-block.block-iterator c.loop-block.yielded_by c.next.result c.next.new.self c.in-Some.block c.in-Some.is c.next.ensures.steps in
    let so_far = sym (map-id c.loop-block.yielded) ∙ YieldsList-so_far all c.loop-block.yielded c.loop-block.block-iterator c.loop-block.yielded_by in
    given-apart c.args.blocks.items c.loop-block.yielded c.in-Some.block c.args.store.now c.loop-block.store next so_far c.loop-block.invariant.moved c.requires.apart
