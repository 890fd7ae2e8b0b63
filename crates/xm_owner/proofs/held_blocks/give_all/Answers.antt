use Rattle.std.proofs.Common.{◌≡◌, List, ◌∷◌, length, sym, subst, ap, ◌∙◌, arith}
use Rattle.std.specs.Vec.Iter.{drain_items}
use Rattle.ce_model.specs.Blocks.{Block}
use Rattle.xm_block.specs.Stores.{AreBlocksApart, with_block, with_blocks}
use Rattle.xm_block.proofs.Apart.{apart-first, apart-rest}
use Rattle.xm_owner.proofs.held_blocks.give_all.Goals as goal

pub give-requires-clause-apart : goal.give-requires-clause-apart
give-requires-clause-apart c =
    apart-first c.in-Some.block (drain_items c.next.new.self) c.loop-block.store.blocks
    (subst (λ (blocks : List Block). AreBlocksApart blocks c.loop-block.store.blocks) c.in-Some.ensures.steps.0 c.loop-block.invariant.apart)

pub loop-block-preserved : goal.loop-block-preserved
loop-block-preserved c =
    let block = c.in-Some.block in
    let before = c.loop-block.store in
    let items : drain_items c.loop-block.block-iterator ≡ block ∷ drain_items c.next.new.self = c.in-Some.ensures.steps.0 in
    let after : c.give.new.self.blocks ≡ with_block block before.blocks = ap (λ store. store.blocks) c.give.ensures.after in
    let spare = ap (λ store. store.spare) c.give.ensures.after in
    let shorter = ap length items in
    let room = c.loop-block.invariant.room in
    let enough = c.loop-block.invariant.enough in
    record {
      can_next = tt;
      is_finite = tt;
      moved = ap (with_blocks (drain_items c.next.new.self)) after ∙ ap (λ blocks. with_blocks blocks before.blocks) (sym items) ∙ c.loop-block.invariant.moved;
      apart = subst (λ (blocks : List Block). AreBlocksApart (drain_items c.next.new.self) blocks) (sym after)
          (apart-rest block (drain_items c.next.new.self) before.blocks (subst (λ (blocks : List Block). AreBlocksApart blocks before.blocks) items c.loop-block.invariant.apart));
      room = omega arith;
      enough = omega arith;
    }
