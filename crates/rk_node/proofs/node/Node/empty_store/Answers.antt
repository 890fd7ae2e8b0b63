use Rattle.std.proofs.Common.{◌≡◌, ℕ, List, [], ◌∷◌, length, suc, ap, sym, ◌∙◌, subst, arith}
use Rattle.ce_model.specs.Blocks.{Block, with_ids}
use Rattle.ce_model.specs.Node.{Node}
use Rattle.xm_block.specs.Stores.{BlockStore, ids_of}
use Rattle.rk_node.specs.Hearings.{AreNewToStore}
use Rattle.rk_node.proofs.Names.{length-ids_of}
use Rattle.rk_node.proofs.Moved.{apart-next, not_stored}
use Rattle.rk_node.proofs.node.Node.empty_store.Goals as goal

pub give-requires-clause-room : goal.give-requires-clause-room
give-requires-clause-room c =
    let taken = ap {B = ℕ} length c.in-Some.ensures.taken in
    omega (arith, taken, c.loop-block.invariant.spare, c.requires.room, length-ids_of c.args.self.now.store.blocks)

pub give-requires-clause-apart : goal.give-requires-clause-apart
give-requires-clause-apart c =
    not_stored c.in-Some.block.id (ids_of c.take_least.new.self.blocks) c.loop-block.out
    (subst (λ ids. AreNewToStore ids c.loop-block.out) (ap ids_of c.in-Some.ensures.taken) c.loop-block.invariant.apart)

pub loop-block-preserved : goal.loop-block-preserved
loop-block-preserved c =
    let was = c.loop-block.invariant in
    let block = c.in-Some.block in
    let rest = c.take_least.new.self.blocks in
    let out = c.loop-block.out in
    let taken : c.loop-block.self.store.blocks ≡ block ∷ rest = c.in-Some.ensures.taken in
    let fewer : length c.loop-block.self.store.blocks ≡ suc (length rest) = ap (λ (blocks : List Block). length blocks) taken in
    let spare = ap (λ (store : BlockStore). store.spare) c.give.ensures.after in
    record {
      node = ap (λ (n : Node). record n { store = ids_of rest }) was.node;
      moved = ap (with_ids (ids_of rest)) c.give.ensures.ids
          ∙ sym (ap (λ blocks. with_ids (ids_of blocks) (ids_of out.blocks)) taken) ∙ was.moved;
      apart = apart-next (block.id ∷ []) (ids_of rest) out c.give.new.self c.give.ensures.ids
          (subst (λ ids. AreNewToStore ids out) (ap ids_of taken) was.apart);
      spare = omega (arith, was.spare, spare, fewer, c.requires.room, length-ids_of c.args.self.now.store.blocks);
      batch = was.batch;
      room = was.room;
    }
