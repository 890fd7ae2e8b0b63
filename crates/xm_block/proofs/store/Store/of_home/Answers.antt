use Rattle.std.proofs.Common.{◌≡◌, List, arith, ap, ◌∙◌}
use Rattle.std.specs.List.{Contains}
use Rattle.ce_model.specs.declared.topology.BlockId.{BlockId}
use Rattle.ce_model.specs.Limits.{home_blocks_lem}
use Rattle.ce_model.specs.Blocks.{with_id}
use Rattle.ce_model.specs.Literals.{block}
use Rattle.xm_block.specs.Stores.{ids_of}
use Rattle.xm_block.proofs.HomeBlocks.{first_names, put-next, next-apart}
use Rattle.xm_block.proofs.store.Store.of_home.Goals as goal

-- a name that isn't among some names isn't among the same names, said otherwise
apart : (id other : BlockId) (ids held : List BlockId) → other ≡ id → held ≡ ids → (Contains ids id → ⊥) → Contains held other → ⊥
apart id other ids held p q h = rw (p, q) h

pub give-requires-clause-apart : goal.give-requires-clause-apart
give-requires-clause-apart c =
    apart (block c.args.home c.loop-index.index) _ _ _ (ap (λ block. block.id) c.in_ok-new.ensures) c.loop-index.invariant.stored
    (next-apart c.args.home c.loop-index.index)

pub loop-index-preserved : goal.loop-index-preserved
loop-index-preserved c =
    let next : ids_of c.give.new.self.blocks ≡ with_id (block c.args.home c.loop-index.index) (first_names c.args.home c.loop-index.index) =
    c.give.ensures.ids
    ∙ ap (λ block. with_id block.id (ids_of c.loop-index.store.blocks)) c.in_ok-new.ensures
    ∙ ap (with_id (block c.args.home c.loop-index.index)) c.loop-index.invariant.stored in
    let spare = ap (λ store. store.spare) c.give.ensures.after in
    record {
      stored = next ∙ put-next c.args.home c.loop-index.index;
      room = omega (arith, c.loop-index.invariant.room, spare, home_blocks_lem);
    }
