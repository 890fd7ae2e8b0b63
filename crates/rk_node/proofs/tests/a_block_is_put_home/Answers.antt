use Rattle.std.proofs.Common.{ℕ, ◌++◌, ◌∷◌, length, ap, ◌∙◌, arith}
use Rattle.ce_model.specs.Limits.{home_blocks_lem, greatest_blocks_lem}
use Rattle.ce_model.specs.Blocks.{with_id}
use Rattle.ce_model.specs.Node.{blocks_of}
use Rattle.ce_model.specs.Kernel.{with_store}
use Rattle.ce_solo.proofs.Counting.{hit-le, count, count-nil, count-one}
use Rattle.xm_block.specs.Stores.{BlockStore, ids_of}
use Rattle.rk_node.specs.Boxes.{Box}
use Rattle.rk_node.proofs.Names.{not_contained}
use Rattle.rk_node.proofs.Rooms.{blocks-fresh, blocks-scrubbed, blocks-put}
use Rattle.rk_node.proofs.tests.a_block_is_put_home.Goals as goal

pub new-requires : goal.new-requires
new-requires g c = omega (arith, greatest_blocks_lem)

pub scrub-requires-clause-room : goal.scrub-requires-clause-room
scrub-requires-clause-room g c =
    omega (arith, blocks-fresh c.in_ok-node.node.node c.in_ok-node.ensures.clean.node, home_blocks_lem, ap (λ (store : BlockStore). store.spare) c.in_ok-all.ensures)

pub put_home-requires-clause-apart : goal.put_home-requires-clause-apart
put_home-requires-clause-apart g c =
    let none = ap (λ (box : Box). blocks_of box.node) c.scrub.ensures.after ∙ blocks-scrubbed c.in_ok-node.node.node in
    not_contained _ _ (ap (count _) none ∙ count-nil _)

pub put_home-requires-clause-room : goal.put_home-requires-clause-room
put_home-requires-clause-room g c =
    let none = ap (λ (box : Box). blocks_of box.node) c.scrub.ensures.after ∙ blocks-scrubbed c.in_ok-node.node.node in
    omega (arith, ap {B = ℕ} length none, ap (λ (box : Box). box.room) c.scrub.ensures.after, c.in_ok-node.ensures.room)

pub scrub-requires-2-clause-room : goal.scrub-requires-2-clause-room
scrub-requires-2-clause-room g c =
    let id = c.in_ok-new.field-0.id in
    let one = ap (λ (box : Box). blocks_of box.node) c.put_home.ensures
    ∙ ap (λ (box : Box). blocks_of (with_store (with_id id box.node.store) box.node)) c.scrub.ensures.after ∙ blocks-put id c.in_ok-node.node.node in
    omega (arith, ap {B = ℕ} length one, ap (λ (store : BlockStore). store.spare) c.in_ok-one.ensures)

pub scrub-requires-2-clause-apart : goal.scrub-requires-2-clause-apart
scrub-requires-2-clause-apart g c =
    let id = c.in_ok-new.field-0.id in
    let one = ap (λ (box : Box). blocks_of box.node) c.put_home.ensures
    ∙ ap (λ (box : Box). blocks_of (with_store (with_id id box.node.store) box.node)) c.scrub.ensures.after ∙ blocks-put id c.in_ok-node.node.node in
    record {
      apart = λ other.
          let same = ap (λ ids. count other (ids ++ ids_of c.in_ok-one.one.blocks)) one
          ∙ ap (λ (store : BlockStore). count other (id ∷ ids_of store.blocks)) c.in_ok-one.ensures ∙ count-one other id in
          omega (arith, same, hit-le other id);
    }
