use Rattle.std.proofs.Common.{◌≡◌, ℕ, ◌+◌, ◌<◌, List, [], ◌∷◌, ◌++◌, flat_map, length, drop, refl, ap, sym, ◌∙◌, subst, arith}
use Rattle.std.specs.List.{Contains}
use Rattle.std.proofs.lemmas.List.{append-nil}
use Rattle.ce_model.specs.declared.topology.BlockId.{BlockId}
use Rattle.ce_model.specs.Limits.{home_blocks, home_blocks_lem}
use Rattle.ce_model.specs.Blocks.{Block, with_id, blocks_of_home}
use Rattle.ce_model.specs.Literals.{block as name}
use Rattle.ce_model.specs.Space.{mapped_ids}
use Rattle.ce_model.specs.Node.{Node, blocks_of}
use Rattle.ce_model.specs.Kernel.{with_store}
use Rattle.xm_block.specs.Stores.{ids_of}
use Rattle.rk_node.specs.Boxes.{Box, HasRoomForBlock}
use Rattle.ce_cube.specs.Homecoming.{HasPrefix, IsEmptiedBox}
use Rattle.xm_block.proofs.HomeBlocks.{first_names, put-next, next-apart}
use Rattle.ce_cube.proofs.Gathering.{all-names, length-names, next-first}
use Rattle.ce_cube.proofs.rehoming.send_home.Goals as goal

none_front : (xs ys : List BlockId) → xs ++ ys ≡ [] → xs ≡ []
none_front [] ys e = refl
none_front (x ∷ xs) ys e = absurd (cc)

none_behind : (xs ys : List BlockId) → xs ++ ys ≡ [] → ys ≡ []
none_behind [] ys e = e
none_behind (x ∷ xs) ys e = absurd (cc)

pub loop-init : goal.loop-init
loop-init c =
    let node : Node = c.args.node_box.now.node in
    let windows : List BlockId = flat_map (λ p. mapped_ids p.space) node.processes in
    record {
      filled = ap (λ store. record c.args.node_box.now { node = with_store store node }) (none_front node.store windows c.requires.emptied.none);
      rest = refl;
      spare = omega arith;
    }

-- the next block in the store
pub unreachable-requires : goal.unreachable-requires
unreachable-requires c =
    let home = c.args.node_box.now.node.home in
    let next = next-first home c.loop.counter (ids_of c.args.store.now.blocks) c.requires.least (omega (arith, c.loop-test.true, home_blocks_lem)) in
    let none : c.loop.store.blocks ≡ [] = c.in_default.ensures.empty.0 refl in
    let e : name home c.loop.counter ∷ drop (c.loop.counter + 1) (ids_of c.args.store.now.blocks) ≡ [] = sym next ∙ sym c.loop.invariant.rest ∙ ap ids_of none in
    absurd (cc)

-- a box that has the first blocks of its home, and the store's next
module _ (box now : Box) (store : List BlockId) (i : ℕ) (block : Block) (held left : List Block)
    (empty : IsEmptiedBox box) (least : HasPrefix (blocks_of_home box.node.home) store) (less : i < 32)
    (filled : now ≡ record box { node = with_store (first_names box.node.home i) box.node }) (so_far : ids_of held ≡ drop i store) (taken : held ≡ block ∷ left) where
  next : block.id ∷ ids_of left ≡ name box.node.home i ∷ drop (i + 1) store
  next = sym (ap ids_of taken) ∙ so_far ∙ next-first box.node.home i store least (omega (arith, less, home_blocks_lem))

  id-is : block.id ≡ name box.node.home i
  id-is = cc (next)

  rest-is : ids_of left ≡ drop (i + 1) store
  rest-is = cc (next)

  home-is : block.id.home ≡ now.node.home
  home-is = ap (λ (id : BlockId). id.home) id-is ∙ sym (ap (λ (one : Box). one.node.home) filled)

  blocks-are : blocks_of now.node ≡ first_names box.node.home i
  blocks-are =
      let windows : List BlockId = flat_map (λ p. mapped_ids p.space) box.node.processes in
      ap (λ (one : Box). blocks_of one.node) filled ∙ ap (λ ids. first_names box.node.home i ++ ids) (none_behind box.node.store windows empty.none)
      ∙ append-nil (first_names box.node.home i)

  apart : Contains (blocks_of now.node) block.id → ⊥
  apart there = next-apart box.node.home i (subst (λ ids. Contains ids (name box.node.home i)) blocks-are (subst (Contains (blocks_of now.node)) id-is there))

  room : HasRoomForBlock now
  room =
      omega (
        arith,
        ap (λ ids. length ids) blocks-are,
        length-names box.node.home i,
        empty.room,
        less,
        home_blocks_lem,
        ap (λ (one : Box). one.room) filled,
      )

  filled-more : (after : Box) → after ≡ record now { node = with_store (with_id block.id now.node.store) now.node }
      → after ≡ record box { node = with_store (first_names box.node.home (i + 1)) box.node }
  filled-more after is =
      is ∙ ap (λ (one : Box). record one { node = with_store (with_id block.id one.node.store) one.node }) filled
      ∙ ap (λ store. record box { node = with_store store box.node }) (ap (λ id. with_id id (first_names box.node.home i)) id-is ∙ put-next box.node.home i)

pub put_home-requires-clause-home : goal.put_home-requires-clause-home
put_home-requires-clause-home c =
    home-is c.args.node_box.now c.loop.node_box (ids_of c.args.store.now.blocks) c.loop.counter c.in-Some.block c.loop.store.blocks c.take_least.new.self.blocks
    c.requires.emptied c.requires.least c.loop-test.true c.loop.invariant.filled c.loop.invariant.rest c.in-Some.ensures.taken

pub put_home-requires-clause-apart : goal.put_home-requires-clause-apart
put_home-requires-clause-apart c =
    apart c.args.node_box.now c.loop.node_box (ids_of c.args.store.now.blocks) c.loop.counter c.in-Some.block c.loop.store.blocks c.take_least.new.self.blocks
    c.requires.emptied c.requires.least c.loop-test.true c.loop.invariant.filled c.loop.invariant.rest c.in-Some.ensures.taken

pub put_home-requires-clause-room : goal.put_home-requires-clause-room
put_home-requires-clause-room c =
    room c.args.node_box.now c.loop.node_box (ids_of c.args.store.now.blocks) c.loop.counter c.in-Some.block c.loop.store.blocks c.take_least.new.self.blocks
    c.requires.emptied c.requires.least c.loop-test.true c.loop.invariant.filled c.loop.invariant.rest c.in-Some.ensures.taken

pub loop-preserved : goal.loop-preserved
loop-preserved c = record {
  filled = filled-more c.args.node_box.now c.loop.node_box (ids_of c.args.store.now.blocks) c.loop.counter c.in-Some.block c.loop.store.blocks c.take_least.new.self.blocks
      c.requires.emptied c.requires.least c.loop-test.true c.loop.invariant.filled c.loop.invariant.rest c.in-Some.ensures.taken c.put_home.new.self c.put_home.ensures;
  rest = rest-is c.args.node_box.now c.loop.node_box (ids_of c.args.store.now.blocks) c.loop.counter c.in-Some.block c.loop.store.blocks c.take_least.new.self.blocks
      c.requires.emptied c.requires.least c.loop-test.true c.loop.invariant.filled c.loop.invariant.rest c.in-Some.ensures.taken;
  spare = omega (arith, c.in-Some.ensures.room, c.loop.invariant.spare);
}

pub returns-clause-after : goal.returns-clause-after
returns-clause-after c =
    let all : c.loop.counter ≡ home_blocks = omega (arith, home_blocks_lem) in
    let box = c.args.node_box.now in
    c.loop.invariant.filled
    ∙ ap (λ (store : List BlockId). record box { node = with_store store box.node }) (ap (first_names box.node.home) all ∙ all-names box.node.home)

pub returns-clause-rest : goal.returns-clause-rest
returns-clause-rest c =
    let all : c.loop.counter ≡ home_blocks = omega (arith, home_blocks_lem) in
    c.loop.invariant.rest ∙ ap (λ n. drop n (ids_of c.args.store.now.blocks)) all

pub returns-clause-spare : goal.returns-clause-spare
returns-clause-spare c = omega (arith, home_blocks_lem)
