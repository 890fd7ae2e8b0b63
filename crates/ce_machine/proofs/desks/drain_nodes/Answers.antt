use Rattle.std.proofs.Common.{◌≡◌, ℕ, ◌+◌, ◌<◌, ◌^◌, List, ◌++◌, flat_map, map, length, set, refl, sym, ap, ◌∙◌, subst, arith, append_assoc, append-nil}
use Rattle.std.specs.List.{range_with_len}
use Rattle.std.proofs.lemmas.List.{length-append, length-map}
use Rattle.ce_model.specs.Blocks.{Block}
use Rattle.ce_model.specs.Parcels.{Item, Parcel, item_parcels}
use Rattle.ce_model.specs.Trace.{NodeRecord}
use Rattle.ce_model.specs.Subcubes.{node_of}
use Rattle.ce_machine.specs.Tables.{desk_at}
use Rattle.ce_machine.specs.Desks.{AreChanged, without_items}
use Rattle.ce_machine.proofs.Drained.{blocks-append}
use Rattle.ce_machine.proofs.Loops.{change_at_first_nodes, first-none, first-read, first-more, first-all, nodes_from, rest-more, rest-none, rest-whole, few-among}
use Rattle.ce_machine.proofs.desks.drain_nodes.Goals.{After-index_mut-desk}
use Rattle.ce_machine.proofs.desks.drain_nodes.Goals as goal

pub loop-r-init : goal.loop-r-init
loop-r-init c =
    let sub = c.args.grant.now.sub in
    let whole : nodes_from sub 0 c.node_count-r-end.result ≡ map (node_of sub) (range_with_len 0 (2 ^ c.args.grant.now.dim)) =
    rest-whole sub c.node_count-r-end.result _ c.node_count-r-end.ensures in
    record {
      desks = first-none sub without_items c.args.desks.now.items;
      blocks = refl;
      room = omega (arith, c.requires.room, ap (λ nodes. length (flat_map (λ node. (desk_at c.args.desks.now.items node).waiting_items) nodes)) whole);
      capacity = refl;
    }

-- the desk at hand, and what waits at the nodes from it on
module _ (c : After-index_mut-desk) where
  abbrev at : ℕ
  at = node_of c.args.grant.now.sub c.loop-r.r

  abbrev node_record : NodeRecord
  node_record = desk_at c.args.desks.now.items at

  abbrev waits : List ℕ → List Item
  waits nodes = flat_map (λ node. (desk_at c.args.desks.now.items node).waiting_items) nodes

  abbrev rest : List Item
  rest = waits (nodes_from c.args.grant.now.sub (c.loop-r.r + 1) c.node_count-r-end.result)

  below : c.loop-r.r < 2 ^ c.args.grant.now.dim
  below = omega (arith, c.loop-r-test.true, c.node_count-r-end.ensures)

  has : node_of c.args.grant.now.sub c.loop-r.r < length c.args.desks.now.items
  has = c.requires.sub.within c.loop-r.r below

  desk : c.index_mut-desk.result.now ≡ desk_at c.args.desks.now.items (node_of c.args.grant.now.sub c.loop-r.r)
  desk =
      first-read c.args.grant.now.sub c.args.grant.now.dim c.loop-r.r c.requires.sub.sub_is below without_items c.args.desks.now.items c.loop-r.desks.items _ c.index_mut-desk.result.now has
      c.loop-r.invariant.desks c.node_at.ensures c.index_mut-desk.ensures.value

  more : waits (nodes_from c.args.grant.now.sub c.loop-r.r c.node_count-r-end.result) ≡ node_record.waiting_items ++ rest
  more = ap waits (rest-more c.args.grant.now.sub c.loop-r.r c.node_count-r-end.result c.loop-r-test.true)

pub drain-requires : goal.drain-requires
drain-requires c =
    let c' = (goal.at.drain-requires c).After-index_mut-desk in
    omega (
      arith,
      c.loop-r.invariant.room,
      c.loop-r.invariant.capacity,
      ap (λ (node_record : NodeRecord). length node_record.waiting_items) (desk c'),
      ap (λ items. length items) (more c'),
      length-append (node_record c').waiting_items (rest c'),
    )

pub loop-r-preserved : goal.loop-r-preserved
loop-r-preserved c =
    let c' = (goal.at.loop-r-preserved c).After-index_mut-desk in
    let old = c.args.desks.now.items in
    let inv = c.loop-r.invariant in
    let items = (node_record c').waiting_items in
    let blocks : List Item → List Block = λ items. map (λ (p : Parcel). p.block) (item_parcels items) in
    let now_blocks : c.drain.new.blocks.items ≡ c.loop-r.blocks.items ++ blocks items =
    c.drain.ensures.blocks ∙ ap (λ (desk : NodeRecord). c.loop-r.blocks.items ++ blocks desk.waiting_items) (desk c') in
    record {
      desks = subst (λ n. AreChanged old (set c.loop-r.desks.items n c.drain.new.self) (change_at_first_nodes c.args.grant.now.sub (c.loop-r.r + 1) without_items)) (sym c.node_at.ensures)
          (first-more c.args.grant.now.sub c.args.grant.now.dim c.loop-r.r c.requires.sub.sub_is (below c') without_items old c.loop-r.desks.items c.drain.new.self (has c') inv.desks
          (c.drain.ensures.desk ∙ ap without_items (desk c')));
      blocks = ap (λ front. front ++ blocks (rest c')) now_blocks ∙ append_assoc c.loop-r.blocks.items (blocks items) (blocks (rest c'))
          ∙ ap (λ behind. c.loop-r.blocks.items ++ behind) (sym (ap blocks (more c') ∙ blocks-append items (rest c'))) ∙ inv.blocks;
      room = omega (
        arith,
        inv.room,
        ap length now_blocks,
        length-append c.loop-r.blocks.items (blocks items),
        length-map (item_parcels items) (λ (p : Parcel). p.block),
        few-among items,
        ap (λ items. length items) (more c'),
        length-append items (rest c'),
      );
      capacity = c.drain.ensures.capacity ∙ inv.capacity;
    }

pub returns : goal.returns
returns c =
    let sub = c.args.grant.now.sub in
    let d = c.args.grant.now.dim in
    let end = c.node_count-r-end.result in
    let old = c.args.desks.now.items in
    let inv = c.loop-r.invariant in
    let waits : List ℕ → List Item = λ nodes. flat_map (λ node. (desk_at old node).waiting_items) nodes in
    let blocks : List Item → List Block = λ items. map (λ (p : Parcel). p.block) (item_parcels items) in
    let at_end : c.loop-r.r ≡ 2 ^ d = omega (arith, c.loop-r-test.false, c.loop-r.auto.r-end, c.node_count-r-end.ensures) in
    let whole : nodes_from sub 0 end ≡ map (node_of sub) (range_with_len 0 (2 ^ d)) =
    rest-whole sub end _ c.node_count-r-end.ensures in
    record {
      desks = first-all sub d without_items old c.loop-r.desks.items c.requires.sub.sub_is
          (subst (λ n. AreChanged old c.loop-r.desks.items (change_at_first_nodes sub n without_items)) at_end inv.desks);
      blocks = sym (append-nil c.loop-r.blocks.items)
          ∙ ap (λ nodes. c.loop-r.blocks.items ++ blocks (waits nodes)) (sym (rest-none sub c.loop-r.r end c.loop-r-test.false))
          ∙ inv.blocks ∙ ap (λ nodes. c.args.blocks.now.items ++ blocks (waits nodes)) whole;
      capacity = inv.capacity;
    }
