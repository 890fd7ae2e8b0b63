use Rattle.std.proofs.Common.{◌≡◌, ◌+◌, ◌<◌, ◌^◌, length, set, sym, ap, ◌∙◌, subst, arith}
use Rattle.ce_model.specs.Trace.{NodeRecord, blank_record}
use Rattle.ce_model.specs.Subcubes.{node_of}
use Rattle.ce_machine.specs.Desks.{AreChanged}
use Rattle.ce_machine.proofs.Loops.{change_at_first_nodes, first-none, first-read, first-more, first-all}
use Rattle.ce_machine.proofs.desks.clear_nodes.Goals as goal

abbrev clear : NodeRecord → NodeRecord
clear node_record = blank_record

pub loop-r-init : goal.loop-r-init
loop-r-init c = first-none c.args.grant.now.sub clear c.args.desks.now.items

pub clear-requires : goal.clear-requires
clear-requires c =
    let sub = c.args.grant.now.sub in
    let r = c.loop-r.r in
    let below : r < 2 ^ c.args.grant.now.dim = omega (arith, c.loop-r-test.true, c.node_count-r-end.ensures) in
    ap (λ (node_record : NodeRecord). node_record.waiting_items)
    (first-read sub c.args.grant.now.dim r c.requires.sub.sub_is below clear c.args.desks.now.items c.loop-r.desks.items _ c.index_mut-desk.result.now (c.requires.sub.within r below) c.loop-r.invariant c.node_at.ensures c.index_mut-desk.ensures.value)
    ∙ c.requires.empty r below

pub loop-r-preserved : goal.loop-r-preserved
loop-r-preserved c =
    let sub = c.args.grant.now.sub in
    let d = c.args.grant.now.dim in
    let r = c.loop-r.r in
    let old = c.args.desks.now.items in
    let now = c.loop-r.desks.items in
    let below : r < 2 ^ d = omega (arith, c.loop-r-test.true, c.node_count-r-end.ensures) in
    let has : node_of sub r < length old = c.requires.sub.within r below in
    subst (λ n. AreChanged old (set now n c.clear.new.self) (change_at_first_nodes sub (r + 1) clear)) (sym c.node_at.ensures)
    (first-more sub d r c.requires.sub.sub_is below clear old now c.clear.new.self has c.loop-r.invariant c.clear.ensures)

pub returns : goal.returns
returns c =
    let sub = c.args.grant.now.sub in
    let d = c.args.grant.now.dim in
    let end : c.loop-r.r ≡ 2 ^ d = omega (arith, c.loop-r-test.false, c.loop-r.auto.r-end, c.node_count-r-end.ensures) in
    first-all sub d clear c.args.desks.now.items c.loop-r.desks.items c.requires.sub.sub_is
    (subst (λ n. AreChanged c.args.desks.now.items c.loop-r.desks.items (change_at_first_nodes sub n clear)) end c.loop-r.invariant)
