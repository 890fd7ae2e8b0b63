use Rattle.std.proofs.Common.{◌≡◌, ℕ, ◌+◌, ◌^◌, List, flat_map, map, length, ap, ◌∙◌, arith}
use Rattle.std.specs.List.{range_with_len}
use Rattle.std.proofs.lemmas.List.{length-append}
use Rattle.ce_model.specs.Parcels.{Item}
use Rattle.ce_model.specs.Trace.{NodeRecord}
use Rattle.ce_model.specs.Subcubes.{node_of}
use Rattle.ce_model.specs.Limits.{node_room_lem}
use Rattle.ce_machine.specs.Tables.{desk_at}
use Rattle.ce_machine.proofs.Loops.{nodes_from, rest-more, rest-none, rest-whole, few-nodes}
use Rattle.ce_machine.proofs.desks.waiting_count.Goals as goal

pub overflow_add-count : goal.overflow_add-count
overflow_add-count c =
    omega (arith, c.loop-r.invariant.few, c.count.ensures.within, node_room_lem, c.loop-r-test.true, c.node_count-r-end.ensures, few-nodes c.args.grant.now.dim c.requires.small)

pub loop-r-preserved : goal.loop-r-preserved
loop-r-preserved c =
    let desks = c.args.desks.now.items in
    let sub = c.args.grant.now.sub in
    let r = c.loop-r.r in
    let end = c.node_count-r-end.result in
    let waits : List ℕ → List Item = λ nodes. flat_map (λ node. (desk_at desks node).waiting_items) nodes in
    let step : length (waits (nodes_from sub r end)) ≡ length (desk_at desks (node_of sub r)).waiting_items + length (waits (nodes_from sub (r + 1) end)) =
    ap (λ nodes. length (waits nodes)) (rest-more sub r end c.loop-r-test.true) ∙ length-append (desk_at desks (node_of sub r)).waiting_items (waits (nodes_from sub (r + 1) end)) in
    let here : c.count.result ≡ length (desk_at desks (node_of sub r)).waiting_items = c.count.ensures.value ∙ ap (λ (node_record : NodeRecord). length node_record.waiting_items) c.desk_of.ensures in
    record {
      all = omega (arith, c.loop-r.invariant.all, step, here);
      few = omega (arith, c.loop-r.invariant.few, c.count.ensures.within, node_room_lem);
    }

pub returns-clause-count : goal.returns-clause-count
returns-clause-count c =
    let desks = c.args.desks.now.items in
    let sub = c.args.grant.now.sub in
    let d = c.args.grant.now.dim in
    let end = c.node_count-r-end.result in
    let waits : List ℕ → List Item = λ nodes. flat_map (λ node. (desk_at desks node).waiting_items) nodes in
    let none : length (waits (nodes_from sub c.loop-r.r end)) ≡ 0 = ap (λ nodes. length (waits nodes)) (rest-none sub c.loop-r.r end c.loop-r-test.false) in
    let whole : length (waits (nodes_from sub 0 end)) ≡ length (waits (map (node_of sub) (range_with_len 0 (2 ^ d)))) =
    ap (λ nodes. length (waits nodes)) (rest-whole sub end _ c.node_count-r-end.ensures) in
    omega (arith, c.loop-r.invariant.all, none, whole)

pub returns-clause-within : goal.returns-clause-within
returns-clause-within c =
    omega (arith, c.loop-r.invariant.few, c.loop-r.auto.r-end, c.node_count-r-end.ensures, few-nodes c.args.grant.now.dim c.requires.small)
