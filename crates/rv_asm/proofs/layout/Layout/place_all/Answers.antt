use Rattle.std.proofs.Common.{◌≡◌, sym, subst, ◌∙◌, rules, arith, length}
use Rattle.std.specs.Vec.Iter.{into_iter_items}
use Rattle.std.proofs.lemmas.List.{nil_from_length}
use Rattle.rv_asm.specs.LayoutView.{layout_view}
use Rattle.rv_asm.specs.Sound.{AreSound}
use Rattle.rv_asm.proofs.Placing.{place_next, place_stops, place_none}
use Rattle.rv_asm.proofs.layout.Layout.place_all.Goals as goal

pub loop-statement-preserved : goal.loop-statement-preserved
loop-statement-preserved c =
    let step = c.in-Some.ensures.steps.0 in
    record {
      whole =
          place_next c.args.line_number (layout_view c.loop-statement.self) (layout_view c.place.new.self) (into_iter_items c.loop-statement.statement-iterator) (into_iter_items c.next.new.self) c.in-Some.statement step c.in_ok-place.ensures
          ∙ c.loop-statement.invariant.whole;
      left = (subst AreSound step c.loop-statement.invariant.left).1;
    }

pub returns-in_err-place : goal.returns-in_err-place
returns-in_err-place c =
    let step = c.in-Some.ensures.steps.0 in
    let stopped = place_stops c.in_err-place.field-0.0 c.args.line_number (layout_view c.loop-statement.self) (into_iter_items c.loop-statement.statement-iterator) (into_iter_items c.next.new.self) c.in-Some.statement step c.in_err-place.ensures in
    let whole = rw c.loop-statement.invariant.whole at stopped in
    search rules

pub returns : goal.returns
returns c =
    let none : length (into_iter_items c.loop-statement.statement-iterator) ≡ 0 = omega (arith, c.loop-statement.statement-iterator.rest.ok.0, c.in-None.ensures.steps.0) in
    sym c.loop-statement.invariant.whole
    ∙ place_none c.args.line_number (layout_view c.loop-statement.self) (into_iter_items c.loop-statement.statement-iterator) (nil_from_length (into_iter_items c.loop-statement.statement-iterator) none)
