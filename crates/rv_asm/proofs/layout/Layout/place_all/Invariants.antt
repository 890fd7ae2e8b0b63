use Rattle.std.proofs.Common.{◌≡◌}
use Rattle.std.specs.Vec.Iter.{into_iter_items}
use Rattle.rv_asm.specs.FirstPass.{layout_with_all}
use Rattle.rv_asm.specs.LayoutView.{layout_view}
use Rattle.rv_asm.specs.Sound.{AreSound}
use Rattle.rv_asm.proofs.layout.Layout.place_all.Given as goal

abbrev pub invariant-loop-statement : goal.invariant-loop-statement
invariant-loop-statement l = record {
  whole : layout_with_all l.line_number (layout_view l.self) (into_iter_items l.statement-iterator) ≡ layout_with_all l.line_number (layout_view l.fn.self) l.fn.statements.items;
  left : AreSound (into_iter_items l.statement-iterator);
}
