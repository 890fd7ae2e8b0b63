use Rattle.std.proofs.Common.{◌≡◌, ℕ, ◌<◌, ◌≤◌, slice_index_or}
use Rattle.rk_node.specs.Boxes.{Box}
use Rattle.ce_cube.specs.Homecoming.{entered_box}
use Rattle.ce_cube.proofs.rehoming.enter_all.Given as goal

abbrev pub invariant-loop-number : goal.invariant-loop-number
invariant-loop-number l = record {
  done : (r : ℕ) (other : Box) → r < l.number → slice_index_or l.boxes r other ≡ entered_box l.dim l.images r (slice_index_or l.initial.boxes r other);
  rest : (r : ℕ) (other : Box) → l.number ≤ r → slice_index_or l.boxes r other ≡ slice_index_or l.initial.boxes r other;
}
