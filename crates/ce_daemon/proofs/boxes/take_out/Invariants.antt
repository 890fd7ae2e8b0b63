use Rattle.std.proofs.Common.{◌≡◌, ◌<◌, ◌≤◌, ◌^◌, ℕ, length, false}
use Rattle.std.specs.Prelude.{vec_capacity}
use Rattle.ce_model.specs.Subcubes.{node_of, is_inside}
use Rattle.ce_daemon.specs.Boxes.{AreBoxes, HasBox}
use Rattle.ce_daemon.proofs.boxes.take_out.Given as goal

-- the boxes up to r are out, in order; the others are at their places
abbrev pub invariant-loop-r : goal.invariant-loop-r
invariant-loop-r g l = record {
  out : AreBoxes g.N.Homed.home g.N.Homed.clean l.r (node_of l.sub) l.boxes.items;
  rest : (s : ℕ) → l.r ≤ s → s < 2 ^ l.cube_dim → HasBox g.N.Homed.home g.N.Homed.clean l.places.items (node_of l.sub s);
  others : (node : ℕ) → is_inside l.sub node ≡ false → HasBox g.N.Homed.home g.N.Homed.clean l.initial.places.items node → HasBox g.N.Homed.home g.N.Homed.clean l.places.items node;
  all : length l.places.items ≡ length l.initial.places.items;
  room : 2 ^ l.cube_dim ≤ vec_capacity l.boxes;
}
