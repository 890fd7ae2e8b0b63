use Rattle.std.proofs.Common.{◌≡◌, ℕ, length}
use Rattle.std.specs.Prelude.{All}
use Rattle.ce_daemon.specs.Boxes.{HasBox}
use Rattle.ce_daemon.proofs.boxes.put_home.Given as goal

abbrev pub invariant-loop-next : goal.invariant-loop-next
invariant-loop-next g l = record {
  put : All (λ next. HasBox g.N.Homed.home g.N.Homed.clean l.places.items (g.N.Homed.home next)) l.yielded;
  others : (node : ℕ) → HasBox g.N.Homed.home g.N.Homed.clean l.initial.places.items node → HasBox g.N.Homed.home g.N.Homed.clean l.places.items node;
  all : length l.places.items ≡ length l.initial.places.items;
}
