use Rattle.std.proofs.Common.{◌≡◌, Some, map}
use Rattle.ce_daemon.proofs.boxes.places_of.Given as goal

abbrev pub invariant-loop-next : goal.invariant-loop-next
invariant-loop-next g l = l.places.items ≡ map Some l.yielded
