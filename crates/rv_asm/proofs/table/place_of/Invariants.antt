use Rattle.std.proofs.Common.{◌≡◌}
use Rattle.rv_asm.specs.Places.{place_of}
use Rattle.rv_asm.proofs.TextPlaces.{texts_from}
use Rattle.rv_asm.proofs.table.place_of.Given as goal

abbrev pub invariant-loop-place : goal.invariant-loop-place
invariant-loop-place l = place_of l.place (texts_from l.texts l.place) l.text ≡ place_of 0 (texts_from l.texts 0) l.text
