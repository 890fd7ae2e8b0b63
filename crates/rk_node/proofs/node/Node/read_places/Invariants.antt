use Rattle.std.proofs.Common.{◌≡◌, ◌-◌, length}
use Rattle.ce_model.specs.Space.{places_at}
use Rattle.ce_model.specs.Node.{process_at}
use Rattle.rk_node.specs.Standing.{node_model}
use Rattle.rk_node.proofs.Copies.{later_places}
use Rattle.rk_node.proofs.node.Node.read_places.Given as goal

abbrev pub invariant-loop-place : goal.invariant-loop-place
invariant-loop-place l =
    let space = (process_at (node_model l.self) l.pid.number).space in
    later_places space l.place_address l.place-index (length l.fn.places - l.place-index) l.places ≡ places_at space l.fn.address (length l.fn.places)
