use Rattle.std.proofs.Common.{length, sym, ◌∙◌, arith}
use Rattle.ce_model.specs.Node.{process_at}
use Rattle.rk_node.specs.Standing.{node_model}
use Rattle.rk_node.proofs.Copies.{read-place, read-fault, read-all}
use Rattle.rk_node.proofs.node.Node.read_places.Goals as goal

pub loop-place-preserved : goal.loop-place-preserved
loop-place-preserved c =
    let space = (process_at (node_model c.args.self.now) c.args.pid.number).space in
    read-place space c.loop-place.place_address c.loop-place.place-index (length c.args.places.now) c.loop-place.places c.in-Ok.found (omega arith) (omega arith) (sym c.in-Ok.ensures)
    ∙ c.loop-place.invariant

pub returns : goal.returns
returns c =
    let space = (process_at (node_model c.args.self.now) c.args.pid.number).space in
    sym c.loop-place.invariant
    ∙ read-all space c.loop-place.place_address c.loop-place.place-index (length c.args.places.now) c.loop-place.places (omega arith) (omega arith)

pub returns-in-Err : goal.returns-in-Err
returns-in-Err c =
    let space = (process_at (node_model c.args.self.now) c.args.pid.number).space in
    sym c.loop-place.invariant
    ∙ read-fault space c.loop-place.place_address c.loop-place.place-index (length c.args.places.now) c.loop-place.places c.in-Err.cause (omega arith) (sym c.in-Err.ensures)
