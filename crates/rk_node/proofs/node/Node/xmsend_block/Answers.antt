use Rattle.std.proofs.Common.{◌≡◌, ◌<◌, ◌≤◌, Ok, Err, arith, length-take}
use Rattle.ce_model.specs.declared.topology.Place.{Place}
use Rattle.ce_model.specs.Limits.{greatest_targets, greatest_targets_lem}
use Rattle.ce_model.specs.Space.{places_at}
use Rattle.ce_model.specs.Process.{argument}
use Rattle.ce_model.specs.Node.{process_at}
use Rattle.ce_model.specs.Kernel.{xmsend_block}
use Rattle.rk_node.specs.Standing.{node_model, turn_model}
use Rattle.rk_node.proofs.Made.{made-as}
use Rattle.rk_node.proofs.Copies.{for_some, for_each, too_many, places-read, places-as}
use Rattle.rk_node.proofs.node.Node.xmsend_block.Goals as goal

pub returns-then-count-gt-GREATEST_TARGETS : goal.returns-then-count-gt-GREATEST_TARGETS
returns-then-count-gt-GREATEST_TARGETS c =
    let node = node_model c.args.self.now in
    let turn = turn_model c.args.turn in
    let p = process_at node turn.pid in
    let many : greatest_targets < argument p 1 = omega (arith, greatest_targets_lem, c.if-count-gt-GREATEST_TARGETS.true, c.argument-count.ensures) in
    for_each _ _ (λ block.
    made-as {word' = λ node turn p. xmsend_block node turn p (c.args.window, block)} c.return_value.ensures (too_many node turn p (c.args.window, block) many))

pub send_copies-requires-clause-few : goal.send_copies-requires-clause-few
send_copies-requires-clause-few c = omega (arith, greatest_targets_lem, c.if-count-gt-GREATEST_TARGETS.false, c.read_places.auto.places, length-take {A = Place})

pub returns-in-Ok : goal.returns-in-Ok
returns-in-Ok c =
    let node = node_model c.args.self.now in
    let turn = turn_model c.args.turn in
    let p = process_at node turn.pid in
    let few : c.argument-count.result ≤ greatest_targets = omega (arith, greatest_targets_lem, c.if-count-gt-GREATEST_TARGETS.false) in
    let read : places_at p.space c.argument.result c.argument-count.result ≡ Ok c.read_places.new.places =
    places-as p.space c.argument.result _ c.argument-count.result (Ok c.read_places.new.places) c.in-Ok.ensures (omega (arith, c.if-count-gt-GREATEST_TARGETS.false, length-take {A = Place})) in
    for_some _ _ _ c.send_copies.ensures (λ block made.
    made-as {word' = λ node turn p. xmsend_block node turn p (c.args.window, block)} made
    (places-read node turn p (c.args.window, block) (Ok c.read_places.new.places) c.argument-count.result c.argument.result c.argument-count.ensures c.argument.ensures few read))

pub returns-in-Err : goal.returns-in-Err
returns-in-Err c =
    let node = node_model c.args.self.now in
    let turn = turn_model c.args.turn in
    let p = process_at node turn.pid in
    for_each _ _ (λ block.
    made-as {word' = λ node turn p. xmsend_block node turn p (c.args.window, block)} c.stop_turn.ensures
    (places-read node turn p (c.args.window, block) (Err c.in-Err.cause) c.argument-count.result c.argument.result c.argument-count.ensures c.argument.ensures (omega (arith, greatest_targets_lem, c.if-count-gt-GREATEST_TARGETS.false)) (places-as p.space c.argument.result _ c.argument-count.result (Err c.in-Err.cause) c.in-Err.ensures (omega (arith, c.if-count-gt-GREATEST_TARGETS.false, length-take {A = Place})))))
