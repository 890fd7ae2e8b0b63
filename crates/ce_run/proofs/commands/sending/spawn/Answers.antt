use Rattle.std.proofs.Common.{refl, sym, ◌∙◌}
use Rattle.ce_model.specs.Node.{spawn_call}
use Rattle.ce_host.specs.declared.command.Command.TheVariants.{Spawn}
use Rattle.ce_cube.specs.Crews.{serial_facts}
use Rattle.ce_script.specs.Rounds.{serial}
use Rattle.ce_run.specs.UserStates.{HasDone, HasToldHost, cube_crew}
use Rattle.ce_run.proofs.StatesBehind.{if-ok, no-place-done, may-start}
use Rattle.ce_run.proofs.commands.sending.spawn.Goals as goal

pub give_order-requires-clause-call : goal.give_order-requires-clause-call
give_order-requires-clause-call c =
    may-start c.args.machine.now.parts c.args.machine.now.history (serial_facts c.args.crew.now) c.requires.crew.user.sound.within c.requires.crew.user.sound.lawful c.requires.crew.in_step.held
    c.args.image c.args.to (sym c.has_place.ensures ∙ c.if-not-has_place.false) c.requires.image

pub returns-then-not-has_place : goal.returns-then-not-has_place
returns-then-not-has_place c =
    no-place-done serial c.args.machine.now (serial_facts c.args.crew.now) c.requires.crew.user.sound c.requires.crew.in_step (Spawn c.args.image c.args.to) c.args.to refl
    (sym c.has_place.ensures ∙ c.if-not-has_place.true)

pub returns : goal.returns
returns c =
    if-ok c.give_order.result (λ answer. HasToldHost serial c.args.machine.now c.give_order.new.machine c.args.crew.now.grant.user (spawn_call 0 c.args.image c.args.to) answer
    (serial_facts c.give_order.new.crew))
    (λ answer. HasDone serial c.args.machine.now c.give_order.new.machine c.args.crew.now.grant.user (Spawn c.args.image c.args.to) answer (cube_crew (serial_facts c.give_order.new.crew)))
    (λ answer told. told (Spawn c.args.image c.args.to) (record { home = 0; index = 0 }) refl) c.give_order.ensures
