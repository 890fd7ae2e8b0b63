use Rattle.std.proofs.Common.{refl, sym, ◌∙◌}
use Rattle.ce_model.specs.Node.{kill_call}
use Rattle.ce_host.specs.declared.command.Command.TheVariants.{Kill}
use Rattle.ce_cube.specs.Crews.{serial_facts}
use Rattle.ce_script.specs.Rounds.{serial}
use Rattle.ce_run.specs.UserStates.{HasDone, HasToldHost, cube_crew}
use Rattle.ce_run.proofs.StatesBehind.{if-ok, no-place-done, may-end}
use Rattle.ce_run.proofs.commands.sending.kill.Goals as goal

pub give_order-requires-clause-call : goal.give_order-requires-clause-call
give_order-requires-clause-call c =
    may-end c.args.machine.now.parts c.args.machine.now.history (serial_facts c.args.crew.now) c.requires.user.sound.within c.requires.user.sound.lawful c.requires.in_step.held
    c.args.to (sym c.has_place.ensures ∙ c.if-not-has_place.false)

pub returns-then-not-has_place : goal.returns-then-not-has_place
returns-then-not-has_place c =
    no-place-done serial c.args.machine.now (serial_facts c.args.crew.now) c.requires.user.sound c.requires.in_step (Kill c.args.to) c.args.to refl
    (sym c.has_place.ensures ∙ c.if-not-has_place.true)

pub returns : goal.returns
returns c =
    if-ok c.give_order.result (λ answer. HasToldHost serial c.args.machine.now c.give_order.new.machine c.args.crew.now.grant.user (kill_call 0 c.args.to) answer (serial_facts c.give_order.new.crew))
    (λ answer. HasDone serial c.args.machine.now c.give_order.new.machine c.args.crew.now.grant.user (Kill c.args.to) answer (cube_crew (serial_facts c.give_order.new.crew)))
    (λ answer told. told (Kill c.args.to) (record { home = 0; index = 0 }) refl) c.give_order.ensures
