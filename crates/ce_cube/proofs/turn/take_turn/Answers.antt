use Rattle.std.proofs.Common.{inr, ap, ◌∙◌}
use Rattle.rk_mail.specs.Talk.{call_of_say}
use Rattle.ce_script.specs.Rounds.{asks_for_work}
use Rattle.ce_cube.proofs.Turning.{asks-first, turn-starts, turn-goes_on, next-called, turn-steps, turn-stops}
use Rattle.ce_cube.proofs.turn.take_turn.Goals as goal

pub loop-say-init : goal.loop-say-init
loop-say-init c =
    turn-starts c.args.machine.now c.exchange.new.machine c.args.grant.now c.args.r c.args.node_box.now c.exchange.new.node_box (call_of_say c.says-take.result) c.in_ok-gives_work.gives_work
    (ap asks_for_work c.says-take.ensures.call
    ∙ asks-first c.args.machine.now c.args.grant.now c.args.r c.args.node_box.now c.requires.node c.requires.ready c.requires.in_step)
    (c.in_ok-gives_work.ensures c.args.node_box.now
    (next-called c.args.machine.now c.args.grant.now c.args.r c.args.node_box.now c.says-take.new.self (call_of_say c.says-take.result)
    (record { ready = c.requires.ready; stands = inr c.requires.in_step })
    c.says-take.ensures.node c.says-take.ensures.room c.says-take.ensures.call c.says-take.ensures.said))

pub loop-say-preserved : goal.loop-say-preserved
loop-say-preserved c =
    turn-goes_on c.args.machine.now c.loop-say.machine c.exchange-in-Some.new.machine c.args.grant.now c.args.r c.loop-say.node_box c.exchange-in-Some.new.node_box
    (call_of_say c.in-Some.say) c.in_ok-gives_work.gives_work c.in_ok-exchange.field-0 c.loop-say.entries c.loop-say.invariant c.in-Some.ensures.goes_on
    (c.in_ok-exchange.ensures c.loop-say.node_box
    (next-called c.loop-say.machine c.args.grant.now c.args.r c.loop-say.node_box c.next_call.new.node_box (call_of_say c.in-Some.say) c.loop-say.invariant.stands
    c.in-Some.ensures.node c.in-Some.ensures.room c.in-Some.ensures.call c.in-Some.ensures.said))

pub returns-clause-turn : goal.returns-clause-turn
returns-clause-turn c =
    turn-stops c.args.machine.now c.loop-say.machine c.args.grant.now c.args.r c.loop-say.node_box c.next_call.new.node_box c.in_ok-gives_work.gives_work c.loop-say.entries c.loop-say.invariant
    c.in_default.ensures.node c.in_default.ensures.room c.in_default.ensures.idle c.in_default.ensures.over

pub returns-clause-in_step : goal.returns-clause-in_step
returns-clause-in_step c =
    turn-steps c.args.machine.now c.loop-say.machine c.args.grant.now c.args.r c.loop-say.node_box c.next_call.new.node_box c.in_ok-gives_work.gives_work c.loop-say.entries c.loop-say.invariant
    c.in_default.ensures.node c.in_default.ensures.room c.in_default.ensures.idle c.in_default.ensures.over
