use Rattle.std.proofs.Common.{refl, arith}
use Rattle.ce_model.specs.Limits.{turn_calls, turn_calls_lem}
use Rattle.ce_model.specs.Kernel.{kernel_calls}
use Rattle.std.proofs.lemmas.Bool.{le-ltb}
use Rattle.ce_model.specs.Node.{process_at}
use Rattle.rk_node.specs.Standing.{node_model, turn_model}
use Rattle.rk_node.proofs.Made.{made-as}
use Rattle.rk_node.proofs.Calls.{in_turn-more, made-counted, spent, is_note}
use Rattle.rk_node.proofs.node.Node.make_counted_call.Goals as goal

pub returns-then-turn-ge-TURN_CALLS-clause-made : goal.returns-then-turn-ge-TURN_CALLS-clause-made
returns-then-turn-ge-TURN_CALLS-clause-made c =
    let n = node_model c.args.self.now in
    let turn = turn_model c.args.turn.now in
    made-as c.stop_turn.ensures (spent c.args.number c.requires.counted n turn (process_at n turn.pid) (le-ltb turn.calls turn_calls (omega (arith, turn_calls_lem, c.if-turn-ge-TURN_CALLS.true))))

pub invariant_of-turn : goal.invariant_of-turn
invariant_of-turn c = record {
  instructions = c.args.turn.now.instructions;
  counted = omega (arith, turn_calls_lem, c.if-turn-ge-TURN_CALLS.false);
}

pub call_on_block-requires : goal.call_on_block-requires
call_on_block-requires c = in_turn-more c.requires.ready

pub call_on_block-requires-in-5 : goal.call_on_block-requires-in-5
call_on_block-requires-in-5 c = in_turn-more c.requires.ready

pub spawn-requires : goal.spawn-requires
spawn-requires c = in_turn-more c.requires.ready

pub ckill-requires : goal.ckill-requires
ckill-requires c = in_turn-more c.requires.ready

pub note-requires : goal.note-requires
note-requires c = in_turn-more c.requires.ready

pub returns-in-4-clause-made : goal.returns-in-4-clause-made
unfolding kernel_calls
returns-in-4-clause-made c = made-counted c.call_on_block.ensures c.in-4.is (omega (arith, turn_calls_lem, c.if-turn-ge-TURN_CALLS.false)) (λ node p t. rw t refl)

pub returns-in-5-clause-made : goal.returns-in-5-clause-made
unfolding kernel_calls
returns-in-5-clause-made c = made-counted c.call_on_block-in-5.ensures c.in-5.is (omega (arith, turn_calls_lem, c.if-turn-ge-TURN_CALLS.false)) (λ node p t. rw t refl)

pub returns-in-8-clause-made : goal.returns-in-8-clause-made
unfolding kernel_calls
returns-in-8-clause-made c = made-counted c.spawn.ensures c.in-8.is (omega (arith, turn_calls_lem, c.if-turn-ge-TURN_CALLS.false)) (λ node p t. rw t refl)

pub returns-in-9-clause-made : goal.returns-in-9-clause-made
unfolding kernel_calls
returns-in-9-clause-made c = made-counted c.ckill.ensures c.in-9.is (omega (arith, turn_calls_lem, c.if-turn-ge-TURN_CALLS.false)) (λ node p t. rw t refl)

pub returns-in_default-clause-made : goal.returns-in_default-clause-made
unfolding kernel_calls
returns-in_default-clause-made c = made-counted c.note.ensures (is_note c.args.number c.requires.counted (omega arith) (omega arith) (omega arith) (omega arith)) (omega (arith, turn_calls_lem, c.if-turn-ge-TURN_CALLS.false)) (λ node p t. rw t refl)
