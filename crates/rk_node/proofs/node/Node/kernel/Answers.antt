use Rattle.std.proofs.Common.{rules, refl, arith}
use Rattle.ce_model.specs.Kernel.{kernel_calls}
use Rattle.rk_node.proofs.Calls.{made-call, made-number, made-none, call_none, counted-number}
use Rattle.rk_node.proofs.node.Node.kernel.Goals as goal

pub returns-in-1-clause-made : goal.returns-in-1-clause-made
unfolding kernel_calls
returns-in-1-clause-made c = made-call c.xmalloc.ensures c.argument-number.ensures c.in-1.is (λ node p. refl)

pub returns-in-2-clause-made : goal.returns-in-2-clause-made
unfolding kernel_calls
returns-in-2-clause-made c = made-call c.call_on_block.ensures c.argument-number.ensures c.in-2.is (λ node p. refl)

pub returns-in-3-clause-made : goal.returns-in-3-clause-made
unfolding kernel_calls
returns-in-3-clause-made c = made-call c.call_on_block-in-3.ensures c.argument-number.ensures c.in-3.is (λ node p. refl)

pub returns-in-6-clause-made : goal.returns-in-6-clause-made
unfolding kernel_calls
returns-in-6-clause-made c = made-call c.xrecv.ensures c.argument-number.ensures c.in-6.is (λ node p. refl)

pub returns-in-7-clause-made : goal.returns-in-7-clause-made
unfolding kernel_calls
returns-in-7-clause-made c = made-call c.xrecvb.ensures c.argument-number.ensures c.in-7.is (λ node p. refl)

pub returns-in-10-clause-made : goal.returns-in-10-clause-made
unfolding kernel_calls
returns-in-10-clause-made c = made-call c.mynode.ensures c.argument-number.ensures c.in-10.is (λ node p. refl)

pub returns-in-11-clause-made : goal.returns-in-11-clause-made
unfolding kernel_calls
returns-in-11-clause-made c = made-call c.mypid.ensures c.argument-number.ensures c.in-11.is (λ node p. refl)

pub returns-in-12-clause-made : goal.returns-in-12-clause-made
unfolding kernel_calls
returns-in-12-clause-made c = made-call c.nnodes.ensures c.argument-number.ensures c.in-12.is (λ node p. refl)

pub returns-in-13-clause-made : goal.returns-in-13-clause-made
unfolding kernel_calls
returns-in-13-clause-made c = made-call c.exit.ensures c.argument-number.ensures c.in-13.is (λ node p. refl)

pub make_counted_call-requires-clause-counted : goal.make_counted_call-requires-clause-counted
make_counted_call-requires-clause-counted c = counted-number c.argument-number.result (search rules)

pub returns-in-4-clause-made : goal.returns-in-4-clause-made
returns-in-4-clause-made c = made-number c.make_counted_call.ensures.made c.argument-number.ensures

pub returns-in_default-clause-made : goal.returns-in_default-clause-made
returns-in_default-clause-made c =
    made-none c.stop_turn.ensures c.argument-number.ensures
    (call_none c.argument-number.result (omega arith) (omega arith) (omega arith) (omega arith) (omega arith) (omega arith) (omega arith) (omega arith) (omega arith) (omega arith) (omega arith) (omega arith) (omega arith) (omega arith))
