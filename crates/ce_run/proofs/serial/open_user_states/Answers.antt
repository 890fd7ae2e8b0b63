use Rattle.std.proofs.Common.{◌+◌, sym, subst}
use Rattle.ce_run.specs.declared.user_state.UserState.TheVariants.{HomeHost}
use Rattle.ce_run.specs.Script.{AreFreeStates}
use Rattle.ce_run.proofs.Further.{at-home, states-more}
use Rattle.ce_run.proofs.serial.open_user_states.Goals as goal

pub loop-user-preserved : goal.loop-user-preserved
loop-user-preserved c =
    let host = c.in_ok-new.field-0 in
    subst (AreFreeStates (c.loop-user.user + 1)) (sym c.in_ok-push.ensures.items)
    (states-more c.loop-user.user c.loop-user.user_states.items (HomeHost host) c.loop-user.invariant
    (at-home c.loop-user.user host c.in_ok-new.ensures.blocks c.in_ok-new.ensures.room c.in_ok-new.ensures.spare))
