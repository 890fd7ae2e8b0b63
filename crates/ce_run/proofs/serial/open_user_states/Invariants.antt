use Rattle.ce_run.specs.Script.{AreFreeStates}
use Rattle.ce_run.proofs.serial.open_user_states.Given as goal

abbrev pub invariant-loop-user : goal.invariant-loop-user
invariant-loop-user l = AreFreeStates l.user l.user_states.items
