use Rattle.ce_run.proofs.Further.{HasDoneCommands}
use Rattle.ce_run.proofs.serial.run_on_machine.Given as goal

abbrev pub invariant-loop-user : goal.invariant-loop-user
invariant-loop-user l = HasDoneCommands l.limited_script.script l.machine l.user_states.items l.users.items l.user-index
