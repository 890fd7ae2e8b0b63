use Rattle.std.proofs.Common.{◌≡◌}
use Rattle.ce_script.specs.Load.{next_number, load_number}
use Rattle.ce_script.proofs.MadeLoads.{commands_below}
use Rattle.ce_script.proofs.load.load_commands.Given as goal

abbrev pub invariant-loop-user : goal.invariant-loop-user
invariant-loop-user l = record { commands : l.commands ≡ commands_below l.seed l.user; number : next_number l.number ≡ load_number l.seed l.user }
