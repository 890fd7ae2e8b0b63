use Rattle.std.proofs.Common.{◌≡◌, ◌∷◌, [], ◌++◌}
use Rattle.ce_host.specs.declared.command.Command.TheVariants.{Getcube}
use Rattle.ce_script.proofs.MadeLoads.{starts_below}
use Rattle.ce_script.proofs.load.push_commands.Given as goal

abbrev pub invariant-loop-node : goal.invariant-loop-node
invariant-loop-node l = l.commands ≡ (l.fn.commands ++ (l.user, Getcube 2) ∷ []) ++ starts_below l.user l.node
