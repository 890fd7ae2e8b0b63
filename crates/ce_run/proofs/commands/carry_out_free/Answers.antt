use Rattle.std.proofs.Common.{subst}
use Rattle.ce_script.specs.Rounds.{serial}
use Rattle.ce_script.specs.Bounds.{IsCommandWithin}
use Rattle.ce_run.proofs.Carrying.{no-cube-done}
use Rattle.ce_run.proofs.commands.carry_out_free.Goals as goal

pub getcube-requires-clause-dim : goal.getcube-requires-clause-dim
getcube-requires-clause-dim c = subst (IsCommandWithin _) c.in-Getcube.is c.requires.command

pub returns-in_default : goal.returns-in_default
returns-in_default c =
    no-cube-done c.args.machine.now c.args.user c.requires.ready.user_is c.requires.ready.free c.args.host c.requires.ready.host_is serial c.args.command.now
    c.in_default.not-Getcube c.in_default.not-Peek
