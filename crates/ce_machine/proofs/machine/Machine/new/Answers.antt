use Rattle.std.proofs.Common.{◌∙◌, arith}
use Rattle.std.proofs.lemmas.Nat.{one_shl}
use Rattle.ce_model.specs.Limits.{greatest_dim_lem}
use Rattle.ce_machine.proofs.Opening.{sound-new}
use Rattle.ce_machine.proofs.machine.Machine.new.Goals as goal

pub overflow_shl-dim : goal.overflow_shl-dim
overflow_shl-dim g c = omega (arith, c.requires.machine.dim, greatest_dim_lem)

pub invariant_of-result : goal.invariant_of-result
invariant_of-result g c =
    sound-new (record { dim = c.args.dim; users = c.args.users; images = c.args.images.items }) c.requires.machine _ _ _ c.in_ok-daemon.ensures
    (c.in_ok-desks.ensures.count ∙ one_shl c.args.dim 32 (omega (arith, c.requires.machine.dim, greatest_dim_lem)))
    c.in_ok-desks.ensures.each c.in_ok-hosts.ensures.count c.in_ok-hosts.ensures.each _ c.new-history.ensures.items
