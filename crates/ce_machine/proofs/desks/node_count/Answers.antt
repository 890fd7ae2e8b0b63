use Rattle.std.proofs.Common.{arith}
use Rattle.std.proofs.lemmas.Nat.{one_shl}
use Rattle.ce_model.specs.Limits.{greatest_dim_lem}
use Rattle.ce_machine.proofs.desks.node_count.Goals as goal

pub returns : goal.returns
returns c = omega (arith, one_shl c.args.grant.now.dim 32 (omega (arith, c.requires, greatest_dim_lem)))
