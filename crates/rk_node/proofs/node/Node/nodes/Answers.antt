use Rattle.std.proofs.Common.{arith}
use Rattle.std.proofs.lemmas.Nat.{one_shl}
use Rattle.ce_model.specs.Limits.{greatest_dim_lem}
use Rattle.rk_node.proofs.node.Node.nodes.Goals as goal

pub returns : goal.returns
returns c = one_shl c.args.self.now.dim 32 (omega (arith, greatest_dim_lem, c.args.self.now.few_nodes))
