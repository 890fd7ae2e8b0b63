use Rattle.std.proofs.Common.{◌^◌, ap, arith}
use Rattle.ce_model.specs.Limits.{greatest_dim, greatest_dim_lem}
use Rattle.ce_model.specs.Subcubes.{deposit}
use Rattle.ce_model.proofs.Subcubes.{deposited-below}
use Rattle.ce_set.proofs.subcube.node_of.Goals as goal

pub overflow_add-result : goal.overflow_add-result
unfolding deposit
overflow_add-result c =
    let sub = c.args.sub.now in
    omega (arith, c.deposit.ensures.value, deposited-below greatest_dim c.args.r sub.mask, ap (λ n. 2 ^ n) greatest_dim_lem, c.requires.base_within)
