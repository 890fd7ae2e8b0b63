use Rattle.std.proofs.Common.{◌^◌, ◌≤◌, arith, pow_mono}
use Rattle.ce_model.specs.Limits.{greatest_dim, greatest_nodes_lem}
use Rattle.ce_cube.proofs.rehoming.enter_all.Goals as goal

pub overflow_cast-number : goal.overflow_cast-number
overflow_cast-number c =
    let few : 2 ^ c.args.dim ≤ 2 ^ greatest_dim = pow_mono c.requires.dim in
    omega (arith, few, greatest_nodes_lem)
