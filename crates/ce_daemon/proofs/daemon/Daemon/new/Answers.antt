use Rattle.std.proofs.Common.{◌≡◌, ℕ, ◌-◌, ◌*◌, ◌/◌, ◌%◌, ◌^◌, ◌<◌, ◌≤◌, ap, ◌∙◌, arith}
use Rattle.std.proofs.lemmas.Nat.{one_shl, pow_pos}
use Rattle.std.proofs.lemmas.Nat.Bits.{ones_shr}
use Rattle.ce_model.specs.Limits.{greatest_dim, greatest_dim_lem, greatest_nodes_lem}
use Rattle.ce_set.proofs.Steps.{pow_le}
use Rattle.ce_daemon.proofs.Sound.{IsSound-new}
use Rattle.ce_daemon.proofs.daemon.Daemon.new.Goals as goal

-- a machine has 1 to 64 nodes
nodes_are : (dim : ℕ) → dim ≤ greatest_dim → (1 * 2 ^ dim % 4294967296 ≡ 2 ^ dim) × (2 ^ dim ≤ 64) × (0 < 2 ^ dim)
nodes_are dim small = (one_shl dim 32 (omega (arith, greatest_dim_lem)), omega (arith, pow_le dim greatest_dim small, greatest_nodes_lem), pow_pos dim)

pub overflow_shl-nodes : goal.overflow_shl-nodes
overflow_shl-nodes g c = omega (arith, c.requires.small, greatest_dim_lem)

pub overflow_sub-free : goal.overflow_sub-free
overflow_sub-free g c = let nodes = nodes_are c.args.dim c.requires.small in omega (arith, nodes.0, nodes.1)

pub overflow_shr-free : goal.overflow_shr-free
overflow_shr-free g c = let nodes = nodes_are c.args.dim c.requires.small in omega (arith, nodes.0, nodes.2)

pub invariant_of-result : goal.invariant_of-result
invariant_of-result g c =
    let dim = c.args.dim in
    let nodes = nodes_are dim c.requires.small in
    let back : 64 - (64 - 2 ^ dim) ≡ 2 ^ dim = omega (arith, nodes.1) in
    let free : 18446744073709551615 / 2 ^ (64 - 1 * 2 ^ dim % 4294967296) ≡ 2 ^ 2 ^ dim - 1 =
    rw nodes.0 (ones_shr 64 (64 - 2 ^ dim) (omega arith) ∙ ap (λ n. 2 ^ n - 1) back) in
    rw (c.new-grants.ensures.items, c.in_ok-places.ensures)
    (IsSound-new g.N.Homed.home g.N.Homed.clean dim (record { 0 = 18446744073709551615 / 2 ^ (64 - 1 * 2 ^ dim % 4294967296) }) c.args.boxes.items c.requires.small c.requires.boxes free)
