use Rattle.std.proofs.Common.{◌≡◌, ◌+◌, ◌-◌, ◌*◌, ◌^◌}
use Rattle.ce_model.specs.Limits.{greatest_dim}
use Rattle.ce_model.specs.Subcubes.{deposited_bits}
use Rattle.ce_set.proofs.bits.deposit.Given as goal

-- what is put down, and what the bits that are left will add, is the whole
abbrev pub invariant-loop-place : goal.invariant-loop-place
invariant-loop-place l = l.node + 2 ^ l.place * deposited_bits (greatest_dim - l.place) l.bits_left l.mask_left ≡ deposited_bits greatest_dim l.r l.mask
