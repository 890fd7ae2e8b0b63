use Rattle.std.proofs.Common.{◌≡◌, ◌+◌, ◌-◌, ◌*◌, ◌^◌, ◌≤◌}
use Rattle.ce_model.specs.Limits.{greatest_dim}
use Rattle.ce_model.specs.Subcubes.{extracted_bits}
use Rattle.ce_set.proofs.bits.extract.Given as goal

-- what is found, and what the bits that are left will add, is the whole
abbrev pub invariant-loop-place : goal.invariant-loop-place
invariant-loop-place l = record {
  whole : l.r + 2 ^ l.bit_count * extracted_bits (greatest_dim - l.place) l.bits_left l.mask_left ≡ extracted_bits greatest_dim l.node l.mask;
  few : l.bit_count ≤ l.place;
}
