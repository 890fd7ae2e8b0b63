use Rattle.std.proofs.Common.{◌≡◌, ℕ, ◌≤◌, length, vec_capacity, slice_index_or}
use Rattle.ce_machine.proofs.blank.blank_desks.Given as goal

abbrev pub invariant-loop : goal.invariant-loop
invariant-loop g l = record {
  count : length l.desks.items ≡ l.counter;
  room : l.count ≤ vec_capacity l.desks;
  each : (i : ℕ) → slice_index_or l.desks.items i g.T.Blank.blank ≡ g.T.Blank.blank;
}
