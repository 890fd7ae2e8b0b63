use Rattle.std.proofs.Common.{◌≡◌, ℕ, ◌+◌, ◌≤◌, None}
use Rattle.xm_owner.specs.Holdings.{block_held_at}
use Rattle.rk_process.proofs.tests.store.Given as goal

abbrev pub invariant-loop-k : goal.invariant-loop-k
invariant-loop-k g l = record {
  used_count : l.process.used_count ≤ l.k;
  room : 40 ≤ l.held_blocks.spare + l.k;
  vacant : (k : ℕ) → l.process.used_count ≤ k → block_held_at l.held_blocks.mappings 0 k ≡ None;
  spare : 1 ≤ l.store.spare;
}
