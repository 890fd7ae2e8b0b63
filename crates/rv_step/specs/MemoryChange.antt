-- What a step changes of a memory that is a list of bytes.
use Rattle.std.specs.Prelude.{◌≡◌, ℕ, ◌+◌, List, length, take, drop}
use Rattle.rv_model.specs.Exec.{Outcome, next_state, call_state, stop_state}

-- as many bytes as before, and the same ones but for `count` of them at most, which stand in a row
pub record HasChangedAtMost (count : ℕ) (old new : List ℕ) : Type 0 where
  pub first : ℕ
  pub size : length new ≡ length old
  pub before : take first new ≡ take first old
  pub behind : drop (first + count) new ≡ drop (first + count) old

-- the memory that an outcome leaves: where the process stops, that which was there
abbrev pub memory_left : {M : Type 0} → M → Outcome M → M
memory_left m (next_state x pc new_memory) = new_memory
memory_left m (call_state x pc new_memory) = new_memory
memory_left m (stop_state cause) = m
