-- What contracts see of a source and of a sink in memory, and what a call does to them.
use Rattle.std.specs.Prelude.{ℕ, ◌-◌, min, List, ◌++◌, length, take, drop, Contains}
use Rattle.ce_io.specs.declared.calls.Calls.{Calls}
use Rattle.ce_io.specs.Counts.{raised_count}

-- the numbers of the calls that fail, the number of the next call, and how many bytes a call moves
-- at most
pub record CallPlan : Type 0 where
  pub failing_calls : List ℕ
  pub next_call : ℕ
  pub greatest_piece : ℕ

-- the plan of the calls of a source or a sink in memory
abbrev pub plan_of : Calls → CallPlan
plan_of calls = record {
  failing_calls = calls.failing_calls.items;
  next_call = calls.next_call;
  greatest_piece = calls.greatest_piece;
}

-- the next call fails
abbrev pub IsFailingNext : CallPlan → Type 0
IsFailingNext plan = Contains plan.failing_calls plan.next_call

-- the plan after a call
abbrev pub next_plan : CallPlan → CallPlan
next_plan plan = record plan { next_call = raised_count plan.next_call 1 }

-- a source in memory: its plan, the bytes still to come, and its counts
pub record SourceState : Type 0 where
  pub plan : CallPlan
  pub left : List ℕ
  pub given : ℕ
  pub faults : ℕ

-- how many bytes the next read gives into so many places
abbrev pub read_len : SourceState → ℕ → ℕ
read_len source places = min source.plan.greatest_piece (min places (length source.left))

-- the source after a read of n bytes
abbrev pub source_after_read : SourceState → ℕ → SourceState
source_after_read source n = record source {
  plan = next_plan source.plan;
  left = drop n source.left;
  given = raised_count source.given n;
}

-- the source after a read that failed
abbrev pub source_after_failed_read : SourceState → SourceState
source_after_failed_read source =
    record source { plan = next_plan source.plan; faults = raised_count source.faults 1 }

-- a sink in memory: its plan, the bytes written, for how many there is room in all, and its count
-- of faults
pub record SinkState : Type 0 where
  pub plan : CallPlan
  pub written : List ℕ
  pub room : ℕ
  pub faults : ℕ

-- how many bytes of a piece the next write takes
abbrev pub write_len : SinkState → List ℕ → ℕ
write_len sink piece =
    min sink.plan.greatest_piece (min (length piece) (sink.room - length sink.written))

-- the sink after a write of n bytes of a piece
abbrev pub sink_after_write : SinkState → List ℕ → ℕ → SinkState
sink_after_write sink piece n =
    record sink { plan = next_plan sink.plan; written = sink.written ++ take n piece }

-- the sink after a write that failed
abbrev pub sink_after_failed_write : SinkState → SinkState
sink_after_failed_write sink =
    record sink { plan = next_plan sink.plan; faults = raised_count sink.faults 1 }
