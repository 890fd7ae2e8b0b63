use Rattle.std.proofs.Common.{◌≡◌, ◌≤◌, ◌-◌, length, take}
use Rattle.std.specs.Io.KnownBytes.{append_known}
use Rattle.ce_io.proofs.whole.write_all.Given as goal

abbrev pub invariant-loop-written_count : goal.invariant-loop-written_count
invariant-loop-written_count g l =
    let written = g.K.Sink.written in
    let faults = g.K.Sink.faults in
    record {
      written : written l.sink ≡ append_known (written l.fn.sink) (take l.written_count l.bytes);
      faults : faults l.sink ≡ faults l.fn.sink;
      within : l.written_count ≤ length l.bytes;
    }

abbrev pub decreases-loop-written_count : goal.decreases-loop-written_count
decreases-loop-written_count g l = length l.bytes - l.written_count
