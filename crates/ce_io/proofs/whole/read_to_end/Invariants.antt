use Rattle.std.proofs.Common.{◌≡◌, ◌≤◌, ◌-◌, length, vec_len}
use Rattle.ce_io.specs.Whole.{HasGiven, reading}
use Rattle.ce_io.proofs.whole.read_to_end.Given as goal

abbrev pub invariant-loop-text : goal.invariant-loop-text
invariant-loop-text g l =
    let source = g.S.Source in
    record {
      gave : HasGiven (reading source.left source.given source.faults l.fn.source l.source) l.text.items;
      faults : source.faults l.source ≡ source.faults l.fn.source;
      within : vec_len l.text ≤ l.limit;
      piece : length l.piece ≡ 4096;
    }

abbrev pub decreases-loop-text : goal.decreases-loop-text
decreases-loop-text g l = l.limit - vec_len l.text
