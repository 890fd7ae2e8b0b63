use Rattle.ce_rows.specs.RowEntries.{HasMadeRowEntries}
use Rattle.ce_rows.specs.Rows.{row_of}
use Rattle.ce_rows.proofs.tests.running.run.Given as goal

-- the calls so far are made
abbrev pub invariant-loop-count : goal.invariant-loop-count
invariant-loop-count g l = HasMadeRowEntries (row_of l.row) l.count l.machine
