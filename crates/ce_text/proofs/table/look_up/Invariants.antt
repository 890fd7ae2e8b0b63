use Rattle.std.proofs.Common.{◌≡◌}
use Rattle.ce_text.specs.Table.{table_value}
use Rattle.ce_text.proofs.Tables.{rows_from}
use Rattle.ce_text.proofs.table.look_up.Given as goal

abbrev pub invariant-loop-word : goal.invariant-loop-word
invariant-loop-word g l = table_value (rows_from l.table l.word-index) l.text ≡ table_value (rows_from l.table 0) l.text
