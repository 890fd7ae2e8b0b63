use Rattle.std.proofs.Common.{sym, ◌∙◌, arith}
use Rattle.ce_model.specs.Limits.{process_count_lem}
use Rattle.ce_solo.proofs.Hears.{unborn-is, born-is}
use Rattle.rk_rows.proofs.desk.hearing_of_item.Goals as goal

pub status-requires : goal.status-requires
status-requires c = record { pid = omega (arith, process_count_lem, c.if-pid-lt-PROCESS_COUNT.true) }

pub status-requires-then-pid-lt-PROCESS_COUNT-2 : goal.status-requires-then-pid-lt-PROCESS_COUNT-2
status-requires-then-pid-lt-PROCESS_COUNT-2 c = record { pid = omega (arith, process_count_lem, c.if-pid-lt-PROCESS_COUNT-2.true) }

pub returns-then-is_unborn-clause-work : goal.returns-then-is_unborn-clause-work
returns-then-is_unborn-clause-work c = (
  omega (arith, process_count_lem, c.if-pid-lt-PROCESS_COUNT.true),
  sym c.status.ensures ∙ unborn-is c.status.result (sym c.is_unborn.ensures ∙ c.if-is_unborn.true),
  c.if-image-images.true,
)

pub returns-then-not-is_unborn-clause-work : goal.returns-then-not-is_unborn-clause-work
returns-then-not-is_unborn-clause-work c = (
  omega (arith, process_count_lem, c.if-pid-lt-PROCESS_COUNT-2.true),
  λ e. born-is c.status-then-pid-lt-PROCESS_COUNT-2.result
      (sym c.is_unborn-then-pid-lt-PROCESS_COUNT-2.ensures ∙ c.if-not-is_unborn.true) (c.status-then-pid-lt-PROCESS_COUNT-2.ensures ∙ e),
)
