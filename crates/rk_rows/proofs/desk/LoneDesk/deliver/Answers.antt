use Rattle.std.proofs.Common.{arith}
use Rattle.ce_model.specs.Limits.{process_count_lem}
use Rattle.rk_rows.proofs.desk.LoneDesk.deliver.Goals as goal

pub queue-requires : goal.queue-requires
queue-requires c = omega (arith, process_count_lem, c.if-to-ge-PROCESS_COUNT.false)
