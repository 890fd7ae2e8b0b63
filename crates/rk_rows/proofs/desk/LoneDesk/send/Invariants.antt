use Rattle.std.proofs.Common.{length}
use Rattle.rk_rows.specs.Lone.{batch_ids}
use Rattle.rk_rows.proofs.Counts.{AreSent}
use Rattle.rk_rows.proofs.desk.LoneDesk.send.Given as goal

abbrev pub invariant-loop-to : goal.invariant-loop-to
invariant-loop-to l = AreSent (batch_ids l.fn.batch) (batch_ids l.batch) l.fn.self.mailbox.items l.self.mailbox.items

abbrev pub decreases-loop-to : goal.decreases-loop-to
decreases-loop-to l = length l.batch
