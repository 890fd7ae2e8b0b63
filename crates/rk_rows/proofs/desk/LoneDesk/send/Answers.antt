use Rattle.std.proofs.Common.{ap}
use Rattle.rk_rows.specs.Lone.{batch_ids}
use Rattle.rk_rows.proofs.Counts.{more-sent}
use Rattle.rk_rows.proofs.desk.LoneDesk.send.Goals as goal

pub loop-to-preserved : goal.loop-to-preserved
loop-to-preserved c =
    more-sent (batch_ids c.args.batch) (batch_ids c.loop-to.batch) (batch_ids c.take_first.new.self) c.in-Some.block.id
    c.args.self.now.mailbox.items c.loop-to.self.mailbox.items c.deliver.new.self.mailbox.items
    c.loop-to.invariant (ap batch_ids c.in-Some.ensures.taken) c.in_ok-deliver.ensures
