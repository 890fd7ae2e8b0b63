use Rattle.rk_mail.specs.Items.{item_of}
use Rattle.rk_rows.proofs.Counts.{posted}
use Rattle.rk_rows.proofs.desk.LoneDesk.queue.Goals as goal

pub returns : goal.returns
returns c = posted c.args.self.now.mailbox.items c.post.new.self.items (item_of c.args.item) c.post.ensures.items
