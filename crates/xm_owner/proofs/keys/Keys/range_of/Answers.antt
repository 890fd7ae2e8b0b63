use Rattle.std.proofs.Common.{◌≤◌}
use Rattle.xm_owner.proofs.Drained.{in_order, rising-left, drained}
use Rattle.xm_owner.proofs.keys.Keys.range_of.Goals as goal

module _ (c : goal.After-count_below-last) where
  order : c.count_below-first.result ≤ c.count_below-last.result
  order =
      let first = c.count_below-first.ensures in
      let last = c.count_below-last.ensures in
      in_order c.args.pid c.args.self.now.list.items _ _ first.within last.within first.passed first.ahead last.passed last.ahead

pub returns-clause-order : goal.returns-clause-order
returns-clause-order c = order c

pub returns-clause-rising : goal.returns-clause-rising
returns-clause-rising c =
    let first = c.count_below-first.ensures in
    let last = c.count_below-last.ensures in
    rising-left c.args.pid c.args.self.now.list.items _ _ first.within last.within first.passed first.ahead last.passed last.ahead (order c) c.args.self.now.rising

pub returns-clause-drained : goal.returns-clause-drained
returns-clause-drained c blocks paired =
    let first = c.count_below-first.ensures in
    let last = c.count_below-last.ensures in
    drained c.args.pid c.args.self.now.list.items _ _ first.within last.within first.passed first.ahead last.passed last.ahead (order c) blocks paired
