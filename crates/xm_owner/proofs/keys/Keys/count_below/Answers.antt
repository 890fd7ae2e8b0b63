use Rattle.std.proofs.Common.{◌≡◌, nat_lt, true, false, rules}
use Rattle.std.specs.List.Sorted.{IsPartitionPoint}
use Rattle.std.proofs.lemmas.List.Sorted.{IsPartitionPoint-from_clause}
use Rattle.xm_owner.proofs.KeyOrder.{partitioned-below, point-of}
use Rattle.xm_owner.proofs.keys.Keys.count_below.Goals as goal

module _ (c : goal.After-partition_point) where
  point : IsPartitionPoint (λ other. nat_lt other.pid c.args.limit ≡ true) (λ other. nat_lt other.pid c.args.limit ≡ false) c.args.self.now.list.items c.partition_point.result
  point = point-of (λ other. nat_lt other.pid c.args.limit) _ _ _ c.deref.ensures.value (partitioned-below c.args.limit _ c.args.self.now.rising)
      (λ parted. IsPartitionPoint-from_clause (λ other. nat_lt other.pid c.args.limit) _ _ c.partition_point.ensures.partitioned parted (λ a r q k. search rules))

pub returns-clause-passed : goal.returns-clause-passed
returns-clause-passed c = (point c).0

pub returns-clause-ahead : goal.returns-clause-ahead
returns-clause-ahead c = (point c).1
