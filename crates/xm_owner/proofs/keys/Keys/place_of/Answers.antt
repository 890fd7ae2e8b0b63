use Rattle.std.proofs.Common.{◌≡◌, true, false, rules}
use Rattle.std.specs.List.Sorted.{IsPartitionPoint}
use Rattle.std.proofs.lemmas.List.Sorted.{IsPartitionPoint-from_clause}
use Rattle.xm_owner.specs.Tables.{is_key_before}
use Rattle.xm_owner.proofs.KeyOrder.{partitioned, point-of}
use Rattle.xm_owner.proofs.keys.Keys.place_of.Goals as goal

module _ (c : goal.After-partition_point) where
  point : IsPartitionPoint (λ other. is_key_before other c.args.key ≡ true) (λ other. is_key_before other c.args.key ≡ false) c.args.self.now.list.items c.partition_point.result
  point = point-of (λ other. is_key_before other c.args.key) _ _ _ c.deref.ensures.value (partitioned c.args.key _ c.args.self.now.rising)
      (λ parted. IsPartitionPoint-from_clause (λ other. is_key_before other c.args.key) _ _ c.partition_point.ensures.partitioned parted (λ a r q k. search rules))

pub returns-clause-passed : goal.returns-clause-passed
returns-clause-passed c = (point c).0

pub returns-clause-ahead : goal.returns-clause-ahead
returns-clause-ahead c = (point c).1
