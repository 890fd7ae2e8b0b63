use Rattle.std.proofs.Common.{not, rules}
use Rattle.std.proofs.lemmas.List.Sorted.{IsPartitionPoint-from_clause}
use Rattle.ce_model.specs.Blocks.{is_lower}
use Rattle.xm_block.proofs.Names.{partitioned, not-true, not-false}
use Rattle.xm_block.proofs.order.place_of.Goals as goal

pub returns-clause-passed : goal.returns-clause-passed
returns-clause-passed c =
    let point = IsPartitionPoint-from_clause (λ other. not (is_lower c.args.block.now.id other.id)) _ _ c.partition_point.ensures.partitioned (partitioned c.args.block.now.id _ c.requires) (λ a r q k. search rules) in
    λ k d low high. not-true _ (point.0 k d low high)

pub returns-clause-ahead : goal.returns-clause-ahead
returns-clause-ahead c =
    let point = IsPartitionPoint-from_clause (λ other. not (is_lower c.args.block.now.id other.id)) _ _ c.partition_point.ensures.partitioned (partitioned c.args.block.now.id _ c.requires) (λ a r q k. search rules) in
    λ k d low high. not-false _ (point.1 k d low high)
