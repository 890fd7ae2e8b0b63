use Rattle.std.proofs.Common.{◌≡◌, ◌+◌, ◌≤◌, ◌++◌, length, vec_capacity}
use Rattle.std.specs.List.{AllByRecursion}
use Rattle.ce_model.specs.Renaming.{place_outward, renamed_targets}
use Rattle.rk_mail.specs.Targets.{targets_of}
use Rattle.ce_machine.specs.Desks.{IsInCube}
use Rattle.ce_machine.proofs.Letters.{IsPosted}
use Rattle.ce_machine.proofs.desks.post_all.Given as goal

-- what was posted, in front of what is left, is all
abbrev pub invariant-loop-to : goal.invariant-loop-to
invariant-loop-to l = record {
  posted : IsPosted l.grant.sub l.from l.initial.number l.initial.batch l.initial.desks.items l.initial.host l.number l.batch l.desks.items l.host;
  places : AllByRecursion (λ target. IsInCube l.grant.dim target.0) l.batch;
  numbers : l.number + length l.batch ≡ l.initial.number + length l.initial.batch;
  targets : l.targets.items ++ renamed_targets (place_outward l.grant.sub) (λ id. id) (targets_of l.batch)
      ≡ l.initial.targets.items ++ renamed_targets (place_outward l.grant.sub) (λ id. id) (targets_of l.initial.batch);
  room : length l.targets.items + length l.batch ≤ vec_capacity l.initial.targets;
  capacity : vec_capacity l.targets ≡ vec_capacity l.initial.targets;
}

abbrev pub decreases-loop-to : goal.decreases-loop-to
decreases-loop-to l = length l.batch
