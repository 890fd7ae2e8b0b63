use Rattle.std.proofs.Common.{◌≡◌, take}
use Rattle.ce_model.specs.Renaming.{block_inward, place_inward, renamed_targets}
use Rattle.ce_trace.proofs.inward.targets_inward.Given as goal

abbrev pub invariant-loop-target : goal.invariant-loop-target
invariant-loop-target l =
    l.targets.items ≡ renamed_targets (place_inward l.sub) (block_inward l.sub) (take l.target-index l.to)
