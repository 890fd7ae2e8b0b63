use Rattle.std.proofs.Common.{arith}
use Rattle.ce_model.specs.Renaming.{block_inward, place_inward}
use Rattle.ce_trace.proofs.Joined.{targets_written}
use Rattle.ce_trace.proofs.entries.push_targets.Goals as goal

pub returns : goal.returns
returns c =
    targets_written (place_inward c.args.sub) (block_inward c.args.sub) _ _ _ _ _ _ _ _ c.in-Some.ensures.cases.0 c.in_ok-push.ensures c.in_ok-push_target.ensures c.loop-target.invariant (omega arith)
