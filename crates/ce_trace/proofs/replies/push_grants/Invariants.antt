use Rattle.std.proofs.Common.{◌≡◌, ◌++◌, take}
use Rattle.std.specs.List.{flat_map}
use Rattle.ce_script.specs.CommandText.{grant_text}
use Rattle.ce_trace.proofs.replies.push_grants.Given as goal

abbrev pub invariant-loop-grant : goal.invariant-loop-grant
invariant-loop-grant l =
    l.text.items ≡ l.fn.text.items ++ flat_map (grant_text l.run_record) (take l.grant-index l.grants)
