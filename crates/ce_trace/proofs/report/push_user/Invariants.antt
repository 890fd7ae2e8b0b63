use Rattle.std.proofs.Common.{◌≡◌, ◌++◌, take}
use Rattle.std.specs.List.{flat_map}
use Rattle.ce_script.specs.Texts.{doing_text}
use Rattle.ce_trace.proofs.report.push_user.Given as goal

abbrev pub invariant-loop-doing : goal.invariant-loop-doing
invariant-loop-doing l =
    l.text.items ≡ l.initial.text.items ++ flat_map (doing_text l.script l.run_record) (take l.doing-index l.doing-items)
