use Rattle.std.proofs.Common.{◌≡◌, ◌++◌, take}
use Rattle.std.specs.List.{flat_map}
use Rattle.ce_script.specs.Texts.{user_text}
use Rattle.ce_trace.proofs.report.push_users.Given as goal

abbrev pub invariant-loop-user : goal.invariant-loop-user
invariant-loop-user l =
    l.text.items ≡ l.fn.text.items ++ flat_map (user_text l.script l.run_record) (take l.user-index l.user-items)
