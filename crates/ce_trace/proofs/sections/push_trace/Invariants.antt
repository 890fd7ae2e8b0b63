use Rattle.std.proofs.Common.{◌≡◌, ◌++◌}
use Rattle.std.specs.List.{flat_map}
use Rattle.ce_model.specs.Views.{trace_behind}
use Rattle.ce_script.specs.EntryText.{entry_line}
use Rattle.ce_trace.specs.Links.{last_entries, IsOwnLink}
use Rattle.ce_daemon.specs.Peeks.{cube_grant}
use Rattle.ce_trace.proofs.sections.push_trace.Given as goal

abbrev pub invariant-loop-count_left : goal.invariant-loop-count_left
invariant-loop-count_left l = record {
  own : IsOwnLink l.history l.grant.user l.count_left;
  lines : l.text.items ++ flat_map (entry_line l.script) (trace_behind (cube_grant l.grant) (last_entries l.count_left l.history)) ≡ l.fn.text.items ++ flat_map (entry_line l.script) (trace_behind (cube_grant l.grant) (last_entries l.next l.history));
}

abbrev pub decreases-loop-count_left : goal.decreases-loop-count_left
decreases-loop-count_left l = l.count_left
