use Rattle.std.proofs.Common.{◌≡◌, ◌++◌, drop}
use Rattle.ce_model.specs.Views.{trace_behind}
use Rattle.ce_daemon.specs.Peeks.{cube_grant}
use Rattle.ce_trace.proofs.views.trace_behind.Given as goal

abbrev pub invariant-loop-entry : goal.invariant-loop-entry
invariant-loop-entry l =
    l.trace.items ++ trace_behind (cube_grant l.grant) (drop l.entry-index l.later_entries) ≡ trace_behind (cube_grant l.grant) l.later_entries
