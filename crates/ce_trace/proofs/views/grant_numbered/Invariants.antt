use Rattle.std.proofs.Common.{◌≡◌, ◌-◌, drop, ◌≤◌}
use Rattle.ce_model.specs.Views.{history_behind_grant}
use Rattle.ce_trace.proofs.views.grant_numbered.Given as goal

abbrev pub invariant-loop-index : goal.invariant-loop-index
invariant-loop-index l = record {
  counted : l.grant_count ≤ l.index;
  below : l.grant_count ≤ l.number;
  found : history_behind_grant (drop l.index l.history) (l.number - l.grant_count) ≡ history_behind_grant l.history l.number;
}
