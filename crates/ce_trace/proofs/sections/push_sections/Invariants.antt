use Rattle.std.proofs.Common.{◌≡◌, ◌++◌, drop, ◌≤◌}
use Rattle.ce_trace.specs.Sections.{sections_text}
use Rattle.ce_trace.proofs.sections.push_sections.Given as goal

abbrev pub invariant-loop-index : goal.invariant-loop-index
invariant-loop-index l = record {
  counted : l.number ≤ l.index;
  sections : l.text.items ++ sections_text l.script l.run_record l.number (drop l.index l.history) ≡ l.fn.text.items ++ sections_text l.script l.run_record 0 l.history;
}
