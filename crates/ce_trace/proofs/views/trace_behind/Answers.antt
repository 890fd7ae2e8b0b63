use Rattle.std.proofs.Common.{◌≡◌, [], ◌∷◌, ◌++◌, refl, sym, ◌∙◌, arith}
use Rattle.ce_model.specs.Renaming.{entry_inward}
use Rattle.ce_daemon.specs.Peeks.{cube_grant}
use Rattle.ce_trace.proofs.Traces.{at_call, at_pass, at_other, gathered-call}
use Rattle.ce_trace.proofs.views.trace_behind.Goals as goal
use Rattle.ce_trace.proofs.views.trace_behind.Goals.{then-entry-grant+else-is_drain+then-is_call+in_ok-entry_inward+in_ok-push, then-entry-grant+else-is_drain+else-is_call, else-entry-grant}

pub loop-entry-preserved : goal.loop-entry-preserved
loop-entry-preserved c =
    let cube = cube_grant c.args.grant.now in
    let behind = c.args.later_entries.now in
    let i = c.loop-entry.entry-index in
    let entry = c.entry-item.result in
    elim c.if-entry-grant.branch [
      | then-entry-grant+else-is_drain+then-is_call+in_ok-entry_inward+in_ok-push w ↦
          let turn = at_call cube behind i entry (omega arith) c.entry-item.is w.if-entry-grant.true (sym w.is_call.ensures ∙ w.if-is_call.true) in
          let more : c.if-entry-grant.trace.items ≡ c.loop-entry.trace.items ++ entry_inward cube.sub entry ∷ [] =
          rw (w.trace-is, w.in_ok-push.ensures.items, w.in_ok-entry_inward.ensures) refl in
          gathered-call _ _ _ _ _ _ c.loop-entry.invariant turn more
      | then-entry-grant+else-is_drain+else-is_call w ↦
          let turn = at_pass cube behind i entry (omega arith) c.entry-item.is w.if-entry-grant.true (sym w.is_drain.ensures ∙ w.if-is_drain.false) (sym w.is_call.ensures ∙ w.if-is_call.false) in
          cc
      | else-entry-grant w ↦ let turn = at_other cube behind i entry (omega arith) c.entry-item.is w.if-entry-grant.false in cc
    ]
