use Rattle.std.proofs.Common.{◌++◌, ap, sym, ◌∙◌, arith, length}
use Rattle.ce_daemon.specs.Peeks.{cube_grant}
use Rattle.ce_trace.proofs.Ahead.{ahead-none, ahead-some}
use Rattle.ce_trace.proofs.Lasts.{behind_linked, length-links_of}
use Rattle.ce_trace.proofs.sections.push_sections.Goals as goal
use Rattle.ce_trace.proofs.sections.push_sections.Goals.{in-Some+in_ok-push_head+in_ok-push_trace, in_default}

pub bounds-links-history : goal.bounds-links-history
bounds-links-history c = omega (arith, ap length c.requires, length-links_of c.args.history.now)

pub push_trace-requires-clause-own : goal.push_trace-requires-clause-own
push_trace-requires-clause-own c =
    (behind_linked (cube_grant c.in-Some.grant) c.args.history.now c.args.links.now c.loop-index.index c.index-history-index.result c.requires (omega arith) c.index-history-index.is (sym c.in-Some.ensures.user)).own

pub loop-index-preserved : goal.loop-index-preserved
loop-index-preserved c =
    let script = c.args.script.now in
    let run_record = c.args.run_record.now in
    let history = c.args.history.now in
    let number = c.loop-index.number in
    let at = c.loop-index.index in
    let entry = c.index-history-index.result in
    elim c.match-entry_grant_numbered.branch [
      | in-Some+in_ok-push_head+in_ok-push_trace w ↦
          let own = behind_linked (cube_grant w.in-Some.grant) history c.args.links.now at entry c.requires (omega arith) c.index-history-index.is (sym w.in-Some.ensures.user) in
          record {
            counted = omega arith;
            sections = rw (w.text-is, w.number-is) (ahead-some script run_record number history at entry w.in-Some.grant _ _ _ _ _ (omega arith) c.index-history-index.is w.in-Some.ensures.cube own c.loop-index.invariant.sections w.in_ok-push_head.ensures w.in_ok-push_trace.ensures);
          }
      | in_default w ↦
          record {
            counted = omega arith;
            sections = rw (w.text-is, w.number-is) (ap (λ later. c.loop-index.text.items ++ later) (sym (ahead-none script run_record number history at entry (omega arith) c.index-history-index.is (sym w.in_default.is ∙ c.entry_grant_numbered.ensures.cube))) ∙ c.loop-index.invariant.sections);
          }
    ]
