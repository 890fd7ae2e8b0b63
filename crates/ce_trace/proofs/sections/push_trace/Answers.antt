use Rattle.std.proofs.Common.{◌≡◌, ◌∷◌, ◌++◌, ◌-◌, ap, sym, ◌∙◌, arith, length}
use Rattle.std.specs.List.{flat_map}
use Rattle.std.proofs.lemmas.List.{append-nil}
use Rattle.ce_model.specs.Renaming.{entry_inward}
use Rattle.ce_model.specs.Views.{trace_behind}
use Rattle.ce_script.specs.EntryText.{entry_line}
use Rattle.ce_trace.specs.Links.{last_entries}
use Rattle.ce_daemon.specs.Peeks.{cube_grant}
use Rattle.ce_trace.proofs.Lasts.{length-links_of, turn_at}
use Rattle.ce_trace.proofs.Traces.{trace-call, trace-drain, trace-pass, gathered-line}
use Rattle.ce_trace.proofs.sections.push_trace.Goals as goal
use Rattle.ce_trace.proofs.sections.push_trace.Goals.{then-is_call+in_ok-push_entry, else-is_call}

pub bounds-links-count_left : goal.bounds-links-count_left
bounds-links-count_left c = omega (arith, ap length c.requires.linked, length-links_of c.args.history.now, c.loop-count_left.invariant.own.within)

pub loop-count_left-smaller : goal.loop-count_left-smaller
loop-count_left-smaller c =
    let t = turn_at (cube_grant c.args.grant.now) c.args.history.now c.args.links.now c.loop-count_left.count_left c.index-history-history.result c.requires.linked c.loop-count_left.invariant.own (omega arith) c.index-history-history.is in
    omega (arith, t.on.fewer)

pub loop-count_left-preserved : goal.loop-count_left-preserved
loop-count_left-preserved c =
    let cube = cube_grant c.args.grant.now in
    let history = c.args.history.now in
    let left = c.loop-count_left.count_left in
    let entry = c.index-history-history.result in
    let rest = last_entries (left - 1) history in
    let t = turn_at cube history c.args.links.now left entry c.requires.linked c.loop-count_left.invariant.own (omega arith) c.index-history-history.is in
    record {
      own = t.on.own;
      lines = elim c.if-is_call.branch [
        | then-is_call+in_ok-push_entry w ↦
            let turn = ap (trace_behind cube) t.begins ∙ trace-call cube entry rest t.user (sym c.is_call.ensures ∙ w.if-is_call.true) ∙ ap (λ trace. entry_inward cube.sub entry ∷ trace) t.on.trace in
            let more : c.if-is_call.text.items ≡ c.loop-count_left.text.items ++ entry_line c.args.script.now (entry_inward cube.sub entry) =
            rw w.text-is w.in_ok-push_entry.ensures in
            gathered-line _ _ _ _ _ _ _ c.loop-count_left.invariant.lines turn more
        | else-is_call w ↦
            let turn = ap (trace_behind cube) t.begins ∙ trace-pass cube entry rest t.user (sym c.is_drain.ensures ∙ c.if-is_drain.false) (sym c.is_call.ensures ∙ w.if-is_call.false) ∙ t.on.trace in
            rw w.text-is (ap (λ trace. c.loop-count_left.text.items ++ flat_map (entry_line c.args.script.now) trace) (sym turn) ∙ c.loop-count_left.invariant.lines)
      ];
    }

pub returns-then-is_drain : goal.returns-then-is_drain
returns-then-is_drain c =
    let cube = cube_grant c.args.grant.now in
    let history = c.args.history.now in
    let left = c.loop-count_left.count_left in
    let entry = c.index-history-history.result in
    let t = turn_at cube history c.args.links.now left entry c.requires.linked c.loop-count_left.invariant.own (omega arith) c.index-history-history.is in
    let ended = ap (trace_behind cube) t.begins ∙ trace-drain cube entry (last_entries (left - 1) history) t.user (sym c.is_drain.ensures ∙ c.if-is_drain.true) in
    sym (append-nil c.loop-count_left.text.items) ∙ ap (λ trace. c.loop-count_left.text.items ++ flat_map (entry_line c.args.script.now) trace) (sym ended)
    ∙ c.loop-count_left.invariant.lines
