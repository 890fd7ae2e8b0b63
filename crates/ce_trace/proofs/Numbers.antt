-- The sections of a report, by number and by the history behind each grant.
use Rattle.std.proofs.Common.{◌≡◌, ℕ, ◌+◌, ◌-◌, ◌==◌, List, [], ◌∷◌, ◌++◌, false, Option, Some, None, refl, ap, ◌∙◌, arith}
use Rattle.std.specs.List.{enumerate_from, flat_map}
use Rattle.std.specs.Option.{option_map_or}
use Rattle.std.proofs.lemmas.Bool.{ne_eqb}
use Rattle.ce_model.specs.declared.entry.Entry.{Entry}
use Rattle.ce_model.specs.Renaming.{CubeGrant}
use Rattle.ce_model.specs.Views.{history_behind_grant, entry_grant, grant_or_later, grants_of, trace_behind, view}
use Rattle.ce_script.specs.declared.record.Record.{Record}
use Rattle.ce_script.specs.declared.script.Script.{Script}
use Rattle.ce_script.specs.EntryText.{entry_line}
use Rattle.ce_script.specs.Texts.{cube_line, cube_text}
use Rattle.ce_trace.specs.Sections.{sections_text}

-- a section whose trace a function gives
abbrev text_by : Script → Record → (ℕ → List Entry) → ℕ × CubeGrant → List ℕ
text_by script run_record trace numbered = cube_line run_record numbered.0 numbered.1 ++ flat_map (entry_line script) (trace numbered.0)

-- the trace that stands in a history, or none
abbrev found_trace : Option (CubeGrant × List Entry) → List Entry
found_trace found = option_map_or (λ pair. trace_behind pair.0 pair.1) found []

-- the grant of an entry is number 0 behind it, and the later ones are counted on
grant-here : (grant : Option CubeGrant) (behind : List Entry) (later : ℕ → Option (CubeGrant × List Entry)) (cube : CubeGrant) → grant ≡ Some cube
    → grant_or_later grant behind 0 later ≡ Some (cube, behind)
grant-here grant behind later cube e = rw e refl

grant-later : (grant : Option CubeGrant) (behind : List Entry) (later : ℕ → Option (CubeGrant × List Entry)) (cube : CubeGrant) (k : ℕ) → grant ≡ Some cube
    → grant_or_later grant behind (k + 1) later ≡ later k
grant-later grant behind later cube k e =
    let same : k + 1 - 1 ≡ k = omega arith in
    let above : (k + 1 == 0) ≡ false = ne_eqb (k + 1) 0 (λ z. absurd (omega (arith, z))) in
    rw e (rw (above, same) refl)

-- the sections behind a place of the history, where the traces by number are those that stand there
record AreTraces (trace : ℕ → List Entry) (number : ℕ) (history : List Entry) : Type 0 where
  pub at : (k : ℕ) → trace (number + k) ≡ found_trace (history_behind_grant history k)

traces-pass : (trace : ℕ → List Entry) (number : ℕ) (entry : Entry) (behind : List Entry) → entry_grant entry ≡ None
    → AreTraces trace number (entry ∷ behind) → AreTraces trace number behind
traces-pass trace number entry behind e h = record { at = λ k. h.at k ∙ rw e refl }

traces-later : (trace : ℕ → List Entry) (number : ℕ) (entry : Entry) (behind : List Entry) (cube : CubeGrant) → entry_grant entry ≡ Some cube
    → AreTraces trace number (entry ∷ behind) → AreTraces trace (number + 1) behind
traces-later trace number entry behind cube e h = record {
  at = λ k. let same : number + 1 + k ≡ number + (k + 1) = omega arith in
      ap trace same ∙ h.at (k + 1) ∙ ap found_trace (grant-later (entry_grant entry) behind (history_behind_grant behind) cube k e);
}

traces-here : (trace : ℕ → List Entry) (number : ℕ) (entry : Entry) (behind : List Entry) (cube : CubeGrant) → entry_grant entry ≡ Some cube
    → AreTraces trace number (entry ∷ behind) → trace number ≡ trace_behind cube behind
traces-here trace number entry behind cube e h =
    let same : number ≡ number + 0 = omega arith in
    ap trace same ∙ h.at 0 ∙ ap found_trace (grant-here (entry_grant entry) behind (history_behind_grant behind) cube e)

-- one entry more in front
by_grant : (script : Script) (run_record : Record) (trace : ℕ → List Entry) (entry : Entry) (behind : List Entry) (number : ℕ) (grant : Option CubeGrant)
    → entry_grant entry ≡ grant
    → ((next : ℕ) → AreTraces trace next behind → flat_map (text_by script run_record trace) (enumerate_from next (grants_of behind)) ≡ sections_text script run_record next behind)
    → AreTraces trace number (entry ∷ behind)
    → flat_map (text_by script run_record trace) (enumerate_from number (grants_of (entry ∷ behind))) ≡ sections_text script run_record number (entry ∷ behind)
by_grant script run_record trace entry behind number None e later h = rw e (later number (traces-pass trace number entry behind e h))
by_grant script run_record trace entry behind number (Some cube) e later h =
    let texts = flat_map (text_by script run_record trace) (enumerate_from (number + 1) (grants_of behind)) in
    rw e
    (ap (λ t. (cube_line run_record number cube ++ flat_map (entry_line script) t) ++ texts) (traces-here trace number entry behind cube e h)
    ∙ ap (λ more. (cube_line run_record number cube ++ flat_map (entry_line script) (trace_behind cube behind)) ++ more) (later (number + 1) (traces-later trace number entry behind cube e h)))

by_number : (script : Script) (run_record : Record) (trace : ℕ → List Entry) (history : List Entry) (number : ℕ) → AreTraces trace number history
    → flat_map (text_by script run_record trace) (enumerate_from number (grants_of history)) ≡ sections_text script run_record number history
by_number script run_record trace [] number h = refl
by_number script run_record trace (entry ∷ behind) number h =
    by_grant script run_record trace entry behind number (entry_grant entry) refl (by_number script run_record trace behind) h

-- the sections of a report are those that follow from the history behind each grant
pub report_sections : (script : Script) (run_record : Record)
    → flat_map (cube_text script run_record) (enumerate_from 0 (grants_of run_record.history)) ≡ sections_text script run_record 0 run_record.history
unfolding view
report_sections script run_record =
    by_number script run_record (view run_record.history) run_record.history 0 (record { at = λ k. let same : 0 + k ≡ k = omega arith in ap (view run_record.history) same })
