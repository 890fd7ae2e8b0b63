-- The sections from an entry on: its own cube's, if it grants one, and the later ones.
use Rattle.std.proofs.Common.{◌≡◌, ℕ, ◌+◌, ◌-◌, ◌<◌, List, ◌∷◌, ◌++◌, Option, Some, None, option_map, refl, ap, sym, ◌∙◌, append_assoc, drop, get_or, length}
use Rattle.std.specs.List.{flat_map}
use Rattle.std.proofs.lemmas.List.{at_drop_more}
use Rattle.ce_daemon.specs.declared.grant.Grant.{Grant}
use Rattle.ce_model.specs.declared.entry.Entry.{Entry}
use Rattle.ce_model.specs.Renaming.{CubeGrant}
use Rattle.ce_model.specs.Views.{entry_grant, trace_behind}
use Rattle.ce_script.specs.declared.record.Record.{Record}
use Rattle.ce_script.specs.declared.script.Script.{Script}
use Rattle.ce_script.specs.EntryText.{entry_line}
use Rattle.ce_script.specs.Texts.{cube_line}
use Rattle.ce_trace.specs.Links.{last_entries}
use Rattle.ce_trace.specs.Sections.{section_text, section_and_later, sections_text}
use Rattle.ce_daemon.specs.Peeks.{cube_grant, numbered_grant}
use Rattle.ce_trace.proofs.Lasts.{IsNext, last_of-behind}

then_some : (script : Script) (run_record : Record) (number : ℕ) (found : Option CubeGrant) (behind : List Entry) (later : ℕ → List ℕ) (grant : Grant)
    → Some grant ≡ option_map (λ cube. numbered_grant (number, cube)) found → section_and_later script run_record number found behind later ≡ section_text script run_record grant behind ++ later (number + 1)
then_some script run_record number None behind later grant e = cc
then_some script run_record number (Some cube) behind later grant e =
    let same : grant ≡ numbered_grant (number, cube) = cc in
    ap (λ g. section_text script run_record g behind ++ later (number + 1)) (sym same)

then_none : (script : Script) (run_record : Record) (number : ℕ) (found : Option CubeGrant) (behind : List Entry) (later : ℕ → List ℕ)
    → None ≡ option_map (λ cube. numbered_grant (number, cube)) found → section_and_later script run_record number found behind later ≡ later number
then_none script run_record number None behind later e = refl
then_none script run_record number (Some cube) behind later e = cc

ahead : (script : Script) (run_record : Record) (number : ℕ) (history : List Entry) (at : ℕ) (entry : Entry) → at < length history → entry ≡ get_or history at entry
    → sections_text script run_record number (drop at history) ≡ sections_text script run_record number (entry ∷ drop (at + 1) history)
ahead script run_record number history at entry below is =
    at_drop_more (sections_text script run_record number) history at entry below ∙ ap (λ e. sections_text script run_record number (e ∷ drop (at + 1) history)) (sym is)

-- an entry that grants no cube
pub ahead-none : (script : Script) (run_record : Record) (number : ℕ) (history : List Entry) (at : ℕ) (entry : Entry) → at < length history → entry ≡ get_or history at entry
    → None ≡ option_map (λ cube. numbered_grant (number, cube)) (entry_grant entry)
    → sections_text script run_record number (drop at history) ≡ sections_text script run_record number (drop (at + 1) history)
ahead-none script run_record number history at entry below is none =
    ahead script run_record number history at entry below is
    ∙ then_none script run_record number (entry_grant entry) (drop (at + 1) history) (λ next. sections_text script run_record next (drop (at + 1) history)) none

-- an entry that grants one, whose user's next entry is so many from the end
pub ahead-some : (script : Script) (run_record : Record) (number : ℕ) (history : List Entry) (at : ℕ) (entry : Entry) (grant : Grant) (next : ℕ) (old head new whole : List ℕ)
    → at < length history → entry ≡ get_or history at entry → Some grant ≡ option_map (λ cube. numbered_grant (number, cube)) (entry_grant entry)
    → IsNext (cube_grant grant) history (length history - at - 1) next → old ++ sections_text script run_record number (drop at history) ≡ whole
    → head ≡ old ++ cube_line run_record grant.number (cube_grant grant) → new ≡ head ++ flat_map (entry_line script) (trace_behind (cube_grant grant) (last_entries next history))
    → new ++ sections_text script run_record (number + 1) (drop (at + 1) history) ≡ whole
ahead-some script run_record number history at entry grant next old head new whole below is some own so_far headed traced =
    let later = sections_text script run_record (number + 1) (drop (at + 1) history) in
    let trace = ap (λ behind. flat_map (entry_line script) behind) (own.trace) in
    let same : section_text script run_record grant (drop (at + 1) history) ≡ section_text script run_record grant (last_entries next history) =
    ap (λ behind. section_text script run_record grant behind) (sym (last_of-behind history at below))
    ∙ ap (λ lines. cube_line run_record grant.number (cube_grant grant) ++ lines) trace in
    let more : new ≡ old ++ section_text script run_record grant (last_entries next history) =
    traced ∙ ap (λ text. text ++ flat_map (entry_line script) (trace_behind (cube_grant grant) (last_entries next history))) headed
    ∙ append_assoc old (cube_line run_record grant.number (cube_grant grant)) (flat_map (entry_line script) (trace_behind (cube_grant grant) (last_entries next history))) in
    ap (λ text. text ++ later) more ∙ append_assoc old (section_text script run_record grant (last_entries next history)) later
    ∙ ap (λ section. old ++ (section ++ later)) (sym same)
    ∙ ap (λ text. old ++ text) (sym (ahead script run_record number history at entry below is ∙ then_some script run_record number (entry_grant entry) (drop (at + 1) history) (λ n. sections_text script run_record n (drop (at + 1) history)) grant some))
    ∙ so_far
