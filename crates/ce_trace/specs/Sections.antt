-- Grants with their numbers, and the sections of a report as they follow from the history behind
-- each grant.
use Rattle.std.specs.Prelude.{ℕ, ◌+◌, List, [], ◌∷◌, ◌++◌, flat_map, Option, None, Some}
use Rattle.ce_daemon.specs.declared.grant.Grant.{Grant}
use Rattle.ce_daemon.specs.Peeks.{cube_grant, numbered_grant}
use Rattle.ce_model.specs.declared.entry.Entry.{Entry}
use Rattle.ce_model.specs.Renaming.{CubeGrant}
use Rattle.ce_model.specs.Views.{entry_grant, trace_behind}
use Rattle.ce_script.specs.declared.record.Record.{Record}
use Rattle.ce_script.specs.declared.script.Script.{Script}
use Rattle.ce_script.specs.EntryText.{entry_line}
use Rattle.ce_script.specs.Texts.{cube_line}

-- the section of a cube, by the history behind its grant
abbrev pub section_text : Script → Record → Grant → List Entry → List ℕ
section_text script run_record grant later_entries =
    cube_line run_record grant.number (cube_grant grant)
    ++ flat_map (entry_line script) (trace_behind (cube_grant grant) later_entries)

-- the section of the cube that an entry grants, before what the later sections are by the next
-- number
abbrev pub section_and_later : Script → Record → ℕ → Option CubeGrant → List Entry → (ℕ → List ℕ)
    → List ℕ
section_and_later script run_record number None later_entries later = later number
section_and_later script run_record number (Some cube) later_entries later =
    section_text script run_record (numbered_grant (number, cube)) later_entries
    ++ later (number + 1)

-- the sections of the cubes that a part of the history grants, numbered from here on
abbrev pub sections_text : Script → Record → ℕ → List Entry → List ℕ
sections_text script run_record number [] = []
sections_text script run_record number (entry ∷ later_entries) =
    section_and_later script run_record number (entry_grant entry) later_entries
    (λ next. sections_text script run_record next later_entries)
