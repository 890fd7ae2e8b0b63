-- The faults: their statuses and their lines.
use Rattle.std.specs.Prelude.{ℕ, List, [], ◌∷◌, ◌++◌, codes, decimal}
use Rattle.ce_text.specs.Bytes.{line_feed}
use Rattle.rv_model.specs.NoMemoryText.{no_memory}
use Rattle.ce_script.specs.FaultTexts.{kind_text}
use Rattle.ce_run.specs.declared.run_end.RunFault.{RunFault}
use Rattle.ce_run.specs.declared.run_end.RunFault.TheVariants.{TooLong, Script, Usage, Read, Write, Memory}

-- the exit status of a fault
abbrev pub status_of : RunFault → ℕ
status_of TooLong = 1
status_of (Script fault) = 1
status_of Usage = 2
status_of Read = 3
status_of (Memory want) = 4
status_of Write = 5

-- what is written about a fault
abbrev pub line_of : RunFault → List ℕ
line_of TooLong = codes "ce: script too long" ++ line_feed ∷ []
line_of (Script fault) = codes "ce: line "
    ++ (decimal fault.line ++ (codes ": " ++ (kind_text fault.kind ++ line_feed ∷ [])))
line_of Usage = codes "ce: usage: ce [--serial] [--load N]" ++ line_feed ∷ []
line_of Read = codes "ce: read fault" ++ line_feed ∷ []
line_of Write = codes "ce: write fault" ++ line_feed ∷ []
line_of (Memory want) = codes "ce: " ++ (no_memory ++ line_feed ∷ [])
