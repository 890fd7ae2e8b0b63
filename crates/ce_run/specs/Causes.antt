-- Why a run ended as it did.
use Rattle.std.specs.Prelude.{◌≡◌, ℕ, List, Option, Some, None, true, take}
use Rattle.std.specs.Io.KnownBytes.{append_known}
use Rattle.ce_words.specs.Line.{IsCommandLine, line_of_words}
use Rattle.ce_run.specs.declared.run_end.RunFault.{RunFault}
use Rattle.ce_run.specs.declared.run_end.RunFault.TheVariants.{Usage, Write, Memory}
use Rattle.ce_run.specs.Fault.{status_of}

-- the words are a line that the program takes, and it asks for a run on one thread
pub record IsServed (words : List (List ℕ)) : Type 0 where
  pub accepted : IsCommandLine words
  pub serial : (line_of_words words).is_serial ≡ true

-- the exit status
abbrev pub status_of_end : Option RunFault → ℕ
status_of_end None = 0
status_of_end (Some fault) = status_of fault

-- the script was run to its end: there is no fault, or only the writing failed
abbrev pub HasRunToEnd : Option RunFault → Type 0
HasRunToEnd None = Unit {0}
HasRunToEnd (Some Write) = Unit {0}
HasRunToEnd (Some other) = ⊥

abbrev pub IsRunNoMemory : Option RunFault → Type 0
IsRunNoMemory (Some (Memory want)) = Unit {0}
IsRunNoMemory other = ⊥

-- a fault that ends the reading of a script
abbrev pub IsReadingFault : RunFault → Type 0
IsReadingFault Usage = ⊥
IsReadingFault Write = ⊥
IsReadingFault other = Unit {0}

-- what was written at the end: the whole text, or, where the sink failed, a front part of it
abbrev pub HasReported : Option RunFault → List ℕ → Option (List ℕ) → Option (List ℕ) → Type 0
HasReported None text old_bytes new_bytes = new_bytes ≡ append_known old_bytes text
HasReported (Some Write) text old_bytes new_bytes =
    (n : ℕ) × (new_bytes ≡ append_known old_bytes (take n text))
HasReported (Some other) text old_bytes new_bytes = ⊥
