-- The script that a text is.
use Rattle.std.specs.Prelude.{◌≡◌, ℕ, List, Some, None}
use Rattle.ce_script.specs.declared.script.Script.{Script}
use Rattle.ce_script.specs.declared.script.ScriptFault.{ScriptFault}
use Rattle.ce_script.specs.declared.script.ScriptKind.{ScriptKind}
use Rattle.ce_script.specs.declared.script.ScriptKind.TheVariants.{Memory}
use Rattle.ce_script.specs.Statements.{statements}
use Rattle.ce_script.specs.Sayings.{dimension, images, users, commands}
use Rattle.ce_script.specs.Faults.{first_script_fault}

-- A text is this script: it has no fault, and its statements say this.
pub record IsScript (text : List ℕ) (script : Script) : Type 0 where
  pub no_fault : first_script_fault text ≡ None
  pub dim : script.dim ≡ dimension (statements text)
  pub images : script.images ≡ images (statements text)
  pub users : script.users ≡ users (statements text)
  pub commands : script.commands ≡ commands (statements text)

-- memory ran out
abbrev pub IsNoMemory : ScriptKind → Type 0
IsNoMemory (Memory want) = Unit {0}
IsNoMemory other = ⊥

-- A text has a first fault.
abbrev pub HasFault : List ℕ → Type 0
HasFault text = (fault : ScriptFault) × (first_script_fault text ≡ Some fault)

-- A text is exactly one script.
abbrev pub IsOneScript : List ℕ → Type 0
IsOneScript text =
    (script : Script) × IsScript text script
    × ((other : Script) → IsScript text other → other ≡ script)
