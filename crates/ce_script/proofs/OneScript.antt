-- Every text has a first fault or is exactly one script.
use Rattle.std.proofs.Common.{◌≡◌, ◌⊎◌, inl, inr, ℕ, List, Option, Some, None, refl, ap, ◌∙◌}
use Rattle.ce_host.specs.declared.command.Command.{Command}
use Rattle.ce_script.specs.declared.script.NamedImage.{NamedImage}
use Rattle.ce_script.specs.declared.script.Script.{Script}
use Rattle.ce_script.specs.declared.script.ScriptFault.{ScriptFault}
use Rattle.ce_script.specs.Statements.{statements}
use Rattle.ce_script.specs.Sayings.{dimension, images, users, commands}
use Rattle.ce_script.specs.Faults.{first_script_fault}
use Rattle.ce_script.specs.Scripts.{IsScript, HasFault, IsOneScript}

abbrev script : Option ℕ → List NamedImage → List (List ℕ) → List (ℕ × Command) → Script
script dim images users commands = record { dim = dim; images = images; users = users; commands = commands }

-- the script that the statements of a text say
abbrev script_of : List ℕ → Script
script_of text = script (dimension (statements text)) (images (statements text)) (users (statements text)) (commands (statements text))

only_said : (text : List ℕ) (other : Script) → IsScript text other → other ≡ script_of text
only_said text other is =
    ap (λ dim. script dim other.images other.users other.commands) is.dim
    ∙ ap (λ images. script (dimension (statements text)) images other.users other.commands) is.images
    ∙ ap (λ users. script (dimension (statements text)) (images (statements text)) users other.commands) is.users
    ∙ ap (λ commands. script (dimension (statements text)) (images (statements text)) (users (statements text)) commands) is.commands

decided_by : (text : List ℕ) (fault : Option ScriptFault) → first_script_fault text ≡ fault → HasFault text ⊎ IsOneScript text
decided_by text (Some fault) has = inl (fault, has)
decided_by text None none =
    inr (script_of text, record { no_fault = none; dim = refl; images = refl; users = refl; commands = refl }, only_said text)

pub decided : (text : List ℕ) → HasFault text ⊎ IsOneScript text
decided text = decided_by text (first_script_fault text) refl

not_some : (fault : Option ScriptFault) (one : ScriptFault) → fault ≡ Some one → fault ≡ None → ⊥
not_some fault one some none = cc

pub exclusive : (text : List ℕ) (script : Script) → HasFault text → ¬ IsScript text script
exclusive text script has is = not_some (first_script_fault text) has.0 has.1 is.no_fault
