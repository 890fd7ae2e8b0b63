-- What is wrong with the operands behind each verb.
use Rattle.std.proofs.Common.{◌≡◌, ℕ, ◌+◌, List, [], ◌∷◌, Option, Some, None, refl, sym, ap, ◌∙◌}
use Rattle.std.specs.Prelude.{is_none, unwrap_or}
use Rattle.std.specs.Option.{option_or}
use Rattle.ce_model.specs.declared.limits.TheConstants.{GREATEST_DIMENSION, GREATEST_COUNT}
use Rattle.ce_model.specs.Limits.{greatest_dim, greatest_count}
use Rattle.ce_model.specs.declared.topology.Place.{Place}
use Rattle.ce_host.specs.declared.command.Command.TheVariants as command
use Rattle.ce_script.specs.declared.grammar.Verb.TheVariants.{Machine, Getcube, Peek, Freecube, Trace, Spawn, Kill, Send, Run, Recv, Dump}
use Rattle.ce_script.specs.declared.script.ScriptKind.{ScriptKind}
use Rattle.ce_script.specs.declared.script.ScriptKind.TheVariants.{BadNumber, BadHex}
use Rattle.ce_script.specs.Spellings.{greatest_number, bounded_number, data_in}
use Rattle.ce_script.specs.Verbs.{OldImage}
use Rattle.ce_script.specs.Statements.{ScriptStatement, operand}
use Rattle.ce_script.specs.Sayings.{name_number, operand_place, command_of_verb}
use Rattle.ce_script.specs.Faults.{first_some, kind_where, operand_fault}
use Rattle.ce_script.specs.Reading.{operands_judgment}
use Rattle.ce_script.proofs.Spots.{option_or-none, option_or-assoc}

-- the number at a place is none, or above this
abbrev pub number_fault : ℕ → ℕ → ScriptStatement → Option ScriptKind
number_fault place most here = kind_where (is_none (bounded_number most (operand place here))) BadNumber

-- the numbers of a place
abbrev pub place_fault_at : ℕ → ScriptStatement → Option ScriptKind
place_fault_at place here = first_some (number_fault place greatest_number here ∷ number_fault (place + 1) greatest_number here ∷ [])

module _ (names : List (List ℕ)) (here : ScriptStatement) where
  pub machine_fault : operands_judgment names Machine here ≡ number_fault 1 GREATEST_DIMENSION here
  unfolding operands_judgment greatest_dim
  machine_fault = option_or-none (number_fault 1 GREATEST_DIMENSION here)

  pub getcube_fault : operands_judgment names Getcube here ≡ number_fault 1 GREATEST_DIMENSION here
  unfolding operands_judgment greatest_dim
  getcube_fault = option_or-none (number_fault 1 GREATEST_DIMENSION here)

  pub run_fault : operands_judgment names Run here ≡ number_fault 1 GREATEST_COUNT here
  unfolding operands_judgment greatest_count
  run_fault = option_or-none (number_fault 1 GREATEST_COUNT here)

  pub recv_fault : operands_judgment names Recv here ≡ number_fault 1 GREATEST_COUNT here
  unfolding operands_judgment greatest_count
  recv_fault = option_or-none (number_fault 1 GREATEST_COUNT here)

  pub kill_fault : operands_judgment names Kill here ≡ place_fault_at 1 here
  unfolding operands_judgment
  kill_fault = refl

  pub dump_fault : operands_judgment names Dump here ≡ place_fault_at 1 here
  unfolding operands_judgment
  dump_fault = refl

  pub spawn_fault : operands_judgment names Spawn here ≡ option_or (operand_fault names OldImage (operand 1 here)) (place_fault_at 2 here)
  unfolding operands_judgment
  spawn_fault = refl

  -- the command of a spawn line
  pub spawn_there : (image : ℕ) (to : Place) → (operand_fault names OldImage (operand 1 here) ≡ None) × (Some (name_number (operand 1 here) names) ≡ Some image)
      → (place_fault_at 2 here ≡ None) × (Some (operand_place 2 here) ≡ Some to)
      → (operands_judgment names Spawn here ≡ None) × (command_of_verb Spawn names here ≡ Some (command.Spawn image to))
  spawn_there image to named placed = (
    spawn_fault ∙ ap (λ one. option_or one (place_fault_at 2 here)) named.0 ∙ placed.0,
    ap (λ (found : Option ℕ). Some (command.Spawn (unwrap_or found 0) (operand_place 2 here))) named.1
        ∙ ap (λ (found : Option Place). Some (command.Spawn image (unwrap_or found (operand_place 2 here)))) placed.1,
  )

  pub send_fault : operands_judgment names Send here ≡ option_or (place_fault_at 1 here) (kind_where (is_none (data_in (operand 3 here))) BadHex)
  unfolding operands_judgment
  send_fault =
      let node = number_fault 1 greatest_number here in
      let pid = number_fault 2 greatest_number here in
      let hex = kind_where (is_none (data_in (operand 3 here))) BadHex in
      ap (λ last. option_or node (option_or pid last)) (option_or-none hex)
      ∙ ap (λ rest. option_or node (option_or rest hex)) (sym (option_or-none pid))
      ∙ sym (option_or-assoc node (option_or pid None) hex)

  pub peek_fault : operands_judgment names Peek here ≡ None
  unfolding operands_judgment
  peek_fault = refl

  pub freecube_fault : operands_judgment names Freecube here ≡ None
  unfolding operands_judgment
  freecube_fault = refl

  pub trace_fault : operands_judgment names Trace here ≡ None
  unfolding operands_judgment
  trace_fault = refl
