-- What a node with other names for its blocks says.
use Rattle.std.proofs.Common.{◌≡◌, ℕ, zero, suc, Option, Some, None, refl, ap, ◌∙◌}
use Rattle.rv_model.specs.declared.stop.Stop.{Stop}
use Rattle.rv_model.specs.declared.stop.Stop.TheVariants.{TurnSpent}
use Rattle.rv_model.specs.Exec.{Outcome, next_state, call_state, stop_state}
use Rattle.ce_model.specs.Space.{Space, process_access}
use Rattle.ce_model.specs.Process.{Process, moved_process, instruction_outcome}
use Rattle.ce_model.specs.Node.{Turn, Node, process_at, with_process, with_stopped_process}
use Rattle.ce_model.specs.Kernel.{CallOutcome, continuation, departure, turn_conclusion, kernel}
use Rattle.ce_model.specs.Saying.{Saying, idle_saying, saying_after_call, saying_after_instruction, turn_saying, saying_in, says}
use Rattle.ce_model.specs.Renaming.{renamed_space, renamed_call_blocks}
use Rattle.ce_solo.proofs.Renaming.Memory.{IsNamedSpace, loaded-renamed, stored-renamed, stored-named}
use Rattle.ce_solo.proofs.Renaming.Instruction.{IsAlike, AreAlike, step_outcome-alike}
use Rattle.ce_solo.proofs.Renaming.Nodes.{IsNamed, process-named, with_process-named, process-renamed, with_process-renamed, with_stopped-renamed, take-renamed}
use Rattle.ce_solo.proofs.Renaming.Calls.{Names, node_with_names, process_with_names, AreDid}
use Rattle.ce_solo.proofs.Renaming.Messages.{kernel-alike}

module _ (names : Names) where
  -- what a node says, with the other names
  abbrev pub saying_with_names : Saying → Saying
  saying_with_names saying = record { node = node_with_names names saying.node; call = renamed_call_blocks names.rename saying.call }

  abbrev space_with_names : Space → Space
  space_with_names space = renamed_space names.rename space

  abbrev IsNamedMemory : Space → Type 0
  IsNamedMemory space = IsNamedSpace names.P space

  memory-alike : IsAlike process_access space_with_names IsNamedMemory
  memory-alike = record {
    fetched = λ space pc. refl;
    loaded = loaded-renamed names.rename;
    stored = stored-renamed names.rename;
    kept = stored-named names.P;
  }

  asks-renamed : (node : Node) → idle_saying (node_with_names names node) ≡ saying_with_names (idle_saying node)
  asks-renamed node = ap (λ call. record { node = node_with_names names node; call = call }) (take-renamed names.rename names.home node)

  stopped-renamed : (node : Node) (pid : ℕ) (p : Process) (cause : Stop) → IsNamed names.P node → IsNamedMemory p.space
      → idle_saying (with_stopped_process (node_with_names names node) pid (process_with_names names p) cause) ≡ saying_with_names (idle_saying (with_stopped_process node pid p cause))
  stopped-renamed node pid p cause named own =
      ap idle_saying (with_stopped-renamed names.rename names.home names.P node pid p cause names.order named own)
      ∙ asks-renamed (with_stopped_process node pid p cause)

  -- a turn that goes on says the same, renamed
  IsTurnAlike : (Node → Turn → Saying) → Type 0
  IsTurnAlike onward = (node : Node) (turn : Turn) → IsNamed names.P node → onward (node_with_names names node) turn ≡ saying_with_names (onward node turn)

  saying_after_call-alike : (onward : Node → Turn → Saying) (there here : CallOutcome) → IsTurnAlike onward → AreDid names there here
      → saying_after_call onward there ≡ saying_with_names (saying_after_call onward here)
  unfolding IsTurnAlike
  saying_after_call-alike onward there (continuation node turn) each did = ap (saying_after_call onward) did.same ∙ each node turn did.named
  saying_after_call-alike onward there (departure node call) each did = ap (saying_after_call onward) did.same
  saying_after_call-alike onward there (turn_conclusion node) each did = ap (saying_after_call onward) did.same ∙ asks-renamed node

  saying_after_instruction-alike : (onward : Node → Turn → Saying) (left : ℕ) (node : Node) (turn : Turn) (p : Process) (there here : Outcome Space) → IsTurnAlike onward
      → IsNamed names.P node → IsNamedMemory p.space → AreAlike process_access space_with_names IsNamedMemory memory-alike there here
      → saying_after_instruction onward left (node_with_names names node) turn (process_with_names names p) there ≡ saying_with_names (saying_after_instruction onward left node turn p here)
  unfolding IsTurnAlike
  saying_after_instruction-alike onward left node turn p there (next_state registers pc space) each named own alike =
      ap (saying_after_instruction onward left (node_with_names names node) turn (process_with_names names p)) alike.same
      ∙ ap (λ node. onward node turn) (with_process-renamed names.rename names.home node turn.pid (moved_process p registers pc space))
      ∙ each (with_process node turn.pid (moved_process p registers pc space)) turn (with_process-named names.P node turn.pid (moved_process p registers pc space) named alike.left)
  saying_after_instruction-alike onward left node turn p there (call_state registers pc space) each named own alike =
      ap (saying_after_instruction onward left (node_with_names names node) turn (process_with_names names p)) alike.same
      ∙ saying_after_call-alike onward _ (kernel node (record turn { instructions_left = left }) (moved_process p registers pc space)) each
      (kernel-alike names node (record turn { instructions_left = left }) (moved_process p registers pc space) (record { around = named; own = alike.left }))
  saying_after_instruction-alike onward left node turn p there (stop_state cause) each named own alike =
      ap (saying_after_instruction onward left (node_with_names names node) turn (process_with_names names p)) alike.same ∙ stopped-renamed node turn.pid p cause named own

  runs-alike : (left : ℕ) → IsTurnAlike (turn_saying left)
  unfolding IsTurnAlike turn_saying
  runs-alike zero node turn named =
      ap (λ p. idle_saying (with_stopped_process (node_with_names names node) turn.pid p TurnSpent)) (process-renamed names.rename names.home node turn.pid)
      ∙ stopped-renamed node turn.pid (process_at node turn.pid) TurnSpent named (process-named names.P node turn.pid named)
  runs-alike (suc left) node turn named =
      let p = process_at node turn.pid in
      let own = process-named names.P node turn.pid named in
      ap (λ p. saying_after_instruction (turn_saying left) left (node_with_names names node) turn p (instruction_outcome p)) (process-renamed names.rename names.home node turn.pid)
      ∙ saying_after_instruction-alike (turn_saying left) left node turn p _ (instruction_outcome p) (runs-alike left) named own
      (step_outcome-alike process_access space_with_names IsNamedMemory memory-alike p.registers p.pc p.space own)

  saying_in-renamed : (node : Node) (turn : Option Turn) → IsNamed names.P node → saying_in (node_with_names names node) turn ≡ saying_with_names (saying_in node turn)
  unfolding IsTurnAlike
  saying_in-renamed node None named = asks-renamed node
  saying_in-renamed node (Some turn) named = runs-alike turn.instructions_left node turn named

  pub says-renamed : (node : Node) → IsNamed names.P node → says (node_with_names names node) ≡ saying_with_names (says node)
  unfolding says
  says-renamed node named = saying_in-renamed node node.turn named
