-- Commands of a crew that make no entry.
use Rattle.std.proofs.Common.{◌≡◌, ℕ, zero, suc, ◌<◌, true, List, [], ◌∷◌, length, map, get_or, slice_index_or, refl, ap, sym, ◌∙◌, subst, arith}
use Rattle.std.proofs.lemmas.List.{get_or_read}
use Rattle.ce_model.specs.declared.process.Status.{Status}
use Rattle.ce_model.specs.declared.topology.Place.{Place}
use Rattle.ce_model.specs.declared.topology.BlockId.{BlockId}
use Rattle.ce_model.specs.declared.entry.Entry.{Entry}
use Rattle.ce_model.specs.Process.{Process, unborn_process}
use Rattle.ce_model.specs.Node.{Node, is_place, process_at}
use Rattle.ce_model.specs.Cube.{opening, rest}
use Rattle.ce_model.specs.Renaming.{CubeGrant, renamed_process, node_outward}
use Rattle.ce_model.specs.Views.{view}
use Rattle.ce_model.specs.Machine.{MachineParts, cube_of}
use Rattle.ce_solo.proofs.Sending.{place_parts}
use Rattle.rk_node.specs.Boxes.{Box}
use Rattle.ce_host.specs.declared.command.Command.TheVariants.{Getcube, Dump, Trace}
use Rattle.ce_host.specs.declared.answer.Answer.TheVariants.{Held, State, Entries}
use Rattle.ce_cube.specs.Crews.{IsCrewInStep, box_at, CrewFacts}
use Rattle.ce_daemon.specs.Peeks.{cube_grant}
use Rattle.ce_script.specs.Rounds.{RoundKind}
use Rattle.ce_record.specs.Run.{IsNextCommand}
use Rattle.ce_record.proofs.AtOnce.{held, dump, trace}

-- names of blocks don't matter for what processes do
status-named : (rename : BlockId → BlockId) (ps : List Process) (pid : ℕ)
    → (slice_index_or (map (renamed_process rename) ps) pid unborn_process).status ≡ (slice_index_or ps pid unborn_process).status
status-named rename [] pid = refl
status-named rename (p ∷ ps) zero = refl
status-named rename (p ∷ ps) (suc pid) = status-named rename ps pid

status-outward : (grant : CubeGrant) (node : Node) (pid : ℕ) → (process_at (node_outward grant node) pid).status ≡ (process_at node pid).status
status-outward grant node pid = status-named _ node.processes pid

-- what the process of a place does in a cube's state after its trace
abbrev status_at : MachineParts → List Entry → ℕ → CubeGrant → Place → Status
status_at parts history number grant at =
    (process_at (rest (cube_of parts.images grant) (opening (cube_of parts.images grant)) at.node (view history number)) at.pid).status

-- a box that was read
box-read : (boxes : List Box) (r : ℕ) (box : Box) → r < length boxes → box ≡ get_or boxes r box → box ≡ box_at boxes r
box-read boxes r box below read = get_or_read boxes r box below read _

module _ (parts : MachineParts) (history : List Entry) (crew : CrewFacts) (step : IsCrewInStep parts history crew) where
  pub dumped : (kind : RoundKind) (at : Place) (status : Status) (box : Box) → is_place crew.grant.dim at ≡ true → box ≡ get_or crew.boxes at.node box
      → status ≡ (process_at box.node at.pid).status → IsNextCommand kind parts history crew.grant.user (Dump at) (State status) []
  dumped kind at status box place read is =
      let grant = cube_grant crew.grant in
      let below = (place_parts crew.grant.dim at place).0 in
      let within : at.node < length crew.boxes = omega (arith, below, step.boxes.all) in
      let at_rest = (step.boxes.in_step at.node below).at_rest in
      let said : status ≡ status_at parts history crew.grant.number grant at =
      is ∙ ap (λ (box : Box). (process_at box.node at.pid).status) (box-read crew.boxes at.node box within read)
      ∙ ap (λ (node : Node). (process_at node at.pid).status) at_rest ∙ status-outward grant (rest (cube_of parts.images grant) (opening (cube_of parts.images grant)) at.node (view history crew.grant.number)) at.pid in
      let own : status_at parts history step.held.cube.number step.held.cube.grant at ≡ status_at parts history crew.grant.number grant at =
      λ i. status_at parts history (step.held.number_is i) (step.held.grant_is i) at in
      subst (λ status. IsNextCommand kind parts history crew.grant.user (Dump at) (State status) []) (own ∙ sym said)
      (dump kind parts history crew.grant.user step.held.cube step.held.held at (ap (λ (g : CubeGrant). is_place g.dim at) step.held.grant_is ∙ place))

  pub traced : (kind : RoundKind) → IsNextCommand kind parts history crew.grant.user Trace (Entries crew.entries) []
  traced kind =
      subst (λ count. IsNextCommand kind parts history crew.grant.user Trace (Entries count) [])
      (ap (λ number. length (view history number)) step.held.number_is ∙ sym step.entries)
      (trace kind parts history crew.grant.user step.held.cube step.held.held)

  pub held-already : (kind : RoundKind) (dim : ℕ) → IsNextCommand kind parts history crew.grant.user (Getcube dim) Held []
  held-already kind dim = held kind parts history crew.grant.user step.held.cube step.held.held dim
