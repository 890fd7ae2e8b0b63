-- Two wrong machines, and of each a history that it makes, of which the view of one grant is no
-- trace that its cube gives alone.
use Rattle.std.specs.Prelude.{◌≡◌, ℕ, ◌+◌, ◌==◌, if◌then◌else◌, true, not, List, [], ◌∷◌, ◌++◌, Option, Some, None, IsSomeAnd, filter, fold, option_map}
use Rattle.rv_model.specs.Image.{ImageParts}
use Rattle.ce_model.specs.declared.limits.TheConstants.{HOST_HOME}
use Rattle.ce_model.specs.declared.topology.TheConstants.{HOST}
use Rattle.ce_model.specs.declared.topology.Place.{Place}
use Rattle.ce_model.specs.declared.topology.Subcube.{Subcube}
use Rattle.ce_model.specs.declared.entry.Entry.{Entry}
use Rattle.ce_model.specs.declared.entry.What.{What}
use Rattle.ce_model.specs.declared.entry.What.TheVariants.{Getcube, Drain, Freecube, Arm, Send, Spawn, Take}
use Rattle.ce_model.specs.declared.entry.TakeResult.TheVariants.{Start, Mail, Idle}
use Rattle.ce_model.specs.Lists.{EachAfter}
use Rattle.ce_model.specs.Literals.{machine, entry_of, host_entry, subcube, place, block, first_bytes}
use Rattle.ce_model.specs.Node.{Call}
use Rattle.ce_model.specs.Trace.{blank_record}
use Rattle.ce_model.specs.Answers.{answer, recorded_call}
use Rattle.ce_model.specs.Cube.{IsAlone}
use Rattle.ce_model.specs.Renaming.{renamed_call}
use Rattle.ce_model.specs.Views.{history_behind_grant, view}
use Rattle.ce_model.specs.Machine.{MachineParts, MachineState, machine_opening, cube_held_by, is_held_by, nodes_of, cube_standing, with_cube, state_after_entry, state_after_call, state_after_host, Request, cube_request, what_of_request, cube_of}

-- ---- what a machine does, and how it is refuted

-- the rules of a machine, right or wrong: what its state becomes by an entry, and what it answers a
-- request of a user's actor
pub record Rules : Type 0 where
  pub next_state : MachineState → Entry → MachineState
  pub answers : MachineParts → MachineState → ℕ → ℕ → Request → Option What

-- a machine of these rules makes the entry after the history, by some request
pub record IsAnswered (rules : Rules) (parts : MachineParts) (history : List Entry)
    (entry : Entry) : Type 0 where
  pub request : Request
  pub answer : rules.answers parts
      (fold rules.next_state machine_opening history) entry.user entry.actor request
      ≡ Some entry.what

-- a machine of these rules makes the history and one entry more, and with that entry the view of
-- the grant of this number, which was a trace that its cube gives alone, is none any longer
abbrev pub IsRefutedBy : Rules → MachineParts → List Entry → Entry → ℕ → Type 0
IsRefutedBy rules parts history entry number =
    EachAfter (IsAnswered rules parts) [] (history ++ entry ∷ [])
    × IsSomeAnd (history_behind_grant history number)
    (λ grant_pair. IsAlone (cube_of parts.images grant_pair.0) (view history number)
    × (IsAlone (cube_of parts.images grant_pair.0) (view (history ++ entry ∷ []) number) → ⊥))

-- ---- a drain that leaves the messages

-- a drain and the giving back of a cube leave what waits at its nodes, for the next owner of the
-- nodes
abbrev pub mail_keeping_state_after_host : ℕ → What → MachineState → MachineState
mail_keeping_state_after_host user Drain state =
    with_cube user (λ cube. record cube { is_drained = true; mail = [] })
    (λ cube node node_record. node_record) state
mail_keeping_state_after_host user Freecube state =
    record (with_cube user (λ cube. cube)
    (λ cube node node_record. record blank_record { waiting_items = node_record.waiting_items })
    state) {
      cubes = filter (λ cube. not (is_held_by user cube)) state.cubes;
    }
mail_keeping_state_after_host user other state = state_after_host user other state

abbrev pub mail_keeping_state_after_call : Option Call → Entry → MachineState → MachineState
mail_keeping_state_after_call (Some call) entry state = state_after_call (Some call) entry state
mail_keeping_state_after_call None entry state =
    mail_keeping_state_after_host entry.user entry.what state

abbrev pub mail_keeping_rules : Rules
mail_keeping_rules = record {
  next_state = λ state entry. mail_keeping_state_after_call (recorded_call entry.what) entry state;
  answers = what_of_request;
}

-- the first user sends aa to process 0, drains its cube and gives it back; the second user has the
-- same node, and starts process 0 there
abbrev pub history_over_mail : List Entry
history_over_mail =
    host_entry 0 (Getcube 0 (Some (subcube 0 0)))
    ∷ host_entry 0 (Send 0 0 ((place 0 0, block HOST_HOME 0) ∷ []) first_bytes)
    ∷ host_entry 0 Drain
    ∷ host_entry 0 Freecube
    ∷ host_entry 1 (Getcube 0 (Some (subcube 0 0)))
    ∷ host_entry 1 (Spawn 0 0 (place 0 0) true)
    ∷ host_entry 1 (Arm 10)
    ∷ entry_of 1 0 (Take 0 0 None (Start 0 0))
    ∷ []

-- the second user's process is given aa
abbrev pub stray_mail_entry : Entry
stray_mail_entry = entry_of 1 0 (Take 1 0 None (Mail 0 0))

-- a drain that leaves the messages is refuted by the view of the second grant
abbrev pub DrainLeavesMail : Type 0
DrainLeavesMail = (image : ImageParts)
    → IsRefutedBy mail_keeping_rules (machine 0 2 image) history_over_mail stray_mail_entry 1

-- ---- a node's number added to the base

-- the wrong number of the machine for node r of a cube
abbrev pub base_sum : Subcube → ℕ → ℕ
base_sum sub r = if r == HOST then HOST else sub.base + r

abbrev pub place_at_sum : Subcube → Place → Place
place_at_sum sub to = record { node = base_sum sub to.node; pid = to.pid }

-- the call of a cube is made with these wrong numbers for places
abbrev pub rank_sum_answers : MachineParts → MachineState → ℕ → ℕ → Request → Option What
rank_sum_answers parts state user actor (cube_request call) =
    option_map
    (λ cube. answer (nodes_of cube.grant) (cube_standing state cube) actor
    (renamed_call (place_at_sum cube.grant.sub) (λ id. id) call)) (cube_held_by state user)
rank_sum_answers parts state user actor other = what_of_request parts state user actor other

abbrev pub rank_sum_rules : Rules
rank_sum_rules = record { next_state = state_after_entry; answers = rank_sum_answers }

-- three users have nodes 0, 1 and 2 of a machine of four. The second one gives node 1 back, and is
-- granted a cube of the nodes 1 and 3. It has an image started at its node 1, which is node 3: the
-- start is sent to node 2
abbrev pub astray_start : List Entry
astray_start =
    host_entry 0 (Getcube 0 (Some (subcube 0 0)))
    ∷ host_entry 1 (Getcube 0 (Some (subcube 0 1)))
    ∷ host_entry 2 (Getcube 0 (Some (subcube 0 2)))
    ∷ host_entry 1 Drain
    ∷ host_entry 1 Freecube
    ∷ host_entry 1 (Getcube 1 (Some (subcube 2 1)))
    ∷ host_entry 1 (Spawn 0 0 (place 2 0) true)
    ∷ host_entry 1 (Arm 10)
    ∷ []

-- node 3 finds nothing
abbrev pub idle_entry : Entry
idle_entry = entry_of 1 3 (Take 0 0 None Idle)

-- a node's number that is added to the base is refuted by the view of the fourth grant
abbrev pub RankIsAddedToBase : Type 0
RankIsAddedToBase =
    (image : ImageParts) → IsRefutedBy rank_sum_rules (machine 2 3 image) astray_start idle_entry 3
