-- What a user's host asks of the machine, and how its crew stands behind that.
use Rattle.std.specs.Prelude.{◌≡◌, ℕ, ◌+◌, ◌<◌, false, List, [], ◌∷◌, ◌++◌, Some, length, map}
use Rattle.ce_model.specs.declared.topology.TheConstants.{HOST}
use Rattle.ce_model.specs.Blocks.{Block}
use Rattle.ce_model.specs.declared.entry.Entry.{Entry}
use Rattle.ce_model.specs.declared.entry.What.{What}
use Rattle.ce_model.specs.declared.entry.What.TheVariants.{Drain}
use Rattle.ce_model.specs.Node as model
use Rattle.ce_model.specs.Renaming.{entry_inward}
use Rattle.ce_model.specs.Views.{view}
use Rattle.ce_model.specs.Machine.{MachineParts, IsLawful, HasHeldCube, after, all_parcels, what_of_request, cube_request, IsFitting}
use Rattle.ce_model.specs.Literals.{host_entry}
use Rattle.rk_node.specs.Boxes.{Box, IsCleanBox, home_of}
use Rattle.ce_lock.specs.declared.limits.TheConstants.{HISTORY_LIMIT}
use Rattle.ce_machine.specs.Meanings.{MachineFacts}
use Rattle.ce_machine.specs.declared.call.Call.{Call}
use Rattle.ce_machine.specs.declared.call.Reply.{Reply}
use Rattle.ce_machine.specs.Requests.{request_of}
use Rattle.ce_machine.specs.Replies.{IsReplyTo}
use Rattle.ce_cube.specs.Boxes.{IsHeldAs}
use Rattle.ce_cube.specs.Crews.{AreBoxesInStep, CrewFacts}
use Rattle.ce_daemon.specs.Peeks.{cube_grant}

-- A user's host made this call, and the machine this reply: an entry more of the history.
pub record HasAsked (old_machine new_machine : MachineFacts) (user : ℕ) (call : Call Box)
    (reply : Reply Box) : Type 0 where
  pub what : What
  pub parts : new_machine.parts ≡ old_machine.parts
  pub history : new_machine.history ≡ old_machine.history ++ host_entry user what ∷ []
  pub lawful : IsLawful old_machine.parts new_machine.history
  pub few : length new_machine.history < HISTORY_LIMIT
  pub answer : what_of_request old_machine.parts (after old_machine.history) user HOST
      (request_of call) ≡ Some what
  pub reply_is : IsReplyTo home_of IsCleanBox old_machine.parts
      (after old_machine.history) user HOST what reply

-- ---- calls of a cube

-- a crew but for its host is in step
pub record AreNodesInStep (parts : MachineParts) (history : List Entry)
    (crew : CrewFacts) : Type 0 where
  pub held : IsHeldAs history crew.grant.number (cube_grant crew.grant)
  pub boxes : AreBoxesInStep parts history crew.grant crew.boxes
  pub entries : crew.entries ≡ length (view history crew.grant.number)

-- the call is one of a cube, and its host may make it
pub record IsHostCall (parts : MachineParts) (history : List Entry) (user : ℕ)
    (call : Call Box) : Type 0 where
  pub inner : model.Call
  pub is : request_of call ≡ cube_request inner
  pub fits : IsFitting parts history user HOST (cube_request inner)

-- The host of a crew made this call of its cube: the trace is longer by its entry, and all but the
-- host is in step.
pub record HasHostCalled (old_machine new_machine : MachineFacts) (crew crew' : CrewFacts)
    (call : Call Box) (reply : Reply Box) : Type 0 where
  pub exchange : HasAsked old_machine new_machine crew.grant.user call reply
  pub crew_is : crew' ≡ record crew { entries = crew.entries + 1 }
  pub nodes : AreNodesInStep old_machine.parts new_machine.history crew'
  pub trace : view new_machine.history crew.grant.number
      ≡ view old_machine.history crew.grant.number
      ++ entry_inward crew.grant.sub (host_entry crew.grant.user exchange.what) ∷ []

-- the start or the end of a process
abbrev pub IsStartOrEnd : model.Call → Type 0
IsStartOrEnd (model.spawn_call pid image to) = Unit {0}
IsStartOrEnd (model.kill_call pid to) = Unit {0}
IsStartOrEnd other = ⊥

-- ---- a cube that is given back

-- the user holds a cube, which wasn't drained
abbrev pub HasCube : List Entry → ℕ → Type 0
HasCube history user = HasHeldCube history user (λ cube. cube.is_drained ≡ false)

-- A user's cube was drained: these are the blocks of all that waited in it.
pub record HasDrained (old_machine new_machine : MachineFacts) (user : ℕ)
    (blocks : List Block) : Type 0 where
  pub parts : new_machine.parts ≡ old_machine.parts
  pub history : new_machine.history ≡ old_machine.history ++ host_entry user Drain ∷ []
  pub lawful : IsLawful old_machine.parts new_machine.history
  pub blocks_are : HasHeldCube old_machine.history user
      (λ cube. blocks ≡ map (λ parcel. parcel.block) (all_parcels (after old_machine.history) cube))
