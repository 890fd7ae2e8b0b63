-- The calls of a node's box and their answers, while the node's turn runs.
use Rattle.std.specs.Prelude.{◌≡◌, ◌==◌, ℕ, ◌+◌, ◌^◌, ◌<◌, ◌≤◌, Bool, false, if◌then◌else◌, IsFalse, List, [], ◌∷◌, ◌++◌, length, map}
use Rattle.ce_model.specs.declared.entry.Entry.{Entry}
use Rattle.ce_model.specs.declared.topology.BlockId.{BlockId}
use Rattle.ce_model.specs.Node.{Node, Call}
use Rattle.ce_model.specs.Saying.{says}
use Rattle.ce_model.specs.Renaming.{entry_inward}
use Rattle.ce_model.specs.Views.{view}
use Rattle.ce_daemon.specs.declared.grant.Grant.{Grant}
use Rattle.rk_node.specs.Boxes.{Box}
use Rattle.rk_node.specs.Answering.{IsAwaitingAnswer}
use Rattle.ce_lock.specs.declared.limits.TheConstants.{HISTORY_LIMIT}
use Rattle.ce_machine.specs.Meanings.{MachineFacts}
use Rattle.ce_script.specs.Rounds.{serial, asks_for_work, is_take, is_dispatch, IsTurn, has_work}
use Rattle.ce_script.specs.Moments.{AreCallsOfUser}
use Rattle.ce_cube.specs.Boxes.{IsHeldAs, IsStandIn, trace_node, trace_store}
use Rattle.ce_cube.specs.Hearable.{calls_left}
use Rattle.ce_cube.specs.Rounds.{IsPartOfRound}
use Rattle.ce_cube.specs.Crews.{cube_dispatches_left, IsLawfulMachine, IsReadyBox, HasCrewGoneOn, CrewFacts}
use Rattle.ce_daemon.specs.Peeks.{cube_grant}

-- node r of this cube after the machine's history
abbrev pub machine_node : MachineFacts → Grant → ℕ → Node
machine_node machine grant r =
    trace_node machine.parts machine.history grant.number (cube_grant grant) r

-- the blocks in its host's store
abbrev pub machine_store : MachineFacts → Grant → List BlockId
machine_store machine grant =
    trace_store machine.parts machine.history grant.number (cube_grant grant)

-- the machine is lawful and within its limits, this cube is held, and r is one of its nodes
pub record HasNode (machine : MachineFacts) (grant : Grant) (r : ℕ) : Type 0 where
  pub sound : IsLawfulMachine machine
  pub held : IsHeldAs machine.history grant.number (cube_grant grant)
  pub within : r < 2 ^ grant.dim

-- the box stands for node r, and no call of it but a Take is out
pub record IsBoxOfNode (machine : MachineFacts) (grant : Grant) (r : ℕ) (box : Box) : Type 0 where
  pub ready : IsReadyBox box
  pub stands : IsStandIn (cube_grant grant) (machine_node machine grant r) box.node

-- the box, which was this one and stood for node r, has said this call
pub record HasSaidCall (machine : MachineFacts) (grant : Grant) (r : ℕ) (box box' : Box)
    (call : Call) : Type 0 where
  pub before : IsBoxOfNode machine grant r box
  pub node : box'.node ≡ (says box.node).node
  pub call_is : call ≡ (says box.node).call
  pub said : IsAwaitingAnswer box' call
  pub room : box'.room ≡ box.room

-- the machine goes on by these calls of the cube: its nodes other than r and its host's store are
-- what they were, and so is its trace before them
pub record HasNodeGoneOn (old_machine new_machine : MachineFacts) (grant : Grant) (r : ℕ)
    (new_entries : List Entry) : Type 0 where
  pub parts : new_machine.parts ≡ old_machine.parts
  pub history : new_machine.history ≡ old_machine.history ++ new_entries
  pub calls : AreCallsOfUser grant.user new_entries
  pub trace : view new_machine.history grant.number ≡ view old_machine.history grant.number
      ++ map (entry_inward grant.sub) new_entries
  pub node : HasNode new_machine grant r
  pub others : (other : ℕ) → other < 2 ^ grant.dim → (other == r) ≡ false
      → machine_node new_machine grant other ≡ machine_node old_machine grant other
  pub store : machine_store new_machine grant ≡ machine_store old_machine grant
  pub few : length new_machine.history < HISTORY_LIMIT

-- The call of a box that stood for node r was answered: the machine has one entry more, a Take
-- where the call asked for work, and a dispatch where it gave work, and the box stands for the node
-- behind it. A turn has fewer calls left by each call that asks for no work.
pub record HasExchanged (old_machine new_machine : MachineFacts) (grant : Grant) (r : ℕ)
    (box box' : Box) (call : Call) (gives_work : Bool) : Type 0 where
  pub entry : Entry
  pub goes_on : HasNodeGoneOn old_machine new_machine grant r (entry ∷ [])
  pub actor_is : (entry_inward grant.sub entry).actor ≡ r
  pub take : is_take (entry_inward grant.sub entry) ≡ asks_for_work call
  pub dispatch : is_dispatch (entry_inward grant.sub entry) ≡ gives_work
  pub left : cube_dispatches_left new_machine grant + (if gives_work then 1 else 0)
      ≡ cube_dispatches_left old_machine grant
  pub stands : IsBoxOfNode new_machine grant r box'
  pub calls : IsFalse (asks_for_work call) → calls_left box'.node < calls_left box.node

-- A turn of node r is under way: these many entries so far, the first a Take that gave work or
-- none, and the box stands for the node.
pub record IsTurnUnderWay (old_machine new_machine : MachineFacts) (grant : Grant) (r : ℕ)
    (box : Box) (gives_work : Bool) (count : ℕ) : Type 0 where
  pub new_entries : List Entry
  pub goes_on : HasNodeGoneOn old_machine new_machine grant r new_entries
  pub turn : IsTurn r (map (entry_inward grant.sub) new_entries)
  pub works : has_work (map (entry_inward grant.sub) new_entries) ≡ gives_work
  pub left : cube_dispatches_left new_machine grant + (if gives_work then 1 else 0)
      ≡ cube_dispatches_left old_machine grant
  pub stands : IsBoxOfNode new_machine grant r box
  pub count_is : count ≡ length new_entries

-- a turn of node r of the crew went on, with work or none: its box is in step again, the others are
-- what they were, and so is the host
pub record HasTakenTurn (old_machine new_machine : MachineFacts) (crew crew' : CrewFacts) (r : ℕ)
    (gives_work : Bool) : Type 0 where
  pub turn : List Entry
  pub goes_on : HasCrewGoneOn serial old_machine new_machine crew crew' turn
  pub is_turn : IsTurn r (map (entry_inward crew.grant.sub) turn)
  pub works : has_work (map (entry_inward crew.grant.sub) turn) ≡ gives_work
  pub left : cube_dispatches_left new_machine crew.grant + (if gives_work then 1 else 0)
      ≡ cube_dispatches_left old_machine crew.grant
  pub host : crew'.host ≡ crew.host

-- a round of the crew is under way: the first nodes, so many, have taken their turns, by which a
-- node was given work or none was
pub record IsRoundUnderWay (old_machine new_machine : MachineFacts) (crew crew' : CrewFacts)
    (count : ℕ) (gives_work : Bool) : Type 0 where
  pub new_entries : List Entry
  pub goes_on : HasCrewGoneOn serial old_machine new_machine crew crew' new_entries
  pub part : IsPartOfRound count (map (entry_inward crew.grant.sub) new_entries)
  pub works : has_work (map (entry_inward crew.grant.sub) new_entries) ≡ gives_work
  pub left : cube_dispatches_left new_machine crew.grant + (if gives_work then 1 else 0)
      ≤ cube_dispatches_left old_machine crew.grant
  pub host : crew'.host ≡ crew.host
