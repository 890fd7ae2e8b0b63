-- The crew of a cube that is held: the boxes of its nodes and the host of its user, in step with
-- the machine's history.
use Rattle.std.specs.Prelude.{◌≡◌, ℕ, ◌+◌, ◌^◌, ◌<◌, ◌≤◌, Bool, if◌then◌else◌, List, [], ◌++◌, length, map, flat_map, slice_index_or, Some}
use Rattle.ce_model.specs.declared.entry.Entry.{Entry}
use Rattle.ce_model.specs.Limits.{greatest_dim, host_home, greatest_blocks}
use Rattle.ce_model.specs.Blocks.{Block, blocks_of_home}
use Rattle.ce_model.specs.Node.{blocks_of}
use Rattle.ce_model.specs.Subcubes.{IsSubcube, node_of}
use Rattle.ce_model.specs.Cube.{node_numbers}
use Rattle.ce_model.specs.Renaming.{CubeGrant, block_outward, entry_inward}
use Rattle.ce_model.specs.Views.{view}
use Rattle.ce_model.specs.Machine.{MachineParts, IsMachine, IsLawful}
use Rattle.xm_block.specs.Stores.{ids_of}
use Rattle.ce_daemon.specs.declared.grant.Grant.{Grant}
use Rattle.ce_daemon.specs.Boxes.{AreBoxes}
use Rattle.ce_daemon.specs.Peeks.{cube_grant}
use Rattle.ce_host.specs.declared.host.Host.{Host}
use Rattle.rk_node.specs.Boxes.{Box, IsCleanBox, IsIdleBox, fresh_node_at, home_of}
use Rattle.rk_node.specs.declared.awaited_call.AwaitedCall.TheVariants.{Nothing}
use Rattle.ce_machine.specs.Meanings.{MachineFacts}
use Rattle.ce_script.specs.Rounds.{RoundKind, serial, IsRound, has_work}
use Rattle.ce_script.specs.Moments.{AreCallsOfUser}
use Rattle.ce_cube.specs.declared.crew.SerialCrew.{SerialCrew}
use Rattle.ce_cube.specs.Boxes.{IsHeldAs, AreInStep, trace_store}
use Rattle.ce_cube.specs.Rehoming.{AreAllBlocks}
use Rattle.ce_cube.specs.Rounds.{dispatches_left}
use Rattle.ce_cube.specs.Beside.{IsMix}

-- the machine is within its limits, and what was asked of it so far is lawful
pub record IsLawfulMachine (machine : MachineFacts) : Type 0 where
  pub within : IsMachine machine.parts
  pub lawful : IsLawful machine.parts machine.history

-- the box of relative node r
abbrev pub box_at : List Box → ℕ → Box
box_at boxes r = slice_index_or boxes r
    (record { node = fresh_node_at 0 0 0 0; room = 0; awaited_call = Nothing })

-- the box is idle, and it has room for all blocks of the greatest cube
pub record IsReadyBox (box : Box) : Type 0 where
  pub idle : IsIdleBox box
  pub room : greatest_blocks ≤ box.room

-- these are the boxes of the cube's nodes, all ready, and in step with the nodes
pub record AreBoxesInStep (parts : MachineParts) (history : List Entry) (grant : Grant)
    (boxes : List Box) : Type 0 where
  pub all : length boxes ≡ 2 ^ grant.dim
  pub ready : (r : ℕ) → r < 2 ^ grant.dim → IsReadyBox (box_at boxes r)
  pub in_step : AreInStep parts history grant.number (cube_grant grant) (λ r. (box_at boxes r).node)

-- the host has the blocks that the cube's trace leaves it, room for all of the cube, and its spare
-- batch
pub record IsHostInStep (parts : MachineParts) (history : List Entry) (grant : Grant)
    (host : Host) : Type 0 where
  pub blocks : ids_of host.store.blocks
      ≡ map (block_outward (cube_grant grant))
      (trace_store parts history grant.number (cube_grant grant))
  pub room : host.store.spare + length host.store.blocks ≡ greatest_blocks
  pub spare : host.spare_batch ≡ Some []

-- a host of a user that holds no cube has its own blocks, room for all of a cube, and its spare
-- batch
pub record IsHostAtHome (user : ℕ) (host : Host) : Type 0 where
  pub blocks : ids_of host.store.blocks ≡ blocks_of_home (host_home + user)
  pub room : host.store.spare + length host.store.blocks ≡ greatest_blocks
  pub spare : host.spare_batch ≡ Some []

-- a crew as the laws see it: its cube, the boxes of the cube's nodes in relative order, the host of
-- its user, and how many entries the cube's trace has
pub record CrewFacts : Type 0 where
  pub grant : Grant
  pub boxes : List Box
  pub host : Host
  pub entries : ℕ

-- so is a crew on one thread seen
abbrev pub serial_facts : SerialCrew → CrewFacts
serial_facts crew = record {
  grant = crew.grant;
  boxes = crew.boxes.items;
  host = crew.host;
  entries = crew.entries;
}

-- the crew of a cube that is held, and wasn't drained, is in step with the history
pub record IsCrewInStep (parts : MachineParts) (history : List Entry)
    (crew : CrewFacts) : Type 0 where
  pub held : IsHeldAs history crew.grant.number (cube_grant crew.grant)
  pub boxes : AreBoxesInStep parts history crew.grant crew.boxes
  pub host : IsHostInStep parts history crew.grant crew.host
  pub entries : crew.entries ≡ length (view history crew.grant.number)

-- Calls of a crew's cube went on with the machine's history: these are its user's entries of that
-- stretch, and make the cube's trace longer. On one thread they are the whole stretch. The crew is
-- in step again.
pub record HasCrewGoneOn (kind : RoundKind) (old_machine new_machine : MachineFacts)
    (crew crew' : CrewFacts) (new_entries : List Entry) : Type 0 where
  pub all_entries : List Entry
  pub parts : new_machine.parts ≡ old_machine.parts
  pub history : new_machine.history ≡ old_machine.history ++ all_entries
  pub mix : IsMix kind crew.grant.user all_entries new_entries
  pub lawful : IsLawful new_machine.parts new_machine.history
  pub calls : AreCallsOfUser crew.grant.user new_entries
  pub grant : crew'.grant ≡ crew.grant
  pub trace : view new_machine.history crew.grant.number
      ≡ view old_machine.history crew.grant.number ++ map (entry_inward crew.grant.sub) new_entries
  pub in_step : IsCrewInStep new_machine.parts new_machine.history crew'

-- Calls of this user's cube went on with the machine's history, until one was refused: that call
-- made no entry, and these before it stand.
pub record HasStopped (old_machine new_machine : MachineFacts) (user : ℕ) : Type 0 where
  pub new_entries : List Entry
  pub parts : new_machine.parts ≡ old_machine.parts
  pub history : new_machine.history ≡ old_machine.history ++ new_entries
  pub lawful : IsLawful new_machine.parts new_machine.history
  pub calls : AreCallsOfUser user new_entries

-- A round of this kind went on, by which a node was given work or none was. The host is what it
-- was.
pub record HasMadeRound (kind : RoundKind) (old_machine new_machine : MachineFacts)
    (crew crew' : CrewFacts) (gives_work : Bool) : Type 0 where
  pub round : List Entry
  pub goes_on : HasCrewGoneOn kind old_machine new_machine crew crew' round
  pub is_round : IsRound kind crew.grant.dim (map (entry_inward crew.grant.sub) round)
  pub works : has_work (map (entry_inward crew.grant.sub) round) ≡ gives_work
  pub host : crew'.host ≡ crew.host

-- how many dispatches are still allowed in the cube
abbrev pub cube_dispatches_left : MachineFacts → Grant → ℕ
cube_dispatches_left machine grant =
    dispatches_left machine.parts machine.history grant.number (cube_grant grant)

-- A round went on, on one thread. Work takes one at least of the dispatches that are allowed.
pub record HasMadeSerialRound (old_machine new_machine : MachineFacts) (crew crew' : CrewFacts)
    (gives_work : Bool) : Type 0 where
  pub made_round : HasMadeRound serial old_machine new_machine crew crew' gives_work
  pub left : cube_dispatches_left new_machine crew.grant + (if gives_work then 1 else 0)
      ≤ cube_dispatches_left old_machine crew.grant

-- ---- a cube that is given back

-- The boxes and the host of a cube, a subcube of the greatest machine, with the blocks that were
-- drained, hold each block of the cube once, and no other. The boxes are ready, and the host has
-- room for all blocks of the greatest cube, and its spare batch.
pub record HasAllBlocks (grant : CubeGrant) (boxes : List Box) (host : Host)
    (drained_blocks : List Block) : Type 0 where
  pub sub : IsSubcube greatest_dim grant.dim grant.sub
  pub all : length boxes ≡ 2 ^ grant.dim
  pub ready : (r : ℕ) → r < 2 ^ grant.dim → IsReadyBox (box_at boxes r)
  pub homes : (r : ℕ) → r < 2 ^ grant.dim → (box_at boxes r).node.home ≡ node_of grant.sub r
  pub blocks : AreAllBlocks grant
      (flat_map (λ r. blocks_of (box_at boxes r).node) (node_numbers grant.dim)
      ++ (map (λ block. block.id) drained_blocks ++ ids_of host.store.blocks))
  pub room : host.store.spare + length host.store.blocks ≡ greatest_blocks
  pub spare : host.spare_batch ≡ Some []

-- all blocks of the cube are at home: the boxes are clean, and have their homes
abbrev pub AreAllHome : CubeGrant → List Box → Host → Type 0
AreAllHome grant boxes host = AreBoxes home_of IsCleanBox (2 ^ grant.dim) (node_of grant.sub) boxes
    × IsHostAtHome grant.user host
