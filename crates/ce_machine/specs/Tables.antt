-- What the machine keeps for its nodes, its hosts and its daemon, by the state that its history
-- leaves.
use Rattle.std.specs.Prelude.{◌≡◌, ℕ, ◌^◌, ◌<◌, Bool, false, List, [], Option, Some, None, map, length, slice_index_or}
use Rattle.ce_model.specs.declared.entry.Entry.{Entry}
use Rattle.ce_model.specs.Parcels.{Item}
use Rattle.ce_model.specs.Trace.{NodeRecord, blank_record}
use Rattle.ce_model.specs.Machine.{MachineParts, MachineState, HeldCube, IsMachine, IsLawful, cube_held_by, held_grants, after}
use Rattle.ce_daemon.specs.Holding.{GrantTable}
use Rattle.ce_daemon.specs.Peeks.{numbered_grant}

-- what the machine keeps for a user's host: whether the user's cube is drained, its counts, and
-- what waits for the host
pub record HostRecord : Type 0 where
  pub is_drained : Bool
  pub allowed_dispatches : ℕ
  pub made_dispatches : ℕ
  pub parcel_count : ℕ
  pub mail : List Item

-- what it keeps for the host of a user without a cube
abbrev pub blank_host : HostRecord
blank_host = record {
  is_drained = false;
  allowed_dispatches = 0;
  made_dispatches = 0;
  parcel_count = 0;
  mail = [];
}

-- what it keeps for the host of the user of this cube, if any
abbrev pub cube_host : Option HeldCube → HostRecord
cube_host None = blank_host
cube_host (Some cube) = record {
  is_drained = cube.is_drained;
  allowed_dispatches = cube.allowed_dispatches;
  made_dispatches = cube.made_dispatches;
  parcel_count = cube.parcel_count;
  mail = cube.mail;
}

-- what is kept for a node, and for the host of a user
abbrev pub desk_at : List NodeRecord → ℕ → NodeRecord
desk_at desks node = slice_index_or desks node blank_record

abbrev pub host_at : List HostRecord → ℕ → HostRecord
host_at hosts user = slice_index_or hosts user blank_host

-- what the daemon of a machine of this dimension has granted in this state
abbrev pub grant_table : ℕ → MachineState → GrantTable
grant_table dim state =
    record { dim = dim; count = state.grant_count; grants = map numbered_grant (held_grants state) }

-- the tables of a machine show this state
pub record AreTables (parts : MachineParts) (state : MachineState) (table : GrantTable)
    (desks : List NodeRecord) (hosts : List HostRecord) : Type 0 where
  pub table_is : table ≡ grant_table parts.dim state
  pub desk_count : length desks ≡ 2 ^ parts.dim
  pub desk_is : (node : ℕ) → node < 2 ^ parts.dim → desk_at desks node ≡ state.node_record node
  pub host_count : length hosts ≡ parts.users
  pub host_is : (user : ℕ) → user < parts.users → host_at hosts user
      ≡ cube_host (cube_held_by state user)

-- a machine is within its limits, its history is lawful, and its tables show what the history
-- leaves
pub record IsSoundMachine (parts : MachineParts) (history : List Entry) (table : GrantTable)
    (desks : List NodeRecord) (hosts : List HostRecord) : Type 0 where
  pub machine : IsMachine parts
  pub lawful : IsLawful parts history
  pub tables : AreTables parts (after history) table desks hosts
