-- What changes on the desks of nodes.
use Rattle.std.specs.Prelude.{◌≡◌, ◌⊎◌, ℕ, ◌+◌, ◌^◌, ◌<◌, ◌≤◌, ◌==◌, if◌then◌else◌, false, List, [], ◌∷◌, ◌++◌, length, map, flat_map}
use Rattle.std.specs.List.{range_with_len}
use Rattle.ce_model.specs.declared.topology.TheConstants.{HOST}
use Rattle.ce_model.specs.declared.topology.Place.{Place}
use Rattle.ce_model.specs.declared.topology.Subcube.{Subcube}
use Rattle.ce_model.specs.declared.entry.KillResult.{KillResult}
use Rattle.ce_model.specs.declared.entry.KillResult.TheVariants.{Killed}
use Rattle.ce_model.specs.Limits.{greatest_dim, process_count, node_room, mail_room}
use Rattle.ce_model.specs.Blocks.{Block}
use Rattle.ce_model.specs.Parcels.{Item, start, mail, kill}
use Rattle.ce_model.specs.Trace.{NodeRecord}
use Rattle.ce_model.specs.Renaming.{number_outward}
use Rattle.ce_model.specs.Subcubes.{node_of, is_inside, IsSubcube}
use Rattle.ce_machine.specs.Tables.{HostRecord, desk_at}

-- each desk changed so, by its number
pub record AreChanged (old_desks new_desks : List NodeRecord)
    (change : ℕ → NodeRecord → NodeRecord) : Type 0 where
  pub count : length new_desks ≡ length old_desks
  pub each : (node : ℕ) → node < length old_desks → desk_at new_desks node
      ≡ change node (desk_at old_desks node)

-- one desk changes
abbrev pub change_at_node : ℕ → (NodeRecord → NodeRecord) → ℕ → NodeRecord → NodeRecord
change_at_node r change node node_record = if r == node then change node_record else node_record

-- the desks of a subcube change
abbrev pub change_at_nodes : Subcube → (NodeRecord → NodeRecord) → ℕ → NodeRecord → NodeRecord
change_at_nodes sub change node node_record =
    if is_inside sub node then change node_record else node_record

-- a node has made an entry that isn't a Take
abbrev pub with_busy_mark : NodeRecord → NodeRecord
with_busy_mark node_record =
    record node_record { mark = record node_record.mark { is_idle = false } }

-- these items wait from now on
abbrev pub with_items : List Item → NodeRecord → NodeRecord
with_items items node_record =
    record node_record { waiting_items = node_record.waiting_items ++ items }

-- nothing waits any longer
abbrev pub without_items : NodeRecord → NodeRecord
without_items node_record = record node_record { waiting_items = [] }

-- all that waits at the nodes of a cube, in relative order
abbrev pub cube_items : List NodeRecord → (dim : ℕ) → Subcube → List Item
cube_items desks dim sub =
    flat_map (λ node. (desk_at desks node).waiting_items)
    (map (node_of sub) (range_with_len 0 (2 ^ dim)))

-- the start of a process waits from now on, and its id is used
abbrev pub with_start : (pid image : ℕ) → NodeRecord → NodeRecord
with_start pid image node_record = record node_record {
  waiting_items = node_record.waiting_items
      ++ start pid image ∷ [];
  spawned_ids = node_record.spawned_ids ++ pid ∷ [];
}

-- so does the end of a process, where a kill found it
abbrev pub with_kill : KillResult → ℕ → NodeRecord → NodeRecord
with_kill Killed pid node_record = record node_record {
  waiting_items = node_record.waiting_items
      ++ kill pid ∷ [];
  killed_ids = node_record.killed_ids ++ pid ∷ [];
}
with_kill other pid node_record = node_record

-- there is room for the start of a process, and for the end of one
abbrev pub HasStartRoom : NodeRecord → Type 0
HasStartRoom node_record = (length node_record.waiting_items < node_room)
    × (length node_record.spawned_ids < process_count)

abbrev pub HasKillRoom : NodeRecord → Type 0
HasKillRoom node_record =
    (length node_record.waiting_items < node_room) × (length node_record.killed_ids < process_count)

-- a subcube of a machine with so many nodes, none of which has the host's number
pub record IsOnDesks (count dim : ℕ) (sub : Subcube) : Type 0 where
  pub sub_is : IsSubcube greatest_dim dim sub
  pub small : dim ≤ greatest_dim
  pub within : (r : ℕ) → r < 2 ^ dim → node_of sub r < count
  pub few : count ≤ HOST

-- ---- messages

-- the message for the first of these places, from this place, with this number
abbrev pub letter : Place → ℕ → Place × Block → Item
letter from number target =
    mail (record { from = from; to = target.0; number = number; block = target.1 })

-- of a message to these places what comes to a node, which the machine knows by this number; or to
-- the host
abbrev pub letters : Subcube → Place → ℕ → List (Place × Block) → ℕ → List Item
letters sub from number [] node = []
letters sub from number (target ∷ targets) node =
    (if number_outward sub target.0.node == node then letter from number target ∷ [] else [])
    ++ letters sub from (number + 1) targets node

-- a place of a cube, or its host's, by the cube's numbers
abbrev pub IsInCube : ℕ → Place → Type 0
IsInCube dim to = ((to.node < 2 ^ dim) ⊎ (to.node ≡ HOST)) × (to.pid < process_count)

-- there is room at the desks and at the host's for a message to these places
pub record HasMailRoom (sub : Subcube) (from : Place) (number : ℕ) (targets : List (Place × Block))
    (desks : List NodeRecord) (host : HostRecord) : Type 0 where
  pub nodes : (node : ℕ) → node < length desks → length (desk_at desks node).waiting_items
      + length (letters sub from number targets node) ≤ node_room
  pub mail : length host.mail + length (letters sub from number targets HOST) ≤ mail_room
