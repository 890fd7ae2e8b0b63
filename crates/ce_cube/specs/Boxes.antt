-- The boxes of a cube that is held, and the nodes for which they stand.
use Rattle.std.specs.Prelude.{◌≡◌, ◌⊎◌, ℕ, ◌^◌, ◌<◌, ◌==◌, false, IsTrue, List, [], ◌∷◌, ◌++◌, length, map, count_by, Some}
use Rattle.ce_model.specs.declared.entry.Entry.{Entry}
use Rattle.ce_model.specs.declared.entry.What.{What}
use Rattle.ce_model.specs.declared.entry.What.TheVariants.{Getcube, Drain}
use Rattle.ce_model.specs.declared.topology.TheConstants.{HOST}
use Rattle.ce_model.specs.declared.topology.BlockId.{BlockId}
use Rattle.ce_model.specs.Limits.{host_home, greatest_blocks}
use Rattle.ce_model.specs.Blocks.{with_id, is_same_id, blocks_of_home}
use Rattle.ce_model.specs.Parcels.{Parcel}
use Rattle.ce_model.specs.Node.{Node, opening_node, Call}
use Rattle.ce_model.specs.Saying.{says}
use Rattle.ce_model.specs.Cube.{opening, state, hoststore}
use Rattle.ce_model.specs.Subcubes.{node_of}
use Rattle.ce_model.specs.Renaming.{CubeGrant, block_outward, renamed_call_blocks, entry_inward, node_outward}
use Rattle.ce_model.specs.Views.{view}
use Rattle.ce_model.specs.Machine.{MachineParts, HeldCube, IsLawful, IsFitting, HasHeldCube, cube_request, what_of_request, after, cube_held_by, cube_standing, cube_of}
use Rattle.ce_model.specs.Literals.{host_entry}
use Rattle.rk_mail.specs.declared.talk.Hearing.{Hearing}
use Rattle.rk_mail.specs.Talk.{IsHearingOfEntry}
use Rattle.ce_script.specs.Rounds.{asks_for_work}

-- after this history the machine holds the cube of this number and this grant, and it wasn't
-- drained
pub record IsHeldAs (history : List Entry) (number : ℕ) (grant : CubeGrant) : Type 0 where
  pub cube : HeldCube
  pub held : cube_held_by (after history) grant.user ≡ Some cube
  pub number_is : cube.number ≡ number
  pub grant_is : cube.grant ≡ grant
  pub goes_on : cube.is_drained ≡ false

-- node r of this cube after its trace in the history
abbrev pub trace_node : MachineParts → List Entry → ℕ → CubeGrant → ℕ → Node
trace_node parts history number grant r = state (cube_of parts.images grant)
    (opening (cube_of parts.images grant)) r (view history number)

-- the blocks in its host's store, as the cube names them
abbrev pub trace_store : MachineParts → List Entry → ℕ → CubeGrant → List BlockId
trace_store parts history number grant =
    hoststore (opening (cube_of parts.images grant)) (view history number)

-- ---- boxes

-- a box has what a node is once its turn was run up to its next call, with the machine's names
abbrev pub IsAtRest : CubeGrant → Node → Node → Type 0
IsAtRest grant node box = box ≡ node_outward grant (says node).node

-- and that call asks for work
pub record IsInStep (grant : CubeGrant) (node box : Node) : Type 0 where
  pub at_rest : IsAtRest grant node box
  pub asks : IsTrue (asks_for_work (says node).call)

-- a box stands for a node: it has what the node is, or is in step with it
abbrev pub IsStandIn : CubeGrant → Node → Node → Type 0
IsStandIn grant node box = (box ≡ node_outward grant node) ⊎ IsInStep grant node box

-- all boxes of a cube, by relative number, are in step with its nodes
abbrev pub AreInStep : MachineParts → List Entry → ℕ → CubeGrant → (ℕ → Node) → Type 0
AreInStep parts history number grant box =
    (r : ℕ) → r < 2 ^ grant.dim → IsInStep grant (trace_node parts history number grant r) (box r)

-- ---- what a box says

-- what a box says that stands for node r is what the node says, with the machine's names; the call
-- fits, and a call that asks for work is said again
pub record IsSaidBy (parts : MachineParts) (history : List Entry) (number : ℕ) (grant : CubeGrant)
    (r : ℕ) (box : Node) : Type 0 where
  pub at_rest : IsAtRest grant (trace_node parts history number grant r) (says box).node
  pub call : (says box).call
      ≡ renamed_call_blocks (block_outward grant)
      (says (trace_node parts history number grant r)).call
  pub fits : IsFitting parts history grant.user (node_of grant.sub r) (cube_request (says box).call)
  pub again : IsTrue (asks_for_work (says box).call) → says (says box).node ≡ says box
  pub in_step : IsTrue (asks_for_work (says box).call)
      → IsInStep grant (trace_node parts history number grant r) (says box).node

-- ---- one entry more

-- the entry is the one that a call of this actor of the cube makes
pub record IsCubeCallEntry (parts : MachineParts) (history : List Entry) (grant : CubeGrant)
    (actor : ℕ) (call : Call) (entry : Entry) : Type 0 where
  pub user : entry.user ≡ grant.user
  pub actor_is : entry.actor ≡ actor
  pub what : what_of_request parts (after history) grant.user actor (cube_request call)
      ≡ Some entry.what

-- the entry is the next of this cube; an entry of a node leaves the others and the host's store as
-- they were, and one of the host all nodes
pub record IsNextCubeEntry (parts : MachineParts) (history : List Entry) (number : ℕ)
    (grant : CubeGrant) (entry : Entry) : Type 0 where
  pub lawful : IsLawful parts (history ++ entry ∷ [])
  pub held : IsHeldAs (history ++ entry ∷ []) number grant
  pub trace : view (history ++ entry ∷ []) number ≡ view history number
      ++ entry_inward grant.sub entry ∷ []
  pub others : (q r : ℕ) → q < 2 ^ grant.dim → entry.actor ≡ node_of grant.sub q → (q == r) ≡ false
      → trace_node parts (history ++ entry ∷ []) number grant r
      ≡ trace_node parts history number grant r
  pub all : entry.actor ≡ HOST → (r : ℕ) → r < 2 ^ grant.dim
      → trace_node parts (history ++ entry ∷ []) number grant r
      ≡ trace_node parts history number grant r
  pub store : (entry.actor == HOST) ≡ false → trace_store parts (history ++ entry ∷ []) number grant
      ≡ trace_store parts history number grant

-- node r hears so in answer to a call that made an entry of this
abbrev pub IsHearingOfNode : List Entry → CubeGrant → ℕ → What → Hearing → Type 0
IsHearingOfNode history grant r what hearing =
    HasHeldCube history grant.user
    (λ cube. IsHearingOfEntry
    ((cube_standing
    (after history) cube).node_record (node_of grant.sub r)).waiting_items what hearing)

-- the cube of this number and this grant is held on behind an entry that is none of its calls, with
-- the same trace
pub record IsAside (parts : MachineParts) (history : List Entry) (number : ℕ) (grant : CubeGrant)
    (entry : Entry) : Type 0 where
  pub lawful : IsLawful parts (history ++ entry ∷ [])
  pub held : IsHeldAs (history ++ entry ∷ []) number grant
  pub trace : view (history ++ entry ∷ []) number ≡ view history number
  pub nodes : (r : ℕ) → trace_node parts (history ++ entry ∷ []) number grant r
      ≡ trace_node parts history number grant r
  pub store : trace_store parts (history ++ entry ∷ []) number grant
      ≡ trace_store parts history number grant

-- ---- a cube that was just granted

-- the entry that grants a cube
abbrev pub grant_entry : CubeGrant → Entry
grant_entry grant = host_entry grant.user (Getcube grant.dim (Some grant.sub))

-- the cube is held as the next one, nothing is in its trace, its nodes are fresh, and boxes with
-- fresh nodes are in step with them
pub record IsBegun (parts : MachineParts) (history : List Entry) (grant : CubeGrant) : Type 0 where
  pub lawful : IsLawful parts (history ++ grant_entry grant ∷ [])
  pub held : IsHeldAs (history ++ grant_entry grant ∷ []) (after history).grant_count grant
  pub trace : view (history ++ grant_entry grant ∷ []) (after history).grant_count ≡ []
  pub nodes : (r : ℕ)
      → trace_node parts (history ++ grant_entry grant ∷ []) (after history).grant_count grant r
      ≡ opening_node r grant.dim (length parts.images)
  pub store : trace_store parts (history ++ grant_entry grant ∷ [])
      (after history).grant_count grant ≡ blocks_of_home host_home
  pub in_step : (r : ℕ)
      → IsInStep grant
      (trace_node parts (history ++ grant_entry grant ∷ []) (after history).grant_count grant r)
      (node_outward grant (opening_node r grant.dim (length parts.images)))

-- the entry that drains a cube
abbrev pub drain_entry : CubeGrant → Entry
drain_entry grant = host_entry grant.user Drain

-- ---- the host

-- a parcel that the host has taken is new to its store, which has room for it, and its block is in
-- the store behind the entry; with the machine's names
pub record IsAccepted (parts : MachineParts) (history : List Entry) (number : ℕ)
    (grant : CubeGrant) (entry : Entry) (parcel : Parcel) : Type 0 where
  pub new : count_by (is_same_id parcel.block.id)
      (map (block_outward grant) (trace_store parts history number grant)) ≡ 0
  pub room : length (trace_store parts history number grant) < greatest_blocks
  pub stored : map (block_outward grant) (trace_store parts (history ++ entry ∷ []) number grant)
      ≡ with_id parcel.block.id (map (block_outward grant) (trace_store parts history number grant))
