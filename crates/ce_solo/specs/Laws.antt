-- The laws of a cube, each in one line. A cube within the machine's limits goes on from any sound
-- state; a fresh cube's is one.
use Rattle.std.specs.Prelude.{◌≡◌, ◌⊎◌, ℕ, ◌^◌, ◌<◌, ◌≤◌, false, ◌==◌, List, [], ◌∷◌, ◌++◌, Contains, IfSome, IsTrue, Option, count_by}
use Rattle.std.specs.List.{AllByRecursion}
use Rattle.rv_model.specs.Image.{ImageParts}
use Rattle.ce_model.specs.declared.entry.Entry.{Entry}
use Rattle.ce_model.specs.declared.entry.What.TheVariants.{Take}
use Rattle.ce_model.specs.declared.entry.TakeResult.TheVariants.{Mail}
use Rattle.ce_model.specs.Limits.{greatest_dim, greatest_users}
use Rattle.ce_model.specs.Lists.{IsFront}
use Rattle.ce_model.specs.Parcels.{is_member}
use Rattle.ce_model.specs.Process.{is_stopped}
use Rattle.ce_model.specs.Node.{Node, process_at, blocks_of}
use Rattle.ce_model.specs.Saying.{says}
use Rattle.ce_model.specs.Hearing.{Hearing, mail_of, node_after_hearing}
use Rattle.ce_model.specs.Trace.{sent_items}
use Rattle.ce_model.specs.Cube.{Cube, IsCube, CubeState, opening, state_after_trace, rest, host_wishes, actors, IsAloneFrom, IsAlone}
use Rattle.ce_model.specs.Owners.{IsOwned, IsBlockOf}
use Rattle.ce_model.specs.Order.{IsInOrder}
use Rattle.ce_model.specs.Sound.{is_start_of, is_kill_of, IsSound}
use Rattle.ce_model.specs.Subcubes.{subcubes}
use Rattle.ce_model.specs.Renaming.{CubeGrant, node_outward, saying_outward, renamed_hearing, block_outward}
use Rattle.ce_model.specs.Views.{history_behind_grant, view}
use Rattle.ce_model.specs.Machine.{MachineParts, IsMachine, Request, is_alone, IsFitting, IsLawfulEntry, IsLawful, cube_of}

-- ---- a cube alone

-- this holds of every trace that a cube gives alone from a sound state
abbrev pub OfEachTrace : (Cube → CubeState → List Entry → Type 0) → Type 0
OfEachTrace P = (cube : Cube) (o : CubeState) (t : List Entry) → IsCube cube → IsSound cube o
    → IsAloneFrom cube o t → P cube o t

-- a fresh cube is sound
abbrev pub FreshIsSound : Type 0
FreshIsSound = (cube : Cube) → IsCube cube → IsSound cube (opening cube)

-- each block has exactly one owner, after every front of the trace
abbrev pub BlocksHaveOneOwner : Type 0
BlocksHaveOneOwner = OfEachTrace IsOwned

-- what any one got from another is a front of what that one sent it, after every front of the trace
abbrev pub MessagesAreInOrder : Type 0
MessagesAreInOrder = OfEachTrace (λ cube o t. IsInOrder o.standing t)

-- what a trace leaves is sound, so all that is said of a sound state holds after it
abbrev pub StatesStaySound : Type 0
StatesStaySound = OfEachTrace (λ cube o t. IsSound cube (state_after_trace cube o t))

-- an id has one start and one kill at most among all that was sent to its node
abbrev pub IsSentOnce : Cube → CubeState → List Entry → Type 0
IsSentOnce cube o t = (r pid : ℕ) → r < 2 ^ cube.dim
    → (count_by (is_start_of pid) (sent_items o.standing r t) ≤ 1)
    × (count_by (is_kill_of pid) (sent_items o.standing r t) ≤ 1)

-- a parcel that a Take was answered with was handed over, unless its receiver has stopped
abbrev pub IsHandedOver : Cube → CubeState → List Entry → Type 0
IsHandedOver cube o t =
    (before : List Entry) (r asking dead pid number user : ℕ) (poller : Option ℕ)
    → IsFront
    (before ++ record { user = user; actor = r; what = Take asking dead poller (Mail pid number) }
    ∷ []) t → r < 2 ^ cube.dim
    → IsTrue (is_member pid asking)
    ⊎ IsTrue (is_stopped (process_at (rest cube o r before) pid).status)

-- what the queues of a cube's nodes can hold
abbrev pub QueuesAreBounded : Type 0
QueuesAreBounded = OfEachTrace (λ cube o t. IsSentOnce cube o t × IsHandedOver cube o t)

-- a trace can be cut: the cube goes on with the second part from what the first part left
abbrev pub TracesGoOn : Type 0
TracesGoOn = OfEachTrace
    (λ cube o t. (s : List Entry) → IsAloneFrom cube (state_after_trace cube o t) s
    → IsAloneFrom cube o (t ++ s))

-- ---- the machine

-- the cube of each grant of a lawful history gives the grant's view alone
abbrev pub ViewsAreAlone : Type 0
ViewsAreAlone = (parts : MachineParts) (history : List Entry) (number : ℕ) → IsMachine parts
    → IsLawful parts history
    → IfSome (history_behind_grant history number)
    (λ grant_pair. IsAlone (cube_of parts.images grant_pair.0) (view history number))

-- the trace is one that the cube gives alone, in it each block has one owner, and what any one got
-- from another is a front of what was sent
abbrev pub IsLegalTrace : Cube → List Entry → Type 0
IsLegalTrace cube t =
    IsAlone cube t × IsOwned cube (opening cube) t × IsInOrder (opening cube).standing t

-- so is the view of each grant of a lawful history
abbrev pub LawfulIsLegal : Type 0
LawfulIsLegal = (parts : MachineParts) (history : List Entry) (number : ℕ) → IsMachine parts
    → IsLawful parts history
    → IfSome (history_behind_grant history number)
    (λ grant_pair. IsLegalTrace (cube_of parts.images grant_pair.0) (view history number))

-- two views of one cube are the same where their hosts were asked the same and their actors acted
-- in the same order, whatever the machines, where on them the cube lies, and what others did
abbrev pub AreSame : Cube → Cube → List Entry → List Entry → Type 0
AreSame cube cube' t t' =
    cube ≡ cube' → host_wishes t ≡ host_wishes t' → actors t ≡ actors t' → t ≡ t'

abbrev pub ViewsAreSame : Type 0
ViewsAreSame = (parts parts' : MachineParts) (history history' : List Entry) (number number' : ℕ)
    → IsMachine parts → IsMachine parts' → IsLawful parts history
    → IsLawful parts' history'
    → IfSome (history_behind_grant history number)
    (λ grant_pair. IfSome (history_behind_grant history' number') (λ grant_pair'.
    AreSame (cube_of parts.images grant_pair.0) (cube_of parts'.images grant_pair'.0)
    (view history number) (view history' number')))

-- an entry is of another user, or of another actor and not one that is made alone
abbrev pub IsForeign : ℕ → ℕ → Entry → Request → Type 0
IsForeign user actor entry request =
    ((entry.user == user) ≡ false) ⊎ (((entry.actor == actor) ≡ false) × (is_alone request ≡ false))

-- what fits a lawful history fits still behind one more lawful entry of another user, and behind
-- one of another actor that is not made alone
abbrev pub RequestsStillFit : Type 0
RequestsStillFit = (parts : MachineParts) (history : List Entry) (user actor : ℕ)
    (request : Request) (entry : Entry) → IsMachine parts → IsLawful parts history
    → IsFitting parts history user actor request → (lawful : IsLawfulEntry parts history entry)
    → IsForeign user actor entry lawful.request
    → IsFitting parts (history ++ entry ∷ []) user actor request

-- ---- names of blocks

-- a grant of a machine of this dimension
pub record IsGrant (dim : ℕ) (grant : CubeGrant) : Type 0 where
  pub within : dim ≤ greatest_dim
  pub user : grant.user < greatest_users
  pub sub : Contains (subcubes dim grant.dim) grant.sub

-- the blocks that a node holds and hears of are the cube's
abbrev pub IsNodeOf : ℕ → Node → Type 0
IsNodeOf dim node = AllByRecursion (IsBlockOf dim) (blocks_of node)

abbrev pub IsHearingOfCube : ℕ → Hearing → Type 0
IsHearingOfCube dim (mail_of parcel) = IsBlockOf dim parcel.block.id
IsHearingOfCube dim other = Unit {0}

-- a node with the machine's names for its blocks says and hears what the node with the cube's names
-- does, renamed
abbrev pub RenamedNodesAgree : Type 0
RenamedNodesAgree =
    (dim : ℕ) (grant : CubeGrant) (node : Node) → IsGrant dim grant → IsNodeOf grant.dim node
    → (says (node_outward grant node) ≡ saying_outward grant (says node))
    × ((images : List ImageParts) (hearing : Hearing) → IsHearingOfCube grant.dim hearing
    → node_after_hearing images (node_outward grant node)
    (renamed_hearing (block_outward grant) hearing)
    ≡ node_outward grant (node_after_hearing images node hearing))
