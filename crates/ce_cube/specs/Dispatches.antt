-- What a node of a cube does while others act beside it: by itself, whatever those do.
use Rattle.std.specs.Prelude.{◌≡◌, ℕ, ◌<◌, Bool, List, [], ◌++◌, length, map}
use Rattle.ce_model.specs.declared.entry.Entry.{Entry}
use Rattle.ce_model.specs.Node.{Call}
use Rattle.ce_model.specs.Subcubes.{node_of}
use Rattle.ce_model.specs.Renaming.{entry_inward}
use Rattle.ce_daemon.specs.declared.grant.Grant.{Grant}
use Rattle.rk_node.specs.Boxes.{Box}
use Rattle.ce_lock.specs.declared.limits.TheConstants.{HISTORY_LIMIT}
use Rattle.ce_machine.specs.Meanings.{MachineFacts}
use Rattle.ce_script.specs.Rounds.{IsTurn, has_work}
use Rattle.ce_script.specs.Moments.{AreCallsOfUser}
use Rattle.ce_cube.specs.Beside.{actor_entries, AreNotMadeAlone}
use Rattle.ce_cube.specs.Exchanges.{HasNode, IsBoxOfNode, HasExchanged}

-- the entries of node r of a grant among these
abbrev pub node_entries : Grant → ℕ → List Entry → List Entry
node_entries grant r entries = actor_entries grant.user (node_of grant.sub r) entries

-- The machine went on by the entries `added_entries`, of which `new_entries` are node r's, all
-- calls of its cube; none of `added_entries` is an entry of the user that is made alone. The
-- machine is within its limits, its history is lawful and shorter than `HISTORY_LIMIT`, and the
-- cube is held still.
pub record HasNodeGoneOnBeside (old_machine new_machine : MachineFacts) (grant : Grant) (r : ℕ)
    (added_entries new_entries : List Entry) : Type 0 where
  pub parts : new_machine.parts ≡ old_machine.parts
  pub history : new_machine.history ≡ old_machine.history ++ added_entries
  pub own : node_entries grant r added_entries ≡ new_entries
  pub beside : AreNotMadeAlone grant.user added_entries
  pub calls : AreCallsOfUser grant.user new_entries
  pub node : HasNode new_machine grant r
  pub few : length new_machine.history < HISTORY_LIMIT

-- the call of a box was answered behind entries of others, of which none is node r's
pub record HasExchangedWithOthers (old_machine new_machine : MachineFacts) (grant : Grant) (r : ℕ)
    (box box' : Box) (call : Call) (gives_work : Bool) : Type 0 where
  pub state_between : MachineFacts
  pub missed_entries : List Entry
  pub beside : HasNodeGoneOnBeside old_machine state_between grant r missed_entries []
  pub exchange : HasExchanged state_between new_machine grant r box box' call gives_work

-- A turn of node r is under way, while others act: node r has made these many entries so far, the
-- first a Take that gave work or none, and the box stands for the node.
pub record IsTurnAmongOthers (old_machine new_machine : MachineFacts) (grant : Grant) (r : ℕ)
    (box : Box) (gives_work : Bool) (count : ℕ) : Type 0 where
  pub added_entries : List Entry
  pub new_entries : List Entry
  pub goes_on : HasNodeGoneOnBeside old_machine new_machine grant r added_entries new_entries
  pub turn : IsTurn r (map (entry_inward grant.sub) new_entries)
  pub works : has_work (map (entry_inward grant.sub) new_entries) ≡ gives_work
  pub stands : IsBoxOfNode new_machine grant r box
  pub count_is : count ≡ length new_entries
