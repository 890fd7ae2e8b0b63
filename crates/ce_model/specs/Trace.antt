-- The trace of a cube: what each of its entries sends, takes and counts. A trace is a list of
-- entries with the cube's own numbers for its nodes; HOST stands for the host wherever a node's
-- number does.
use Rattle.std.specs.Prelude.{ℕ, ◌+◌, Bool, true, false, not, ◌==◌, if◌then◌else◌, List, [], ◌∷◌, ◌++◌, length, map, filter, filter_map, flat_map, fold, Option, Some, None, option_map}
use Rattle.std.specs.List.{list_any}
use Rattle.ce_model.specs.declared.entry.Entry.{Entry}
use Rattle.ce_model.specs.declared.entry.What.{What}
use Rattle.ce_model.specs.declared.entry.What.TheVariants.{Arm, HostTake, Send, Spawn, Kill, Take}
use Rattle.ce_model.specs.declared.entry.KillResult.TheVariants.{Killed}
use Rattle.ce_model.specs.declared.entry.TakeResult.{TakeResult}
use Rattle.ce_model.specs.declared.entry.TakeResult.TheVariants.{Mail, Idle, Spent}
use Rattle.ce_model.specs.Parcels.{Parcel, Item, start, mail, kill, item_id, is_item, is_named_by, message_parcels}

-- ---- what an entry does

-- the parcels that an entry sends, one for each target
abbrev pub sent_parcels : ℕ → What → List Parcel
sent_parcels actor (Send pid first to bytes) =
    message_parcels (record { node = actor; pid = pid }) first bytes to
sent_parcels actor other = []

-- the starts that an entry sends to node r: of the process whose id it newly spawns there
abbrev pub starts_in : ℕ → What → List Item
starts_in r (Spawn pid image to true) = if to.node == r then start to.pid image ∷ [] else []
starts_in r other = []

-- the ends that an entry sends to node r: of the process there whose kill it accepts
abbrev pub kills_in : ℕ → What → List Item
kills_in r (Kill pid to Killed) = if to.node == r then kill to.pid ∷ [] else []
kills_in r other = []

-- the parcels that an entry sends to node r
abbrev pub mails_in : ℕ → Entry → List Item
mails_in r entry =
    map mail (filter (λ parcel. parcel.to.node == r) (sent_parcels entry.actor entry.what))

-- all that an entry sends to node r; it is of one kind
abbrev pub items_to : ℕ → Entry → List Item
items_to r entry = starts_in r entry.what ++ (kills_in r entry.what ++ mails_in r entry)

-- what an entry takes out of what waits for its actor, as it names it; a host's messages are for
-- process 0
abbrev pub taken_result : What → Option TakeResult
taken_result (Take asking dead poller given) = if is_item given then Some given else None
taken_result (HostTake number) = option_map (λ n. Mail 0 n) number
taken_result other = None

-- the ids on node r that an entry newly spawns, and those whose kill it accepts
abbrev pub start_ids_in : ℕ → What → List ℕ
start_ids_in r what = map item_id (starts_in r what)

abbrev pub kill_ids_in : ℕ → What → List ℕ
kill_ids_in r what = map item_id (kills_in r what)

-- a node is given work: an item, or leave to go on
abbrev pub is_work : TakeResult → Bool
is_work Idle = false
is_work Spent = false
is_work other = true

-- the dispatches that are allowed, once an entry is made
abbrev pub allowed_dispatches_after : ℕ → What → ℕ
allowed_dispatches_after count (Arm allowed) = allowed
allowed_dispatches_after count other = count

-- the dispatches made since they were allowed, once an entry is made
abbrev pub made_dispatches_after : ℕ → What → ℕ
made_dispatches_after count (Arm allowed) = 0
made_dispatches_after count (Take asking dead poller given) =
    if is_work given then count + 1 else count
made_dispatches_after count other = count

-- what is known of a node by its own entries: whether its last one is a Take answered Idle, or
-- there is none; and the sets of its last Take
pub record Mark : Type 0 where
  pub is_idle : Bool
  pub asking : ℕ
  pub dead : ℕ

-- the mark of a node without an entry
abbrev pub blank_mark : Mark
blank_mark = record { is_idle = true; asking = 0; dead = 0 }

abbrev pub is_idle : TakeResult → Bool
is_idle Idle = true
is_idle other = false

-- the mark of a node, once it has made an entry
abbrev pub mark_after : Mark → What → Mark
mark_after mark (Take asking dead poller given) =
    record { is_idle = is_idle given; asking = asking; dead = dead }
mark_after mark other = record mark { is_idle = false }

-- ---- what a trace leaves behind what its cube began with

-- what the machine keeps for a node: the items that wait there, the ids that were spawned and those
-- whose kill was accepted, and its mark
pub record NodeRecord : Type 0 where
  pub waiting_items : List Item
  pub spawned_ids : List ℕ
  pub killed_ids : List ℕ
  pub mark : Mark

-- what is kept for a node of which nothing is known
abbrev pub blank_record : NodeRecord
blank_record = record { waiting_items = []; spawned_ids = []; killed_ids = []; mark = blank_mark }

-- how a cube stands: what is kept for each node, and for the host; the dispatches that are allowed
-- and those made since; and how many parcels were sent
pub record Standing : Type 0 where
  pub node_record : ℕ → NodeRecord
  pub allowed_dispatches : ℕ
  pub made_dispatches : ℕ
  pub parcel_count : ℕ

-- all that was sent to node r: what waited for it at first, and what the trace sends
unfoldable pub sent_items : Standing → ℕ → List Entry → List Item
sent_items o r t = (o.node_record r).waiting_items ++ flat_map (items_to r) t

-- what node r has taken, as its entries name it
unfoldable pub taken_results : ℕ → List Entry → List TakeResult
taken_results r t =
    filter_map (λ entry. if entry.actor == r then taken_result entry.what else None) t

-- what waits at node r: what was sent to it, and what it has not taken
unfoldable pub waiting_items : Standing → ℕ → List Entry → List Item
waiting_items o r t = filter
    (λ item. not (list_any (λ given. is_named_by given item) (taken_results r t)))
    (sent_items o r t)

-- the ids that were spawned on node r, and those whose kill was accepted
unfoldable pub spawned_ids : Standing → ℕ → List Entry → List ℕ
spawned_ids o r t = (o.node_record r).spawned_ids ++ flat_map (λ entry. start_ids_in r entry.what) t

unfoldable pub killed_ids : Standing → ℕ → List Entry → List ℕ
killed_ids o r t = (o.node_record r).killed_ids ++ flat_map (λ entry. kill_ids_in r entry.what) t

-- the mark of node r
unfoldable pub mark : Standing → ℕ → List Entry → Mark
mark o r t = fold (λ now entry. if entry.actor == r then mark_after now entry.what else now)
    (o.node_record r).mark t

-- the dispatches that the last Arm allows, and those made since
unfoldable pub allowed_dispatches : Standing → List Entry → ℕ
allowed_dispatches o t =
    fold (λ count entry. allowed_dispatches_after count entry.what) o.allowed_dispatches t

unfoldable pub made_dispatches : Standing → List Entry → ℕ
made_dispatches o t =
    fold (λ count entry. made_dispatches_after count entry.what) o.made_dispatches t

-- the parcels that a trace sends, in order
unfoldable pub parcels : List Entry → List Parcel
parcels t = flat_map (λ entry. sent_parcels entry.actor entry.what) t

-- how the cube stands after a trace
abbrev pub standing : Standing → List Entry → Standing
standing o t = record {
  node_record = λ r. record {
    waiting_items = waiting_items o r t;
    spawned_ids = spawned_ids o r t;
    killed_ids = killed_ids o r t;
    mark = mark o r t;
  };
  allowed_dispatches = allowed_dispatches o t;
  made_dispatches = made_dispatches o t;
  parcel_count = o.parcel_count + length (parcels t);
}
