-- One entry more: what a cube's state becomes by it, and what keeps that state sound.
use Rattle.std.proofs.Common.{◌≡◌, ℕ, ◌+◌, ◌^◌, ◌<◌, ◌≤◌, Bool, not, ◌==◌, if◌then◌else◌, List, filter, length, Option, Some, None, IfSome, sym, ◌∙◌, arith}
use Rattle.ce_model.specs.declared.topology.TheConstants.{HOST}
use Rattle.ce_model.specs.declared.topology.BlockId.{BlockId}
use Rattle.ce_model.specs.declared.entry.Entry.{Entry}
use Rattle.ce_model.specs.declared.entry.TakeResult.{TakeResult}
use Rattle.ce_model.specs.Parcels.{Item, is_named_by}
use Rattle.ce_model.specs.Node.{Node, Call, blocks_of}
use Rattle.ce_model.specs.Trace.{NodeRecord, Standing, items_to, taken_result, start_ids_in, kill_ids_in, sent_parcels, allowed_dispatches_after, made_dispatches_after, mark_after}
use Rattle.ce_model.specs.Saying.{says}
use Rattle.ce_model.specs.Hearing.{node_after_hearing}
use Rattle.ce_model.specs.Answers.{answer}
use Rattle.ce_model.specs.Cube.{Cube, CubeState, node_numbers, hearing_of_entry, store_after}
use Rattle.ce_model.specs.Sound.{IsSoundTurn, IsSoundNode, IsSoundRecord, IsSoundHost, AreRisingIds, IsSound}
use Rattle.ce_solo.proofs.Counting.{count, sum_run, sum_run-same, sum_run-add}
use Rattle.ce_solo.proofs.Lists.{with_appended}
use Rattle.ce_solo.proofs.Items.{parcel_ids}
use Rattle.ce_solo.proofs.Nodes.{IsWell, HasBecome}
use Rattle.ce_solo.proofs.Records.{record_with, is_unborn_id}
use Rattle.ce_solo.proofs.Totals.{count_at_node, count_at_node-is, total, total-is, owners-kept, blocks-kept}

-- ---- the state behind an entry

-- what waits behind an entry by which the node has taken this, and that sends it these items
abbrev pub waiting_after : Option TakeResult → List Item → List Item → List Item
waiting_after None items waiting = with_appended waiting items
waiting_after (Some given) items waiting = filter (λ item. not (is_named_by given item)) waiting

-- what is kept for node r behind an entry, that is its own or another's
abbrev pub cube_record_after : Bool → ℕ → Entry → NodeRecord → NodeRecord
cube_record_after own r entry node_record =
    record_with (waiting_after (if own then taken_result entry.what else None) (items_to r entry) node_record.waiting_items) (with_appended node_record.spawned_ids (start_ids_in r entry.what))
    (with_appended node_record.killed_ids (kill_ids_in r entry.what)) (if own then mark_after node_record.mark entry.what else node_record.mark)

abbrev pub cube_node_after : Bool → Cube → CubeState → ℕ → Entry → Node
cube_node_after own cube s r entry = if own then node_after_hearing cube.images (says (s.node r)).node (hearing_of_entry (s.standing.node_record r).waiting_items entry.what) else s.node r

abbrev pub standing_after : Standing → Entry → Standing
standing_after o entry = record {
  node_record = λ r. cube_record_after (entry.actor == r) r entry (o.node_record r);
  allowed_dispatches = allowed_dispatches_after o.allowed_dispatches entry.what;
  made_dispatches = made_dispatches_after o.made_dispatches entry.what;
  parcel_count = o.parcel_count + length (sent_parcels entry.actor entry.what);
}

abbrev pub state_after : Cube → CubeState → Entry → CubeState
state_after cube s entry = record {
  node = λ r. cube_node_after (entry.actor == r) cube s r entry;
  standing = standing_after s.standing entry;
  hoststore = if entry.actor == HOST then store_after (s.standing.node_record HOST).waiting_items s.hoststore entry.what else s.hoststore;
}

-- the entry that a call makes in this state
abbrev pub entry_in : Cube → CubeState → ℕ → Call → Entry
entry_in cube s actor call = record { user = cube.user; actor = actor; what = answer (node_numbers cube.dim) s.standing actor call }

-- ---- a node and what is kept for it

pub well_of : (cube : Cube) (node_record : NodeRecord) (r : ℕ) (node : Node) → IsSoundNode cube node_record r node → ((id : BlockId) → count id (blocks_of node) ≤ 1) → IsWell node.turn node
well_of cube node_record r node sound once = record {
  process_ids = sound.process_ids;
  processes = λ pid h. let p = sound.processes pid h in
      record { registers = p.registers; windows = p.windows; unborn_used = p.unborn_used; stopped_holds = p.stopped_holds; running = p.running };
  polling_ids = sound.polling_ids;
  store = sound.store;
  once = once;
}

-- a node that has become another is sound still, by what is kept now
pub sound_node-became : (cube : Cube) (node_record node_record' : NodeRecord) (r : ℕ) (node node' : Node) (come gone : List BlockId) → IsSoundNode cube node_record r node
    → ((pid : ℕ) → is_unborn_id node_record' pid ≡ is_unborn_id node_record pid) → HasBecome node'.turn node node' come gone → IfSome node'.turn IsSoundTurn → IsSoundNode cube node_record' r node'
sound_node-became cube node_record node_record' r node node' come gone sound same became turn = record {
  number = became.number ∙ sound.number;
  dim = became.dim ∙ sound.dim;
  home = became.home ∙ sound.home;
  images = became.images ∙ sound.images;
  process_ids = became.well.process_ids;
  processes = λ pid h. let p = became.well.processes pid h in
      record {
        registers = p.registers;
        windows = p.windows;
        unborn = became.unborn pid ∙ (sound.processes pid h).unborn ∙ sym (same pid);
        unborn_used = p.unborn_used;
        stopped_holds = p.stopped_holds;
        running = p.running;
      };
  polling_ids = became.well.polling_ids;
  turn = turn;
  store = became.well.store;
}

pub sound_node-same : (cube : Cube) (node_record node_record' : NodeRecord) (r : ℕ) (node : Node) → IsSoundNode cube node_record r node
    → ((pid : ℕ) → is_unborn_id node_record' pid ≡ is_unborn_id node_record pid) → IsSoundNode cube node_record' r node
sound_node-same cube node_record node_record' r node sound same = record {
  number = sound.number;
  dim = sound.dim;
  home = sound.home;
  images = sound.images;
  process_ids = sound.process_ids;
  processes = λ pid h. let p = sound.processes pid h in
      record {
        registers = p.registers;
        windows = p.windows;
        unborn = p.unborn ∙ sym (same pid);
        unborn_used = p.unborn_used;
        stopped_holds = p.stopped_holds;
        running = p.running;
      };
  polling_ids = sound.polling_ids;
  turn = sound.turn;
  store = sound.store;
}

-- what a step makes of a node and of what is kept for it: both stay sound, and blocks came and went
pub record IsNodeStep (cube : Cube) (sent' r : ℕ) (node_record node_record' : NodeRecord) (node node' : Node) (come gone : BlockId → ℕ) : Type 0 where
  pub record_sound : IsSoundRecord cube sent' r node_record'
  pub node_sound : IsSoundNode cube node_record' r node'
  pub blocks : (id : BlockId)
      → count id (blocks_of node') + count id (parcel_ids node_record'.waiting_items) + gone id ≡ count id (blocks_of node) + count id (parcel_ids node_record.waiting_items) + come id

-- ---- the cube

-- what a step makes of a cube: its nodes stay sound, and so do its host's parcels and store; as
-- many blocks came as went
pub record IsCubeStep (cube : Cube) (s s' : CubeState) (come gone : BlockId → ℕ → ℕ) : Type 0 where
  pub nodes : (r : ℕ) → r < 2 ^ cube.dim
      → IsNodeStep cube s'.standing.parcel_count r (s.standing.node_record r) (s'.standing.node_record r) (s.node r) (s'.node r) (λ id. come id r) (λ id. gone id r)
  pub host : IsSoundHost s'.standing.parcel_count (s'.standing.node_record HOST).waiting_items
  pub hoststore : AreRisingIds s'.hoststore
  pub balance : (id : BlockId)
      → sum_run (come id) 0 (2 ^ cube.dim) + count id (parcel_ids (s'.standing.node_record HOST).waiting_items) + count id s'.hoststore
      ≡ sum_run (gone id) 0 (2 ^ cube.dim) + count id (parcel_ids (s.standing.node_record HOST).waiting_items) + count id s.hoststore
  pub dispatches : s'.standing.made_dispatches ≤ s'.standing.allowed_dispatches

total-goes : (cube : Cube) (s s' : CubeState) (come gone : BlockId → ℕ → ℕ) (id : BlockId) → IsCubeStep cube s s' come gone → total id cube.dim s' ≡ total id cube.dim s
total-goes cube s s' come gone id goes =
    let n = 2 ^ cube.dim in
    let each : sum_run (λ r. count_at_node id s' r + gone id r) 0 n ≡ sum_run (λ r. count_at_node id s r + come id r) 0 n =
    sum_run-same (λ r. count_at_node id s' r + gone id r) (λ r. count_at_node id s r + come id r) 0 n
    (λ r low high. omega (arith, (goes.nodes r (omega arith)).blocks id, count_at_node-is id s' r, count_at_node-is id s r)) in
    omega (arith, each, goes.balance id, total-is id cube.dim s', total-is id cube.dim s, sum_run-add (count_at_node id s') (gone id) 0 n, sum_run-add (count_at_node id s) (come id) 0 n)

pub sound-goes : (cube : Cube) (s s' : CubeState) (come gone : BlockId → ℕ → ℕ) → IsSound cube s → IsCubeStep cube s s' come gone → IsSound cube s'
sound-goes cube s s' come gone sound goes = record {
  nodes = λ r h. (goes.nodes r h).node_sound;
  records = λ r h. (goes.nodes r h).record_sound;
  host = goes.host;
  hoststore = goes.hoststore;
  owners = owners-kept cube s s' sound (λ id. total-goes cube s s' come gone id goes);
  blocks = blocks-kept cube s s' sound (λ id. total-goes cube s s' come gone id goes);
  dispatches = goes.dispatches;
}
