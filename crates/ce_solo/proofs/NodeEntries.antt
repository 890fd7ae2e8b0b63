-- An entry of a node that sends, spawns, kills or notes leaves a sound cube.
use Rattle.std.proofs.Common.{◌≡◌, ℕ, ◌+◌, ◌^◌, ◌<◌, ◌≤◌, Bool, true, false, not, ◌==◌, if◌then◌else◌, List, [], ◌∷◌, ◌++◌, length, refl, ap, sym, subst, arith}
use Rattle.std.proofs.lemmas.Bool.{ne_eqb, eqb-true, not-true}
use Rattle.ce_model.specs.declared.topology.TheConstants.{HOST}
use Rattle.ce_model.specs.declared.topology.Place.{Place}
use Rattle.ce_model.specs.declared.topology.BlockId.{BlockId}
use Rattle.ce_model.specs.declared.entry.Entry.{Entry}
use Rattle.ce_model.specs.declared.entry.What.{What}
use Rattle.ce_model.specs.declared.entry.What.TheVariants.{Spawn, Kill, Note}
use Rattle.ce_model.specs.declared.entry.KillResult.{KillResult}
use Rattle.ce_model.specs.declared.entry.KillResult.TheVariants.{Killed, Unused, Already}
use Rattle.ce_model.specs.Parcels.{Item, start, kill}
use Rattle.ce_model.specs.Node.{Node, blocks_of, is_place, spawn_call, kill_call, note_call}
use Rattle.ce_model.specs.Trace.{Mark, NodeRecord, allowed_dispatches_after, made_dispatches_after}
use Rattle.ce_model.specs.Answers.{is_among, kill_result}
use Rattle.ce_model.specs.Saying.{says}
use Rattle.ce_model.specs.Cube.{Cube, CubeState, IsCube}
use Rattle.ce_model.specs.Sound.{IsSoundNode, IsSoundHost, IsSound}
use Rattle.ce_solo.proofs.Counting.{count, count-nil}
use Rattle.ce_solo.proofs.Lists.{with_appended}
use Rattle.ce_solo.proofs.Items.{parcel_ids}
use Rattle.ce_solo.proofs.Nodes.{HasBecome, became-then}
use Rattle.ce_solo.proofs.Words.{HasMadeCall}
use Rattle.ce_solo.proofs.Says.{IsSaid, says-said}
use Rattle.ce_solo.proofs.Hears.{HasHeardAnswer, nothing-hears, told-hears}
use Rattle.ce_solo.proofs.Records.{record_with, is_unborn_id, HasStayedSound, keeps-same, numbered-more}
use Rattle.ce_solo.proofs.Totals.{count_at_node-is, at_node-le}
use Rattle.ce_solo.proofs.Sending.{not_host, place_parts, start-keeps, kill-keeps}
use Rattle.ce_solo.proofs.Entries.{cube_record_after, cube_node_after, state_after, well_of, sound_node-became}
use Rattle.ce_solo.proofs.Acts.{idle-goes, parcel_count_after, IsNodeAct, node-acts}

-- what a property of each Bool needs
of_both : (P : Bool → Type 0) → P true → P false → (b : Bool) → P b
of_both P t f true = t
of_both P t f false = f

pub host-more : (sent sent' : ℕ) (items : List Item) → sent ≤ sent' → IsSoundHost sent items → IsSoundHost sent' items
host-more sent sent' items more host = record { numbered = numbered-more sent sent' items more host.numbered; own = host.own }

-- what an accepted kill found
pub kill_accepted : (spawned killed : Bool) → (if not spawned then Unused else (if killed then Already else Killed)) ≡ Killed → (spawned ≡ true) × (killed ≡ false)
kill_accepted true true e = absurd (cc)
kill_accepted true false e = (refl, refl)
kill_accepted false killed e = absurd (cc)

module _ (cube : Cube) (s : CubeState) (r : ℕ) (of : IsCube cube) (below : r < 2 ^ cube.dim) (sound : IsSound cube s) where
  -- what is kept for a node, and the node that has made its call
  abbrev kept_at : ℕ → NodeRecord
  kept_at q = s.standing.node_record q

  abbrev now : Node
  now = (says (s.node r)).node

  abbrev entry_of : What → Entry
  entry_of what = record { user = cube.user; actor = r; what = what }

  pub once_here : (id : BlockId) → count id (blocks_of (s.node r)) + count id (parcel_ids (kept_at r).waiting_items) ≤ 1
  once_here id = omega (arith, count_at_node-is id s r, at_node-le cube s r id sound below)

  pub node-said : IsSaid (s.node r) (says (s.node r))
  node-said =
      says-said (s.node r) (well_of cube (kept_at r) r (s.node r) (sound.nodes r below) (λ id. omega (arith, once_here id))) (sound.nodes r below).turn

  -- the state of a node that hears of no block
  node_quiet : (node : Node) (gone : List BlockId) (node_record' : NodeRecord) → HasBecome (now).turn (s.node r) now [] gone → HasHeardAnswer now node []
      → ((pid : ℕ) → is_unborn_id node_record' pid ≡ is_unborn_id (kept_at r) pid) → IsSoundNode cube node_record' r node
  node_quiet node gone node_record' said heard same =
      sound_node-became cube (kept_at r) node_record' r (s.node r) node [] (gone ++ []) (sound.nodes r below) same
      (became-then said heard.became) heard.turn

  blocks_quiet : (node : Node) (gone : List BlockId) → HasBecome (now).turn (s.node r) now [] gone → HasHeardAnswer now node [] → (id : BlockId)
      → count id (blocks_of node) + count id gone ≡ count id (blocks_of (s.node r))
  blocks_quiet node gone said heard id = omega (arith, said.blocks id, heard.became.blocks id, count-nil id)

  -- an entry that moves no block
  quiet-acts : (what : What) → ((own : Bool) (q : ℕ) → q < 2 ^ cube.dim → HasStayedSound cube (parcel_count_after s r what) q (kept_at q) (cube_record_after own q (entry_of what) (kept_at q)) [] [])
      → (cube_record_after false HOST (entry_of what) (kept_at HOST)).waiting_items ≡ (kept_at HOST).waiting_items → made_dispatches_after s.standing.made_dispatches what ≤ allowed_dispatches_after s.standing.allowed_dispatches what
      → HasBecome (now).turn (s.node r) now [] [] → HasHeardAnswer now (cube_node_after true cube s r (entry_of what)) []
      → IsNodeAct cube s r what (λ id q. count id []) (λ id q. count id [])
  quiet-acts what keeps no_mail dispatches said heard = record {
    others = λ q within differ. idle-goes cube (parcel_count_after s r what) q (kept_at q) (cube_record_after false q (entry_of what) (kept_at q)) (s.node q) [] (λ id. count id []) (sound.nodes q within) count-nil (keeps false q within);
    own = record {
      record_sound = (keeps true r below).sound;
      node_sound = node_quiet (cube_node_after true cube s r (entry_of what)) [] (cube_record_after true r (entry_of what) (kept_at r)) said heard (keeps true r below).births;
      blocks = λ id. omega (arith, (keeps true r below).parcels id, blocks_quiet (cube_node_after true cube s r (entry_of what)) [] said heard id, count-nil id);
    };
    host = subst (IsSoundHost (parcel_count_after s r what)) (sym no_mail) (host-more s.standing.parcel_count (parcel_count_after s r what) (kept_at HOST).waiting_items (omega arith) sound.host);
    balance = λ id. omega (arith, ap (λ items. count id (parcel_ids items)) no_mail);
    dispatches = dispatches;
  }

  -- an entry that keeps each record, its actor's and those of others, and moves no block, leaves a
  -- sound cube
  pub quiet-entry : (what : What)
      → ((q : ℕ) → q < 2 ^ cube.dim → HasStayedSound cube (parcel_count_after s r what) q (kept_at q) (cube_record_after true q (entry_of what) (kept_at q)) [] [])
      → ((q : ℕ) → q < 2 ^ cube.dim → HasStayedSound cube (parcel_count_after s r what) q (kept_at q) (cube_record_after false q (entry_of what) (kept_at q)) [] [])
      → (cube_record_after false HOST (entry_of what) (kept_at HOST)).waiting_items ≡ (kept_at HOST).waiting_items → made_dispatches_after s.standing.made_dispatches what ≤ allowed_dispatches_after s.standing.allowed_dispatches what
      → HasBecome (now).turn (s.node r) now [] [] → HasHeardAnswer now (cube_node_after true cube s r (entry_of what)) [] → IsSound cube (state_after cube s (entry_of what))
  quiet-entry what own others no_mail dispatches said heard =
      node-acts cube s r what (λ id q. count id []) (λ id q. count id []) of below sound
      (quiet-acts what
      (of_both (λ own. (q : ℕ) → q < 2 ^ cube.dim → HasStayedSound cube (parcel_count_after s r what) q (kept_at q) (cube_record_after own q (entry_of what) (kept_at q)) [] []) own others)
      no_mail dispatches said heard)

  -- what is kept for a node of which an entry says nothing
  pub plain_keeps : (q : ℕ) (mark : Mark) → q < 2 ^ cube.dim
      → HasStayedSound cube (s.standing.parcel_count + 0) q (kept_at q) (record_with (kept_at q).waiting_items (kept_at q).spawned_ids (kept_at q).killed_ids mark) [] []
  plain_keeps q mark within = keeps-same cube s.standing.parcel_count (s.standing.parcel_count + 0) q (kept_at q) mark (omega arith) (sound.records q within)

  -- ---- notes

  pub notes-acts : (pid word : ℕ) → HasMadeCall (s.node r) now (note_call pid word) → IsSound cube (state_after cube s (entry_of (Note pid word)))
  notes-acts pid word said =
      quiet-entry (Note pid word) (λ q within. plain_keeps q _ within) (λ q within. plain_keeps q _ within)
      refl sound.dispatches said.became (nothing-hears cube.images now said.became.well said.turn)

  -- ---- spawns

  pub spawned-acts : (pid image : ℕ) (to : Place) (fresh : Bool) → not (is_among to.pid (kept_at to.node).spawned_ids) ≡ fresh → is_place cube.dim to ≡ true
      → image < length cube.images → HasMadeCall (s.node r) now (spawn_call pid image to) → IsSound cube (state_after cube s (entry_of (Spawn pid image to fresh)))
  spawned-acts pid image to false e place of_cube said =
      quiet-entry (Spawn pid image to false) (λ q within. plain_keeps q _ within) (λ q within. plain_keeps q _ within)
      refl sound.dispatches said.became (told-hears cube.images now 2 said.became.well said.turn)
  spawned-acts pid image to true e place of_cube said =
      let parts = place_parts cube.dim to place in
      let fresh : (q : ℕ) → (to.node == q) ≡ true → is_among to.pid (kept_at q).spawned_ids ≡ false =
      λ q t. subst (λ q. is_among to.pid (kept_at q).spawned_ids ≡ false) (eqb-true to.node q t) (not-true _ e) in
      quiet-entry (Spawn pid image to true)
      (λ q within. start-keeps cube s.standing.parcel_count q image to (kept_at q) _ (to.node == q) (sound.records q within) (fresh q) parts.1 of_cube)
      (λ q within. start-keeps cube s.standing.parcel_count q image to (kept_at q) _ (to.node == q) (sound.records q within) (fresh q) parts.1 of_cube)
      (ap (λ b. with_appended (kept_at HOST).waiting_items ((if b then start to.pid image ∷ [] else []) ++ [])) (ne_eqb to.node HOST (λ e. omega (arith, not_host cube to.node of parts.0))))
      sound.dispatches said.became (told-hears cube.images now 0 said.became.well said.turn)

  -- ---- kills

  pub killed-acts : (pid : ℕ) (to : Place) (found : KillResult) → kill_result (kept_at to.node) to.pid ≡ found → is_place cube.dim to ≡ true
      → HasMadeCall (s.node r) now (kill_call pid to) → IsSound cube (state_after cube s (entry_of (Kill pid to found)))
  killed-acts pid to Unused e place said =
      quiet-entry (Kill pid to Unused) (λ q within. plain_keeps q _ within) (λ q within. plain_keeps q _ within)
      refl sound.dispatches said.became (told-hears cube.images now 2 said.became.well said.turn)
  killed-acts pid to Already e place said =
      quiet-entry (Kill pid to Already) (λ q within. plain_keeps q _ within) (λ q within. plain_keeps q _ within)
      refl sound.dispatches said.became (told-hears cube.images now 3 said.became.well said.turn)
  killed-acts pid to Killed e place said =
      let parts = place_parts cube.dim to place in
      let found = kill_accepted (is_among to.pid (kept_at to.node).spawned_ids) (is_among to.pid (kept_at to.node).killed_ids) e in
      let known : (q : ℕ) → (to.node == q) ≡ true → is_among to.pid (kept_at q).spawned_ids ≡ true =
      λ q t. subst (λ q. is_among to.pid (kept_at q).spawned_ids ≡ true) (eqb-true to.node q t) found.0 in
      let fresh : (q : ℕ) → (to.node == q) ≡ true → is_among to.pid (kept_at q).killed_ids ≡ false =
      λ q t. subst (λ q. is_among to.pid (kept_at q).killed_ids ≡ false) (eqb-true to.node q t) found.1 in
      quiet-entry (Kill pid to Killed)
      (λ q within. kill-keeps cube s.standing.parcel_count q to (kept_at q) _ (to.node == q) (sound.records q within) (known q) (fresh q))
      (λ q within. kill-keeps cube s.standing.parcel_count q to (kept_at q) _ (to.node == q) (sound.records q within) (known q) (fresh q))
      (ap (λ b. with_appended (kept_at HOST).waiting_items ((if b then kill to.pid ∷ [] else []) ++ [])) (ne_eqb to.node HOST (λ e. omega (arith, not_host cube to.node of parts.0))))
      sound.dispatches said.became (told-hears cube.images now 0 said.became.well said.turn)
