-- An entry of an actor, put together: what it makes of each node and of the host leaves a sound
-- cube.
use Rattle.std.proofs.Common.{◌≡◌, ℕ, ◌+◌, ◌^◌, ◌<◌, ◌≤◌, true, false, ◌==◌, if◌then◌else◌, List, [], length, refl, sym, subst, arith, inl, inr}
use Rattle.std.proofs.lemmas.Bool.{cases_Bool, ne_eqb, eqb-true, eqb-false}
use Rattle.ce_model.specs.declared.topology.TheConstants.{HOST}
use Rattle.ce_model.specs.declared.topology.BlockId.{BlockId}
use Rattle.ce_model.specs.declared.entry.Entry.{Entry}
use Rattle.ce_model.specs.declared.entry.What.{What}
use Rattle.ce_model.specs.Node.{Node}
use Rattle.ce_model.specs.Trace.{NodeRecord, sent_parcels, allowed_dispatches_after, made_dispatches_after}
use Rattle.ce_model.specs.Cube.{Cube, CubeState, IsCube, store_after}
use Rattle.ce_model.specs.Sound.{IsSoundNode, IsSoundHost, AreRisingIds, IsSound}
use Rattle.ce_solo.proofs.Counting.{count, count-nil, sum_run, sum_run-zero}
use Rattle.ce_solo.proofs.Items.{parcel_ids}
use Rattle.ce_solo.proofs.Records.{HasStayedSound}
use Rattle.ce_solo.proofs.Sending.{not_host}
use Rattle.ce_solo.proofs.Entries.{cube_record_after, cube_node_after, state_after, sound_node-same, IsNodeStep, sound-goes}

-- a node that does nothing, and for which blocks come
pub idle-goes : (cube : Cube) (sent' r : ℕ) (node_record node_record' : NodeRecord) (node : Node) (come : List BlockId) (gone : BlockId → ℕ) → IsSoundNode cube node_record r node
    → ((id : BlockId) → gone id ≡ 0) → HasStayedSound cube sent' r node_record node_record' come [] → IsNodeStep cube sent' r node_record node_record' node node (λ id. count id come) gone
idle-goes cube sent' r node_record node_record' node come gone sound none keeps = record {
  record_sound = keeps.sound;
  node_sound = sound_node-same cube node_record node_record' r node sound keeps.births;
  blocks = λ id. omega (arith, keeps.parcels id, none id, count-nil id);
}

-- how many parcels were sent, once an actor's entry is made
abbrev pub parcel_count_after : CubeState → ℕ → What → ℕ
parcel_count_after s actor what = s.standing.parcel_count + length (sent_parcels actor what)

-- what an entry of node r makes of its cube
pub record IsNodeAct (cube : Cube) (s : CubeState) (r : ℕ) (what : What) (come gone : BlockId → ℕ → ℕ) : Type 0 where
  pub others : (q : ℕ) → q < 2 ^ cube.dim → (r ≡ q → ⊥)
      → IsNodeStep cube (parcel_count_after s r what) q (s.standing.node_record q) (cube_record_after false q (record { user = cube.user; actor = r; what = what }) (s.standing.node_record q))
      (s.node q) (s.node q) (λ id. come id q) (λ id. gone id q)
  pub own : IsNodeStep cube (parcel_count_after s r what) r (s.standing.node_record r) (cube_record_after true r (record { user = cube.user; actor = r; what = what }) (s.standing.node_record r))
      (s.node r) (cube_node_after true cube s r (record { user = cube.user; actor = r; what = what })) (λ id. come id r) (λ id. gone id r)
  pub host : IsSoundHost (parcel_count_after s r what) (cube_record_after false HOST (record { user = cube.user; actor = r; what = what }) (s.standing.node_record HOST)).waiting_items
  pub balance : (id : BlockId)
      → sum_run (come id) 0 (2 ^ cube.dim)
      + count id (parcel_ids (cube_record_after false HOST (record { user = cube.user; actor = r; what = what }) (s.standing.node_record HOST)).waiting_items)
      ≡ sum_run (gone id) 0 (2 ^ cube.dim) + count id (parcel_ids (s.standing.node_record HOST).waiting_items)
  pub dispatches : made_dispatches_after s.standing.made_dispatches what ≤ allowed_dispatches_after s.standing.allowed_dispatches what

pub node-acts : (cube : Cube) (s : CubeState) (r : ℕ) (what : What) (come gone : BlockId → ℕ → ℕ) → IsCube cube → r < 2 ^ cube.dim → IsSound cube s
    → IsNodeAct cube s r what come gone → IsSound cube (state_after cube s (record { user = cube.user; actor = r; what = what }))
node-acts cube s r what come gone of below sound acts =
    let entry : Entry = record { user = cube.user; actor = r; what = what } in
    let no_host : (r == HOST) ≡ false = ne_eqb r HOST (λ e. omega (arith, not_host cube r of below)) in
    sound-goes cube s (state_after cube s entry) come gone sound (record {
      nodes = λ q within. elim (cases_Bool (r == q)) [
        | inl t ↦
            subst (λ b. IsNodeStep cube (parcel_count_after s r what) q (s.standing.node_record q) (cube_record_after b q entry (s.standing.node_record q)) (s.node q) (cube_node_after b cube s q entry) (λ id. come id q) (λ id. gone id q)) (sym t)
            (subst (λ q. IsNodeStep cube (parcel_count_after s r what) q (s.standing.node_record q) (cube_record_after true q entry (s.standing.node_record q)) (s.node q) (cube_node_after true cube s q entry) (λ id. come id q) (λ id. gone id q)) (eqb-true r q t) acts.own)
        | inr f ↦
            subst (λ b. IsNodeStep cube (parcel_count_after s r what) q (s.standing.node_record q) (cube_record_after b q entry (s.standing.node_record q)) (s.node q) (cube_node_after b cube s q entry) (λ id. come id q) (λ id. gone id q)) (sym f)
            (acts.others q within (eqb-false r q f))
      ];
      host = subst (λ b. IsSoundHost (parcel_count_after s r what) (cube_record_after b HOST entry (s.standing.node_record HOST)).waiting_items) (sym no_host) acts.host;
      hoststore = subst (λ b. AreRisingIds (if b then store_after (s.standing.node_record HOST).waiting_items s.hoststore what else s.hoststore)) (sym no_host) sound.hoststore;
      balance = subst (λ b. (id : BlockId)
          → sum_run (come id) 0 (2 ^ cube.dim) + count id (parcel_ids (cube_record_after b HOST entry (s.standing.node_record HOST)).waiting_items)
          + count id (if b then store_after (s.standing.node_record HOST).waiting_items s.hoststore what else s.hoststore)
          ≡ sum_run (gone id) 0 (2 ^ cube.dim) + count id (parcel_ids (s.standing.node_record HOST).waiting_items) + count id s.hoststore) (sym no_host)
          (λ id. omega (arith, acts.balance id));
      dispatches = acts.dispatches;
    })

-- what an entry of the host makes of its cube
pub record IsHostAct (cube : Cube) (s : CubeState) (what : What) (come : BlockId → ℕ → ℕ) : Type 0 where
  pub nodes : (q : ℕ) → q < 2 ^ cube.dim
      → IsNodeStep cube (parcel_count_after s HOST what) q (s.standing.node_record q) (cube_record_after false q (record { user = cube.user; actor = HOST; what = what }) (s.standing.node_record q))
      (s.node q) (s.node q) (λ id. come id q) (λ id. 0)
  pub host : IsSoundHost (parcel_count_after s HOST what) (cube_record_after true HOST (record { user = cube.user; actor = HOST; what = what }) (s.standing.node_record HOST)).waiting_items
  pub store : AreRisingIds (store_after (s.standing.node_record HOST).waiting_items s.hoststore what)
  pub balance : (id : BlockId)
      → sum_run (come id) 0 (2 ^ cube.dim)
      + count id (parcel_ids (cube_record_after true HOST (record { user = cube.user; actor = HOST; what = what }) (s.standing.node_record HOST)).waiting_items)
      + count id (store_after (s.standing.node_record HOST).waiting_items s.hoststore what)
      ≡ count id (parcel_ids (s.standing.node_record HOST).waiting_items) + count id s.hoststore
  pub dispatches : made_dispatches_after s.standing.made_dispatches what ≤ allowed_dispatches_after s.standing.allowed_dispatches what

pub host-acts : (cube : Cube) (s : CubeState) (what : What) (come : BlockId → ℕ → ℕ) → IsCube cube → IsSound cube s
    → IsHostAct cube s what come → IsSound cube (state_after cube s (record { user = cube.user; actor = HOST; what = what }))
host-acts cube s what come of sound acts =
    let entry : Entry = record { user = cube.user; actor = HOST; what = what } in
    sound-goes cube s (state_after cube s entry) come (λ id q. 0) sound (record {
      nodes = λ q within.
          let other : (HOST == q) ≡ false = ne_eqb HOST q (λ e. omega (arith, not_host cube q of within)) in
          subst (λ b. IsNodeStep cube (parcel_count_after s HOST what) q (s.standing.node_record q) (cube_record_after b q entry (s.standing.node_record q)) (s.node q) (cube_node_after b cube s q entry) (λ id. come id q) (λ id. 0)) (sym other)
          (acts.nodes q within);
      host = acts.host;
      hoststore = acts.store;
      balance = λ id. omega (arith, acts.balance id, sum_run-zero (λ q. 0) 0 (2 ^ cube.dim) (λ k low high. refl));
      dispatches = acts.dispatches;
    })
