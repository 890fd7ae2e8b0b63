-- An entry of a node that sends parcels leaves a sound cube.
use Rattle.std.proofs.Common.{◌≡◌, ℕ, ◌+◌, ◌^◌, ◌<◌, Bool, true, false, ◌==◌, if◌then◌else◌, List, [], ◌++◌, map, length, refl, ap, sym, ◌∙◌, subst, arith, inl, inr}
use Rattle.std.proofs.lemmas.Bool.{eq-eqb, ne_eqb, or_cases}
use Rattle.ce_model.specs.declared.calls.TheConstants.{DONE}
use Rattle.ce_model.specs.declared.topology.TheConstants.{HOST}
use Rattle.ce_model.specs.declared.topology.Place.{Place}
use Rattle.ce_model.specs.declared.topology.BlockId.{BlockId}
use Rattle.ce_model.specs.declared.entry.What.{What}
use Rattle.ce_model.specs.declared.entry.What.TheVariants.{Send}
use Rattle.ce_model.specs.Parcels.{Parcel, mail, message_parcels}
use Rattle.ce_model.specs.Node.{Node, is_place, is_host_place, send_call}
use Rattle.ce_model.specs.Kernel.{is_target}
use Rattle.ce_model.specs.Trace.{Mark, mark_after}
use Rattle.ce_model.specs.Saying.{says}
use Rattle.ce_model.specs.Hearing.{answer_of, node_after_hearing}
use Rattle.ce_model.specs.Cube.{Cube, CubeState, IsCube}
use Rattle.ce_model.specs.Sound.{IsSound}
use Rattle.ce_solo.proofs.Counting.{count, count-nil, count-append, sum_run-at}
use Rattle.ce_solo.proofs.Lists.{all-weaker, with_appended, with_appended-is}
use Rattle.ce_solo.proofs.Items.{parcel_ids}
use Rattle.ce_solo.proofs.Nodes.{became-then}
use Rattle.ce_solo.proofs.Words.{call_ids, HasMadeCall}
use Rattle.ce_solo.proofs.Hears.{told-hears}
use Rattle.ce_solo.proofs.Records.{record_with, HasStayedSound, keeps-mails, mails-ids}
use Rattle.ce_solo.proofs.Sending.{IsTargetOf, is_host, sent_ids, node_parcels, from-ids, are_sent, sent-new, sent-host, sent-sum}
use Rattle.ce_solo.proofs.Entries.{cube_record_after, state_after, sound_node-became}
use Rattle.ce_solo.proofs.Acts.{idle-goes, node-acts}

-- a target of a node's call is one of its cube
pub target_of : (cube : Cube) (node : Node) (to : Place) → node.dim ≡ cube.dim → is_target node to ≡ true → IsTargetOf cube to
target_of cube node to same h =
    elim (or_cases (is_place node.dim to) (is_host_place to) h) [
      | inl place ↦ inl (subst (λ dim. is_place dim to ≡ true) same place)
      | inr host ↦ inr (is_host to host)
    ]

module _ (cube : Cube) (s : CubeState) (r : ℕ) (of : IsCube cube) (below : r < 2 ^ cube.dim) (sound : IsSound cube s) (pid : ℕ) (to : List (Place × BlockId)) (bytes : List ℕ) where
  abbrev now : Node
  now = (says (s.node r)).node

  abbrev ps : List Parcel
  ps = message_parcels (record { node = r; pid = pid }) s.standing.parcel_count bytes to

  abbrev what : What
  what = Send pid s.standing.parcel_count to bytes

  -- the blocks that the call takes out of its own node
  abbrev gone : BlockId → ℕ → ℕ
  gone id q = if r == q then count id (call_ids (send_call pid to bytes)) else 0

  abbrev come : BlockId → ℕ → ℕ
  come id q = count id (sent_ids (node_parcels q ps))

  sends-own : (b : Bool) → b ≡ true → (n : ℕ) → (if b then n else 0) ≡ n
  sends-own b t n = ap {B = ℕ} (λ b. if b then n else 0) t

  sends-other : (b : Bool) → b ≡ false → (n : ℕ) → (if b then n else 0) ≡ 0
  sends-other b f n = ap {B = ℕ} (λ b. if b then n else 0) f

  pub sends-acts : HasMadeCall (s.node r) now (send_call pid to bytes) → IsSound cube (state_after cube s (record { user = cube.user; actor = r; what = what }))
  sends-acts said =
      let same : now.dim ≡ cube.dim = said.became.dim ∙ (sound.nodes r below).dim in
      let are = are_sent cube (record { node = r; pid = pid }) s.standing.parcel_count bytes to
      (all-weaker (λ (target : Place × BlockId). is_target now target.0 ≡ true) (λ target. IsTargetOf cube target.0) to (λ target h. target_of cube now target.0 same h) said.of_node) in
      let sent' = s.standing.parcel_count + length ps in
      let keeps : (q : ℕ) (mark : Mark) → q < 2 ^ cube.dim
      → HasStayedSound cube sent' q (s.standing.node_record q) (record_with (with_appended (s.standing.node_record q).waiting_items (map mail (node_parcels q ps))) (s.standing.node_record q).spawned_ids (s.standing.node_record q).killed_ids mark) (sent_ids (node_parcels q ps)) [] =
      λ q mark within. keeps-mails cube s.standing.parcel_count sent' q (s.standing.node_record q) mark (node_parcels q ps) are.more (sound.records q within) (sent-new cube s.standing.parcel_count sent' ps of are q within) in
      let heard = told-hears cube.images now 0 said.became.well said.turn in
      let node = node_after_hearing cube.images now (answer_of DONE) in
      let mine = keeps r (mark_after (s.standing.node_record r).mark what) below in
      let both = became-then said.became heard.became in
      node-acts cube s r what come gone of below sound (record {
        others = λ q within differ.
            idle-goes cube sent' q (s.standing.node_record q) (cube_record_after false q (record { user = cube.user; actor = r; what = what }) (s.standing.node_record q)) (s.node q) (sent_ids (node_parcels q ps))
            (λ id. gone id q) (sound.nodes q within) (λ id. sends-other (r == q) (ne_eqb r q differ) (count id (call_ids (send_call pid to bytes)))) (keeps q (s.standing.node_record q).mark within);
        own = record {
          record_sound = mine.sound;
          node_sound = sound_node-became cube (s.standing.node_record r) (cube_record_after true r (record { user = cube.user; actor = r; what = what }) (s.standing.node_record r)) r (s.node r) node [] (call_ids (send_call pid to bytes) ++ []) (sound.nodes r below) mine.births both heard.turn;
          blocks = λ id. omega (arith, mine.parcels id, both.blocks id, count-nil id, count-append id (call_ids (send_call pid to bytes)) [], sends-own (r == r) (eq-eqb r r refl) (count id (call_ids (send_call pid to bytes))));
        };
        host = sent-host cube s.standing.parcel_count sent' ps of are (s.standing.node_record HOST).waiting_items sound.host;
        balance = λ id.
            let sum = sent-sum cube id ps of are.targets in
            let left = sum_run-at (gone id) r 0 (2 ^ cube.dim) (omega arith) (omega arith) (λ k differ. sends-other (r == k) (ne_eqb r k (λ e. differ (sym e))) (count id (call_ids (send_call pid to bytes)))) in
            omega (
              arith,
              sum,
              left,
              sends-own (r == r) (eq-eqb r r refl) (count id (call_ids (send_call pid to bytes))),
              ap (count id) (from-ids (record { node = r; pid = pid }) bytes s.standing.parcel_count to),
              ap (λ items. count id (parcel_ids items)) (with_appended-is (s.standing.node_record HOST).waiting_items (map mail (node_parcels HOST ps))),
              ap (count id) (mails-ids (s.standing.node_record HOST).waiting_items (node_parcels HOST ps)),
              count-append id (parcel_ids (s.standing.node_record HOST).waiting_items) (sent_ids (node_parcels HOST ps)),
            );
        dispatches = sound.dispatches;
      })
