-- An entry of the host leaves a sound cube.
use Rattle.std.proofs.Common.{◌≡◌, ℕ, ◌+◌, ◌^◌, ◌<◌, ◌≤◌, Bool, true, false, not, ◌&&◌, ◌==◌, nat_lt, if◌then◌else◌, List, [], ◌∷◌, ◌++◌, find, map, filter, length, slice_get, Option, Some, None, option_map, option_and_then, refl, ap, sym, ◌∙◌, subst, arith, inl}
use Rattle.std.specs.List.{AllByRecursion}
use Rattle.std.proofs.lemmas.Bool.{eq-eqb, ne_eqb, eqb-true, ltb-true, and_parts, not-true}
use Rattle.ce_model.specs.declared.topology.TheConstants.{HOST}
use Rattle.ce_model.specs.declared.topology.Place.{Place}
use Rattle.ce_model.specs.declared.topology.BlockId.{BlockId}
use Rattle.ce_model.specs.declared.entry.Entry.{Entry}
use Rattle.ce_model.specs.declared.entry.What.{What}
use Rattle.ce_model.specs.declared.entry.What.TheVariants.{Arm, Look, HostTake, Send, Spawn, Kill}
use Rattle.ce_model.specs.declared.entry.LookResult.{LookResult}
use Rattle.ce_model.specs.declared.entry.TakeResult.TheVariants.{Mail}
use Rattle.ce_model.specs.declared.entry.KillResult.{KillResult}
use Rattle.ce_model.specs.declared.entry.KillResult.TheVariants.{Killed, Unused, Already}
use Rattle.ce_model.specs.Blocks.{without_id, with_id}
use Rattle.ce_model.specs.Parcels.{Parcel, Item, start, mail, kill, is_named_by, parcel_in, message_parcels}
use Rattle.ce_model.specs.Node.{is_place, Call, send_call, spawn_call, kill_call, arm_call, look_call, mail_call}
use Rattle.ce_model.specs.Trace.{NodeRecord, made_dispatches_after, allowed_dispatches_after}
use Rattle.ce_model.specs.Answers.{is_among, kill_result, first_number, look_result_where, is_quiet, is_used_up, answer}
use Rattle.ce_model.specs.Cube.{Cube, CubeState, IsCube, node_numbers, Wish, send_wish, spawn_wish, kill_wish, arm_wish, look_wish, mail_wish, call_of_wish, store_after, with_parcel, parcel_numbered}
use Rattle.ce_model.specs.Sound.{IsHostItem, IsSoundHost, IsSound, AreRisingIds}
use Rattle.ce_solo.proofs.Counting.{hit, hit-self, count, count-nil, count-one, count-cons, count-append, count-put, rising-put, same_id-self, sum_run-zero}
use Rattle.ce_solo.proofs.Lists.{all-filter, with_appended, with_appended-is, find-out}
use Rattle.ce_solo.proofs.Items.{parcel_ids, ids-append, all_numbers-filter, rising-filter, named-mail}
use Rattle.ce_solo.proofs.Records.{HasStayedSound, record_with, keeps-same, keeps-mails, mails-ids}
use Rattle.ce_solo.proofs.Totals.{total-is, total-le}
use Rattle.ce_solo.proofs.Sending.{not_host, place_parts, sent_ids, node_parcels, are_sent, sent-new, sent-host, sent-sum, start-keeps, kill-keeps}
use Rattle.ce_solo.proofs.Entries.{cube_record_after, state_after, entry_in}
use Rattle.ce_solo.proofs.Acts.{idle-goes, parcel_count_after, host-acts}
use Rattle.ce_solo.proofs.NodeEntries.{host-more, kill_accepted}

without_first-name : (id : BlockId) (rest : List BlockId) → without_id id (id ∷ rest) ≡ rest
without_first-name id rest = ap (λ b. if b then rest else id ∷ without_id id rest) (same_id-self id)

module _ (cube : Cube) (s : CubeState) (of : IsCube cube) (sound : IsSound cube s) where
  abbrev kept_at : ℕ → NodeRecord
  kept_at q = s.standing.node_record q

  abbrev entry_of : What → Entry
  entry_of what = record { user = cube.user; actor = HOST; what = what }

  -- an entry that moves no block
  quiet-host : (what : What) → ((q : ℕ) → q < 2 ^ cube.dim → HasStayedSound cube (parcel_count_after s HOST what) q (kept_at q) (cube_record_after false q (entry_of what) (kept_at q)) [] [])
      → (cube_record_after true HOST (entry_of what) (kept_at HOST)).waiting_items ≡ (kept_at HOST).waiting_items → store_after (kept_at HOST).waiting_items s.hoststore what ≡ s.hoststore
      → made_dispatches_after s.standing.made_dispatches what ≤ allowed_dispatches_after s.standing.allowed_dispatches what → IsSound cube (state_after cube s (entry_of what))
  quiet-host what keeps no_mail store dispatches =
      host-acts cube s what (λ id q. count id []) of sound (record {
        nodes = λ q within. idle-goes cube (parcel_count_after s HOST what) q (kept_at q) (cube_record_after false q (entry_of what) (kept_at q)) (s.node q) [] (λ id. 0) (sound.nodes q within) (λ id. refl) (keeps q within);
        host = subst (IsSoundHost (parcel_count_after s HOST what)) (sym no_mail) (host-more s.standing.parcel_count (parcel_count_after s HOST what) (kept_at HOST).waiting_items (omega arith) sound.host);
        store = subst AreRisingIds (sym store) sound.hoststore;
        balance = λ id. omega (arith, ap (λ items. count id (parcel_ids items)) no_mail, ap (count id) store, sum_run-zero (λ q. count id []) 0 (2 ^ cube.dim) (λ k low high. count-nil id));
        dispatches = dispatches;
      })

  plain_keeps : (q : ℕ) → q < 2 ^ cube.dim
      → HasStayedSound cube (s.standing.parcel_count + 0) q (kept_at q) (record_with (kept_at q).waiting_items (kept_at q).spawned_ids (kept_at q).killed_ids (kept_at q).mark) [] []
  plain_keeps q within = keeps-same cube s.standing.parcel_count (s.standing.parcel_count + 0) q (kept_at q) (kept_at q).mark (omega arith) (sound.records q within)

  arm-host : (allowed : ℕ) → IsSound cube (state_after cube s (entry_of (Arm allowed)))
  arm-host allowed = quiet-host (Arm allowed) plain_keeps refl refl (omega arith)

  look-host : (found : LookResult) → IsSound cube (state_after cube s (entry_of (Look found)))
  look-host found = quiet-host (Look found) plain_keeps refl refl sound.dispatches

  spawn-host : (image : ℕ) (to : Place) (fresh : Bool) → not (is_among to.pid (kept_at to.node).spawned_ids) ≡ fresh → is_place cube.dim to ≡ true
      → image < length cube.images → IsSound cube (state_after cube s (entry_of (Spawn 0 image to fresh)))
  spawn-host image to false e place of_cube = quiet-host (Spawn 0 image to false) plain_keeps refl refl sound.dispatches
  spawn-host image to true e place of_cube =
      let parts = place_parts cube.dim to place in
      quiet-host (Spawn 0 image to true)
      (λ q within. start-keeps cube s.standing.parcel_count q image to (kept_at q) (kept_at q).mark (to.node == q) (sound.records q within)
      (λ t. subst (λ q. is_among to.pid (kept_at q).spawned_ids ≡ false) (eqb-true to.node q t) (not-true _ e)) parts.1 of_cube)
      (ap (λ b. with_appended (kept_at HOST).waiting_items ((if b then start to.pid image ∷ [] else []) ++ [])) (ne_eqb to.node HOST (λ e. omega (arith, not_host cube to.node of parts.0))))
      refl sound.dispatches

  kill-host : (to : Place) (found : KillResult) → kill_result (kept_at to.node) to.pid ≡ found → is_place cube.dim to ≡ true
      → IsSound cube (state_after cube s (entry_of (Kill 0 to found)))
  kill-host to Unused e place = quiet-host (Kill 0 to Unused) plain_keeps refl refl sound.dispatches
  kill-host to Already e place = quiet-host (Kill 0 to Already) plain_keeps refl refl sound.dispatches
  kill-host to Killed e place =
      let parts = place_parts cube.dim to place in
      let found = kill_accepted (is_among to.pid (kept_at to.node).spawned_ids) (is_among to.pid (kept_at to.node).killed_ids) e in
      quiet-host (Kill 0 to Killed)
      (λ q within. kill-keeps cube s.standing.parcel_count q to (kept_at q) (kept_at q).mark (to.node == q) (sound.records q within)
      (λ t. subst (λ q. is_among to.pid (kept_at q).spawned_ids ≡ true) (eqb-true to.node q t) found.0)
      (λ t. subst (λ q. is_among to.pid (kept_at q).killed_ids ≡ false) (eqb-true to.node q t) found.1))
      (ap (λ b. with_appended (kept_at HOST).waiting_items ((if b then kill to.pid ∷ [] else []) ++ [])) (ne_eqb to.node HOST (λ e. omega (arith, not_host cube to.node of parts.0))))
      refl sound.dispatches

  send-host : (to : Place) (id : BlockId) (rest : List BlockId) (bytes : List ℕ) → is_place cube.dim to ≡ true → s.hoststore ≡ id ∷ rest
      → IsSound cube (state_after cube s (entry_of (Send 0 s.standing.parcel_count ((to, id) ∷ []) bytes)))
  send-host to id rest bytes place store =
      let targets : List (Place × BlockId) = (to, id) ∷ [] in
      let from : Place = record { node = HOST; pid = 0 } in
      let what = Send 0 s.standing.parcel_count targets bytes in
      let ps = message_parcels from s.standing.parcel_count bytes targets in
      let sent' = s.standing.parcel_count + length ps in
      let are = are_sent cube from s.standing.parcel_count bytes targets (inl place, tt) in
      let left : store_after (kept_at HOST).waiting_items s.hoststore what ≡ rest = ap (without_id id) store ∙ without_first-name id rest in
      host-acts cube s what (λ name q. count name (sent_ids (node_parcels q ps))) of sound (record {
        nodes = λ q within.
            idle-goes cube sent' q (kept_at q) (cube_record_after false q (entry_of what) (kept_at q)) (s.node q) (sent_ids (node_parcels q ps)) (λ name. 0) (sound.nodes q within) (λ name. refl)
            (keeps-mails cube s.standing.parcel_count sent' q (kept_at q) (kept_at q).mark (node_parcels q ps) are.more (sound.records q within) (sent-new cube s.standing.parcel_count sent' ps of are q within));
        host = sent-host cube s.standing.parcel_count sent' ps of are (kept_at HOST).waiting_items sound.host;
        store = subst AreRisingIds (sym left) (subst AreRisingIds store sound.hoststore).1;
        balance = λ name.
            omega (
              arith,
              sent-sum cube name ps of are.targets,
              ap (count name) left,
              ap (count name) store,
              count-cons name id rest,
              count-one name id,
              ap (λ items. count name (parcel_ids items)) (with_appended-is (kept_at HOST).waiting_items (map mail (node_parcels HOST ps))),
              ap (count name) (mails-ids (kept_at HOST).waiting_items (node_parcels HOST ps)),
              count-append name (parcel_ids (kept_at HOST).waiting_items) (sent_ids (node_parcels HOST ps)),
            );
        dispatches = sound.dispatches;
      })

  -- ---- the host takes its next message

  taken-host : (parcel : Parcel) (rest : List Item) → (kept_at HOST).waiting_items ≡ mail parcel ∷ rest → IsSound cube (state_after cube s (entry_of (HostTake (Some parcel.number))))
  taken-host parcel rest is =
      let items = (kept_at HOST).waiting_items in
      let named = is_named_by (Mail 0 parcel.number) in
      let test = λ (x : Item). not (named x) in
      let what = HostTake (Some parcel.number) in
      let first : find (λ (x : Item). true) items ≡ Some (mail parcel) = ap (find (λ (x : Item). true)) is in
      let out = find-out (λ (x : Item). true) named items (mail parcel) first (eq-eqb parcel.number parcel.number refl) (named-mail 0 parcel.number items sound.host.numbered.rising) in
      let found : parcel_numbered parcel.number items ≡ Some parcel = ap (option_and_then parcel_in) out.found in
      let stored : store_after items s.hoststore what ≡ with_id parcel.block.id s.hoststore = ap (with_parcel s.hoststore) found in
      let parts : (id : BlockId) → count id (parcel_ids (filter test items)) + hit id parcel.block.id ≡ count id (parcel_ids items) =
      λ id. omega (
        arith,
        ap (λ xs. count id (parcel_ids xs)) out.rest,
        ap (λ xs. count id (parcel_ids xs)) out.whole,
        ap (count id) (ids-append out.before out.behind),
        count-append id (parcel_ids out.before) (parcel_ids out.behind),
        ap (count id) (ids-append out.before (mail parcel ∷ out.behind)),
        count-append id (parcel_ids out.before) (parcel_ids (mail parcel ∷ out.behind)),
        count-cons id parcel.block.id (parcel_ids out.behind),
      ) in
      host-acts cube s what (λ id q. count id []) of sound (record {
        nodes = λ q within.
            idle-goes cube (s.standing.parcel_count + 0) q (kept_at q) (cube_record_after false q (entry_of what) (kept_at q)) (s.node q) [] (λ id. 0) (sound.nodes q within) (λ id. refl) (plain_keeps q within);
        host = host-more s.standing.parcel_count (s.standing.parcel_count + 0) (filter test items) (omega arith)
            (record {
              numbered = record {
                rising = rising-filter test items sound.host.numbered.rising;
                below = all_numbers-filter (λ n. n < s.standing.parcel_count) test items sound.host.numbered.below;
              };
              own = all-filter IsHostItem test items sound.host.own;
            });
        store = subst AreRisingIds (sym stored)
            (rising-put parcel.block.id s.hoststore sound.hoststore
            (omega (arith, total-le cube s parcel.block.id sound, total-is parcel.block.id cube.dim s, parts parcel.block.id, hit-self parcel.block.id)));
        balance = λ id. omega (arith, parts id, ap (count id) stored, count-put id parcel.block.id s.hoststore, sum_run-zero (λ q. count id []) 0 (2 ^ cube.dim) (λ k low high. count-nil id));
        dispatches = sound.dispatches;
      })

  take-host : (items : List Item) → (kept_at HOST).waiting_items ≡ items → AllByRecursion IsHostItem items → IsSound cube (state_after cube s (entry_of (HostTake (first_number items))))
  take-host [] is own = quiet-host (HostTake None) plain_keeps refl refl sound.dispatches
  take-host (start pid image ∷ items) is own = absurd own.0
  take-host (mail parcel ∷ items) is own = taken-host parcel items is
  take-host (kill pid ∷ items) is own = absurd own.0

  -- ---- all that a host can be asked

  chosen_call : {X : Type 0} (b : Bool) (x : Option X) (y : X) → (if b then x else None) ≡ Some y → (b ≡ true) × (x ≡ Some y)
  chosen_call true x y e = (refl, e)
  chosen_call false x y e = cc

  first_sent : (store : List BlockId) (to : Place) (bytes : List ℕ) (call : Call) → s.hoststore ≡ store → is_place cube.dim to ≡ true
      → option_map (λ id. send_call 0 ((to, id) ∷ []) bytes) (slice_get store 0) ≡ Some call → IsSound cube (state_after cube s (entry_in cube s HOST call))
  unfolding answer
  first_sent [] to bytes call is place e = cc
  first_sent (id ∷ rest) to bytes call is place e =
      let same : send_call 0 ((to, id) ∷ []) bytes ≡ call = cc in
      subst (λ call. IsSound cube (state_after cube s (entry_in cube s HOST call))) same (send-host to id rest bytes place is)

  some_call : (x call : Call) → Some x ≡ Some call → x ≡ call
  some_call x call e = cc

  pub host-entry : (wish : Wish) (call : Call) → call_of_wish cube s.hoststore wish ≡ Some call → IsSound cube (state_after cube s (entry_in cube s HOST call))
  unfolding answer
  host-entry (send_wish to bytes) call e =
      let parts = chosen_call (is_place cube.dim to) (option_map (λ id. send_call 0 ((to, id) ∷ []) bytes) (slice_get s.hoststore 0)) call e in
      first_sent s.hoststore to bytes call refl parts.0 parts.1
  host-entry (spawn_wish image to) call e =
      let parts = chosen_call (is_place cube.dim to && nat_lt image (length cube.images)) (Some (spawn_call 0 image to)) call e in
      let fits = and_parts (is_place cube.dim to) (nat_lt image (length cube.images)) parts.0 in
      subst (λ call. IsSound cube (state_after cube s (entry_in cube s HOST call))) (some_call (spawn_call 0 image to) call parts.1)
      (spawn-host image to (not (is_among to.pid (kept_at to.node).spawned_ids)) refl fits.0 (ltb-true _ _ fits.1))
  host-entry (kill_wish to) call e =
      let parts = chosen_call (is_place cube.dim to) (Some (kill_call 0 to)) call e in
      subst (λ call. IsSound cube (state_after cube s (entry_in cube s HOST call))) (some_call (kill_call 0 to) call parts.1)
      (kill-host to (kill_result (kept_at to.node) to.pid) refl parts.0)
  host-entry (arm_wish count) call e =
      subst (λ call. IsSound cube (state_after cube s (entry_in cube s HOST call))) (some_call (arm_call count) call e) (arm-host count)
  host-entry look_wish call e =
      subst (λ call. IsSound cube (state_after cube s (entry_in cube s HOST call))) (some_call look_call call e) (look-host (look_result_where (is_quiet (node_numbers cube.dim) s.standing) (is_used_up s.standing)))
  host-entry mail_wish call e =
      subst (λ call. IsSound cube (state_after cube s (entry_in cube s HOST call))) (some_call mail_call call e)
      (take-host (kept_at HOST).waiting_items refl sound.host.own)
