-- A Take leaves a sound cube, whatever the node is given.
use Rattle.std.proofs.Common.{◌≡◌, ℕ, ◌+◌, ◌^◌, ◌<◌, ◌≤◌, Bool, true, false, ◌==◌, if◌then◌else◌, List, [], ◌∷◌, find, slice_get, Option, Some, None, option_and_then, refl, ap, sym, ◌∙◌, subst, arith, inl, inr}
use Rattle.std.proofs.lemmas.Bool.{cases_Bool, cases_eq, cases_lt, both_ways, eq-eqb, ne_eqb}
use Rattle.std.proofs.lemmas.List.{get_or_past}
use Rattle.ce_model.specs.declared.topology.TheConstants.{HOST}
use Rattle.ce_model.specs.declared.topology.BlockId.{BlockId}
use Rattle.ce_model.specs.declared.process.Status.{Status}
use Rattle.ce_model.specs.declared.process.Status.TheVariants.{Unborn, Running, Asking, Polling, Stopped}
use Rattle.ce_model.specs.declared.entry.Entry.{Entry}
use Rattle.ce_model.specs.declared.entry.What.TheVariants.{Take}
use Rattle.ce_model.specs.declared.entry.TakeResult.{TakeResult}
use Rattle.ce_model.specs.declared.entry.TakeResult.TheVariants.{Start, Kill, Poll, Idle, Spent}
use Rattle.ce_model.specs.Limits.{process_count}
use Rattle.ce_model.specs.Parcels.{Parcel, Item, start, mail, kill, is_eligible, take_result_of, is_named_by, parcel_in}
use Rattle.ce_model.specs.Process.{Process, unborn_process, is_stopped}
use Rattle.ce_model.specs.Node.{Turn, Node, process_at, blocks_of, take_call, take_call_of}
use Rattle.ce_model.specs.Trace.{Mark, NodeRecord, mark_after, is_work}
use Rattle.ce_model.specs.Answers.{offer_of, is_used_up}
use Rattle.ce_model.specs.Saying.{says}
use Rattle.ce_model.specs.Hearing.{node_after_hearing}
use Rattle.ce_model.specs.Cube.{Cube, CubeState, IsCube, parcel_numbered, hearing_of_parcel}
use Rattle.ce_model.specs.Sound.{is_unborn, is_polling, is_start_of, IsSoundNode, IsSoundRecord, IsSound}
use Rattle.ce_solo.proofs.Counting.{count, count-nil}
use Rattle.ce_solo.proofs.Items.{parcel_ids}
use Rattle.ce_solo.proofs.Nodes.{polls, IsWell, became-then}
use Rattle.ce_solo.proofs.Words.{HasMadeCall}
use Rattle.ce_solo.proofs.Hears.{HasHeardAnswer, HasStarted, nothing-hears, poll-hears, kill-hears, mail-hears, start-begins}
use Rattle.ce_solo.proofs.Lists.{count_by-cons, truth_bit-true, truth_bit-false}
use Rattle.ce_solo.proofs.Records.{record_with, is_unborn_id, HasTakenItem, takes-item, start-taken, kill-taken, without_named, among-all}
use Rattle.ce_solo.proofs.Entries.{cube_record_after, cube_node_after, state_after, sound_node-became, IsNodeStep}
use Rattle.ce_solo.proofs.Acts.{idle-goes, IsNodeAct, node-acts}
use Rattle.ce_solo.proofs.NodeEntries.{host-more, once_here, quiet-entry, plain_keeps}

-- ---- those that poll

-- who is first in a list is in it
first-polls : (pid : ℕ) (polling : List ℕ) → slice_get polling 0 ≡ Some pid → 1 ≤ polls pid polling
first-polls pid [] e = cc
first-polls pid (x ∷ xs) e = let same : x ≡ pid = cc in omega (arith, count_by-cons (λ other. other == pid) x xs, truth_bit-true (x == pid) (eq-eqb x pid same))

pub polling_is : (s : Status) → is_polling s ≡ true → (is_unborn s ≡ false) × (is_stopped s ≡ false)
polling_is Unborn h = absurd (both_ways _ refl h)
polling_is Running h = absurd (both_ways _ refl h)
polling_is Asking h = absurd (both_ways _ refl h)
polling_is Polling h = (refl, refl)
polling_is (Stopped cause) h = absurd (both_ways _ refl h)

-- a process that is first among those that poll polls
pub poller-polls : {turn : Option Turn} (node : Node) (pid : ℕ) → IsWell turn node → slice_get node.polling_ids 0 ≡ Some pid → is_polling (process_at node pid).status ≡ true
poller-polls node pid well e =
    elim (cases_Bool (is_polling (process_at node pid).status)) [
      | inl t ↦ t
      | inr f ↦ absurd (omega (arith, first-polls pid node.polling_ids e, well.polling_ids pid, truth_bit-false (is_polling (process_at node pid).status) f))
    ]

pub poller-within : (node : Node) (pid : ℕ) → IsWell None node → is_polling (process_at node pid).status ≡ true → pid < process_count
poller-within node pid well h =
    elim (cases_lt pid process_count) [
      | inl within ↦ within
      | inr past ↦ absurd (both_ways _ (ap (λ (p : Process). is_polling p.status) (get_or_past node.processes pid unborn_process (omega (arith, past, well.process_ids)))) h)
    ]

-- ---- a Take

module _ (cube : Cube) (s : CubeState) (r : ℕ) (of : IsCube cube) (below : r < 2 ^ cube.dim) (sound : IsSound cube s) (asking dead : ℕ) (poller : Option ℕ) (said : HasMadeCall (s.node r) (says (s.node r)).node (take_call asking dead poller)) where
  abbrev now : Node
  now = (says (s.node r)).node

  abbrev node_record : NodeRecord
  node_record = s.standing.node_record r

  abbrev entry_of : TakeResult → Entry
  entry_of given = record { user = cube.user; actor = r; what = Take asking dead poller given }

  pub now_well : IsWell None now
  now_well = subst (λ turn. IsWell turn now) said.of_node.1 said.became.well

  abbrev mark_of : TakeResult → Mark
  mark_of given = mark_after node_record.mark (Take asking dead poller given)

  plain_given : (given : TakeResult) → IsNodeAct cube s r (Take asking dead poller given) (λ id q. count id []) (λ id q. count id []) → IsSound cube (state_after cube s (entry_of given))
  plain_given given acts = node-acts cube s r (Take asking dead poller given) (λ id q. count id []) (λ id q. count id []) of below sound acts

  spent-acts : IsSound cube (state_after cube s (entry_of Spent))
  spent-acts =
      quiet-entry cube s r of below sound (Take asking dead poller Spent) (λ q within. plain_keeps cube s r of below sound q _ within) (λ q within. plain_keeps cube s r of below sound q _ within)
      refl sound.dispatches said.became (nothing-hears cube.images now said.became.well said.turn)

  idle-acts : IsSound cube (state_after cube s (entry_of Idle))
  idle-acts =
      quiet-entry cube s r of below sound (Take asking dead poller Idle) (λ q within. plain_keeps cube s r of below sound q _ within) (λ q within. plain_keeps cube s r of below sound q _ within)
      refl sound.dispatches said.became (nothing-hears cube.images now said.became.well said.turn)

  -- one dispatch more is allowed
  one_more : is_used_up s.standing ≡ false → s.standing.made_dispatches + 1 ≤ s.standing.allowed_dispatches
  one_more room = elim (cases_eq s.standing.made_dispatches s.standing.allowed_dispatches) [
    | inl same ↦ absurd (both_ways _ room (eq-eqb s.standing.made_dispatches s.standing.allowed_dispatches same))
    | inr differ ↦ elim (cases_lt s.standing.made_dispatches s.standing.allowed_dispatches) [
      | inl less ↦ omega (arith, less)
      | inr more ↦ absurd (differ (omega (arith, more, sound.dispatches)))
    ]
  ]

  poll-acts : (pid : ℕ) → poller ≡ Some pid → is_used_up s.standing ≡ false → IsSound cube (state_after cube s (entry_of (Poll pid)))
  poll-acts pid e room =
      let at : slice_get (now).polling_ids 0 ≡ Some pid = sym (take_poller (now) said.of_node.0) ∙ e in
      let polls = poller-polls now pid now_well at in
      let is = polling_is (process_at now pid).status polls in
      quiet-entry cube s r of below sound (Take asking dead poller (Poll pid)) (λ q within. plain_keeps cube s r of below sound q _ within) (λ q within. plain_keeps cube s r of below sound q _ within)
      refl (one_more room) said.became (poll-hears cube.images now pid now_well (poller-within now pid now_well polls) is.0 is.1)
    where
      take_poller : (node : Node) → take_call asking dead poller ≡ take_call_of node → poller ≡ slice_get node.polling_ids 0
      take_poller node same = ap (λ call. elim call [ take_call a d q ↦ q | other ↦ None ]) same

  -- ---- an item is given

  -- a Take is put together from what it makes of its own node
  given-acts : (given : TakeResult)
      → IsNodeStep cube (s.standing.parcel_count + 0) r node_record (cube_record_after true r (entry_of given) node_record) (s.node r) (cube_node_after true cube s r (entry_of given)) (λ id. count id []) (λ id. count id [])
      → (if is_work given then s.standing.made_dispatches + 1 else s.standing.made_dispatches) ≤ s.standing.allowed_dispatches → IsSound cube (state_after cube s (entry_of given))
  given-acts given own dispatches =
      plain_given given (record {
        others = λ q within differ.
            idle-goes cube (s.standing.parcel_count + 0) q (s.standing.node_record q) (cube_record_after false q (entry_of given) (s.standing.node_record q)) (s.node q) [] (λ id. count id [])
            (sound.nodes q within) count-nil (plain_keeps cube s r of below sound q (s.standing.node_record q).mark within);
        own = own;
        host = host-more s.standing.parcel_count (s.standing.parcel_count + 0) (s.standing.node_record HOST).waiting_items (omega arith) sound.host;
        balance = λ id. omega arith;
        dispatches = dispatches;
      })

  -- what is kept once an item is taken, and the node that heard of it
  item-goes : (item : Item) (mark : Mark) (node : Node)
      → HasTakenItem cube s.standing.parcel_count r asking dead node_record (record_with (without_named item node_record.waiting_items) node_record.spawned_ids node_record.killed_ids mark) item
      → IsSoundNode cube (record_with (without_named item node_record.waiting_items) node_record.spawned_ids node_record.killed_ids mark) r node
      → ((id : BlockId) → count id (blocks_of node) ≡ count id (blocks_of (s.node r)) + count id (parcel_ids (item ∷ [])))
      → IsNodeStep cube (s.standing.parcel_count + 0) r node_record (record_with (without_named item node_record.waiting_items) node_record.spawned_ids node_record.killed_ids mark) (s.node r) node (λ id. count id []) (λ id. count id [])
  item-goes item mark node taken sound_node blocks = record {
    record_sound = subst (λ n. IsSoundRecord cube n r (record_with (without_named item node_record.waiting_items) node_record.spawned_ids node_record.killed_ids mark)) (omega arith) taken.sound;
    node_sound = sound_node;
    blocks = λ id. omega (arith, taken.parcels id, blocks id);
  }

  -- the node that has heard of an item that is no start
  heard_node : (item : Item) (mark : Mark) (node : Node) → ((pid : ℕ) → is_start_of pid item ≡ false)
      → HasTakenItem cube s.standing.parcel_count r asking dead node_record (record_with (without_named item node_record.waiting_items) node_record.spawned_ids node_record.killed_ids mark) item
      → HasHeardAnswer now node (parcel_ids (item ∷ []))
      → IsNodeStep cube (s.standing.parcel_count + 0) r node_record (record_with (without_named item node_record.waiting_items) node_record.spawned_ids node_record.killed_ids mark) (s.node r) node (λ id. count id []) (λ id. count id [])
  heard_node item mark node no_start taken heard =
      let both = became-then said.became heard.became in
      item-goes item mark node taken
      (sound_node-became cube node_record (record_with (without_named item node_record.waiting_items) node_record.spawned_ids node_record.killed_ids mark) r (s.node r) node (parcel_ids (item ∷ [])) [] (sound.nodes r below)
      (λ pid. taken.births pid (no_start pid)) both heard.turn)
      (λ id. omega (arith, both.blocks id, count-nil id))

  -- a process unborn by what is kept is so in the node, and the other way round
  pub birth_of : (pid : ℕ) → pid < process_count → is_unborn (process_at now pid).status ≡ is_unborn_id node_record pid
  birth_of pid within = said.became.unborn pid ∙ ((sound.nodes r below).processes pid within).unborn

  -- the numbers of the parcels found are their own
  pub numbered_parcel : (parcel : Parcel) → find (is_named_by (take_result_of (mail parcel))) node_record.waiting_items ≡ Some (mail parcel) → parcel_numbered parcel.number node_record.waiting_items ≡ Some parcel
  numbered_parcel parcel found = ap (option_and_then parcel_in) found

  mail-acts : (parcel : Parcel) → find (is_eligible asking dead) node_record.waiting_items ≡ Some (mail parcel) → is_used_up s.standing ≡ false
      → IsSound cube (state_after cube s (entry_of (take_result_of (mail parcel))))
  mail-acts parcel found room =
      let given = take_result_of (mail parcel) in
      let taken = takes-item cube s.standing.parcel_count r asking dead node_record (mark_of given) (mail parcel) (sound.records r below) found in
      let once : (id : BlockId) → count id (blocks_of now) + count id (parcel.block.id ∷ []) ≤ 1 =
      λ id. omega (arith, once_here cube s r of below sound id, taken.parcels id, said.became.blocks id, count-nil id) in
      let heard = mail-hears cube.images now parcel now_well said.of_node.1 taken.of_node.1 once in
      given-acts given
      (heard_node (mail parcel) (mark_of given) (cube_node_after true cube s r (entry_of given)) (λ pid. refl) taken
      (subst (λ found. HasHeardAnswer now (node_after_hearing cube.images now (hearing_of_parcel found)) (parcel.block.id ∷ [])) (sym (numbered_parcel parcel taken.out.found)) heard))
      (one_more room)

  kill-acts : (pid : ℕ) → find (is_eligible asking dead) node_record.waiting_items ≡ Some (kill pid) → is_used_up s.standing ≡ false
      → IsSound cube (state_after cube s (entry_of (Kill pid)))
  kill-acts pid found room =
      let taken = takes-item cube s.standing.parcel_count r asking dead node_record (mark_of (Kill pid)) (kill pid) (sound.records r below) found in
      let is = kill-taken cube s.standing.parcel_count r asking dead pid node_record (cube_record_after true r (entry_of (Kill pid)) node_record) (sound.records r below) taken in
      given-acts (Kill pid)
      (heard_node (kill pid) (mark_of (Kill pid)) (cube_node_after true cube s r (entry_of (Kill pid))) (λ pid. refl) taken
      (kill-hears cube.images now pid now_well said.of_node.1 is.0 (birth_of pid is.0 ∙ is.1)))
      (one_more room)

  -- a node in which a process begins is sound, by what is kept once its start is taken
  begun_node : (pid image : ℕ) (node_record' : NodeRecord) (node : Node) → is_unborn_id node_record' pid ≡ false → ((q : ℕ) → is_start_of q (start pid image) ≡ false → is_unborn_id node_record' q ≡ is_unborn_id node_record q)
      → HasStarted now node pid → IsSoundNode cube node_record' r node
  begun_node pid image node_record' node born others begins = record {
    number = begins.number ∙ said.became.number ∙ (sound.nodes r below).number;
    dim = begins.dim ∙ said.became.dim ∙ (sound.nodes r below).dim;
    home = begins.home ∙ said.became.home ∙ (sound.nodes r below).home;
    images = begins.images ∙ said.became.images ∙ (sound.nodes r below).images;
    process_ids = begins.well.process_ids;
    processes = λ q within. let p = begins.well.processes q within in
        record {
          registers = p.registers;
          windows = p.windows;
          unborn = elim (cases_eq q pid) [
            | inl same ↦ subst (λ k. is_unborn (process_at node k).status ≡ is_unborn_id node_record' k) (sym same) (begins.born ∙ sym born)
            | inr differ ↦
                ap (λ (p : Process). is_unborn p.status) (begins.others q differ) ∙ birth_of q within ∙ sym (others q (ne_eqb pid q (λ e. differ (sym e))))
          ];
          unborn_used = p.unborn_used;
          stopped_holds = p.stopped_holds;
          running = p.running;
        };
    polling_ids = begins.well.polling_ids;
    turn = begins.turn;
    store = begins.well.store;
  }

  start-acts : (pid image : ℕ) → find (is_eligible asking dead) node_record.waiting_items ≡ Some (start pid image) → is_used_up s.standing ≡ false
      → IsSound cube (state_after cube s (entry_of (Start pid image)))
  start-acts pid image found room =
      let taken = takes-item cube s.standing.parcel_count r asking dead node_record (mark_of (Start pid image)) (start pid image) (sound.records r below) found in
      let node_record' = cube_record_after true r (entry_of (Start pid image)) node_record in
      let is = start-taken cube s.standing.parcel_count r asking dead pid image node_record node_record' (sound.records r below) refl refl taken in
      let within = among-all (λ q. q < process_count) pid node_record.spawned_ids (sound.records r below).ids taken.of_node.0 in
      let begins = start-begins cube.images now pid image now_well within (birth_of pid within ∙ is.0) in
      given-acts (Start pid image)
      (item-goes (start pid image) (mark_of (Start pid image)) (cube_node_after true cube s r (entry_of (Start pid image))) taken
      (begun_node pid image node_record' (cube_node_after true cube s r (entry_of (Start pid image))) is.1 taken.births begins)
      (λ id. omega (arith, begins.blocks id, said.became.blocks id, count-nil id)))
      (one_more room)

  -- ---- all that a node can be given

  item-acts : (item : Item) → find (is_eligible asking dead) node_record.waiting_items ≡ Some item → is_used_up s.standing ≡ false → IsSound cube (state_after cube s (entry_of (take_result_of item)))
  item-acts (start pid image) found room = start-acts pid image found room
  item-acts (mail parcel) found room = mail-acts parcel found room
  item-acts (kill pid) found room = kill-acts pid found room

  offered-acts : (found : Option Item) (polls : Option ℕ) (used : Bool) → find (is_eligible asking dead) node_record.waiting_items ≡ found → poller ≡ polls → is_used_up s.standing ≡ used
      → IsSound cube (state_after cube s (entry_of (offer_of found polls used)))
  offered-acts (Some item) polls true f p u = spent-acts
  offered-acts (Some item) polls false f p u = item-acts item f u
  offered-acts None (Some pid) true f p u = spent-acts
  offered-acts None (Some pid) false f p u = poll-acts pid p u
  offered-acts None None used f p u = idle-acts

  pub takes-acts : IsSound cube (state_after cube s (entry_of (offer_of (find (is_eligible asking dead) node_record.waiting_items) poller (is_used_up s.standing))))
  takes-acts = offered-acts (find (is_eligible asking dead) node_record.waiting_items) poller (is_used_up s.standing) refl refl refl
