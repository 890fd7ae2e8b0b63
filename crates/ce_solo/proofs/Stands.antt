-- What a trace leaves: by one entry more, the state behind it; so a trace from a sound state leaves
-- a sound state.
use Rattle.std.proofs.Common.{◌≡◌, ℕ, ◌+◌, ◌^◌, ◌<◌, ◌≤◌, Bool, true, false, ◌==◌, if◌then◌else◌, List, [], ◌∷◌, ◌++◌, find, filter, length, Option, Some, None, option_map, option_and_then, refl, ap, sym, ◌∙◌, subst, arith, append-nil}
use Rattle.std.specs.List.{AllByRecursion}
use Rattle.std.proofs.lemmas.Bool.{eqb-true, or_left}
use Rattle.std.proofs.lemmas.List.Folds.{list_any-append}
use Rattle.ce_model.specs.declared.topology.TheConstants.{HOST}
use Rattle.ce_model.specs.declared.entry.Entry.{Entry}
use Rattle.ce_model.specs.declared.entry.TakeResult.{TakeResult}
use Rattle.ce_model.specs.declared.entry.TakeResult.TheVariants.{Start, Mail, Kill, Poll, Idle, Spent}
use Rattle.ce_model.specs.Lists.{EachAfter, IsFront}
use Rattle.ce_model.specs.Parcels.{Item, is_eligible, take_result_of}
use Rattle.ce_model.specs.Node.{Call, take_call, send_call, spawn_call, kill_call, note_call, arm_call, look_call, mail_call}
use Rattle.ce_model.specs.Trace.{Mark, NodeRecord, Standing, items_to, taken_result, start_ids_in, kill_ids_in, sent_parcels, sent_items, taken_results, waiting_items, spawned_ids, killed_ids, mark, allowed_dispatches, made_dispatches, parcels}
use Rattle.ce_model.specs.Answers.{is_among, offer_of, is_used_up, first_number, answer}
use Rattle.ce_model.specs.Cube.{Cube, CubeState, IsCube, Wish, call_of_wish, wish_of_call, state, hoststore, state_after_trace, entry_wish, IsNext, IsAloneFrom, node_numbers}
use Rattle.ce_model.specs.Sound.{IsSound}
use Rattle.ce_model.proofs.Walked.{kept_by_each, each_of_front}
use Rattle.ce_model.proofs.OneMore.{taken_for, is_untaken, spawned-more, killed-more, armed-more, dispatched-more, mark-more, parcel_count-more, taken_results-stays, taken_results-more, waiting-stays, waiting-taken, state-more, hoststore-more}
use Rattle.ce_model.proofs.AloneByEntries.{call_of_wish-wish, is_made, entries_of_alone}
use Rattle.ce_solo.proofs.Lists.{all-append, all-weaker, filter-kept, with_appended, with_appended-is}
use Rattle.ce_solo.proofs.Records.{record_with}
use Rattle.ce_solo.proofs.Entries.{waiting_after, state_after, entry_in}
use Rattle.ce_solo.proofs.Made.{IsMadeCall, by_host, by_node, made, made-leaves, made-sound, items-new, IsKnown, new-untaken, taking-sends_none, known_items, find-all, known_given, known_first}
use Rattle.ce_model.specs.declared.entry.What.TheVariants.{Take}

-- ---- what is taken is known

pub taken_result-of : (actor r : ℕ) (what : Option TakeResult) (given : TakeResult) → (if actor == r then what else None) ≡ Some given → ((actor == r) ≡ true) × (what ≡ Some given)
taken_result-of actor r what given e = by_test (actor == r) refl e
  where
    by_test : (b : Bool) → (actor == r) ≡ b → (if b then what else None) ≡ Some given → ((actor == r) ≡ true) × (what ≡ Some given)
    by_test true is e = (is, e)
    by_test false is e = absurd (cc)

asked_call : (cube : Cube) (s : CubeState) (wish : Option Wish) (call : Call) → option_and_then (call_of_wish cube s.hoststore) wish ≡ Some call → wish_of_call call ≡ wish
asked_call cube s None call e = absurd (cc)
asked_call cube s (Some wish) call e = call_of_wish-wish cube s.hoststore wish call e

pub no_take : (cube : Cube) (s : CubeState) (wish : Option Wish) (call : Call) → wish_of_call call ≡ None → option_and_then (call_of_wish cube s.hoststore) wish ≡ Some call → ⊥
no_take cube s None call none e = cc
no_take cube s (Some wish) call none e = let is = call_of_wish-wish cube s.hoststore wish call e in cc

module _ (cube : Cube) (s : CubeState) (of : IsCube cube) (sound : IsSound cube s) where
  abbrev sent : ℕ
  sent = s.standing.parcel_count

  known_take : (r asking dead : ℕ) (poller : Option ℕ) (given : TakeResult) → r < 2 ^ cube.dim
      → taken_result (Take asking dead poller (offer_of (find (is_eligible asking dead) (s.standing.node_record r).waiting_items) poller (is_used_up s.standing))) ≡ Some given
      → IsKnown sent (s.standing.node_record r) given
  known_take r asking dead poller given below e =
      known_given sent (s.standing.node_record r) (find (is_eligible asking dead) (s.standing.node_record r).waiting_items) poller (is_used_up s.standing) given
      (λ item found. find-all (λ item. IsKnown sent (s.standing.node_record r) (take_result_of item)) (is_eligible asking dead) (s.standing.node_record r).waiting_items item
      (known_items cube sent r (s.standing.node_record r) (s.standing.node_record r).waiting_items (sound.records r below).own (sound.records r below).numbered.below) found) e

  known_by : (actor r : ℕ) (wish : Option Wish) (call : Call) (given : TakeResult) → actor ≡ r → IsMadeCall cube s actor wish call
      → taken_result (answer (node_numbers cube.dim) s.standing actor call) ≡ Some given → IsKnown sent (s.standing.node_record r) given
  unfolding answer
  known_by actor r wish (take_call asking dead poller) given same (by_host is e) t = absurd (no_take cube s wish (take_call asking dead poller) refl e)
  known_by actor r wish (take_call asking dead poller) given same (by_node below e) t =
      subst (λ q. IsKnown sent (s.standing.node_record q) given) same (known_take actor asking dead poller given below t)
  known_by actor r wish (send_call pid to bytes) given same m t = absurd (cc)
  known_by actor r wish (spawn_call pid image to) given same m t = absurd (cc)
  known_by actor r wish (kill_call pid to) given same m t = absurd (cc)
  known_by actor r wish (note_call pid word) given same m t = absurd (cc)
  known_by actor r wish (arm_call count) given same m t = absurd (cc)
  known_by actor r wish look_call given same m t = absurd (cc)
  known_by actor r wish mail_call given same (by_host is e) t =
      subst (λ q. IsKnown sent (s.standing.node_record q) given) (sym is ∙ same)
      (known_first sent (s.standing.node_record HOST) (s.standing.node_record HOST).waiting_items given sound.host.own sound.host.numbered.below
      (ap (λ q. option_map (λ n. Mail 0 n) (first_number (s.standing.node_record q).waiting_items)) (sym is) ∙ t))
  known_by actor r wish mail_call given same (by_node below e) t = absurd (made-leaves cube s actor mail_call of below sound e).of_node

  pub taken-known : (actor r : ℕ) (wish : Option Wish) (call : Call) (given : TakeResult) → IsMadeCall cube s actor wish call
      → taken_for r (entry_in cube s actor call) ≡ Some given → IsKnown sent (s.standing.node_record r) given
  taken-known actor r wish call given m t =
      let parts = taken_result-of actor r (taken_result (entry_in cube s actor call).what) given t in
      known_by actor r wish call given (eqb-true actor r parts.0) m parts.1

-- what is known stays known
among-joined : (pid : ℕ) (xs ys : List ℕ) → is_among pid xs ≡ true → is_among pid (with_appended xs ys) ≡ true
among-joined pid xs ys h = ap (is_among pid) (sym (with_appended-is xs ys)) ∙ (list_any-append (λ x. x == pid) xs ys ∙ or_left _ _ h)

pub known-more : (sent sent' : ℕ) (node_record : NodeRecord) (waiting_items : List Item) (more_spawned more_killed : List ℕ) (mark : Mark) (given : TakeResult) → sent ≤ sent' → IsKnown sent node_record given
    → IsKnown sent' (record_with waiting_items (with_appended node_record.spawned_ids more_spawned) (with_appended node_record.killed_ids more_killed) mark) given
known-more sent sent' node_record waiting_items more_spawned more_killed mark (Start pid image) more h = among-joined pid node_record.spawned_ids more_spawned h
known-more sent sent' node_record waiting_items more_spawned more_killed mark (Mail pid number) more h = omega (arith, h)
known-more sent sent' node_record waiting_items more_spawned more_killed mark (Kill pid) more h = among-joined pid node_record.killed_ids more_killed h
known-more sent sent' node_record waiting_items more_spawned more_killed mark (Poll pid) more h = tt
known-more sent sent' node_record waiting_items more_spawned more_killed mark Idle more h = tt
known-more sent sent' node_record waiting_items more_spawned more_killed mark Spent more h = tt

-- ---- one entry more

-- a trace leaves a sound state, and what each node has taken had been sent to it
pub record IsSoundTrace (cube : Cube) (o : CubeState) (t : List Entry) : Type 0 where
  pub sound : IsSound cube (state_after_trace cube o t)
  pub known : (r : ℕ) → AllByRecursion (IsKnown (state_after_trace cube o t).standing.parcel_count ((state_after_trace cube o t).standing.node_record r)) (taken_results r t)

waiting-more : (o : Standing) (r : ℕ) (t : List Entry) (entry : Entry) (taken : Option TakeResult) → taken_for r entry ≡ taken
    → AllByRecursion (λ item. is_untaken (taken_results r t) item ≡ true) (items_to r entry) → ((given : TakeResult) → taken ≡ Some given → items_to r entry ≡ [])
    → waiting_items o r (t ++ entry ∷ []) ≡ waiting_after taken (items_to r entry) (waiting_items o r t)
waiting-more o r t entry None e new none =
    waiting-stays o r t entry e ∙ ap (λ items. waiting_items o r t ++ items) (filter-kept (is_untaken (taken_results r t)) (items_to r entry) new) ∙ with_appended-is (waiting_items o r t) (items_to r entry)
waiting-more o r t entry (Some given) e new none = waiting-taken o r t entry given e (none given refl)

pub state_after_trace-more : (cube : Cube) (o : CubeState) (t : List Entry) (entry : Entry)
    → ((r : ℕ) → waiting_items o.standing r (t ++ entry ∷ []) ≡ waiting_after (taken_for r entry) (items_to r entry) (waiting_items o.standing r t))
    → state_after_trace cube o (t ++ entry ∷ []) ≡ state_after cube (state_after_trace cube o t) entry
state_after_trace-more cube o t entry waits = λ i. record {
  node = λ r. state-more cube o r t entry i;
  standing = record {
    node_record = λ r. record {
      waiting_items = waits r i;
      spawned_ids = (spawned-more o.standing r t entry ∙ with_appended-is (spawned_ids o.standing r t) (start_ids_in r entry.what)) i;
      killed_ids = (killed-more o.standing r t entry ∙ with_appended-is (killed_ids o.standing r t) (kill_ids_in r entry.what)) i;
      mark = mark-more o.standing r t entry i;
    };
    allowed_dispatches = armed-more o.standing t entry i;
    made_dispatches = dispatched-more o.standing t entry i;
    parcel_count = parcel_count-more o.standing.parcel_count t entry i;
  };
  hoststore = hoststore-more o t entry i;
}

-- what an actor's next entry is made of, in the state that the trace leaves
pub record IsEntryOf (cube : Cube) (s : CubeState) (entry : Entry) : Type 0 where
  pub actor : ℕ
  pub wish : Option Wish
  pub call : Call
  pub by : IsMadeCall cube s actor wish call
  pub is : entry ≡ entry_in cube s actor call

pub entry_of-next : (cube : Cube) (o : CubeState) (t : List Entry) (entry : Entry) → IsNext cube o t entry → IsEntryOf cube (state_after_trace cube o t) entry
entry_of-next cube o t entry next =
    let m = is_made cube o t entry.actor (entry_wish entry) entry next in
    record { actor = entry.actor; wish = entry_wish entry; call = m.call; by = made cube (state_after_trace cube o t) entry.actor (entry_wish entry) m.call m.made; is = m.is }

pub waits-made : (cube : Cube) (o : CubeState) (t : List Entry) (actor : ℕ) (call : Call) → IsSoundTrace cube o t → (r : ℕ)
    → waiting_items o.standing r (t ++ entry_in cube (state_after_trace cube o t) actor call ∷ [])
    ≡ waiting_after (taken_for r (entry_in cube (state_after_trace cube o t) actor call)) (items_to r (entry_in cube (state_after_trace cube o t) actor call)) (waiting_items o.standing r t)
waits-made cube o t actor call stands r =
    let s = state_after_trace cube o t in
    let entry = entry_in cube s actor call in
    waiting-more o.standing r t entry (taken_for r entry) refl
    (new-untaken s.standing.parcel_count (s.standing.node_record r) (taken_results r t) (items_to r entry) (stands.known r) (items-new cube s actor r call))
    (λ given e. taking-sends_none cube s actor r call given e)

-- the state that the trace leaves with this entry more is the one behind the entry
pub left-made : (cube : Cube) (o : CubeState) (t : List Entry) (entry : Entry) → IsSoundTrace cube o t → IsEntryOf cube (state_after_trace cube o t) entry
    → state_after_trace cube o (t ++ entry ∷ []) ≡ state_after cube (state_after_trace cube o t) entry
left-made cube o t entry stands e =
    subst (λ entry. state_after_trace cube o (t ++ entry ∷ []) ≡ state_after cube (state_after_trace cube o t) entry) (sym e.is)
    (state_after_trace-more cube o t (entry_in cube (state_after_trace cube o t) e.actor e.call) (waits-made cube o t e.actor e.call stands))

-- what is known of an item taken, behind an entry
abbrev IsKnownLater : Cube → CubeState → ℕ → Entry → TakeResult → Type 0
IsKnownLater cube s r entry given = IsKnown (state_after cube s entry).standing.parcel_count ((state_after cube s entry).standing.node_record r) given

known-later : (cube : Cube) (s : CubeState) (r : ℕ) (entry : Entry) (given : TakeResult) → IsKnown s.standing.parcel_count (s.standing.node_record r) given → IsKnownLater cube s r entry given
known-later cube s r entry given h =
    known-more s.standing.parcel_count (s.standing.parcel_count + length (sent_parcels entry.actor entry.what)) (s.standing.node_record r)
    ((state_after cube s entry).standing.node_record r).waiting_items (start_ids_in r entry.what) (kill_ids_in r entry.what) ((state_after cube s entry).standing.node_record r).mark given (omega arith) h

known-step : (cube : Cube) (s : CubeState) (r : ℕ) (t : List Entry) (entry : Entry) (taken : Option TakeResult) → taken_for r entry ≡ taken
    → AllByRecursion (IsKnown s.standing.parcel_count (s.standing.node_record r)) (taken_results r t)
    → ((given : TakeResult) → taken ≡ Some given → IsKnown s.standing.parcel_count (s.standing.node_record r) given)
    → AllByRecursion (IsKnownLater cube s r entry) (taken_results r (t ++ entry ∷ []))
known-step cube s r t entry None e before new =
    subst (AllByRecursion (IsKnownLater cube s r entry)) (sym (taken_results-stays r t entry e))
    (all-weaker (IsKnown s.standing.parcel_count (s.standing.node_record r)) (IsKnownLater cube s r entry) (taken_results r t) (known-later cube s r entry) before)
known-step cube s r t entry (Some given) e before new =
    subst (AllByRecursion (IsKnownLater cube s r entry)) (sym (taken_results-more r t entry given e))
    (all-append (IsKnownLater cube s r entry) (taken_results r t) (given ∷ [])
    (all-weaker (IsKnown s.standing.parcel_count (s.standing.node_record r)) (IsKnownLater cube s r entry) (taken_results r t) (known-later cube s r entry) before)
    (known-later cube s r entry given (new given refl), tt))

pub stands-made : (cube : Cube) (o : CubeState) (t : List Entry) (entry : Entry) → IsCube cube → IsSoundTrace cube o t → IsEntryOf cube (state_after_trace cube o t) entry → IsSoundTrace cube o (t ++ entry ∷ [])
stands-made cube o t entry of stands e =
    let s = state_after_trace cube o t in
    let left = left-made cube o t entry stands e in
    record {
      sound = subst (IsSound cube) (sym left) (subst (λ entry. IsSound cube (state_after cube s entry)) (sym e.is) (made-sound cube s e.actor e.wish e.call of stands.sound e.by));
      known = λ r. subst (λ s'. AllByRecursion (IsKnown s'.standing.parcel_count (s'.standing.node_record r)) (taken_results r (t ++ entry ∷ []))) (sym left)
          (known-step cube s r t entry (taken_for r entry) refl (stands.known r)
          (λ given taken. taken-known cube s of stands.sound e.actor r e.wish e.call given e.by (ap (taken_for r) (sym e.is) ∙ taken)));
    }

-- ---- a whole trace

pub waiting-nil : (o : Standing) (r : ℕ) → waiting_items o r [] ≡ (o.node_record r).waiting_items
unfolding waiting_items sent_items taken_results
waiting-nil o r =
    ap (filter (is_untaken [])) (append-nil (o.node_record r).waiting_items)
    ∙ filter-kept (is_untaken []) (o.node_record r).waiting_items (all_true (o.node_record r).waiting_items)
  where
    all_true : (items : List Item) → AllByRecursion (λ item. is_untaken [] item ≡ true) items
    all_true [] = tt
    all_true (item ∷ items) = (refl, all_true items)

spawned-nil : (o : Standing) (r : ℕ) → spawned_ids o r [] ≡ (o.node_record r).spawned_ids
unfolding spawned_ids
spawned-nil o r = append-nil (o.node_record r).spawned_ids

killed-nil : (o : Standing) (r : ℕ) → killed_ids o r [] ≡ (o.node_record r).killed_ids
unfolding killed_ids
killed-nil o r = append-nil (o.node_record r).killed_ids

count-nil : (o : Standing) → o.parcel_count + length (parcels []) ≡ o.parcel_count
unfolding parcels
count-nil o = omega arith

pub state_after_trace-nil : (cube : Cube) (o : CubeState) → state_after_trace cube o [] ≡ o
unfolding state hoststore mark allowed_dispatches made_dispatches
state_after_trace-nil cube o = λ i. record {
  node = o.node;
  standing = record {
    node_record = λ r. record {
      waiting_items = waiting-nil o.standing r i;
      spawned_ids = spawned-nil o.standing r i;
      killed_ids = killed-nil o.standing r i;
      mark = (o.standing.node_record r).mark;
    };
    allowed_dispatches = o.standing.allowed_dispatches;
    made_dispatches = o.standing.made_dispatches;
    parcel_count = count-nil o.standing i;
  };
  hoststore = o.hoststore;
}

pub stands-nil : (cube : Cube) (o : CubeState) → IsSound cube o → IsSoundTrace cube o []
unfolding taken_results
stands-nil cube o sound = record { sound = subst (IsSound cube) (sym (state_after_trace-nil cube o)) sound; known = λ r. tt }

pub stands-each : (cube : Cube) (o : CubeState) (t : List Entry) → IsCube cube → IsSound cube o → EachAfter (IsNext cube o) [] t → IsSoundTrace cube o t
stands-each cube o t of sound each =
    kept_by_each (IsNext cube o) (IsSoundTrace cube o) (λ before entry stands next. stands-made cube o before entry of stands (entry_of-next cube o before entry next)) [] t
    (stands-nil cube o sound) each

pub stands-front : (cube : Cube) (o : CubeState) (t front : List Entry) → IsCube cube → IsSound cube o → IsAloneFrom cube o t → IsFront front t → IsSoundTrace cube o front
stands-front cube o t front of sound alone is =
    stands-each cube o front of sound
    (each_of_front (IsNext cube o) [] front is.0 (subst (EachAfter (IsNext cube o) []) (sym is.1) (entries_of_alone cube o t alone)))
