-- One start and one kill at most are sent to an id.
use Rattle.std.proofs.Common.{◌≡◌, ℕ, ◌+◌, ◌^◌, ◌<◌, ◌≤◌, Bool, true, false, ◌==◌, if◌then◌else◌, List, [], ◌∷◌, ◌++◌, map, count_by, refl, ap, sym, ◌∙◌, subst, arith, inl, inr, append-nil}
use Rattle.std.specs.List.{AllByRecursion}
use Rattle.std.proofs.lemmas.Bool.{cond_both, cases_Bool, cases_eq, ne_eqb}
use Rattle.ce_model.specs.declared.entry.Entry.{Entry}
use Rattle.ce_model.specs.declared.entry.What.{What}
use Rattle.ce_model.specs.declared.entry.What.TheVariants.{Spawn, Kill}
use Rattle.ce_model.specs.declared.entry.KillResult.TheVariants.{Killed}
use Rattle.ce_model.specs.Parcels.{Item, start, kill, item_id}
use Rattle.ce_model.specs.Trace.{NodeRecord, Standing, sent_parcels, starts_in, kills_in, mails_in, items_to, start_ids_in, kill_ids_in, sent_items, spawned_ids, killed_ids}
use Rattle.ce_model.specs.Answers.{is_among}
use Rattle.ce_model.specs.Cube.{Cube, CubeState, state_after_trace}
use Rattle.ce_model.specs.Sound.{is_start_of, is_kill_of, IsSound}
use Rattle.ce_model.proofs.OneMore.{sent_items-more, spawned-more, killed-more}
use Rattle.ce_solo.proofs.Lists.{all-front, all-back, count_by-cons, count_by-append, truth_bit, truth_bit-true, truth_bit-false, truth_bit-le, count_by-none, none-from_any}
use Rattle.ce_solo.proofs.Items.{start-mails, kill-mails, own-starts, own-kills}
use Rattle.ce_solo.proofs.Records.{among-last, among-other}
use Rattle.ce_solo.proofs.Made.{IsNewItem, items-new}
use Rattle.ce_solo.proofs.Sending.{node_parcels}
use Rattle.ce_solo.proofs.Stands.{IsEntryOf}

-- ---- one start or kill more

none_more : (pid c : ℕ) (pids : List ℕ) → c ≤ truth_bit (is_among pid pids) → c + 0 ≤ truth_bit (is_among pid (pids ++ []))
none_more pid c pids h = omega (arith, h, ap (λ xs. truth_bit (is_among pid xs)) (append-nil pids))

one_more : (pid other c : ℕ) (pids : List ℕ) → c ≤ truth_bit (is_among pid pids) → is_among other pids ≡ false → c + truth_bit (other == pid) ≤ truth_bit (is_among pid (pids ++ other ∷ []))
one_more pid other c pids h fresh =
    elim (cases_eq pid other) [
      | inl same ↦
          let none : is_among pid pids ≡ false = ap (λ p. is_among p pids) same ∙ fresh in
          let now : is_among pid (pids ++ other ∷ []) ≡ true = ap (λ p. is_among p (pids ++ other ∷ [])) same ∙ among-last other pids in
          omega (arith, h, truth_bit-false (is_among pid pids) none, truth_bit-true (is_among pid (pids ++ other ∷ [])) now, truth_bit-le (other == pid))
      | inr differ ↦
          omega (arith, h, ap truth_bit (among-other pid other pids differ), truth_bit-false (other == pid) (ne_eqb other pid (λ e. differ (sym e))))
    ]

module _ (sent : ℕ) (node_record : NodeRecord) (r pid c : ℕ) where
  -- an item more, if any, whose id is a new one
  truth_bit_new : (test : Item → Bool) (ids : List ℕ) (x : Item) (b : Bool) → test x ≡ (item_id x == pid) → (IsNewItem sent node_record x → is_among (item_id x) ids ≡ false)
      → AllByRecursion (IsNewItem sent node_record) (if b then x ∷ [] else []) → c ≤ truth_bit (is_among pid ids)
      → c + count_by test (if b then x ∷ [] else []) ≤ truth_bit (is_among pid (ids ++ map item_id (if b then x ∷ [] else [])))
  truth_bit_new test ids x true same fresh new h = omega (arith, one_more pid (item_id x) c ids h (fresh new.0), count_by-cons test x [], ap truth_bit same)
  truth_bit_new test ids x false same fresh new h = none_more pid c ids h

  starts_step : (what : What) → AllByRecursion (IsNewItem sent node_record) (starts_in r what) → c ≤ truth_bit (is_among pid node_record.spawned_ids)
      → c + count_by (is_start_of pid) (starts_in r what) ≤ truth_bit (is_among pid (node_record.spawned_ids ++ start_ids_in r what))
  starts_step (Spawn by image to true) new h = truth_bit_new (is_start_of pid) node_record.spawned_ids (start to.pid image) (to.node == r) refl (λ fresh. fresh) new h
  starts_step other new h = none_more pid c node_record.spawned_ids h

  kills_step : (what : What) → AllByRecursion (IsNewItem sent node_record) (kills_in r what) → c ≤ truth_bit (is_among pid node_record.killed_ids)
      → c + count_by (is_kill_of pid) (kills_in r what) ≤ truth_bit (is_among pid (node_record.killed_ids ++ kill_ids_in r what))
  kills_step (Kill by to Killed) new h = truth_bit_new (is_kill_of pid) node_record.killed_ids (kill to.pid) (to.node == r) refl (λ fresh. fresh) new h
  kills_step other new h = none_more pid c node_record.killed_ids h

no_starts-kills : (pid r : ℕ) (what : What) → count_by (is_start_of pid) (kills_in r what) ≡ 0
no_starts-kills pid r (Kill by to Killed) = cond_both (to.node == r) (kill to.pid ∷ []) [] (λ items. count_by (is_start_of pid) items ≡ 0) (λ t. refl) (λ f. refl)
no_starts-kills pid r other = refl

no_kills-starts : (pid r : ℕ) (what : What) → count_by (is_kill_of pid) (starts_in r what) ≡ 0
no_kills-starts pid r (Spawn by image to true) = cond_both (to.node == r) (start to.pid image ∷ []) [] (λ items. count_by (is_kill_of pid) items ≡ 0) (λ t. refl) (λ f. refl)
no_kills-starts pid r other = refl

-- what is sent to a node, by a test that no mail passes
without_mails : (test : Item → Bool) (r : ℕ) (entry : Entry) → AllByRecursion (λ x. test x ≡ false) (mails_in r entry)
    → count_by test (items_to r entry) ≡ count_by test (starts_in r entry.what) + count_by test (kills_in r entry.what)
without_mails test r entry none =
    omega (
      arith,
      count_by-append test (starts_in r entry.what) (kills_in r entry.what ++ mails_in r entry),
      count_by-append test (kills_in r entry.what) (mails_in r entry),
      count_by-none test (mails_in r entry) none,
    )

starts-to : (pid r : ℕ) (entry : Entry) → count_by (is_start_of pid) (items_to r entry) ≡ count_by (is_start_of pid) (starts_in r entry.what)
starts-to pid r entry =
    omega (arith, without_mails (is_start_of pid) r entry (none-from_any (is_start_of pid) (mails_in r entry) (start-mails pid (node_parcels r (sent_parcels entry.actor entry.what)))), no_starts-kills pid r entry.what)

kills-to : (pid r : ℕ) (entry : Entry) → count_by (is_kill_of pid) (items_to r entry) ≡ count_by (is_kill_of pid) (kills_in r entry.what)
kills-to pid r entry =
    omega (arith, without_mails (is_kill_of pid) r entry (kill-mails pid _), no_kills-starts pid r entry.what)

-- ---- a trace

-- what was sent to a node has a start only of an id that was spawned, and of each one; and so with
-- kills
pub record HasSentOnce (o : Standing) (r pid : ℕ) (t : List Entry) : Type 0 where
  pub starts : count_by (is_start_of pid) (sent_items o r t) ≤ truth_bit (is_among pid (spawned_ids o r t))
  pub kills : count_by (is_kill_of pid) (sent_items o r t) ≤ truth_bit (is_among pid (killed_ids o r t))

-- an item of the id waits only where the id is among these
once_at : (test : Item → Bool) (pid : ℕ) (ids : List ℕ) (items : List Item) → count_by test items ≤ 1
    → (is_among pid ids ≡ false → AllByRecursion (λ x. test x ≡ false) items) → count_by test (items ++ []) ≤ truth_bit (is_among pid (ids ++ []))
once_at test pid ids items once none =
    let all = ap (count_by test) (append-nil items) in
    let same = ap (λ xs. truth_bit (is_among pid xs)) (append-nil ids) in
    elim (cases_Bool (is_among pid ids)) [
      | inl t ↦ omega (arith, once, truth_bit-true (is_among pid ids) t, same, all)
      | inr f ↦ omega (arith, count_by-none test items (none f), all)
    ]

pub once-nil : (cube : Cube) (o : CubeState) (r pid : ℕ) → r < 2 ^ cube.dim → IsSound cube o → HasSentOnce o.standing r pid []
unfolding sent_items spawned_ids killed_ids
once-nil cube o r pid below sound =
    let node_record = o.standing.node_record r in
    let is = sound.records r below in
    record {
      starts = once_at (is_start_of pid) pid node_record.spawned_ids node_record.waiting_items (is.one_start pid) (λ f. own-starts cube r pid node_record node_record.waiting_items f is.own);
      kills = once_at (is_kill_of pid) pid node_record.killed_ids node_record.waiting_items (is.one_kill pid) (λ f. own-kills cube r pid node_record node_record.waiting_items f is.own);
    }

pub once-more : (cube : Cube) (o : CubeState) (r pid : ℕ) (t : List Entry) (entry : Entry) → HasSentOnce o.standing r pid t → IsEntryOf cube (state_after_trace cube o t) entry
    → HasSentOnce o.standing r pid (t ++ entry ∷ [])
once-more cube o r pid t entry once e =
    let s = state_after_trace cube o t in
    let node_record = s.standing.node_record r in
    let new : AllByRecursion (IsNewItem s.standing.parcel_count node_record) (items_to r entry) =
    subst (λ entry. AllByRecursion (IsNewItem s.standing.parcel_count node_record) (items_to r entry)) (sym e.is) (items-new cube s e.actor r e.call) in
    let starts = all-front (IsNewItem s.standing.parcel_count node_record) (starts_in r entry.what) (kills_in r entry.what ++ mails_in r entry) new in
    let kills = all-front (IsNewItem s.standing.parcel_count node_record) (kills_in r entry.what) (mails_in r entry)
    (all-back (IsNewItem s.standing.parcel_count node_record) (starts_in r entry.what) (kills_in r entry.what ++ mails_in r entry) new) in
    let more : (test : Item → Bool) → count_by test (sent_items o.standing r (t ++ entry ∷ [])) ≡ count_by test (sent_items o.standing r t) + count_by test (items_to r entry) =
    λ test. ap (count_by test) (sent_items-more o.standing r t entry) ∙ count_by-append test (sent_items o.standing r t) (items_to r entry) in
    record {
      starts = omega (
        arith,
        more (is_start_of pid),
        starts-to pid r entry,
        ap (λ xs. truth_bit (is_among pid xs)) (spawned-more o.standing r t entry),
        starts_step s.standing.parcel_count node_record r pid (count_by (is_start_of pid) (sent_items o.standing r t)) entry.what starts once.starts,
      );
      kills = omega (
        arith,
        more (is_kill_of pid),
        kills-to pid r entry,
        ap (λ xs. truth_bit (is_among pid xs)) (killed-more o.standing r t entry),
        kills_step s.standing.parcel_count node_record r pid (count_by (is_kill_of pid) (sent_items o.standing r t)) entry.what kills once.kills,
      );
    }
