-- What is kept for a node stays sound by each kind of entry: one that sends parcels, a start or a
-- kill, and one that takes an item.
use Rattle.std.proofs.Common.{◌≡◌, ℕ, ◌+◌, ◌<◌, ◌≤◌, Bool, true, false, not, ◌||◌, ◌==◌, List, [], ◌∷◌, ◌++◌, map, filter, find, count_by, length, Some, IsTrue, refl, ap, sym, ◌∙◌, subst, arith, inl, inr, append-nil}
use Rattle.std.specs.List.{AllByRecursion}
use Rattle.std.proofs.lemmas.Bool.{cases_Bool, cases_eq, both_ways, eq-eqb, ne_eqb, eqb-true, or_from, or_left, or_right, or_cases, true_from_ne_false, not_from_true, not_from_false}
use Rattle.std.proofs.lemmas.List.Folds.{list_any-append}
use Rattle.ce_model.specs.declared.topology.BlockId.{BlockId}
use Rattle.ce_model.specs.Limits.{process_count}
use Rattle.ce_model.specs.Parcels.{Parcel, Item, start, mail, kill, is_eligible, take_result_of, is_named_by}
use Rattle.ce_model.specs.Trace.{Mark, NodeRecord}
use Rattle.ce_model.specs.Answers.{is_among}
use Rattle.ce_model.specs.Cube.{Cube}
use Rattle.ce_model.specs.Sound.{is_start_of, is_kill_of, has_start, IsStartFirst, numbers_of, IsItemOf, AreNumbered, AreDistinct, IsSoundRecord}
use Rattle.ce_solo.proofs.Counting.{count, count-nil, count-append}
use Rattle.ce_solo.proofs.Lists.{all-append, all-weaker, all-filter, all-split, pairwise-append, count_by-cons, count_by-append, count_by-filter, count_by-agree, truth_bit-true, truth_bit-false, truth_bit-le, count_by-none, none-from_count, any-none, none-from_any, IsOut, find-out, with_appended, with_appended-is}
use Rattle.ce_solo.proofs.Items.{parcel_ids, ids-append, numbers-append, among-mails, all_numbers-filter, AreRising, rising-filter, start-mails, kill-mails, start_first-mails, start-append, start_first-append, start_first-after, start_first-filter, start_first-at, own-starts, own-kills, own-more, named-itself, named-start, named-kill, named-mail, start_can_be_given}

abbrev pub record_with : List Item → List ℕ → List ℕ → Mark → NodeRecord
record_with waiting spawned killed mark = record { waiting_items = waiting; spawned_ids = spawned; killed_ids = killed; mark = mark }

-- whether the process of an id is unborn, by what is kept
abbrev pub is_unborn_id : NodeRecord → ℕ → Bool
is_unborn_id node_record pid = not (is_among pid node_record.spawned_ids) || has_start pid node_record.waiting_items

-- what is kept for a node stays sound, nothing is born, and parcels came with these blocks and went
-- with those
pub record HasStayedSound (cube : Cube) (sent' r : ℕ) (node_record node_record' : NodeRecord) (come gone : List BlockId) : Type 0 where
  pub sound : IsSoundRecord cube sent' r node_record'
  pub births : (pid : ℕ) → is_unborn_id node_record' pid ≡ is_unborn_id node_record pid
  pub parcels : (id : BlockId) → count id (parcel_ids node_record'.waiting_items) + count id gone ≡ count id (parcel_ids node_record.waiting_items) + count id come

pub numbered-more : (sent sent' : ℕ) (items : List Item) → sent ≤ sent' → AreNumbered sent items → AreNumbered sent' items
numbered-more sent sent' items more numbered = record {
  rising = numbered.rising;
  below = all-weaker (λ n. n < sent) (λ n. n < sent') (numbers_of items) (λ n h. omega arith) numbered.below;
}

pub keeps-same : (cube : Cube) (sent sent' r : ℕ) (node_record : NodeRecord) (mark : Mark) → sent ≤ sent' → IsSoundRecord cube sent r node_record
    → HasStayedSound cube sent' r node_record (record_with node_record.waiting_items node_record.spawned_ids node_record.killed_ids mark) [] []
keeps-same cube sent sent' r node_record mark more sound = record {
  sound = record {
    numbered = numbered-more sent sent' node_record.waiting_items more sound.numbered;
    own = own-more cube r node_record (record_with node_record.waiting_items node_record.spawned_ids node_record.killed_ids mark) node_record.waiting_items (λ pid h. h) (λ pid h. h) sound.own;
    one_start = sound.one_start;
    one_kill = sound.one_kill;
    start_first = sound.start_first;
    ids = sound.ids;
    spawned_once = sound.spawned_once;
    killed = sound.killed;
    killed_once = sound.killed_once;
  };
  births = λ pid. refl;
  parcels = λ id. refl;
}

-- ---- parcels come

-- parcels that are sent to a node: new ones, with rising numbers, for its processes
pub record AreNew (sent sent' r : ℕ) (ps : List Parcel) : Type 0 where
  pub rising : AreRising (map (λ p. p.number) ps)
  pub from_count : AllByRecursion (λ n. sent ≤ n) (map (λ p. p.number) ps)
  pub below : AllByRecursion (λ n. n < sent') (map (λ p. p.number) ps)
  pub places : AllByRecursion (λ p. (p.to.node ≡ r) × (p.to.pid < process_count)) ps

pub numbered-mails : (sent sent' r : ℕ) (items : List Item) (ps : List Parcel) → sent ≤ sent' → AreNumbered sent items → AreRising (map (λ p. p.number) ps)
    → AllByRecursion (λ n. sent ≤ n) (map (λ p. p.number) ps) → AllByRecursion (λ n. n < sent') (map (λ p. p.number) ps)
    → AreNumbered sent' (items ++ map mail ps)
numbered-mails sent sent' r items ps more numbered rising from_count below =
    let numbers : numbers_of (items ++ map mail ps) ≡ numbers_of items ++ map (λ p. p.number) ps =
    numbers-append items (map mail ps) ∙ ap (λ qs. numbers_of items ++ map (λ (p : Parcel). p.number) qs) (among-mails ps) in
    record {
      rising = subst AreRising (sym numbers)
          (pairwise-append (λ a b. a < b) (numbers_of items) (map (λ p. p.number) ps) numbered.rising rising
          (all-weaker (λ n. n < sent) (λ n. AllByRecursion (λ b. n < b) (map (λ (p : Parcel). p.number) ps)) (numbers_of items)
          (λ n h. all-weaker (λ k. sent ≤ k) (λ k. n < k) (map (λ (p : Parcel). p.number) ps) (λ k l. omega arith) from_count) numbered.below));
      below = subst (AllByRecursion (λ n. n < sent')) (sym numbers)
          (all-append (λ n. n < sent') (numbers_of items) (map (λ p. p.number) ps) (all-weaker (λ n. n < sent) (λ n. n < sent') (numbers_of items) (λ n h. omega arith) numbered.below) below);
    }

own-mails : (cube : Cube) (r : ℕ) (node_record : NodeRecord) (ps : List Parcel) → AllByRecursion (λ p. (p.to.node ≡ r) × (p.to.pid < process_count)) ps
    → AllByRecursion (IsItemOf cube r node_record) (map mail ps)
own-mails cube r node_record [] places = tt
own-mails cube r node_record (p ∷ ps) places = (places.0, own-mails cube r node_record ps places.1)

no_starts : (pid : ℕ) (ps : List Parcel) → count_by (is_start_of pid) (map mail ps) ≡ 0
no_starts pid ps = count_by-none (is_start_of pid) (map mail ps) (none-from_any (is_start_of pid) (map mail ps) (start-mails pid ps))

pub mails-ids : (items : List Item) (ps : List Parcel) → parcel_ids (items ++ map mail ps) ≡ parcel_ids items ++ map (λ p. p.block.id) ps
mails-ids items ps = ids-append items (map mail ps) ∙ ap (λ qs. parcel_ids items ++ map (λ (p : Parcel). p.block.id) qs) (among-mails ps)

keeps-appended : (cube : Cube) (sent sent' r : ℕ) (node_record : NodeRecord) (mark : Mark) (ps : List Parcel) → sent ≤ sent' → IsSoundRecord cube sent r node_record
    → AreNew sent sent' r ps → HasStayedSound cube sent' r node_record (record_with (node_record.waiting_items ++ map mail ps) node_record.spawned_ids node_record.killed_ids mark) (map (λ p. p.block.id) ps) []
keeps-appended cube sent sent' r node_record mark ps more sound new = record {
  sound = record {
    numbered = numbered-mails sent sent' r node_record.waiting_items ps more sound.numbered new.rising new.from_count new.below;
    own = all-append (IsItemOf cube r (record_with (node_record.waiting_items ++ map mail ps) node_record.spawned_ids node_record.killed_ids mark)) node_record.waiting_items (map mail ps)
        (own-more cube r node_record (record_with (node_record.waiting_items ++ map mail ps) node_record.spawned_ids node_record.killed_ids mark) node_record.waiting_items (λ pid h. h) (λ pid h. h) sound.own)
        (own-mails cube r (record_with (node_record.waiting_items ++ map mail ps) node_record.spawned_ids node_record.killed_ids mark) ps new.places);
    one_start = λ pid. omega (arith, sound.one_start pid, count_by-append (is_start_of pid) node_record.waiting_items (map mail ps), no_starts pid ps);
    one_kill = λ pid. omega (arith, sound.one_kill pid, count_by-append (is_kill_of pid) node_record.waiting_items (map mail ps), count_by-none (is_kill_of pid) (map mail ps) (kill-mails pid ps));
    start_first = λ pid. start_first-append pid node_record.waiting_items (map mail ps) (start-mails pid ps) (sound.start_first pid) (start_first-mails pid ps);
    ids = sound.ids;
    spawned_once = sound.spawned_once;
    killed = sound.killed;
    killed_once = sound.killed_once;
  };
  births = λ pid. ap (λ b. not (is_among pid node_record.spawned_ids) || b) (start-append pid node_record.waiting_items (map mail ps) (start-mails pid ps));
  parcels = λ id. omega (arith, ap (count id) (mails-ids node_record.waiting_items ps), count-append id (parcel_ids node_record.waiting_items) (map (λ p. p.block.id) ps), count-nil id);
}

pub keeps-mails : (cube : Cube) (sent sent' r : ℕ) (node_record : NodeRecord) (mark : Mark) (ps : List Parcel) → sent ≤ sent' → IsSoundRecord cube sent r node_record
    → AreNew sent sent' r ps → HasStayedSound cube sent' r node_record (record_with (with_appended node_record.waiting_items (map mail ps)) node_record.spawned_ids node_record.killed_ids mark) (map (λ p. p.block.id) ps) []
keeps-mails cube sent sent' r node_record mark ps more sound new =
    subst (λ waiting. HasStayedSound cube sent' r node_record (record_with waiting node_record.spawned_ids node_record.killed_ids mark) (map (λ p. p.block.id) ps) []) (with_appended-is node_record.waiting_items (map mail ps))
    (keeps-appended cube sent sent' r node_record mark ps more sound new)

-- ---- a start or a kill comes

-- an id more among others
pub among-more : (pid other : ℕ) (pids : List ℕ) → is_among pid pids ≡ true → is_among pid (pids ++ other ∷ []) ≡ true
among-more pid other pids h = list_any-append (λ x. x == pid) pids (other ∷ []) ∙ or_left _ _ h

pub among-last : (pid : ℕ) (pids : List ℕ) → is_among pid (pids ++ pid ∷ []) ≡ true
among-last pid pids = list_any-append (λ x. x == pid) pids (pid ∷ []) ∙ or_right _ _ (or_left _ _ (eq-eqb pid pid refl))

or_nil : (b : Bool) → (b || false) ≡ b
or_nil true = refl
or_nil false = refl

pub among-other : (pid other : ℕ) (pids : List ℕ) → (pid ≡ other → ⊥) → is_among pid (pids ++ other ∷ []) ≡ is_among pid pids
among-other pid other pids differ =
    list_any-append (λ x. x == pid) pids (other ∷ []) ∙ ap (λ b. is_among pid pids || (b || false)) (ne_eqb other pid (λ e. differ (sym e))) ∙ or_nil (is_among pid pids)

distinct-more : (pid : ℕ) (pids : List ℕ) → is_among pid pids ≡ false → AreDistinct pids → AreDistinct (pids ++ pid ∷ [])
distinct-more pid pids none distinct =
    pairwise-append (λ a b. (a == b) ≡ false) pids (pid ∷ []) distinct (tt, tt)
    (all-weaker (λ other. (other == pid) ≡ false) (λ other. AllByRecursion (λ b. (other == b) ≡ false) (pid ∷ [])) pids (λ other h. (h, tt))
    (none-from_any (λ other. other == pid) pids none))

pub killed-spawned : (pid : ℕ) (spawned killed : List ℕ) → AllByRecursion (λ q. IsTrue (is_among q spawned)) killed → is_among pid spawned ≡ false → is_among pid killed ≡ false
killed-spawned pid spawned [] all none = refl
killed-spawned pid spawned (other ∷ killed) all none =
    or_from _ _
    (elim (cases_Bool (other == pid)) [
      | inl t ↦ absurd (both_ways _ none (subst (λ q. is_among q spawned ≡ true) (eqb-true other pid t) all.0))
      | inr f ↦ f
    ])
    (killed-spawned pid spawned killed all.1 none)

start-last : (pid image : ℕ) (items : List Item) → has_start pid (items ++ start pid image ∷ []) ≡ true
start-last pid image items = list_any-append (is_start_of pid) items (start pid image ∷ []) ∙ or_right _ _ (or_left _ _ (eq-eqb pid pid refl))

start-other : (pid q image : ℕ) → (q ≡ pid → ⊥) → has_start q (start pid image ∷ []) ≡ false
start-other pid q image differ = or_from _ _ (ne_eqb pid q (λ e. differ (sym e))) refl

-- items without a parcel don't change the numbers
numbered-other : (sent : ℕ) (items others : List Item) → numbers_of others ≡ [] → AreNumbered sent items → AreNumbered sent (items ++ others)
numbered-other sent items others none numbered =
    let same : numbers_of (items ++ others) ≡ numbers_of items = numbers-append items others ∙ ap (λ ns. numbers_of items ++ ns) none ∙ append-nil (numbers_of items) in
    record { rising = subst AreRising (sym same) numbered.rising; below = subst (AllByRecursion (λ n. n < sent)) (sym same) numbered.below }

pub keeps-start : (cube : Cube) (sent r pid image : ℕ) (node_record : NodeRecord) (mark : Mark) → IsSoundRecord cube sent r node_record
    → is_among pid node_record.spawned_ids ≡ false → pid < process_count → image < length cube.images
    → HasStayedSound cube sent r node_record (record_with (node_record.waiting_items ++ start pid image ∷ []) (node_record.spawned_ids ++ pid ∷ []) node_record.killed_ids mark) [] []
keeps-start cube sent r pid image node_record mark sound fresh within of_cube =
    let items = start pid image ∷ [] in
    let node_record' = record_with (node_record.waiting_items ++ items) (node_record.spawned_ids ++ pid ∷ []) node_record.killed_ids mark in
    let more : (q : ℕ) → is_among q node_record.spawned_ids ≡ true → is_among q node_record'.spawned_ids ≡ true = λ q h. among-more q pid node_record.spawned_ids h in
    let none = own-starts cube r pid node_record node_record.waiting_items fresh sound.own in
    record {
      sound = record {
        numbered = numbered-other sent node_record.waiting_items items refl sound.numbered;
        own = all-append (IsItemOf cube r node_record') node_record.waiting_items items (own-more cube r node_record node_record' node_record.waiting_items more (λ q h. h) sound.own)
            ((among-last pid node_record.spawned_ids, of_cube), tt);
        one_start = λ q. elim (cases_eq q pid) [
          | inl same ↦ omega (arith, subst (λ k. count_by (is_start_of k) node_record.waiting_items ≡ 0) (sym same) (count_by-none (is_start_of pid) node_record.waiting_items none), count_by-append (is_start_of q) node_record.waiting_items items, count_by-cons (is_start_of q) (start pid image) [], truth_bit-le (pid == q))
          | inr differ ↦ omega (arith, sound.one_start q, count_by-append (is_start_of q) node_record.waiting_items items, count_by-cons (is_start_of q) (start pid image) [], truth_bit-false (pid == q) (ne_eqb pid q (λ e. differ (sym e))))
        ];
        one_kill = λ q. omega (arith, sound.one_kill q, count_by-append (is_kill_of q) node_record.waiting_items items, count_by-cons (is_kill_of q) (start pid image) []);
        start_first = λ q. elim (cases_eq q pid) [
          | inl same ↦
              subst (λ k. IsStartFirst k (node_record.waiting_items ++ items)) (sym same)
              (start_first-after pid node_record.waiting_items items (own-kills cube r pid node_record node_record.waiting_items (killed-spawned pid node_record.spawned_ids node_record.killed_ids sound.killed fresh) sound.own)
              ((λ h. refl), tt))
          | inr differ ↦ start_first-append q node_record.waiting_items items (start-other pid q image differ) (sound.start_first q) ((λ h. refl), tt)
        ];
        ids = all-append (λ q. q < process_count) node_record.spawned_ids (pid ∷ []) sound.ids (within, tt);
        spawned_once = distinct-more pid node_record.spawned_ids fresh sound.spawned_once;
        killed = all-weaker (λ q. IsTrue (is_among q node_record.spawned_ids)) (λ q. IsTrue (is_among q node_record'.spawned_ids)) node_record.killed_ids more sound.killed;
        killed_once = sound.killed_once;
      };
      births = λ q. elim (cases_eq q pid) [
        | inl same ↦
            subst (λ k. is_unborn_id node_record' k ≡ is_unborn_id node_record k) (sym same)
            (or_right _ _ (start-last pid image node_record.waiting_items) ∙ sym (or_left _ _ (not_from_false (is_among pid node_record.spawned_ids) fresh)))
        | inr differ ↦
            ap (λ b. not b || has_start q (node_record.waiting_items ++ items)) (among-other q pid node_record.spawned_ids differ)
            ∙ ap (λ b. not (is_among q node_record.spawned_ids) || b) (start-append q node_record.waiting_items items (start-other pid q image differ))
      ];
      parcels = λ id. omega (arith, ap (count id) (ids-append node_record.waiting_items items ∙ append-nil (parcel_ids node_record.waiting_items)), count-nil id);
    }

pub keeps-kill : (cube : Cube) (sent r pid : ℕ) (node_record : NodeRecord) (mark : Mark) → IsSoundRecord cube sent r node_record
    → is_among pid node_record.spawned_ids ≡ true → is_among pid node_record.killed_ids ≡ false
    → HasStayedSound cube sent r node_record (record_with (node_record.waiting_items ++ kill pid ∷ []) node_record.spawned_ids (node_record.killed_ids ++ pid ∷ []) mark) [] []
keeps-kill cube sent r pid node_record mark sound known fresh =
    let items = kill pid ∷ [] in
    let node_record' = record_with (node_record.waiting_items ++ items) node_record.spawned_ids (node_record.killed_ids ++ pid ∷ []) mark in
    let more : (q : ℕ) → is_among q node_record.killed_ids ≡ true → is_among q node_record'.killed_ids ≡ true = λ q h. among-more q pid node_record.killed_ids h in
    let none = own-kills cube r pid node_record node_record.waiting_items fresh sound.own in
    record {
      sound = record {
        numbered = numbered-other sent node_record.waiting_items items refl sound.numbered;
        own = all-append (IsItemOf cube r node_record') node_record.waiting_items items (own-more cube r node_record node_record' node_record.waiting_items (λ q h. h) more sound.own)
            (among-last pid node_record.killed_ids, tt);
        one_start = λ q. omega (arith, sound.one_start q, count_by-append (is_start_of q) node_record.waiting_items items, count_by-cons (is_start_of q) (kill pid) []);
        one_kill = λ q. elim (cases_eq q pid) [
          | inl same ↦ omega (arith, subst (λ k. count_by (is_kill_of k) node_record.waiting_items ≡ 0) (sym same) (count_by-none (is_kill_of pid) node_record.waiting_items none), count_by-append (is_kill_of q) node_record.waiting_items items, count_by-cons (is_kill_of q) (kill pid) [], truth_bit-le (pid == q))
          | inr differ ↦ omega (arith, sound.one_kill q, count_by-append (is_kill_of q) node_record.waiting_items items, count_by-cons (is_kill_of q) (kill pid) [], truth_bit-false (pid == q) (ne_eqb pid q (λ e. differ (sym e))))
        ];
        start_first = λ q. start_first-append q node_record.waiting_items items refl (sound.start_first q) ((λ h. refl), tt);
        ids = sound.ids;
        spawned_once = sound.spawned_once;
        killed = all-append (λ q. IsTrue (is_among q node_record.spawned_ids)) node_record.killed_ids (pid ∷ []) sound.killed (known, tt);
        killed_once = distinct-more pid node_record.killed_ids fresh sound.killed_once;
      };
      births = λ q. ap (λ b. not (is_among q node_record.spawned_ids) || b) (start-append q node_record.waiting_items items refl);
      parcels = λ id. omega (arith, ap (count id) (ids-append node_record.waiting_items items ∙ append-nil (parcel_ids node_record.waiting_items)), count-nil id);
    }

pub among-all : (P : ℕ → Type 0) (pid : ℕ) (pids : List ℕ) → AllByRecursion P pids → is_among pid pids ≡ true → P pid
among-all P pid [] all h = absurd (both_ways _ refl h)
among-all P pid (other ∷ pids) all h =
    elim (or_cases (other == pid) (is_among pid pids) h) [ inl t ↦ subst P (eqb-true other pid t) all.0 | inr t ↦ among-all P pid pids all.1 t ]

-- ---- an item is taken

-- how often an item's name fits those that wait
pub named_once : (cube : Cube) (sent r : ℕ) (node_record : NodeRecord) (item : Item) → IsSoundRecord cube sent r node_record → count_by (is_named_by (take_result_of item)) node_record.waiting_items ≤ 1
named_once cube sent r node_record (start pid image) sound =
    omega (arith, sound.one_start pid, count_by-agree (is_named_by (take_result_of (start pid image))) (is_start_of pid) node_record.waiting_items (named-start pid image))
named_once cube sent r node_record (mail parcel) sound = named-mail parcel.to.pid parcel.number node_record.waiting_items sound.numbered.rising
named_once cube sent r node_record (kill pid) sound =
    omega (arith, sound.one_kill pid, count_by-agree (is_named_by (take_result_of (kill pid))) (is_kill_of pid) node_record.waiting_items (named-kill pid))

-- what is left once an item is taken that can be given first
pub record HasTakenItem (cube : Cube) (sent r asking dead : ℕ) (node_record node_record' : NodeRecord) (item : Item) : Type 0 where
  pub sound : IsSoundRecord cube sent r node_record'
  pub parcels : (id : BlockId) → count id (parcel_ids node_record'.waiting_items) + count id (parcel_ids (item ∷ [])) ≡ count id (parcel_ids node_record.waiting_items)
  pub births : (pid : ℕ) → is_start_of pid item ≡ false → is_unborn_id node_record' pid ≡ is_unborn_id node_record pid
  pub out : IsOut (is_eligible asking dead) (is_named_by (take_result_of item)) node_record.waiting_items item
  pub of_node : IsItemOf cube r node_record item

abbrev pub without_named : Item → List Item → List Item
without_named item items = filter (λ x. not (is_named_by (take_result_of item) x)) items

start-out : (pid : ℕ) (before : List Item) (item : Item) (behind : List Item) → is_start_of pid item ≡ false → has_start pid (before ++ item ∷ behind) ≡ has_start pid (before ++ behind)
start-out pid [] item behind other = ap (λ b. b || has_start pid behind) other
start-out pid (x ∷ before) item behind other = ap (λ b. is_start_of pid x || b) (start-out pid before item behind other)

pub takes-item : (cube : Cube) (sent r asking dead : ℕ) (node_record : NodeRecord) (mark : Mark) (item : Item) → IsSoundRecord cube sent r node_record
    → find (is_eligible asking dead) node_record.waiting_items ≡ Some item
    → HasTakenItem cube sent r asking dead node_record (record_with (without_named item node_record.waiting_items) node_record.spawned_ids node_record.killed_ids mark) item
takes-item cube sent r asking dead node_record mark item sound found =
    let test = λ (x : Item). not (is_named_by (take_result_of item) x) in
    let left = filter test node_record.waiting_items in
    let node_record' = record_with left node_record.spawned_ids node_record.killed_ids mark in
    let out = find-out (is_eligible asking dead) (is_named_by (take_result_of item)) node_record.waiting_items item found (named-itself item) (named_once cube sent r node_record item sound) in
    record {
      sound = record {
        numbered = record {
          rising = rising-filter test node_record.waiting_items sound.numbered.rising;
          below = all_numbers-filter (λ n. n < sent) test node_record.waiting_items sound.numbered.below;
        };
        own = all-filter (IsItemOf cube r node_record') test node_record.waiting_items (own-more cube r node_record node_record' node_record.waiting_items (λ q h. h) (λ q h. h) sound.own);
        one_start = λ pid. omega (arith, sound.one_start pid, count_by-filter (is_start_of pid) test node_record.waiting_items);
        one_kill = λ pid. omega (arith, sound.one_kill pid, count_by-filter (is_kill_of pid) test node_record.waiting_items);
        start_first = λ pid. start_first-filter pid test node_record.waiting_items (sound.start_first pid);
        ids = sound.ids;
        spawned_once = sound.spawned_once;
        killed = sound.killed;
        killed_once = sound.killed_once;
      };
      parcels = λ id. omega (
        arith,
        ap (λ xs. count id (parcel_ids xs)) out.rest,
        ap (λ xs. count id (parcel_ids xs)) out.whole,
        ap (count id) (ids-append out.before out.behind),
        count-append id (parcel_ids out.before) (parcel_ids out.behind),
        ap (count id) (ids-append out.before (item ∷ out.behind)),
        count-append id (parcel_ids out.before) (parcel_ids (item ∷ out.behind)),
        ap (count id) (ids-append (item ∷ []) out.behind),
        count-append id (parcel_ids (item ∷ [])) (parcel_ids out.behind),
      );
      births = λ pid other. ap (λ xs. not (is_among pid node_record.spawned_ids) || has_start pid xs) out.rest
          ∙ sym (ap (λ b. not (is_among pid node_record.spawned_ids) || b) (start-out pid out.before item out.behind other))
          ∙ sym (ap (λ xs. not (is_among pid node_record.spawned_ids) || has_start pid xs) out.whole);
      out = out;
      of_node = all-split (IsItemOf cube r node_record) out.before item out.behind (subst (AllByRecursion (IsItemOf cube r node_record)) out.whole sound.own);
    }

-- the start of a process that is taken was the only one
pub start-taken : (cube : Cube) (sent r asking dead pid image : ℕ) (node_record node_record' : NodeRecord) → IsSoundRecord cube sent r node_record → node_record'.spawned_ids ≡ node_record.spawned_ids
    → node_record'.waiting_items ≡ without_named (start pid image) node_record.waiting_items
    → HasTakenItem cube sent r asking dead node_record node_record' (start pid image) → (is_unborn_id node_record pid ≡ true) × (is_unborn_id node_record' pid ≡ false)
start-taken cube sent r asking dead pid image node_record node_record' sound spawned waiting taken =
    let here = eq-eqb pid pid refl in
    let others : count_by (is_start_of pid) (taken.out.before ++ taken.out.behind) ≡ 0 =
    omega (
      arith,
      sound.one_start pid,
      ap (count_by (is_start_of pid)) taken.out.whole,
      count_by-append (is_start_of pid) taken.out.before (start pid image ∷ taken.out.behind),
      count_by-cons (is_start_of pid) (start pid image) taken.out.behind,
      truth_bit-true (pid == pid) here,
      count_by-append (is_start_of pid) taken.out.before taken.out.behind,
    ) in
    let none = any-none (is_start_of pid) (taken.out.before ++ taken.out.behind) (none-from_count (is_start_of pid) (taken.out.before ++ taken.out.behind) others) in (
      or_right _ _ (ap (has_start pid) taken.out.whole ∙ (list_any-append (is_start_of pid) taken.out.before (start pid image ∷ taken.out.behind) ∙ or_right _ _ (or_left _ _ here))),
      or_from _ _ (ap (λ pids. not (is_among pid pids)) spawned ∙ not_from_true (is_among pid node_record.spawned_ids) taken.of_node.0)
          (ap (has_start pid) (waiting ∙ taken.out.rest) ∙ none),
    )

-- the process of a kill that is taken was born
pub kill-taken : (cube : Cube) (sent r asking dead pid : ℕ) (node_record node_record' : NodeRecord) → IsSoundRecord cube sent r node_record
    → HasTakenItem cube sent r asking dead node_record node_record' (kill pid) → (pid < process_count) × (is_unborn_id node_record pid ≡ false)
kill-taken cube sent r asking dead pid node_record node_record' sound taken =
    let spawned : is_among pid node_record.spawned_ids ≡ true =
    true_from_ne_false (is_among pid node_record.spawned_ids) (λ none. both_ways _ (killed-spawned pid node_record.spawned_ids node_record.killed_ids sound.killed none) taken.of_node) in
    let before = any-none (is_start_of pid) taken.out.before
    (all-weaker (λ x. is_eligible asking dead x ≡ false) (λ x. is_start_of pid x ≡ false) taken.out.before (start_can_be_given asking dead pid) taken.out.earlier) in
    let behind = start_first-at pid taken.out.before taken.out.behind (subst (IsStartFirst pid) taken.out.whole (sound.start_first pid)) in (
      among-all (λ q. q < process_count) pid node_record.spawned_ids sound.ids spawned,
      or_from _ _ (not_from_true (is_among pid node_record.spawned_ids) spawned)
          (ap (has_start pid) taken.out.whole ∙ (list_any-append (is_start_of pid) taken.out.before (kill pid ∷ taken.out.behind) ∙ or_from _ _ before behind)),
    )
