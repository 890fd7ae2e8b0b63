-- A book begins with its rule, and seats that come, go and meet keep it.
use Rattle.std.proofs.Common.{◌≡◌, ◌≢◌, ℕ, ◌+◌, ◌^◌, ◌<◌, ◌≤◌, true, false, List, [], ◌∷◌, ◌++◌, map, length, set, refl, sym, ap, ◌∙◌, subst, ⊎_elim, arith, length-append, lit<}
use Rattle.std.proofs.lemmas.List.{append-nil, nil_from_length}
use Rattle.std.specs.List.{AllByRecursion, Contains}
use mathlib.Core.Logic.{dite}
use mathlib.Core.Option.{some, some-injective, some-ne-none}
use native.Mathlib.Decide.{ℕ_discrete}
use lib.ListN.{get_elem?}
use lib.Seq.{map-set}
use Rattle.atomic_table.specs.Table.{State, opening, Splits, Joins, Final, Seen}
use Rattle.atomic_table.proofs.Lists.{set_again, at_map, at_longer, set_else}
use Rattle.ce_model.specs.declared.topology.TheConstants.{HOST}
use Rattle.ce_model.proofs.Members.{all-back, all-weaker}
use Rattle.ce_lock.specs.declared.view.QueuePlace.{QueuePlace}
use Rattle.ce_lock.specs.declared.view.Right.{Right}
use Rattle.ce_lock.specs.declared.view.JoinedHead.{JoinedHead}
use Rattle.ce_lock.specs.declared.view.View.{View}
use Rattle.ce_lock.specs.Entries.{longer_list, AtEach}
use Rattle.ce_lock.specs.Meanings.{Meanings}
use Rattle.ce_lock.specs.OneOrder.{IsQueue, IsFair, IsHeaded, IsSeated, IsGone, IsMissable, IsJoinedHead, IsToldPage, IsBookInOrder}
use Rattle.ce_lock.specs.Telling.{idle_place, no_actor, spent_right, view_copy, view_after_making, next_head, view_with_out, actor_view, view_after_meeting, view_after_joining, joined_head_of, view_after_closing, spent_view, first_view, IsClosingObject}
use Rattle.ce_lock.proofs.Members.{in_none, in_cases}
use Rattle.ce_lock.proofs.Seats.{at_same, at_other, at_one, at_added, map_added, map_kept, each_kept, each_added, each_unset}
use Rattle.ce_lock.proofs.Tickets.{come}
use Rattle.ce_lock.proofs.Fair.{still_in, copy_comes, copy_gone, sends, sent_gone, makes, made_gone, spent_gone, copy_goes, head_goes, head_gone, takes_back, back_gone}
use Rattle.ce_lock.proofs.Histories.{every_both, told_copy, told_fresh, told_sent, told_sender, told_joins, told_last, longer_is}
use Rattle.ce_lock.proofs.Moves.{is_true_or_false, right_at, place_at, not_spent}

clash : {P : Type 0} → false ≡ true → P
clash e = absurd (cc)

-- of two front parts, where one is the whole, the longer is the whole
whole_first : {A : Type 0} (xs a ys b h : List A) → xs ++ a ≡ h → ys ++ b ≡ h → xs ≡ h → longer_list xs ys ≡ h
whole_first xs a ys b h p q is = ⊎_elim
    (λ (t : (longer_list xs ys ≡ xs) × ((mid : List _) × (ys ++ mid ≡ xs) × (b ≡ mid ++ a))). t.0 ∙ is)
    (λ (t : (longer_list xs ys ≡ ys) × ((mid : List _) × (xs ++ mid ≡ ys) × (a ≡ mid ++ b))).
    let none : length b ≡ 0 = omega (arith, ap length t.1.1, length-append xs t.1.0, ap length q, length-append ys b, ap length is) in
    t.0 ∙ (sym (append-nil ys) ∙ (ap (λ (l : List _). ys ++ l) (sym (nil_from_length b none)) ∙ q)))
    (longer_is xs a ys b h p q)

whole_second : {A : Type 0} (xs a ys b h : List A) → xs ++ a ≡ h → ys ++ b ≡ h → ys ≡ h → longer_list xs ys ≡ h
whole_second xs a ys b h p q is = ⊎_elim
    (λ (t : (longer_list xs ys ≡ xs) × ((mid : List _) × (ys ++ mid ≡ xs) × (b ≡ mid ++ a))).
    let none : length a ≡ 0 = omega (arith, ap length t.1.1, length-append ys t.1.0, ap length p, length-append xs a, ap length is) in
    t.0 ∙ (sym (append-nil xs) ∙ (ap (λ (l : List _). xs ++ l) (sym (nil_from_length a none)) ∙ p)))
    (λ (t : (longer_list xs ys ≡ ys) × ((mid : List _) × (xs ++ mid ≡ ys) × (a ≡ mid ++ b))). t.0 ∙ is)
    (longer_is xs a ys b h p q)

module _ {O E F : Type 0} (m : Meanings O E F) (o : O) (families : ℕ) where
  abbrev IsRuled : State O (View O E) → Type 0
  IsRuled = IsBookInOrder m o families

  abbrev rights : List (View O E) → List Right
  rights vs = map (λ w. w.right) vs

  abbrev places : List (View O E) → List QueuePlace
  places vs = map (λ w. w.place) vs

  -- a seat comes, and the one that it comes from has another right, and all else as before
  comes : (s : State O (View O E)) (r : IsRuled s) (id : ℕ) (v : View O E) (right : Right) (u : View O E) → get_elem? s.views id ≡ some v → u.place ≡ idle_place → right.may_draw ≡ v.right.may_draw → right.is_spent ≡ v.right.is_spent
      → IsFair families (set (rights s.views) id right ++ u.right ∷ []) → ((family : ℕ) → IsGone (rights s.views) family → IsGone (set (rights s.views) id right ++ u.right ∷ []) family)
      → (right.is_spent ≡ false → IsToldPage m o r.history right v.page) → (u.right.is_spent ≡ false → IsToldPage m o r.history u.right u.page) → u.page.joined_heads ≡ []
      → (0 < right.heads → AllByRecursion (λ e. (m.whose e).family < right.heads) r.history) → (0 < u.right.heads → AllByRecursion (λ e. (m.whose e).family < u.right.heads) r.history)
      → IsRuled record { words = s.words; homes = s.homes; views = set s.views id (record v { right = right }) ++ u ∷ [] }
  comes s r id v right u at idle draws live fair gone told told_u lasts_u made made_u = let w : View O E = record v { right = right } in let vs : List (View O E) = set s.views id w in
      let rights_are : rights (vs ++ u ∷ []) ≡ set (rights s.views) id right ++ u.right ∷ [] = map_added (λ x. x.right) vs u ∙ ap (λ (l : List Right). l ++ u.right ∷ []) (map-set (λ x. x.right) s.views id w) in
      let places_are : places (vs ++ u ∷ []) ≡ places s.views ++ idle_place ∷ [] = map_added (λ x. x.place) vs u
      ∙ (λ k. map_kept (λ (x : View O E). x.place) s.views id v w at refl k ++ idle k ∷ []) in record {
        now = r.now;
        next = r.next;
        history = r.history;
        words = r.words;
        lawful = r.lawful;
        short = r.short;
        queue = subst (IsQueue r.now r.next) (sym places_are) (come r.now r.next (places s.views) r.queue);
        fair = subst (IsFair families) (sym rights_are) fair;
        entitled = each_added (λ (x : View O E). x.place.has_ticket ≡ true → x.right.may_draw ≡ true) vs u (λ e. clash (sym (ap (λ (p : QueuePlace). p.has_ticket) idle) ∙ e))
            (each_kept (λ (x : View O E). x.place.has_ticket ≡ true → x.right.may_draw ≡ true) s.views id w (λ e. draws ∙ r.entitled id v at e) r.entitled);
        home = λ all. r.home (each_unset (λ (x : View O E). x.place.has_object ≡ false) s.views id v w at
            (all id w (at_longer vs (u ∷ []) id w (at_same s.views id v w at))) (λ j x e. all j x (at_longer vs (u ∷ []) j x e)));
        informed = each_added (λ (x : View O E). x.place.has_object ≡ true → x.page.seen ≡ r.history) vs u (λ e. clash (sym (ap (λ (p : QueuePlace). p.has_object) idle) ∙ e))
            (each_kept (λ (x : View O E). x.place.has_object ≡ true → x.page.seen ≡ r.history) s.views id w (r.informed id v at) r.informed);
        told = each_added (λ (x : View O E). x.right.is_spent ≡ false → IsToldPage m o r.history x.right x.page) vs u told_u
            (each_kept (λ (x : View O E). x.right.is_spent ≡ false → IsToldPage m o r.history x.right x.page) s.views id w told r.told);
        gone = subst (λ (rs : List Right). AtEach (vs ++ u ∷ []) (λ x. AllByRecursion (λ l. IsGone rs l.family) x.page.joined_heads)) (sym rights_are)
            (each_added (λ (x : View O E). AllByRecursion (λ l. IsGone (set (rights s.views) id right ++ u.right ∷ []) l.family) x.page.joined_heads) vs u
            (subst (λ (ls : List (JoinedHead E)). AllByRecursion (λ l. IsGone (set (rights s.views) id right ++ u.right ∷ []) l.family) ls) (sym lasts_u) tt)
            (each_kept (λ (x : View O E). AllByRecursion (λ l. IsGone (set (rights s.views) id right ++ u.right ∷ []) l.family) x.page.joined_heads) s.views id w
            (gone_at v.page.joined_heads (r.gone id v at)) (λ j x e. gone_at x.page.joined_heads (r.gone j x e))));
        made = each_added (λ (x : View O E). 0 < x.right.heads → AllByRecursion (λ e. (m.whose e).family < x.right.heads) r.history) vs u made_u
            (each_kept (λ (x : View O E). 0 < x.right.heads → AllByRecursion (λ e. (m.whose e).family < x.right.heads) r.history) s.views id w made r.made);
        longest = let l = r.longest in dite (ℕ_discrete l.0 id)
            (λ is. let here : v ≡ l.1 = at_one s.views id v l.1 at (ap (get_elem? s.views) (sym is) ∙ l.2) in
            (id, w, at_longer vs (u ∷ []) id w (at_same s.views id v w at), live ∙ (ap (λ (z : View O E). z.right.is_spent) here ∙ l.3), ap (λ (z : View O E). z.page.seen) here ∙ l.4))
            (λ ne. (l.0, l.1, at_longer vs (u ∷ []) l.0 l.1 (at_other s.views id l.0 l.1 w ne l.2), l.3, l.4));
      }
    where
      gone_at : (ls : List (JoinedHead E)) → AllByRecursion (λ l. IsGone (rights s.views) l.family) ls → AllByRecursion (λ l. IsGone (set (rights s.views) id right ++ u.right ∷ []) l.family) ls
      gone_at ls g = all-weaker (λ (l : JoinedHead E). IsGone (rights s.views) l.family) (λ l. IsGone (set (rights s.views) id right ++ u.right ∷ []) l.family) ls (λ l h. gone l.family h) g

  -- the list of rights, with one of them set to itself
  same_rights : (s : State O (View O E)) (id : ℕ) (v : View O E) → get_elem? s.views id ≡ some v → set (rights s.views) id v.right ≡ rights s.views
  same_rights s id v at = set_again (rights s.views) id v.right (at_map (λ (w : View O E). w.right) s.views id v at)

  pub copies : (id : ℕ) (v : View O E) → v.right.is_spent ≡ false → Splits IsRuled id v v (view_copy v)
  copies id v live s r at = comes s r id v v.right (view_copy v) at refl refl refl
      (subst (λ (l : List Right). IsFair families (l ++ no_actor ∷ [])) (sym (same_rights s id v at)) (copy_comes families (rights s.views) r.fair))
      (λ family g. subst (λ (l : List Right). IsGone (l ++ no_actor ∷ []) family) (sym (same_rights s id v at)) (copy_gone families (rights s.views) r.fair family g))
      (r.told id v at) (λ _. told_copy m o r.history v.right no_actor v.page [] (r.told id v at live) refl) refl (r.made id v at) (λ z. absurd (omega arith))

  pub makes_head : (id : ℕ) (v : View O E) → v.right.is_spent ≡ false → 0 < v.right.heads → v.right.heads < families → Splits IsRuled id v (view_after_making v) (next_head v)
  makes_head id v live some_heads room s r at = let family_below = r.made id v at some_heads in let at' = at_map (λ (w : View O E). w.right) s.views id v at in
      let told = r.told id v at live in comes s r id v (record v.right { heads = 0 }) (next_head v) at refl refl refl
      (makes families (rights s.views) r.fair id v.right at' some_heads room)
      (made_gone families (rights s.views) r.fair id v.right at' some_heads room)
      (λ _. record { opening_is = told.opening_is; missed_entries = told.missed_entries; whole = told.whole; missable = told.missable; own = told.own; older_histories = told.older_histories; joined_heads = told.joined_heads })
      (λ _. told_fresh m o r.history v.right (next_head v).right v.page told
      (all-weaker (λ e. (m.whose e).family < v.right.heads) (λ e. (m.whose e).family ≢ v.right.heads) r.history (λ e l is. absurd (omega arith)) family_below)) refl
      (λ z. absurd (omega arith)) (λ _. all-weaker (λ e. (m.whose e).family < v.right.heads) (λ e. (m.whose e).family < v.right.heads + 1) r.history (λ e l. omega arith) family_below)

  pub sends_out : (id a : ℕ) (v : View O E) → v.right.may_draw ≡ true → v.right.actor ≡ HOST → a ≢ HOST → a < 2 ^ 32 → ¬ Contains v.right.absent_actors a → Splits IsRuled id v (view_with_out a v) (actor_view m.whose a v)
  sends_out id a v d host other small free s r at = let at' = at_map (λ (w : View O E). w.right) s.views id v at in let told = r.told id v at (not_spent m o families s r id v at d) in
      comes s r id v (record v.right { absent_actors = a ∷ v.right.absent_actors }) (actor_view m.whose a v) at refl refl refl
      (sends families (rights s.views) r.fair id a v.right at' d host other small free)
      (sent_gone families (rights s.views) r.fair id a v.right at' d host other small free)
      (λ _. told_sender m o r.history v.right v.page a told) (λ _. told_sent m o r.history v.right v.page a told d host other free) refl (r.made id v at) (λ z. absurd (omega arith))

  -- a seat goes into another, which keeps its place
  goes : (s : State O (View O E)) (r : IsRuled s) (id other : ℕ) (v w both : View O E) → get_elem? s.views id ≡ some v → ¬ (other ≡ id) → get_elem? s.views other ≡ some w
      → v.place ≡ idle_place → w.place ≡ idle_place → both.place ≡ idle_place → both.right.is_spent ≡ false
      → IsFair families (set (set (rights s.views) id both.right) other spent_right) → ((family : ℕ) → IsGone (rights s.views) family → IsGone (set (set (rights s.views) id both.right) other spent_right) family)
      → AllByRecursion (λ l. IsGone (set (set (rights s.views) id both.right) other spent_right) l.family) both.page.joined_heads
      → IsToldPage m o r.history both.right both.page → (0 < both.right.heads → AllByRecursion (λ e. (m.whose e).family < both.right.heads) r.history)
      → (v.page.seen ≡ r.history → both.page.seen ≡ r.history) → (w.page.seen ≡ r.history → both.page.seen ≡ r.history)
      → IsRuled record { words = s.words; homes = s.homes; views = set (set s.views id both) other spent_view }
  goes s r id other v w both at ne at_w idle idle_w idle_both live fair gone lasts told made seen_v seen_w = let vs : List (View O E) = set s.views id both in let us : List (View O E) = set vs other spent_view in
      let there : get_elem? vs other ≡ some w = at_other s.views id other w both ne at_w in
      let rights_are : rights us ≡ set (set (rights s.views) id both.right) other spent_right = map-set (λ x. x.right) vs other spent_view ∙ ap (λ (l : List Right). set l other spent_right) (map-set (λ x. x.right) s.views id both) in
      let places_are : places us ≡ places s.views = map_kept (λ (x : View O E). x.place) vs other w spent_view there (sym idle_w) ∙ map_kept (λ (x : View O E). x.place) s.views id v both at (idle_both ∙ sym idle) in
      let still : get_elem? us id ≡ some both = at_other vs other id both spent_view (λ e. ne (sym e)) (at_same s.views id v both at) in
      record {
        now = r.now;
        next = r.next;
        history = r.history;
        words = r.words;
        lawful = r.lawful;
        short = r.short;
        queue = subst (IsQueue r.now r.next) (sym places_are) r.queue;
        fair = subst (IsFair families) (sym rights_are) fair;
        entitled = each_kept (λ (x : View O E). x.place.has_ticket ≡ true → x.right.may_draw ≡ true) vs other spent_view (λ e. clash e)
            (each_kept (λ (x : View O E). x.place.has_ticket ≡ true → x.right.may_draw ≡ true) s.views id both (λ e. clash (sym (ap (λ (p : QueuePlace). p.has_ticket) idle_both) ∙ e)) r.entitled);
        home = λ all. r.home (each_unset (λ (x : View O E). x.place.has_object ≡ false) s.views id v both at (ap (λ (p : QueuePlace). p.has_object) idle)
            (each_unset (λ (x : View O E). x.place.has_object ≡ false) vs other w spent_view there (ap (λ (p : QueuePlace). p.has_object) idle_w) all));
        informed = each_kept (λ (x : View O E). x.place.has_object ≡ true → x.page.seen ≡ r.history) vs other spent_view (λ e. clash e)
            (each_kept (λ (x : View O E). x.place.has_object ≡ true → x.page.seen ≡ r.history) s.views id both (λ e. clash (sym (ap (λ (p : QueuePlace). p.has_object) idle_both) ∙ e)) r.informed);
        told = each_kept (λ (x : View O E). x.right.is_spent ≡ false → IsToldPage m o r.history x.right x.page) vs other spent_view (λ e. clash (sym e))
            (each_kept (λ (x : View O E). x.right.is_spent ≡ false → IsToldPage m o r.history x.right x.page) s.views id both (λ _. told) r.told);
        gone = subst (λ (rs : List Right). AtEach us (λ x. AllByRecursion (λ l. IsGone rs l.family) x.page.joined_heads)) (sym rights_are)
            (each_kept (λ (x : View O E). AllByRecursion (λ l. IsGone (set (set (rights s.views) id both.right) other spent_right) l.family) x.page.joined_heads) vs other spent_view tt
            (each_kept (λ (x : View O E). AllByRecursion (λ l. IsGone (set (set (rights s.views) id both.right) other spent_right) l.family) x.page.joined_heads) s.views id both lasts
            (λ j x e. all-weaker (λ (l : JoinedHead E). IsGone (rights s.views) l.family) (λ l. IsGone (set (set (rights s.views) id both.right) other spent_right) l.family) x.page.joined_heads (λ l h. gone l.family h) (r.gone j x e))));
        made = each_kept (λ (x : View O E). 0 < x.right.heads → AllByRecursion (λ e. (m.whose e).family < x.right.heads) r.history) vs other spent_view (λ z. absurd (omega arith))
            (each_kept (λ (x : View O E). 0 < x.right.heads → AllByRecursion (λ e. (m.whose e).family < x.right.heads) r.history) s.views id both made r.made);
        longest = let l = r.longest in dite (ℕ_discrete l.0 id)
            (λ is. (id, both, still, live, seen_v (ap (λ (z : View O E). z.page.seen) (at_one s.views id v l.1 at (ap (get_elem? s.views) (sym is) ∙ l.2)) ∙ l.4)))
            (λ not_id. dite (ℕ_discrete l.0 other)
            (λ is. (id, both, still, live, seen_w (ap (λ (z : View O E). z.page.seen) (at_one s.views other w l.1 at_w (ap (get_elem? s.views) (sym is) ∙ l.2)) ∙ l.4)))
            (λ not_other. (l.0, l.1, at_other vs other l.0 l.1 spent_view not_other (at_other s.views id l.0 l.1 both not_id l.2), l.3, l.4)));
      }

  -- what is at another place than the one that was set
  was_there : (vs : List (View O E)) (id other : ℕ) (w both : View O E) → ¬ (other ≡ id) → get_elem? (set vs id both) other ≡ some w → get_elem? vs other ≡ some w
  was_there vs id other w both ne e = sym (set_else vs id other both ne) ∙ e

  -- a copy goes into a view
  pub meets : (id other : ℕ) (v w : View O E) → v.place ≡ idle_place → v.right.is_spent ≡ false → w.place ≡ idle_place → w.right ≡ no_actor → Joins IsRuled id v other w (view_after_meeting v w) spent_view
  meets id other v w idle live idle_w copied s r at ne there = let at_w = was_there s.views id other w (view_after_meeting v w) ne there in let told = r.told id v at live in
      let told_w = r.told other w at_w (ap (λ (x : Right). x.is_spent) copied) in
      let at_r : get_elem? (rights s.views) other ≡ some w.right = at_map (λ (x : View O E). x.right) s.views other w at_w in
      let back : set (set (rights s.views) id v.right) other spent_right ≡ set (rights s.views) other spent_right = ap (λ (l : List Right). set l other spent_right) (same_rights s id v at) in
      let gone : (family : ℕ) → IsGone (rights s.views) family → IsGone (set (set (rights s.views) id v.right) other spent_right) family = λ family g. subst (λ (l : List Right). IsGone l family) (sym back) (spent_gone families (rights s.views) r.fair other family g) in
      goes s r id other v w (view_after_meeting v w) at ne at_w idle idle_w idle live
      (subst (IsFair families) (sym back) (copy_goes families (rights s.views) r.fair other w.right at_r (ap (λ (x : Right). x.may_draw) copied)))
      gone
      (all-weaker (λ (l : JoinedHead E). IsGone (rights s.views) l.family) (λ l. IsGone (set (set (rights s.views) id v.right) other spent_right) l.family) v.page.joined_heads (λ l h. gone l.family h) (r.gone id v at))
      (told_joins m o r.history v.right v.right v.page w.page.seen told_w.missed_entries v.page.joined_heads told told_w.whole refl refl told.joined_heads (λ _ es h mid e. h))
      (r.made id v at)
      (λ is. whole_first v.page.seen told.missed_entries w.page.seen told_w.missed_entries r.history told.whole told_w.whole is)
      (λ is. whole_second v.page.seen told.missed_entries w.page.seen told_w.missed_entries r.history told.whole told_w.whole is)

  -- a worker goes into the head of its family
  pub takes_in : (id other : ℕ) (v w : View O E) → v.place ≡ idle_place → v.right.may_draw ≡ true → v.right.actor ≡ HOST → w.place ≡ idle_place → w.right.may_draw ≡ true → w.right.family ≡ v.right.family → Contains v.right.absent_actors w.right.actor
      → Joins IsRuled id v other w (view_after_joining v w) spent_view
  takes_in id other v w idle d host idle_w dw family within s r at ne there = let at_w = was_there s.views id other w (view_after_joining v w) ne there in
      let live = not_spent m o families s r id v at d in let told = r.told id v at live in let told_w = r.told other w at_w (not_spent m o families s r other w at_w dw) in
      let at_r = right_at m o families s.views id v at in let at_rw = right_at m o families s.views other w at_w in
      let worker : w.right.actor ≢ HOST = (r.fair.seated id v.right at_r d host w.right.actor within).0 in
      let gone : (f : ℕ) → IsGone (rights s.views) f → IsGone (set (set (rights s.views) id (view_after_joining v w).right) other spent_right) f = back_gone families (rights s.views) r.fair id other v.right w.right at_r d host at_rw dw family worker in
      goes s r id other v w (view_after_joining v w) at ne at_w idle idle_w idle live
      (takes_back families (rights s.views) r.fair id other v.right w.right at_r d host at_rw dw family worker)
      gone
      (all-weaker (λ (l : JoinedHead E). IsGone (rights s.views) l.family) (λ l. IsGone (set (set (rights s.views) id (view_after_joining v w).right) other spent_right) l.family) v.page.joined_heads (λ l h. gone l.family h) (r.gone id v at))
      (told_joins m o r.history v.right (view_after_joining v w).right v.page w.page.seen told_w.missed_entries v.page.joined_heads told told_w.whole refl refl told.joined_heads
      (λ _ es h mid e. every_both (IsMissable m v.right) (IsMissable m w.right) (IsMissable m (view_after_joining v w).right) (both_miss v w family) es h
      (all-back (IsMissable m w.right) mid es (subst (AllByRecursion (IsMissable m w.right)) (sym e) (told_w.missable dw)))))
      (r.made id v at)
      (λ is. whole_first v.page.seen told.missed_entries w.page.seen told_w.missed_entries r.history told.whole told_w.whole is)
      (λ is. whole_second v.page.seen told.missed_entries w.page.seen told_w.missed_entries r.history told.whole told_w.whole is)
    where
      both_miss : (v w : View O E) → w.right.family ≡ v.right.family → (e : E) → IsMissable m v.right e → IsMissable m w.right e → IsMissable m (view_after_joining v w).right e
      both_miss v w family e x y = (
        x.0,
        λ host same. still_in w.right.actor (m.whose e).actor v.right.absent_actors
            (λ is. ⊎_elim (λ (z : (m.whose e).family ≢ w.right.family). z (same ∙ sym family)) (λ (z : ((m.whose e).actor ≢ w.right.actor) × (m.alone e ≡ false)). z.0 is) y.0)
            (x.1 host same),
      )

  -- a head with nobody out goes, and a copy keeps what it knows
  pub closes : (id other : ℕ) (v w : View O E) → v.place ≡ idle_place → v.right ≡ no_actor → w.place ≡ idle_place → w.right.may_draw ≡ true → w.right.actor ≡ HOST → w.right.absent_actors ≡ [] → w.page.earlier ≡ []
      → Joins IsRuled id v other w (view_after_closing v w) spent_view
  closes id other v w idle copied idle_w dw host alone fresh s r at ne there = let at_w = was_there s.views id other w (view_after_closing v w) ne there in let live : v.right.is_spent ≡ false = ap (λ (x : Right). x.is_spent) copied in
      let told = r.told id v at live in let told_w = r.told other w at_w (not_spent m o families s r other w at_w dw) in let at_rw = right_at m o families s.views other w at_w in
      let back : set (set (rights s.views) id v.right) other spent_right ≡ set (rights s.views) other spent_right = ap (λ (l : List Right). set l other spent_right) (same_rights s id v at) in
      let gone : (f : ℕ) → IsGone (rights s.views) f → IsGone (set (set (rights s.views) id v.right) other spent_right) f = λ f g. subst (λ (l : List Right). IsGone l f) (sym back) (spent_gone families (rights s.views) r.fair other f g) in
      goes s r id other v w (view_after_closing v w) at ne at_w idle idle_w idle live
      (subst (IsFair families) (sym back) (head_goes families (rights s.views) r.fair other w.right at_rw dw host alone))
      gone (
        subst (λ (l : List Right). IsGone l w.right.family) (sym back) (head_gone families (rights s.views) r.fair other w.right at_rw dw host alone),
        all-weaker (λ (l : JoinedHead E). IsGone (rights s.views) l.family) (λ l. IsGone (set (set (rights s.views) id v.right) other spent_right) l.family) v.page.joined_heads (λ l h. gone l.family h) (r.gone id v at),
      )
      (told_joins m o r.history v.right v.right v.page w.page.seen told_w.missed_entries (joined_head_of w ∷ v.page.joined_heads) told told_w.whole refl refl
      (told_last m o r.history w.right w.page told_w dw host alone fresh, told.joined_heads) (λ d es h mid e. h))
      (r.made id v at)
      (λ is. whole_first v.page.seen told.missed_entries w.page.seen told_w.missed_entries r.history told.whole told_w.whole is)
      (λ is. whole_second v.page.seen told.missed_entries w.page.seen told_w.missed_entries r.history told.whole told_w.whole is)

  -- the one view of a list of one
  only : {A : Type 0} (P : A → Type 0) (a : A) → P a → AtEach (a ∷ []) P
  only P a mine = each_added P [] a mine (λ i x e. absurd (some-ne-none x (sym e)))

  only_place : {A : Type 0} (a : A) (i : ℕ) (x : A) → get_elem? (a ∷ []) i ≡ some x → i ≡ 0
  only_place a i x e = ⊎_elim (λ (t : get_elem? [] i ≡ some x). absurd (some-ne-none x (sym t))) (λ (t : (i ≡ 0) × (a ≡ x)). t.0) (at_added [] a i x e)

  -- a book begins with its rule
  pub starts : m.history o ≡ [] → m.lawful (m.fixed o) [] → 0 < families → families < 2 ^ 32 → IsRuled (opening (0 ∷ 0 ∷ 0 ∷ []) (o ∷ []) (first_view o))
  starts empty lawful some_families few = let v : View O E = first_view o in record {
    now = 0;
    next = 0;
    history = [];
    words = refl;
    lawful = lawful;
    short = lit< tt;
    queue = record {
      up = omega arith;
      few = lit< tt;
      each = λ t low high. absurd (omega arith);
      once = λ i j p q ei ej _ _ _. only_place idle_place i p ei ∙ sym (only_place idle_place j q ej);
      has_ticket = only (λ (p : QueuePlace). p.has_ticket ≡ true → (0 ≤ p.ticket) × (p.ticket < 0)) idle_place (λ e. clash e);
      is_turn = only (λ (p : QueuePlace). p.is_turn ≡ true → (p.has_ticket ≡ true) × (p.ticket ≡ 0)) idle_place (λ e. clash e);
      has_object = only (λ (p : QueuePlace). p.has_object ≡ true → p.is_turn ≡ true) idle_place (λ e. clash e);
    };
    fair = record {
      few = few;
      plain = only (λ (r : Right). r.may_draw ≡ true → (r.is_spent ≡ false) × (r.family < families) × (r.actor < 2 ^ 32)) v.right (λ _. (refl, some_families, lit< tt));
      apart = λ i j p q ei ej _ _ _ _. only_place v.right i p ei ∙ sym (only_place v.right j q ej);
      headed = only (λ (r : Right). r.may_draw ≡ true → IsHeaded (v.right ∷ []) r) v.right (λ _. record { at = 0; head = v.right; there = refl; may_draw = refl; host = refl; family = refl; absent_actors = λ ne. absurd (ne refl) });
      seated = only (λ (r : Right). r.may_draw ≡ true → r.actor ≡ HOST → (a : ℕ) → Contains r.absent_actors a → (a ≢ HOST) × IsSeated (v.right ∷ []) r.family a) v.right (λ _ _ a none. absurd (in_none a none));
      maker = λ i j p q ei ej _ _. only_place v.right i p ei ∙ sym (only_place v.right j q ej);
      made = λ i j p q ei ej. first_of_two v.right (λ (p q : Right). 0 < p.heads → q.may_draw ≡ true → q.family < p.heads) (λ _ _. omega arith) i j p q ei ej;
    };
    entitled = only (λ (u : View O E). u.place.has_ticket ≡ true → u.right.may_draw ≡ true) v (λ e. clash e);
    home = λ _. (o, refl, refl, empty);
    informed = only (λ (u : View O E). u.place.has_object ≡ true → u.page.seen ≡ []) v (λ e. clash e);
    told = only (λ (u : View O E). u.right.is_spent ≡ false → IsToldPage m o [] u.right u.page) v (λ _. record { opening_is = refl; missed_entries = []; whole = refl; missable = λ _. tt; own = λ _. refl; older_histories = tt; joined_heads = tt });
    gone = only (λ (u : View O E). AllByRecursion (λ l. IsGone (v.right ∷ []) l.family) u.page.joined_heads) v tt;
    made = only (λ (u : View O E). 0 < u.right.heads → AllByRecursion (λ e. (m.whose e).family < u.right.heads) []) v (λ _. tt);
    longest = (0, v, refl, refl, refl);
  }
    where
      first_of_two : (a : Right) (P : Right → Right → Type 0) → P a a → (i j : ℕ) (p q : Right) → get_elem? (a ∷ []) i ≡ some p → get_elem? (a ∷ []) j ≡ some q → P p q
      first_of_two a P h i j p q ei ej = only (λ (p : Right). P p q) a (only (λ (q : Right). P a q) a h j q ej) i p ei

  -- who is among the heads that went may draw no more
  gone_in : (rs : List Right) (ls : List (JoinedHead E)) (f : ℕ) → AllByRecursion (λ l. IsGone rs l.family) ls → Contains (map (λ l. l.family) ls) f → IsGone rs f
  gone_in rs [] f g h = absurd (in_none f h)
  gone_in rs (l ∷ ls) f g h = ⊎_elim (λ (t : f ≡ l.family). subst (IsGone rs) (sym t) g.0) (λ (t : Contains (map (λ (l : JoinedHead E). l.family) ls) f). gone_in rs ls f g.1 t) (in_cases f l.family (map (λ (x : JoinedHead E). x.family) ls) h)

  -- where the heads of all families went, the object is home, with the history that each of them
  -- saw
  pub ends : (ws : List ℕ) (xs : List O) (id : ℕ) (v : View O E) → Final (Seen IsRuled id v) ws xs → v.right.is_spent ≡ false → ((f : ℕ) → f < families → Contains (map (λ l. l.family) v.page.joined_heads) f)
      → (y : O) → get_elem? xs 0 ≡ some y → IsClosingObject m o v.page.joined_heads y
  ends ws xs id v final live all y is = let s = final.0 in let r = final.1.0 in let at = final.1.1 in
      let told = r.told id v at live in let home = r.home (λ j u e. nobody_out s r id v at all j u e) in
      let same : home.0 ≡ y = some-injective home.0 y (sym (final.4 0 home.0 home.1) ∙ is) in
      let fixed : m.fixed y ≡ m.fixed o = ap m.fixed (sym same) ∙ home.2 in let history : r.history ≡ m.history y = sym home.3 ∙ ap m.history same in record {
        fixed = fixed;
        lawful = subst (m.lawful (m.fixed o)) history r.lawful;
        short = subst (λ (h : List E). length h < 2 ^ 63) history r.short;
        each = subst (λ (h : List E). AllByRecursion (IsJoinedHead m h) v.page.joined_heads) history told.joined_heads;
      }
    where
      nobody_out : (s : State O (View O E)) (r : IsRuled s) (id : ℕ) (v : View O E) → get_elem? s.views id ≡ some v → ((f : ℕ) → f < families → Contains (map (λ l. l.family) v.page.joined_heads) f)
          → (j : ℕ) (u : View O E) → get_elem? s.views j ≡ some u → u.place.has_object ≡ false
      nobody_out s r id v at all j u e = ⊎_elim
          (λ (out : u.place.has_object ≡ true). let there = place_at m o families s.views j u e in let turn = r.queue.has_object j u.place there out in let draws = r.entitled j u e (r.queue.is_turn j u.place there turn).0 in
          let right = right_at m o families s.views j u e in let plain = r.fair.plain j u.right right draws in
          absurd ((gone_in (rights s.views) v.page.joined_heads u.right.family (r.gone id v at) (all u.right.family plain.1) j u.right right).0 draws refl))
          (λ (i : u.place.has_object ≡ false). i) (is_true_or_false u.place.has_object)
