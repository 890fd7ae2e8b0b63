-- Who may draw: what is fair stays so, whatever seat comes or goes.
use Rattle.std.proofs.Common.{◌≡◌, ◌≢◌, ℕ, ◌+◌, ◌^◌, ◌<◌, true, false, List, [], ◌∷◌, ◌++◌, set, refl, sym, ap, ◌∙◌, subst, inl, inr, ⊎_elim, ◌⊎◌, arith, length, eq-eqb, ne_eqb, cond, lit<}
use Rattle.std.specs.List.{Contains}
use mathlib.Core.Logic.{dite}
use mathlib.Core.Option.{some}
use native.Mathlib.Decide.{ℕ_discrete}
use lib.ListN.{get_elem?}
use Rattle.atomic_table.proofs.Lists.{at_set, at_longer}
use Rattle.ce_model.specs.declared.topology.TheConstants.{HOST}
use Rattle.ce_lock.specs.declared.view.Right.{Right}
use Rattle.ce_lock.specs.Entries.{ids_without}
use Rattle.ce_lock.specs.OneOrder.{IsFair, IsHeaded, IsSeated, IsGone}
use Rattle.ce_lock.specs.Telling.{no_actor, spent_right, drawing_right}
use Rattle.ce_lock.proofs.Members.{in_none, in_first, in_later, in_cases}
use Rattle.ce_lock.proofs.Seats.{at_same, at_other, at_one, at_end, each_kept, each_set, each_added, at_added}

clash : {P : Type 0} → false ≡ true → P
clash e = absurd (cc)

-- a right of which only the list of those who are out, or the count of heads, may be another
pub record IsAlike (x y : Right) : Type 0 where
  is_spent : x.is_spent ≡ y.is_spent
  may_draw : x.may_draw ≡ y.may_draw
  family : x.family ≡ y.family
  actor : x.actor ≡ y.actor

alike_self : (x : Right) → IsAlike x x
alike_self x = record { is_spent = refl; may_draw = refl; family = refl; actor = refl }

-- what is left of a list without a number
pub still_in : (n x : ℕ) (xs : List ℕ) → x ≢ n → Contains xs x → Contains (ids_without n xs) x
still_in n x [] ne h = h
still_in n x (y ∷ ys) ne h = dite (ℕ_discrete y n)
    (λ e. subst (λ b. Contains (cond b (ids_without n ys) (y ∷ ids_without n ys)) x) (sym (eq-eqb y n e)) (⊎_elim (λ (t : x ≡ y). absurd (ne (t ∙ e))) (λ (t : Contains ys x). still_in n x ys ne t) (in_cases x y ys h)))
    (λ other. subst (λ b. Contains (cond b (ids_without n ys) (y ∷ ids_without n ys)) x) (sym (ne_eqb y n other)) (⊎_elim (λ (t : x ≡ y). in_first x y (ids_without n ys) t) (λ (t : Contains ys x). in_later x y (ids_without n ys) (still_in n x ys ne t)) (in_cases x y ys h)))

pub was_in : (n x : ℕ) (xs : List ℕ) → Contains (ids_without n xs) x → Contains xs x × (x ≢ n)
was_in n x [] h = absurd (in_none x h)
was_in n x (y ∷ ys) h = dite (ℕ_discrete y n)
    (λ e. let t = was_in n x ys (subst (λ b. Contains (cond b (ids_without n ys) (y ∷ ids_without n ys)) x) (eq-eqb y n e) h) in (in_later x y ys t.0, t.1))
    (λ other. ⊎_elim (λ (t : x ≡ y). let left : Contains (y ∷ ys) x = in_first x y ys t in (left, λ same. other (sym t ∙ same)))
    (λ (t : Contains (ids_without n ys) x). let r = was_in n x ys t in let right : Contains (y ∷ ys) x = in_later x y ys r.0 in (right, r.1))
    (in_cases x y (ids_without n ys) (subst (λ b. Contains (cond b (ids_without n ys) (y ∷ ids_without n ys)) x) (ne_eqb y n other) h)))

module _ (families : ℕ) (rs : List Right) (f : IsFair families rs) where
  -- the one head of a family
  one_head : (i j : ℕ) (p q : Right) → get_elem? rs i ≡ some p → get_elem? rs j ≡ some q → p.may_draw ≡ true → q.may_draw ≡ true
      → p.actor ≡ HOST → q.actor ≡ HOST → p.family ≡ q.family → i ≡ j
  one_head i j p q ei ej dp dq hp hq same = f.apart i j p q ei ej dp dq same (hp ∙ sym hq)

  -- the head of whoever may draw is the head of the family
  pub its_head : (id i : ℕ) (r x : Right) → get_elem? rs id ≡ some r → r.may_draw ≡ true → r.actor ≡ HOST → get_elem? rs i ≡ some x → x.may_draw ≡ true → x.family ≡ r.family
      → x.actor ≢ HOST → Contains r.absent_actors x.actor
  its_head id i r x at d host ex dx same other = let h = f.headed i x ex dx in
      let here : h.at ≡ id = one_head h.at id h.head r h.there at h.may_draw d h.host host (h.family ∙ same) in
      subst (λ (z : Right). Contains z.absent_actors x.actor) (at_one rs id h.head r (ap (get_elem? rs) (sym here) ∙ h.there) at) (h.absent_actors other)

  -- where a right was headed, one alike is headed by a head alike that has its actor out
  headed_alike : (rs' : List Right) (x y k : Right) (h : IsHeaded rs y) → IsAlike x y → get_elem? rs' h.at ≡ some k → IsAlike k h.head
      → (Contains h.head.absent_actors y.actor → Contains k.absent_actors y.actor) → IsHeaded rs' x
  headed_alike rs' x y k h like there same still_out = record {
    at = h.at;
    head = k;
    there = there;
    may_draw = same.may_draw ∙ h.may_draw;
    host = same.actor ∙ h.host;
    family = same.family ∙ (h.family ∙ sym like.family);
    absent_actors = λ ne. subst (λ (z : ℕ). Contains k.absent_actors z) (sym like.actor) (still_out (h.absent_actors (λ is. ne (like.actor ∙ is))));
  }

  -- a copy comes
  pub copy_comes : IsFair families (rs ++ no_actor ∷ [])
  copy_comes = record {
    few = f.few;
    plain = each_added (λ (r : Right). r.may_draw ≡ true → (r.is_spent ≡ false) × (r.family < families) × (r.actor < 2 ^ 32)) rs no_actor (λ e. clash e) f.plain;
    apart = λ i j p q ei ej dp dq same_family same_actor. ⊎_elim
        (λ (x : get_elem? rs i ≡ some p). ⊎_elim (λ (y : get_elem? rs j ≡ some q). f.apart i j p q x y dp dq same_family same_actor)
        (λ (y : (j ≡ length rs) × (no_actor ≡ q)). clash (ap (λ (z : Right). z.may_draw) y.1 ∙ dq)) (at_added rs no_actor j q ej))
        (λ (x : (i ≡ length rs) × (no_actor ≡ p)). clash (ap (λ (z : Right). z.may_draw) x.1 ∙ dp)) (at_added rs no_actor i p ei);
    headed = each_added (λ (r : Right). r.may_draw ≡ true → IsHeaded (rs ++ no_actor ∷ []) r) rs no_actor (λ e. clash e)
        (λ i r e d. let h = f.headed i r e d in record { at = h.at; head = h.head; there = at_longer rs (no_actor ∷ []) h.at h.head h.there; may_draw = h.may_draw; host = h.host; family = h.family; absent_actors = h.absent_actors });
    seated = each_added (λ (r : Right). r.may_draw ≡ true → r.actor ≡ HOST → (a : ℕ) → Contains r.absent_actors a → (a ≢ HOST) × IsSeated (rs ++ no_actor ∷ []) r.family a) rs no_actor (λ e. clash e)
        (λ i r e d host a there. let s = f.seated i r e d host a there in
        (s.0, record { at = s.1.at; right = s.1.right; there = at_longer rs (no_actor ∷ []) s.1.at s.1.right s.1.there; may_draw = s.1.may_draw; family_is = s.1.family_is; actor_is = s.1.actor_is }));
    maker = λ i j p q ei ej hp hq. ⊎_elim
        (λ (x : get_elem? rs i ≡ some p). ⊎_elim (λ (y : get_elem? rs j ≡ some q). f.maker i j p q x y hp hq)
        (λ (y : (j ≡ length rs) × (no_actor ≡ q)). let none : 0 ≡ q.heads = ap (λ (z : Right). z.heads) y.1 in absurd (omega arith)) (at_added rs no_actor j q ej))
        (λ (x : (i ≡ length rs) × (no_actor ≡ p)). let none : 0 ≡ p.heads = ap (λ (z : Right). z.heads) x.1 in absurd (omega arith)) (at_added rs no_actor i p ei);
    made = λ i j p q ei ej hp dq. ⊎_elim
        (λ (x : get_elem? rs i ≡ some p). ⊎_elim (λ (y : get_elem? rs j ≡ some q). f.made i j p q x y hp dq)
        (λ (y : (j ≡ length rs) × (no_actor ≡ q)). clash (ap (λ (z : Right). z.may_draw) y.1 ∙ dq)) (at_added rs no_actor j q ej))
        (λ (x : (i ≡ length rs) × (no_actor ≡ p)). let none : 0 ≡ p.heads = ap (λ (z : Right). z.heads) x.1 in absurd (omega arith)) (at_added rs no_actor i p ei);
  }

  pub copy_gone : (family : ℕ) → IsGone rs family → IsGone (rs ++ no_actor ∷ []) family
  copy_gone family g = each_added (λ (r : Right). (r.may_draw ≡ true → r.family ≢ family) × (0 < r.heads → family < r.heads)) rs no_actor ((λ e. clash e), λ z. absurd (omega arith)) g

  -- a seat is spent: what matters is that nobody needs it
  spend : (o : ℕ) → ((i : ℕ) (x : Right) → i ≢ o → get_elem? rs i ≡ some x → x.may_draw ≡ true → (h : IsHeaded rs x) → h.at ≢ o)
      → ((i : ℕ) (x : Right) (a : ℕ) → i ≢ o → get_elem? rs i ≡ some x → x.may_draw ≡ true → x.actor ≡ HOST → a ≢ HOST → (s : IsSeated rs x.family a) → s.at ≢ o)
      → IsFair families (set rs o spent_right)
  spend o heads seats = record {
    few = f.few;
    plain = each_kept (λ (r : Right). r.may_draw ≡ true → (r.is_spent ≡ false) × (r.family < families) × (r.actor < 2 ^ 32)) rs o spent_right (λ e. clash e) f.plain;
    apart = λ i j p q ei ej dp dq same_family same_actor. ⊎_elim
        (λ (x : (i ≡ o) × (spent_right ≡ p)). clash (ap (λ (z : Right). z.may_draw) x.1 ∙ dp))
        (λ (x : (i ≢ o) × (get_elem? rs i ≡ some p)). ⊎_elim (λ (y : (j ≡ o) × (spent_right ≡ q)). clash (ap (λ (z : Right). z.may_draw) y.1 ∙ dq))
        (λ (y : (j ≢ o) × (get_elem? rs j ≡ some q)). f.apart i j p q x.1 y.1 dp dq same_family same_actor) (at_set rs o j spent_right q ej))
        (at_set rs o i spent_right p ei);
    headed = each_set (λ (r : Right). r.may_draw ≡ true → IsHeaded (set rs o spent_right) r) rs o spent_right (λ e. clash e)
        (λ i r ne e d. let h = f.headed i r e d in record { at = h.at; head = h.head; there = at_other rs o h.at h.head spent_right (heads i r ne e d h) h.there; may_draw = h.may_draw; host = h.host; family = h.family; absent_actors = h.absent_actors });
    seated = each_set (λ (r : Right). r.may_draw ≡ true → r.actor ≡ HOST → (a : ℕ) → Contains r.absent_actors a → (a ≢ HOST) × IsSeated (set rs o spent_right) r.family a) rs o spent_right (λ e. clash e)
        (λ i r ne e d host a there. let s = f.seated i r e d host a there in
        (s.0, record { at = s.1.at; right = s.1.right; there = at_other rs o s.1.at s.1.right spent_right (seats i r a ne e d host s.0 s.1) s.1.there; may_draw = s.1.may_draw; family_is = s.1.family_is; actor_is = s.1.actor_is }));
    maker = λ i j p q ei ej hp hq. ⊎_elim
        (λ (x : (i ≡ o) × (spent_right ≡ p)). let none : 0 ≡ p.heads = ap (λ (z : Right). z.heads) x.1 in absurd (omega arith))
        (λ (x : (i ≢ o) × (get_elem? rs i ≡ some p)). ⊎_elim (λ (y : (j ≡ o) × (spent_right ≡ q)). let none : 0 ≡ q.heads = ap (λ (z : Right). z.heads) y.1 in absurd (omega arith))
        (λ (y : (j ≢ o) × (get_elem? rs j ≡ some q)). f.maker i j p q x.1 y.1 hp hq) (at_set rs o j spent_right q ej))
        (at_set rs o i spent_right p ei);
    made = λ i j p q ei ej hp dq. ⊎_elim
        (λ (x : (i ≡ o) × (spent_right ≡ p)). let none : 0 ≡ p.heads = ap (λ (z : Right). z.heads) x.1 in absurd (omega arith))
        (λ (x : (i ≢ o) × (get_elem? rs i ≡ some p)). ⊎_elim (λ (y : (j ≡ o) × (spent_right ≡ q)). clash (ap (λ (z : Right). z.may_draw) y.1 ∙ dq))
        (λ (y : (j ≢ o) × (get_elem? rs j ≡ some q)). f.made i j p q x.1 y.1 hp dq) (at_set rs o j spent_right q ej))
        (at_set rs o i spent_right p ei);
  }

  pub spent_gone : (o family : ℕ) → IsGone rs family → IsGone (set rs o spent_right) family
  spent_gone o family g = each_kept (λ (r : Right). (r.may_draw ≡ true → r.family ≢ family) × (0 < r.heads → family < r.heads)) rs o spent_right ((λ e. clash e), λ z. absurd (omega arith)) g

  -- a copy goes
  pub copy_goes : (o : ℕ) (x : Right) → get_elem? rs o ≡ some x → x.may_draw ≡ false → IsFair families (set rs o spent_right)
  copy_goes o x at d = spend o
      (λ i y _ _ _ h e. clash (sym d ∙ (ap (λ (z : Right). z.may_draw) (at_one rs o x h.head at (ap (get_elem? rs) (sym e) ∙ h.there)) ∙ h.may_draw)))
      (λ i y a _ _ _ _ _ s e. clash (sym d ∙ (ap (λ (z : Right). z.may_draw) (at_one rs o x s.right at (ap (get_elem? rs) (sym e) ∙ s.there)) ∙ s.may_draw)))

  -- a head with nobody out goes
  module _ (o : ℕ) (w : Right) (at : get_elem? rs o ≡ some w) (d : w.may_draw ≡ true) (host : w.actor ≡ HOST) (none : w.absent_actors ≡ []) where
    -- nobody else of its family may draw
    pub last_of_family : (i : ℕ) (x : Right) → i ≢ o → get_elem? rs i ≡ some x → x.may_draw ≡ true → x.family ≢ w.family
    last_of_family i x ne e dx same = dite (ℕ_discrete x.actor HOST)
        (λ is_host. ne (one_head i o x w e at dx d is_host host same))
        (λ other. let there : Contains [] x.actor = subst (λ (xs : List ℕ). Contains xs x.actor) none (its_head o i w x at d host e dx same other) in in_none x.actor there)

    pub head_goes : IsFair families (set rs o spent_right)
    head_goes = spend o
        (λ i x ne e dx h is. last_of_family i x ne e dx (sym h.family ∙ ap (λ (z : Right). z.family) (at_one rs o h.head w (ap (get_elem? rs) (sym is) ∙ h.there) at)))
        (λ i x a ne e dx hx other s is. other (sym s.actor_is ∙ (ap (λ (z : Right). z.actor) (at_one rs o s.right w (ap (get_elem? rs) (sym is) ∙ s.there) at) ∙ host)))

    pub head_gone : IsGone (set rs o spent_right) w.family
    head_gone = each_set (λ (r : Right). (r.may_draw ≡ true → r.family ≢ w.family) × (0 < r.heads → w.family < r.heads)) rs o spent_right ((λ e. clash e), λ z. absurd (omega arith))
        (λ i x ne e. ((λ dx. last_of_family i x ne e dx), λ some_heads. f.made i o x w e at some_heads d))

  -- a head sends an actor out
  module _ (id a : ℕ) (r : Right) (at : get_elem? rs id ≡ some r) (d : r.may_draw ≡ true) (host : r.actor ≡ HOST) (other : a ≢ HOST) (small : a < 2 ^ 32) (in_ : ¬ Contains r.absent_actors a) where
    abbrev more : Right
    more = record r { absent_actors = a ∷ r.absent_actors }

    abbrev worker : Right
    worker = drawing_right r.family a 0

    abbrev sent_rights : List Right
    sent_rights = set rs id more ++ worker ∷ []

    at_more : get_elem? sent_rights id ≡ some more
    at_more = at_longer (set rs id more) (worker ∷ []) id more (at_same rs id r more at)

    -- an old right is there, or one alike that has no fewer out
    still : (i : ℕ) (x : Right) → get_elem? rs i ≡ some x
        → (y : Right) × (get_elem? sent_rights i ≡ some y) × IsAlike y x × ((b : ℕ) → Contains x.absent_actors b → Contains y.absent_actors b)
    still i x e = dite (ℕ_discrete i id)
        (λ is. let same : r ≡ x = at_one rs id r x at (ap (get_elem? rs) (sym is) ∙ e) in
        (more, ap (get_elem? sent_rights) is ∙ at_more, subst (IsAlike more) same record { is_spent = refl; may_draw = refl; family = refl; actor = refl }, λ b was. in_later b a r.absent_actors (subst (λ (z : Right). Contains z.absent_actors b) (sym same) was)))
        (λ ne. (x, at_longer (set rs id more) (worker ∷ []) i x (at_other rs id i x more ne e), alike_self x, λ _ was. was))

    -- what is there was, or one alike, or is the worker's
    was : (i : ℕ) (x : Right) → get_elem? sent_rights i ≡ some x → ((y : Right) × (get_elem? rs i ≡ some y) × IsAlike x y × (x.heads ≡ y.heads)) ⊎ ((i ≡ length (set rs id more)) × (worker ≡ x))
    was i x e = ⊎_elim
        (λ (s : get_elem? (set rs id more) i ≡ some x). ⊎_elim
        (λ (t : (i ≡ id) × (more ≡ x)). inl (r, ap (get_elem? rs) t.0 ∙ at, subst (λ (z : Right). IsAlike z r) t.1 record { is_spent = refl; may_draw = refl; family = refl; actor = refl }, ap (λ (z : Right). z.heads) (sym t.1)))
        (λ (t : (i ≢ id) × (get_elem? rs i ≡ some x)). inl (x, t.1, alike_self x, refl)) (at_set rs id i more x s))
        (λ (t : (i ≡ length (set rs id more)) × (worker ≡ x)). inr t) (at_added (set rs id more) worker i x e)

    -- nobody had the worker's seat
    was_free : (i : ℕ) (x : Right) → get_elem? rs i ≡ some x → x.may_draw ≡ true → x.family ≡ r.family → x.actor ≢ a
    was_free i x e dx same is = in_ (subst (λ (z : ℕ). Contains r.absent_actors z) is (its_head id i r x at d host e dx same (λ h. other (sym is ∙ h))))

    headed_still : (x y : Right) → IsHeaded rs y → IsAlike x y → IsHeaded sent_rights x
    headed_still x y h like = let k = still h.at h.head h.there in headed_alike sent_rights x y k.0 h like k.1 k.2 (k.3 y.actor)

    seated_still : (family b : ℕ) → IsSeated rs family b → IsSeated sent_rights family b
    seated_still family b s = let y = still s.at s.right s.there in
        record { at = s.at; right = y.0; there = y.1; may_draw = y.2.may_draw ∙ s.may_draw; family_is = y.2.family ∙ s.family_is; actor_is = y.2.actor ∙ s.actor_is }

    worker_seated : IsSeated sent_rights r.family a
    worker_seated = record { at = length (set rs id more); right = worker; there = at_end (set rs id more) worker; may_draw = refl; family_is = refl; actor_is = refl }

    -- the first case of the seats of those who are out: the head that sends
    sender_seated : (b : ℕ) → Contains (a ∷ r.absent_actors) b → (b ≢ HOST) × IsSeated sent_rights r.family b
    sender_seated b there = ⊎_elim
        (λ (t : b ≡ a). ((λ e. other (sym t ∙ e)), subst (IsSeated sent_rights r.family) (sym t) worker_seated))
        (λ (t : Contains r.absent_actors b). let s = f.seated id r at d host b t in (s.0, seated_still r.family b s.1)) (in_cases b a r.absent_actors there)

    pub sends : IsFair families sent_rights
    sends = record {
      few = f.few;
      plain = λ i x e dx. ⊎_elim
          (λ (t : (y : Right) × (get_elem? rs i ≡ some y) × IsAlike x y × (x.heads ≡ y.heads)). let p = f.plain i t.0 t.1 (sym t.2.may_draw ∙ dx) in
          (t.2.is_spent ∙ p.0, subst (λ (z : ℕ). z < families) (sym t.2.family) p.1, subst (λ (z : ℕ). z < 2 ^ 32) (sym t.2.actor) p.2))
          (λ (t : (i ≡ length (set rs id more)) × (worker ≡ x)). subst (λ (z : Right). (z.is_spent ≡ false) × (z.family < families) × (z.actor < 2 ^ 32)) t.1 (refl, (f.plain id r at d).1, small))
          (was i x e);
      apart = λ i j p q ei ej dp dq same_family same_actor. ⊎_elim
          (λ (x : (y : Right) × (get_elem? rs i ≡ some y) × IsAlike p y × (p.heads ≡ y.heads)). ⊎_elim
          (λ (z : (y : Right) × (get_elem? rs j ≡ some y) × IsAlike q y × (q.heads ≡ y.heads)).
          f.apart i j x.0 z.0 x.1 z.1 (sym x.2.may_draw ∙ dp) (sym z.2.may_draw ∙ dq) (sym x.2.family ∙ (same_family ∙ z.2.family)) (sym x.2.actor ∙ (same_actor ∙ z.2.actor)))
          (λ (z : (j ≡ length (set rs id more)) × (worker ≡ q)). absurd (was_free i x.0 x.1 (sym x.2.may_draw ∙ dp)
          (sym x.2.family ∙ (same_family ∙ ap (λ (w : Right). w.family) (sym z.1))) (sym x.2.actor ∙ (same_actor ∙ ap (λ (w : Right). w.actor) (sym z.1)))))
          (was j q ej))
          (λ (x : (i ≡ length (set rs id more)) × (worker ≡ p)). ⊎_elim
          (λ (z : (y : Right) × (get_elem? rs j ≡ some y) × IsAlike q y × (q.heads ≡ y.heads)). absurd (was_free j z.0 z.1 (sym z.2.may_draw ∙ dq)
          (sym z.2.family ∙ (sym same_family ∙ ap (λ (w : Right). w.family) (sym x.1))) (sym z.2.actor ∙ (sym same_actor ∙ ap (λ (w : Right). w.actor) (sym x.1)))))
          (λ (z : (j ≡ length (set rs id more)) × (worker ≡ q)). x.0 ∙ sym z.0)
          (was j q ej))
          (was i p ei);
      headed = λ i x e dx. ⊎_elim
          (λ (t : (y : Right) × (get_elem? rs i ≡ some y) × IsAlike x y × (x.heads ≡ y.heads)). headed_still x t.0 (f.headed i t.0 t.1 (sym t.2.may_draw ∙ dx)) t.2)
          (λ (t : (i ≡ length (set rs id more)) × (worker ≡ x)). subst (IsHeaded sent_rights) t.1
          record { at = id; head = more; there = at_more; may_draw = d; host = host; family = refl; absent_actors = λ _. in_first a a r.absent_actors refl })
          (was i x e);
      seated = λ i x e dx hx b there. ⊎_elim
          (λ (s : get_elem? (set rs id more) i ≡ some x). ⊎_elim
          (λ (t : (i ≡ id) × (more ≡ x)). subst (λ (z : Right). (b ≢ HOST) × IsSeated sent_rights z.family b) t.1 (sender_seated b (subst (λ (z : Right). Contains z.absent_actors b) (sym t.1) there)))
          (λ (t : (i ≢ id) × (get_elem? rs i ≡ some x)). let s = f.seated i x t.1 dx hx b there in (s.0, seated_still x.family b s.1)) (at_set rs id i more x s))
          (λ (t : (i ≡ length (set rs id more)) × (worker ≡ x)). absurd (other (ap (λ (z : Right). z.actor) t.1 ∙ hx)))
          (at_added (set rs id more) worker i x e);
      maker = λ i j p q ei ej hp hq. ⊎_elim
          (λ (x : (y : Right) × (get_elem? rs i ≡ some y) × IsAlike p y × (p.heads ≡ y.heads)). ⊎_elim
          (λ (z : (y : Right) × (get_elem? rs j ≡ some y) × IsAlike q y × (q.heads ≡ y.heads)). f.maker i j x.0 z.0 x.1 z.1 (omega (arith, x.3)) (omega (arith, z.3)))
          (λ (z : (j ≡ length (set rs id more)) × (worker ≡ q)). let none : 0 ≡ q.heads = ap (λ (w : Right). w.heads) z.1 in absurd (omega arith)) (was j q ej))
          (λ (x : (i ≡ length (set rs id more)) × (worker ≡ p)). let none : 0 ≡ p.heads = ap (λ (w : Right). w.heads) x.1 in absurd (omega arith)) (was i p ei);
      made = λ i j p q ei ej hp dq. ⊎_elim
          (λ (x : (y : Right) × (get_elem? rs i ≡ some y) × IsAlike p y × (p.heads ≡ y.heads)). ⊎_elim
          (λ (z : (y : Right) × (get_elem? rs j ≡ some y) × IsAlike q y × (q.heads ≡ y.heads)). let m = f.made i j x.0 z.0 x.1 z.1 (omega (arith, x.3)) (sym z.2.may_draw ∙ dq) in omega (arith, x.3, z.2.family))
          (λ (z : (j ≡ length (set rs id more)) × (worker ≡ q)). let m = f.made i id x.0 r x.1 at (omega (arith, x.3)) d in let same : r.family ≡ q.family = ap (λ (w : Right). w.family) z.1 in omega (arith, x.3))
          (was j q ej))
          (λ (x : (i ≡ length (set rs id more)) × (worker ≡ p)). let none : 0 ≡ p.heads = ap (λ (w : Right). w.heads) x.1 in absurd (omega arith)) (was i p ei);
    }

    pub sent_gone : (family : ℕ) → IsGone rs family → IsGone sent_rights family
    sent_gone family g = let mine = g id r at in each_added (λ (x : Right). (x.may_draw ≡ true → x.family ≢ family) × (0 < x.heads → family < x.heads)) (set rs id more) worker
        ((λ _. mine.0 d), λ z. absurd (omega arith))
        (each_kept (λ (x : Right). (x.may_draw ≡ true → x.family ≢ family) × (0 < x.heads → family < x.heads)) rs id more mine g)

  -- the maker of heads makes the next one
  module _ (id : ℕ) (r : Right) (at : get_elem? rs id ≡ some r) (some_heads : 0 < r.heads) (room : r.heads < families) where
    abbrev maker_now : Right
    maker_now = record r { heads = 0 }

    abbrev head_now : Right
    head_now = drawing_right r.heads HOST (r.heads + 1)

    abbrev made_rights : List Right
    made_rights = set rs id maker_now ++ head_now ∷ []

    at_maker : get_elem? made_rights id ≡ some maker_now
    at_maker = at_longer (set rs id maker_now) (head_now ∷ []) id maker_now (at_same rs id r maker_now at)

    -- what is there was, or one alike that has the same actors out, or is the new head's
    had : (i : ℕ) (x : Right) → get_elem? made_rights i ≡ some x
        → ((y : Right) × (get_elem? rs i ≡ some y) × IsAlike x y × (x.absent_actors ≡ y.absent_actors) × (¬ (0 < x.heads))) ⊎ ((i ≡ length (set rs id maker_now)) × (head_now ≡ x))
    had i x e = ⊎_elim
        (λ (s : get_elem? (set rs id maker_now) i ≡ some x). ⊎_elim
        (λ (t : (i ≡ id) × (maker_now ≡ x)). inl (r, ap (get_elem? rs) t.0 ∙ at, subst (λ (z : Right). IsAlike z r) t.1 record { is_spent = refl; may_draw = refl; family = refl; actor = refl }, ap (λ (z : Right). z.absent_actors) (sym t.1), λ h. let none : 0 ≡ x.heads = ap (λ (z : Right). z.heads) t.1 in omega arith))
        (λ (t : (i ≢ id) × (get_elem? rs i ≡ some x)). inl (x, t.1, alike_self x, refl, λ h. t.0 (f.maker i id x r t.1 at h some_heads))) (at_set rs id i maker_now x s))
        (λ (t : (i ≡ length (set rs id maker_now)) × (head_now ≡ x)). inr t) (at_added (set rs id maker_now) head_now i x e)

    keeps_at : (i : ℕ) (x : Right) → get_elem? rs i ≡ some x → (y : Right) × (get_elem? made_rights i ≡ some y) × IsAlike y x × (x.absent_actors ≡ y.absent_actors)
    keeps_at i x e = dite (ℕ_discrete i id)
        (λ is. let same = at_one rs id r x at (ap (get_elem? rs) (sym is) ∙ e) in
        (maker_now, ap (get_elem? made_rights) is ∙ at_maker, subst (IsAlike maker_now) same record { is_spent = refl; may_draw = refl; family = refl; actor = refl }, ap (λ (z : Right). z.absent_actors) (sym same)))
        (λ ne. (x, at_longer (set rs id maker_now) (head_now ∷ []) i x (at_other rs id i x maker_now ne e), alike_self x, refl))

    pub makes : IsFair families made_rights
    makes = record {
      few = f.few;
      plain = λ i x e dx. ⊎_elim
          (λ (t : (y : Right) × (get_elem? rs i ≡ some y) × IsAlike x y × (x.absent_actors ≡ y.absent_actors) × (¬ (0 < x.heads))). let p = f.plain i t.0 t.1 (sym t.2.may_draw ∙ dx) in
          (t.2.is_spent ∙ p.0, subst (λ (z : ℕ). z < families) (sym t.2.family) p.1, subst (λ (z : ℕ). z < 2 ^ 32) (sym t.2.actor) p.2))
          (λ (t : (i ≡ length (set rs id maker_now)) × (head_now ≡ x)). subst (λ (z : Right). (z.is_spent ≡ false) × (z.family < families) × (z.actor < 2 ^ 32)) t.1 (refl, room, lit< tt))
          (had i x e);
      apart = λ i j p q ei ej dp dq same_family same_actor. ⊎_elim
          (λ (x : (y : Right) × (get_elem? rs i ≡ some y) × IsAlike p y × (p.absent_actors ≡ y.absent_actors) × (¬ (0 < p.heads))). ⊎_elim
          (λ (z : (y : Right) × (get_elem? rs j ≡ some y) × IsAlike q y × (q.absent_actors ≡ y.absent_actors) × (¬ (0 < q.heads))).
          f.apart i j x.0 z.0 x.1 z.1 (sym x.2.may_draw ∙ dp) (sym z.2.may_draw ∙ dq) (sym x.2.family ∙ (same_family ∙ z.2.family)) (sym x.2.actor ∙ (same_actor ∙ z.2.actor)))
          (λ (z : (j ≡ length (set rs id maker_now)) × (head_now ≡ q)). let m = f.made id i r x.0 at x.1 some_heads (sym x.2.may_draw ∙ dp) in let same : r.heads ≡ q.family = ap (λ (w : Right). w.family) z.1 in absurd (omega (arith, x.2.family)))
          (had j q ej))
          (λ (x : (i ≡ length (set rs id maker_now)) × (head_now ≡ p)). ⊎_elim
          (λ (z : (y : Right) × (get_elem? rs j ≡ some y) × IsAlike q y × (q.absent_actors ≡ y.absent_actors) × (¬ (0 < q.heads))). let m = f.made id j r z.0 at z.1 some_heads (sym z.2.may_draw ∙ dq) in let same : r.heads ≡ p.family = ap (λ (w : Right). w.family) x.1 in absurd (omega (arith, z.2.family)))
          (λ (z : (j ≡ length (set rs id maker_now)) × (head_now ≡ q)). x.0 ∙ sym z.0)
          (had j q ej))
          (had i p ei);
      headed = λ i x e dx. ⊎_elim
          (λ (t : (y : Right) × (get_elem? rs i ≡ some y) × IsAlike x y × (x.absent_actors ≡ y.absent_actors) × (¬ (0 < x.heads))). let h = f.headed i t.0 t.1 (sym t.2.may_draw ∙ dx) in let k = keeps_at h.at h.head h.there in
          headed_alike made_rights x t.0 k.0 h t.2 k.1 k.2 (subst (λ (xs : List ℕ). Contains xs t.0.actor) k.3))
          (λ (t : (i ≡ length (set rs id maker_now)) × (head_now ≡ x)). subst (IsHeaded made_rights) t.1
          record { at = length (set rs id maker_now); head = head_now; there = at_end (set rs id maker_now) head_now; may_draw = refl; host = refl; family = refl; absent_actors = λ ne. absurd (ne refl) })
          (had i x e);
      seated = λ i x e dx hx b there. ⊎_elim
          (λ (t : (y : Right) × (get_elem? rs i ≡ some y) × IsAlike x y × (x.absent_actors ≡ y.absent_actors) × (¬ (0 < x.heads))).
          let s = f.seated i t.0 t.1 (sym t.2.may_draw ∙ dx) (sym t.2.actor ∙ hx) b (subst (λ (xs : List ℕ). Contains xs b) t.3 there) in let k = keeps_at s.1.at s.1.right s.1.there in
          (s.0, record { at = s.1.at; right = k.0; there = k.1; may_draw = k.2.may_draw ∙ s.1.may_draw; family_is = k.2.family ∙ (s.1.family_is ∙ sym t.2.family); actor_is = k.2.actor ∙ s.1.actor_is }))
          (λ (t : (i ≡ length (set rs id maker_now)) × (head_now ≡ x)). let none : Contains [] b = subst (λ (z : Right). Contains z.absent_actors b) (sym t.1) there in absurd (in_none b none))
          (had i x e);
      maker = λ i j p q ei ej hp hq. newest i p ei hp ∙ sym (newest j q ej hq);
      made = λ i j p q ei ej hp dq. let count : p.heads ≡ r.heads + 1 = the_maker i p ei hp in ⊎_elim
          (λ (z : (y : Right) × (get_elem? rs j ≡ some y) × IsAlike q y × (q.absent_actors ≡ y.absent_actors) × (¬ (0 < q.heads))). let m = f.made id j r z.0 at z.1 some_heads (sym z.2.may_draw ∙ dq) in omega (arith, z.2.family))
          (λ (z : (j ≡ length (set rs id maker_now)) × (head_now ≡ q)). let same : r.heads ≡ q.family = ap (λ (w : Right). w.family) z.1 in omega arith)
          (had j q ej);
    }
      where
        newest : (i : ℕ) (p : Right) → get_elem? made_rights i ≡ some p → 0 < p.heads → i ≡ length (set rs id maker_now)
        newest i p e hp = ⊎_elim
            (λ (t : (y : Right) × (get_elem? rs i ≡ some y) × IsAlike p y × (p.absent_actors ≡ y.absent_actors) × (¬ (0 < p.heads))). absurd (t.4 hp))
            (λ (t : (i ≡ length (set rs id maker_now)) × (head_now ≡ p)). t.0) (had i p e)

        the_maker : (i : ℕ) (p : Right) → get_elem? made_rights i ≡ some p → 0 < p.heads → p.heads ≡ r.heads + 1
        the_maker i p e hp = ⊎_elim
            (λ (t : (y : Right) × (get_elem? rs i ≡ some y) × IsAlike p y × (p.absent_actors ≡ y.absent_actors) × (¬ (0 < p.heads))). absurd (t.4 hp))
            (λ (t : (i ≡ length (set rs id maker_now)) × (head_now ≡ p)). ap (λ (z : Right). z.heads) (sym t.1)) (had i p e)

    pub made_gone : (family : ℕ) → IsGone rs family → IsGone made_rights family
    made_gone family g = let mine = g id r at in let past : family < r.heads = mine.1 some_heads in each_added (λ (x : Right). (x.may_draw ≡ true → x.family ≢ family) × (0 < x.heads → family < x.heads)) (set rs id maker_now) head_now
        ((λ _ is. absurd (omega arith)), λ _. omega arith)
        (each_kept (λ (x : Right). (x.may_draw ≡ true → x.family ≢ family) × (0 < x.heads → family < x.heads)) rs id maker_now (mine.0, λ z. absurd (omega arith)) g)

  -- a head takes an actor back
  module _ (id o : ℕ) (r w : Right) (at : get_elem? rs id ≡ some r) (d : r.may_draw ≡ true) (host : r.actor ≡ HOST) (there : get_elem? rs o ≡ some w) (dw : w.may_draw ≡ true) (family : w.family ≡ r.family) (other : w.actor ≢ HOST) where
    abbrev less : Right
    less = record r { absent_actors = ids_without w.actor r.absent_actors }

    abbrev back_rights : List Right
    back_rights = set (set rs id less) o spent_right

    distinct : id ≢ o
    distinct e = other (ap (λ (z : Right). z.actor) (at_one rs o w r there (ap (get_elem? rs) (sym e) ∙ at)) ∙ host)

    at_less : get_elem? back_rights id ≡ some less
    at_less = at_other (set rs id less) o id less spent_right distinct (at_same rs id r less at)

    -- what is there was, elsewhere than where the worker was, or is spent
    old : (i : ℕ) (x : Right) → get_elem? back_rights i ≡ some x → (spent_right ≡ x) ⊎ ((i ≢ o) × (((i ≡ id) × (less ≡ x)) ⊎ (get_elem? rs i ≡ some x)))
    old i x e = ⊎_elim
        (λ (t : (i ≡ o) × (spent_right ≡ x)). inl t.1)
        (λ (t : (i ≢ o) × (get_elem? (set rs id less) i ≡ some x)). inr (t.0, ⊎_elim (λ (s : (i ≡ id) × (less ≡ x)). inl s) (λ (s : (i ≢ id) × (get_elem? rs i ≡ some x)). inr s.1) (at_set rs id i less x t.1)))
        (at_set (set rs id less) o i spent_right x e)

    old_alike : (i : ℕ) (x : Right) → get_elem? back_rights i ≡ some x → (spent_right ≡ x) ⊎ ((i ≢ o) × (y : Right) × (get_elem? rs i ≡ some y) × IsAlike x y × (x.heads ≡ y.heads))
    old_alike i x e = ⊎_elim (λ (t : spent_right ≡ x). inl t)
        (λ (t : (i ≢ o) × (((i ≡ id) × (less ≡ x)) ⊎ (get_elem? rs i ≡ some x))). ⊎_elim
        (λ (s : (i ≡ id) × (less ≡ x)). inr (t.0, r, ap (get_elem? rs) s.0 ∙ at, subst (λ (z : Right). IsAlike z r) s.1 record { is_spent = refl; may_draw = refl; family = refl; actor = refl }, ap (λ (z : Right). z.heads) (sym s.1)))
        (λ (s : get_elem? rs i ≡ some x). inr (t.0, x, s, alike_self x, refl)) t.1)
        (old i x e)

    -- an old right is there, or one alike that has no fewer out, but for the worker
    keeps_but : (i : ℕ) (x : Right) → i ≢ o → get_elem? rs i ≡ some x
        → (y : Right) × (get_elem? back_rights i ≡ some y) × IsAlike y x × ((b : ℕ) → (x ≡ r → b ≢ w.actor) → Contains x.absent_actors b → Contains y.absent_actors b)
    keeps_but i x ne e = dite (ℕ_discrete i id)
        (λ is. let same : r ≡ x = at_one rs id r x at (ap (get_elem? rs) (sym is) ∙ e) in (
          less,
          ap (get_elem? back_rights) is ∙ at_less,
          subst (IsAlike less) same record { is_spent = refl; may_draw = refl; family = refl; actor = refl },
          λ b apart was. still_in w.actor b r.absent_actors (apart (sym same)) (subst (λ (z : Right). Contains z.absent_actors b) (sym same) was),
        ))
        (λ other_id. (x, at_other (set rs id less) o i x spent_right ne (at_other rs id i x less other_id e), alike_self x, λ _ _ was. was))

    headed_back : (i : ℕ) (x y : Right) → i ≢ o → get_elem? rs i ≡ some y → y.may_draw ≡ true → IsAlike x y → IsHeaded back_rights x
    headed_back i x y ne e dy like = let h = f.headed i y e dy in
        let k = keeps_but h.at h.head (λ is. other (ap (λ (z : Right). z.actor) (sym (at_one rs o h.head w (ap (get_elem? rs) (sym is) ∙ h.there) there)) ∙ h.host)) h.there in
        headed_alike back_rights x y k.0 h like k.1 k.2
        (k.3 y.actor (λ same is. ne (f.apart i o y w e there dy dw (sym h.family ∙ (ap (λ (z : Right). z.family) same ∙ sym family)) is)))

    seated_back : (i : ℕ) (x : Right) (b : ℕ) → get_elem? rs i ≡ some x → x.may_draw ≡ true → x.actor ≡ HOST → Contains x.absent_actors b → (i ≡ id → b ≢ w.actor) → (b ≢ HOST) × IsSeated back_rights x.family b
    seated_back i x b e dx hx within apart = let s = f.seated i x e dx hx b within in
        let k = keeps_but s.1.at s.1.right (λ is. let same = at_one rs o s.1.right w (ap (get_elem? rs) (sym is) ∙ s.1.there) there in
        apart (one_head i id x r e at dx d hx host (sym s.1.family_is ∙ (ap (λ (z : Right). z.family) same ∙ family))) (sym s.1.actor_is ∙ ap (λ (z : Right). z.actor) same)) s.1.there in
        (s.0, record { at = s.1.at; right = k.0; there = k.1; may_draw = k.2.may_draw ∙ s.1.may_draw; family_is = k.2.family ∙ s.1.family_is; actor_is = k.2.actor ∙ s.1.actor_is })

    pub takes_back : IsFair families back_rights
    takes_back = record {
      few = f.few;
      plain = λ i x e dx. ⊎_elim (λ (t : spent_right ≡ x). clash (ap (λ (z : Right). z.may_draw) t ∙ dx))
          (λ (t : (i ≢ o) × (y : Right) × (get_elem? rs i ≡ some y) × IsAlike x y × (x.heads ≡ y.heads)). let p = f.plain i t.1 t.2 (sym t.3.may_draw ∙ dx) in
          (t.3.is_spent ∙ p.0, subst (λ (z : ℕ). z < families) (sym t.3.family) p.1, subst (λ (z : ℕ). z < 2 ^ 32) (sym t.3.actor) p.2))
          (old_alike i x e);
      apart = λ i j p q ei ej dp dq same_family same_actor. ⊎_elim (λ (t : spent_right ≡ p). clash (ap (λ (z : Right). z.may_draw) t ∙ dp))
          (λ (x : (i ≢ o) × (y : Right) × (get_elem? rs i ≡ some y) × IsAlike p y × (p.heads ≡ y.heads)). ⊎_elim (λ (t : spent_right ≡ q). clash (ap (λ (z : Right). z.may_draw) t ∙ dq))
          (λ (z : (j ≢ o) × (y : Right) × (get_elem? rs j ≡ some y) × IsAlike q y × (q.heads ≡ y.heads)).
          f.apart i j x.1 z.1 x.2 z.2 (sym x.3.may_draw ∙ dp) (sym z.3.may_draw ∙ dq) (sym x.3.family ∙ (same_family ∙ z.3.family)) (sym x.3.actor ∙ (same_actor ∙ z.3.actor)))
          (old_alike j q ej))
          (old_alike i p ei);
      headed = λ i x e dx. ⊎_elim (λ (t : spent_right ≡ x). clash (ap (λ (z : Right). z.may_draw) t ∙ dx))
          (λ (t : (i ≢ o) × (y : Right) × (get_elem? rs i ≡ some y) × IsAlike x y × (x.heads ≡ y.heads)). headed_back i x t.1 t.0 t.2 (sym t.3.may_draw ∙ dx) t.3)
          (old_alike i x e);
      seated = λ i x e dx hx b within. ⊎_elim (λ (t : spent_right ≡ x). clash (ap (λ (z : Right). z.may_draw) t ∙ dx))
          (λ (t : (i ≢ o) × (((i ≡ id) × (less ≡ x)) ⊎ (get_elem? rs i ≡ some x))). ⊎_elim
          (λ (s : (i ≡ id) × (less ≡ x)). let l = was_in w.actor b r.absent_actors (subst (λ (z : Right). Contains z.absent_actors b) (sym s.1) within) in
          subst (λ (z : ℕ). (b ≢ HOST) × IsSeated back_rights z b) (ap (λ (z : Right). z.family) s.1) (seated_back id r b at d host l.0 (λ _. l.1)))
          (λ (s : get_elem? rs i ≡ some x). dite (ℕ_discrete i id)
          (λ is. let same : x ≡ less = at_one back_rights id x less (ap (get_elem? back_rights) (sym is) ∙ e) at_less in
          let l = was_in w.actor b r.absent_actors (subst (λ (z : Right). Contains z.absent_actors b) same within) in
          subst (λ (z : ℕ). (b ≢ HOST) × IsSeated back_rights z b) (ap (λ (z : Right). z.family) (sym same)) (seated_back id r b at d host l.0 (λ _. l.1)))
          (λ not_id. seated_back i x b s dx hx within (λ is. absurd (not_id is)))) t.1)
          (old i x e);
      maker = λ i j p q ei ej hp hq. ⊎_elim (λ (t : spent_right ≡ p). let none : 0 ≡ p.heads = ap (λ (z : Right). z.heads) t in absurd (omega arith))
          (λ (x : (i ≢ o) × (y : Right) × (get_elem? rs i ≡ some y) × IsAlike p y × (p.heads ≡ y.heads)). ⊎_elim (λ (t : spent_right ≡ q). let none : 0 ≡ q.heads = ap (λ (z : Right). z.heads) t in absurd (omega arith))
          (λ (z : (j ≢ o) × (y : Right) × (get_elem? rs j ≡ some y) × IsAlike q y × (q.heads ≡ y.heads)). f.maker i j x.1 z.1 x.2 z.2 (omega (arith, x.4)) (omega (arith, z.4)))
          (old_alike j q ej))
          (old_alike i p ei);
      made = λ i j p q ei ej hp dq. ⊎_elim (λ (t : spent_right ≡ p). let none : 0 ≡ p.heads = ap (λ (z : Right). z.heads) t in absurd (omega arith))
          (λ (x : (i ≢ o) × (y : Right) × (get_elem? rs i ≡ some y) × IsAlike p y × (p.heads ≡ y.heads)). ⊎_elim (λ (t : spent_right ≡ q). clash (ap (λ (z : Right). z.may_draw) t ∙ dq))
          (λ (z : (j ≢ o) × (y : Right) × (get_elem? rs j ≡ some y) × IsAlike q y × (q.heads ≡ y.heads)). let m = f.made i j x.1 z.1 x.2 z.2 (omega (arith, x.4)) (sym z.3.may_draw ∙ dq) in omega (arith, x.4, z.3.family))
          (old_alike j q ej))
          (old_alike i p ei);
    }

    pub back_gone : (gone : ℕ) → IsGone rs gone → IsGone back_rights gone
    back_gone gone g = each_kept (λ (x : Right). (x.may_draw ≡ true → x.family ≢ gone) × (0 < x.heads → gone < x.heads)) (set rs id less) o spent_right ((λ e. clash e), λ z. absurd (omega arith))
        (each_kept (λ (x : Right). (x.may_draw ≡ true → x.family ≢ gone) × (0 < x.heads → gone < x.heads)) rs id less (g id r at) g)
