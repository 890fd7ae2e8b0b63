-- What a view tells of the history stays true, whatever is added to it.
use Rattle.std.proofs.Common.{◌≡◌, ◌≢◌, ℕ, ◌<◌, ◌≤◌, Bool, true, false, cond, ◌&&◌, eqb, ltb, List, [], ◌∷◌, ◌++◌, length, refl, sym, ap, ◌∙◌, subst, inl, inr, ⊎_elim, ◌⊎◌, arith, eq-eqb, ne_eqb, append_assoc}
use Rattle.std.proofs.lemmas.List.{append-nil}
use Rattle.std.specs.List.{AllByRecursion, Contains}
use mathlib.Core.Logic.{dite}
use native.Mathlib.Decide.{ℕ_discrete, dec_lt}
use Rattle.ce_model.specs.declared.topology.TheConstants.{HOST}
use Rattle.ce_model.specs.Lists.{IsFront}
use Rattle.ce_model.proofs.Members.{all-append, all-back, all-weaker}
use Rattle.ce_lock.specs.declared.who.Who.{Who}
use Rattle.ce_lock.specs.declared.view.Right.{Right}
use Rattle.ce_lock.specs.declared.view.JoinedHead.{JoinedHead}
use Rattle.ce_lock.specs.declared.view.Page.{Page}
use Rattle.ce_lock.specs.Entries.{longer_list, is_of, entries_of, IsForeignEntry}
use Rattle.ce_lock.specs.Meanings.{Meanings}
use Rattle.ce_lock.specs.OneOrder.{who_of, IsMissable, IsJoinedHead, IsToldPage}
use Rattle.ce_lock.specs.Telling.{drawing_right}
use Rattle.ce_lock.proofs.Members.{in_none, in_later}

module _ {A : Type 0} where
  pub every_both : (P Q R : A → Type 0) → ((x : A) → P x → Q x → R x) → (xs : List A) → AllByRecursion P xs → AllByRecursion Q xs → AllByRecursion R xs
  every_both P Q R f [] h k = tt
  every_both P Q R f (x ∷ xs) h k = (f x h.0 k.0, every_both P Q R f xs h.1 k.1)

  pub front_grows : (xs ys zs : List A) → IsFront xs ys → IsFront xs (ys ++ zs)
  front_grows xs ys zs p = (p.0 ++ zs, sym (append_assoc xs p.0 zs) ∙ ap (λ (l : List A). l ++ zs) p.1)

  -- of two front parts the shorter is one of the longer
  pub between : (xs a ys b : List A) → xs ++ a ≡ ys ++ b → length xs ≤ length ys → (mid : List A) × (xs ++ mid ≡ ys) × (a ≡ mid ++ b)
  between [] a ys b e le = (ys, refl, e)
  between (x ∷ xs) a [] b e le = absurd (omega arith)
  between (x ∷ xs) a (y ∷ ys) b e le = let head : x ≡ y = cc in let tail : xs ++ a ≡ ys ++ b = cc in
      let t = between xs a ys b tail (omega arith) in (t.0, (λ k. head k ∷ t.1 k), t.2)

  pub longer_first : (xs ys : List A) → length xs ≤ length (longer_list xs ys)
  longer_first xs ys = grind arith

  pub longer_second : (xs ys : List A) → length ys ≤ length (longer_list xs ys)
  longer_second xs ys = grind arith

  -- the longer one is either, and the other is a front part of it
  pub longer_is : (xs a ys b h : List A) → xs ++ a ≡ h → ys ++ b ≡ h
      → ((longer_list xs ys ≡ xs) × ((mid : List A) × (ys ++ mid ≡ xs) × (b ≡ mid ++ a))) ⊎ ((longer_list xs ys ≡ ys) × ((mid : List A) × (xs ++ mid ≡ ys) × (a ≡ mid ++ b)))
  longer_is xs a ys b h p q = dite (dec_lt (length xs) (length ys))
      (λ lt. inr (picks true (lt_true (length xs) (length ys) lt), between xs a ys b (p ∙ sym q) (omega arith)))
      (λ not. inl (picks_first false (lt_false (length xs) (length ys) not), between ys b xs a (q ∙ sym p) (omega arith)))
    where
      lt_true : (m n : ℕ) → m < n → ltb m n ≡ true
      lt_true m n l = grind arith

      lt_false : (m n : ℕ) → ¬ (m < n) → ltb m n ≡ false
      lt_false m n l = grind arith

      picks : (c : Bool) → ltb (length xs) (length ys) ≡ true → longer_list xs ys ≡ ys
      picks c e = ap (λ (z : Bool). cond z ys xs) e

      picks_first : (c : Bool) → ltb (length xs) (length ys) ≡ false → longer_list xs ys ≡ xs
      picks_first c e = ap (λ (z : Bool). cond z ys xs) e

module _ {E : Type 0} (whose : E → Who) where
  -- an entry that isn't of the actor
  pub not_of : (alone : E → Bool) (who : Who) (e : E) → IsForeignEntry whose alone who e → is_of whose who e ≡ false
  not_of alone who e f = ⊎_elim
      (λ (t : (whose e).family ≢ who.family). ap (λ b. b && eqb (whose e).actor who.actor) (ne_eqb (whose e).family who.family t))
      (λ (t : ((whose e).actor ≢ who.actor) × (alone e ≡ false)). ap (λ b. eqb (whose e).family who.family && b) (ne_eqb (whose e).actor who.actor t.0) ∙ none_and (eqb (whose e).family who.family)) f
    where
      none_and : (b : Bool) → (b && false) ≡ false
      none_and true = refl
      none_and false = refl

  pub of_actor : (who : Who) (e : E) → whose e ≡ who → is_of whose who e ≡ true
  of_actor who e is = ap (λ b. b && eqb (whose e).actor who.actor) (eq-eqb (whose e).family who.family (ap (λ (w : Who). w.family) is)) ∙ eq-eqb (whose e).actor who.actor (ap (λ (w : Who). w.actor) is)

  pub own_append : (who : Who) (xs ys : List E) → entries_of whose who (xs ++ ys) ≡ entries_of whose who xs ++ entries_of whose who ys
  own_append who [] ys = refl
  own_append who (x ∷ xs) ys = by_case (is_of whose who x) (own_append who xs ys)
    where
      by_case : (b : Bool) → entries_of whose who (xs ++ ys) ≡ entries_of whose who xs ++ entries_of whose who ys
          → cond b (x ∷ entries_of whose who (xs ++ ys)) (entries_of whose who (xs ++ ys)) ≡ cond b (x ∷ entries_of whose who xs) (entries_of whose who xs) ++ entries_of whose who ys
      by_case true e = ap (λ (l : List E). x ∷ l) e
      by_case false e = e

  pub own_none : (who : Who) (xs : List E) → AllByRecursion (λ e. is_of whose who e ≡ false) xs → entries_of whose who xs ≡ []
  own_none who [] h = refl
  own_none who (x ∷ xs) h = ap (λ b. cond b (x ∷ entries_of whose who xs) (entries_of whose who xs)) h.0 ∙ own_none who xs h.1

  -- the entries of an actor with one that isn't its added
  pub own_other : (who : Who) (xs : List E) (e : E) → is_of whose who e ≡ false → entries_of whose who (xs ++ e ∷ []) ≡ entries_of whose who xs
  own_other who xs e h = own_append who xs (e ∷ []) ∙ (ap (λ (l : List E). entries_of whose who xs ++ l) (own_none who (e ∷ []) (h, tt)) ∙ append-nil (entries_of whose who xs))

  -- the same with one of its own
  pub own_mine : (who : Who) (xs : List E) (e : E) → is_of whose who e ≡ true → entries_of whose who (xs ++ e ∷ []) ≡ entries_of whose who xs ++ e ∷ []
  own_mine who xs e h = own_append who xs (e ∷ []) ∙ ap (λ b. entries_of whose who xs ++ cond b (e ∷ []) []) h

  -- what is missed has none of the actor's
  pub own_missed : (alone : E → Bool) (who : Who) (seen missed_entries : List E) → AllByRecursion (IsForeignEntry whose alone who) missed_entries → entries_of whose who (seen ++ missed_entries) ≡ entries_of whose who seen
  own_missed alone who seen missed_entries f = own_append who seen missed_entries ∙ (ap (λ (l : List E). entries_of whose who seen ++ l) (own_none who missed_entries (all-weaker (IsForeignEntry whose alone who) (λ e. is_of whose who e ≡ false) missed_entries (not_of alone who) f)) ∙ append-nil (entries_of whose who seen))

module _ {O E F : Type 0} (m : Meanings O E F) (opening : O) where
  foreign_of : (r : Right) (e : E) → IsMissable m r e → IsForeignEntry m.whose m.alone (who_of r) e
  foreign_of r e h = h.0

  pub foreign_missed : (r : Right) (es : List E) → AllByRecursion (IsMissable m r) es → AllByRecursion (IsForeignEntry m.whose m.alone (who_of r)) es
  foreign_missed r es h = all-weaker (IsMissable m r) (IsForeignEntry m.whose m.alone (who_of r)) es (foreign_of r) h

  last_grows : (h : List E) (e : E) (l : JoinedHead E) → IsJoinedHead m h l → (m.whose e).family ≢ l.family → IsJoinedHead m (h ++ e ∷ []) l
  last_grows h e l is ne = record {
    missed_entries = is.missed_entries ++ e ∷ [];
    whole = sym (append_assoc l.seen is.missed_entries (e ∷ [])) ∙ ap (λ (x : List E). x ++ e ∷ []) is.whole;
    own = own_other m.whose (record { family = l.family; actor = HOST }) h e (not_of m.whose m.alone (record { family = l.family; actor = HOST }) e (inl ne)) ∙ is.own;
    others = all-append (λ x. (m.whose x).family ≢ l.family) is.missed_entries (e ∷ []) is.others (ne, tt);
  }

  lasts_grow : (h : List E) (e : E) (ls : List (JoinedHead E)) → AllByRecursion (IsJoinedHead m h) ls → AllByRecursion (λ l. (m.whose e).family ≢ l.family) ls → AllByRecursion (IsJoinedHead m (h ++ e ∷ [])) ls
  lasts_grow h e ls is ne = every_both (IsJoinedHead m h) (λ l. (m.whose e).family ≢ l.family) (IsJoinedHead m (h ++ e ∷ [])) (last_grows h e) ls is ne

  -- another's entry is added
  pub told_grows : (h : List E) (r : Right) (p : Page O E) (e : E) → IsToldPage m opening h r p → (r.may_draw ≡ true → IsMissable m r e) → AllByRecursion (λ l. (m.whose e).family ≢ l.family) p.joined_heads
      → IsToldPage m opening (h ++ e ∷ []) r p
  told_grows h r p e t fine apart = record {
    opening_is = t.opening_is;
    missed_entries = t.missed_entries ++ e ∷ [];
    whole = sym (append_assoc p.seen t.missed_entries (e ∷ [])) ∙ ap (λ (x : List E). x ++ e ∷ []) t.whole;
    missable = λ d. all-append (IsMissable m r) t.missed_entries (e ∷ []) (t.missable d) (fine d, tt);
    own = λ d. own_other m.whose (who_of r) h e (not_of m.whose m.alone (who_of r) e (fine d).0) ∙ t.own d;
    older_histories = all-weaker (λ old. IsFront old h) (λ old. IsFront old (h ++ e ∷ [])) p.older_histories (λ old x. front_grows old h (e ∷ []) x) t.older_histories;
    joined_heads = lasts_grow h e p.joined_heads t.joined_heads apart;
  }

  -- its own entry is added, after it has seen all
  pub told_wrote : (h : List E) (r : Right) (p : Page O E) (e : E) → IsToldPage m opening h r p → p.seen ≡ h → m.whose e ≡ who_of r → AllByRecursion (λ l. (m.whose e).family ≢ l.family) p.joined_heads
      → IsToldPage m opening (h ++ e ∷ []) r (record p { seen = p.seen ++ e ∷ []; mine = p.mine ++ e ∷ [] })
  told_wrote h r p e t all mine apart = record {
    opening_is = t.opening_is;
    missed_entries = [];
    whole = append-nil (p.seen ++ e ∷ []) ∙ ap (λ (x : List E). x ++ e ∷ []) all;
    missable = λ d. tt;
    own = λ d. own_mine m.whose (who_of r) h e (of_actor m.whose (who_of r) e mine) ∙ (ap (λ (x : List E). x ++ e ∷ []) (t.own d) ∙ append_assoc p.earlier p.mine (e ∷ []));
    older_histories = all-weaker (λ old. IsFront old h) (λ old. IsFront old (h ++ e ∷ [])) p.older_histories (λ old x. front_grows old h (e ∷ []) x) t.older_histories;
    joined_heads = lasts_grow h e p.joined_heads t.joined_heads apart;
  }

  -- it sees all
  pub told_reads : (h : List E) (r : Right) (p : Page O E) → IsToldPage m opening h r p → IsToldPage m opening h r (record p { seen = h })
  told_reads h r p t = record { opening_is = t.opening_is; missed_entries = []; whole = append-nil h; missable = λ d. tt; own = t.own; older_histories = t.older_histories; joined_heads = t.joined_heads }

  -- the look after a join
  pub told_settles : (h : List E) (r : Right) (p : Page O E) → IsToldPage m opening h r p → IsToldPage m opening h r (record p { older_histories = [] })
  told_settles h r p t = record { opening_is = t.opening_is; missed_entries = t.missed_entries; whole = t.whole; missable = t.missable; own = t.own; older_histories = tt; joined_heads = t.joined_heads }

  -- a copy, of a view that may not draw
  pub told_copy : (h : List E) (r r' : Right) (p : Page O E) (earlier : List E) → IsToldPage m opening h r p → r'.may_draw ≡ false
      → IsToldPage m opening h r' (record { opening = p.opening; seen = p.seen; earlier = earlier; mine = []; older_histories = []; joined_heads = [] })
  told_copy h r r' p earlier t none = record { opening_is = t.opening_is; missed_entries = t.missed_entries; whole = t.whole; missable = λ d. never d; own = λ d. never d; older_histories = tt; joined_heads = tt }
    where
      never : {P : Type 0} → r'.may_draw ≡ true → P
      never d = absurd (cc (none, d))

  -- a copy for an actor of which there are no entries
  pub told_fresh : (h : List E) (r r' : Right) (p : Page O E) → IsToldPage m opening h r p → AllByRecursion (λ e. (m.whose e).family ≢ r'.family) h
      → IsToldPage m opening h r' (record { opening = p.opening; seen = p.seen; earlier = []; mine = []; older_histories = []; joined_heads = [] })
  told_fresh h r r' p t none = record {
    opening_is = t.opening_is;
    missed_entries = t.missed_entries;
    whole = t.whole;
    missable = λ d. all-weaker (λ e. (m.whose e).family ≢ r'.family) (IsMissable m r') t.missed_entries (λ e ne. (inl ne, λ _ same. absurd (ne same)))
        (all-back (λ e. (m.whose e).family ≢ r'.family) p.seen t.missed_entries (subst (AllByRecursion (λ e. (m.whose e).family ≢ r'.family)) (sym t.whole) none));
    own = λ d. own_none m.whose (who_of r') h (all-weaker (λ e. (m.whose e).family ≢ r'.family) (λ e. is_of m.whose (who_of r') e ≡ false) h (λ e ne. not_of m.whose m.alone (who_of r') e (inl ne)) none);
    older_histories = tt;
    joined_heads = tt;
  }

  -- a copy for an actor that a head sends out
  pub told_sent : (h : List E) (r : Right) (p : Page O E) (a : ℕ) → IsToldPage m opening h r p → r.may_draw ≡ true → r.actor ≡ HOST → a ≢ HOST → ¬ Contains r.absent_actors a
      → IsToldPage m opening h (drawing_right r.family a 0)
      (record { opening = p.opening; seen = p.seen; earlier = entries_of m.whose (record { family = r.family; actor = a }) p.seen; mine = []; older_histories = []; joined_heads = [] })
  told_sent h r p a t d host other free = let r' : Right = drawing_right r.family a 0 in
      let fine : AllByRecursion (IsMissable m r') t.missed_entries = all-weaker (IsMissable m r) (IsMissable m r') t.missed_entries (λ e x. (worker e x, λ is. absurd (other is))) (t.missable d) in record {
        opening_is = t.opening_is;
        missed_entries = t.missed_entries;
        whole = t.whole;
        missable = λ _. fine;
        own = λ _. ap (entries_of m.whose (record { family = r.family; actor = a })) (sym t.whole)
            ∙ (own_missed m.whose m.alone (record { family = r.family; actor = a }) p.seen t.missed_entries (foreign_missed r' t.missed_entries fine) ∙ sym (append-nil (entries_of m.whose (record { family = r.family; actor = a }) p.seen)));
        older_histories = tt;
        joined_heads = tt;
      }
    where
      worker : (e : E) → IsMissable m r e → IsForeignEntry m.whose m.alone (record { family = r.family; actor = a }) e
      worker e x = dite (ℕ_discrete (m.whose e).family r.family)
          (λ same. inr ((λ is. free (subst (λ (z : ℕ). Contains r.absent_actors z) is (x.1 host same))), ⊎_elim (λ (z : (m.whose e).family ≢ r.family). absurd (z same)) (λ (z : ((m.whose e).actor ≢ r.actor) × (m.alone e ≡ false)). z.1) x.0))
          (λ ne. inl ne)

  -- the head that sends it out
  pub told_sender : (h : List E) (r : Right) (p : Page O E) (a : ℕ) → IsToldPage m opening h r p → IsToldPage m opening h (record r { absent_actors = a ∷ r.absent_actors }) p
  told_sender h r p a t = record {
    opening_is = t.opening_is;
    missed_entries = t.missed_entries;
    whole = t.whole;
    missable = λ d. all-weaker (IsMissable m r) (IsMissable m (record r { absent_actors = a ∷ r.absent_actors })) t.missed_entries (λ e x. (x.0, λ host same. in_later (m.whose e).actor a r.absent_actors (x.1 host same))) (t.missable d);
    own = t.own;
    older_histories = t.older_histories;
    joined_heads = t.joined_heads;
  }

  -- a view takes in what another has seen: here with what it may have missed then, and its right
  -- then
  pub told_joins : (h : List E) (r r' : Right) (p : Page O E) (seen missed_entries : List E) (lasts : List (JoinedHead E)) → IsToldPage m opening h r p → seen ++ missed_entries ≡ h → who_of r' ≡ who_of r → r'.may_draw ≡ r.may_draw
      → AllByRecursion (IsJoinedHead m h) lasts
      → (r.may_draw ≡ true → (es : List E) → AllByRecursion (IsMissable m r) es → (mid : List E) → mid ++ es ≡ missed_entries → AllByRecursion (IsMissable m r') es)
      → IsToldPage m opening h r' (record p { seen = longer_list p.seen seen; older_histories = p.seen ∷ seen ∷ p.older_histories; joined_heads = lasts })
  told_joins h r r' p seen missed_entries lasts t whole who draws lasts_are fine = ⊎_elim
      (λ (x : (longer_list p.seen seen ≡ p.seen) × ((mid : List E) × (seen ++ mid ≡ p.seen) × (missed_entries ≡ mid ++ t.missed_entries))).
      joined t.missed_entries (ap (λ (l : List E). l ++ t.missed_entries) x.0 ∙ t.whole) (λ d. fine d t.missed_entries (t.missable d) x.1.0 (sym x.1.2)))
      (λ (x : (longer_list p.seen seen ≡ seen) × ((mid : List E) × (p.seen ++ mid ≡ seen) × (t.missed_entries ≡ mid ++ missed_entries))).
      joined missed_entries (ap (λ (l : List E). l ++ missed_entries) x.0 ∙ whole) (λ d. fine d missed_entries (all-back (IsMissable m r) x.1.0 missed_entries (subst (AllByRecursion (IsMissable m r)) x.1.2 (t.missable d))) [] refl))
      (longer_is p.seen t.missed_entries seen missed_entries h t.whole whole)
    where
      joined : (left : List E) → longer_list p.seen seen ++ left ≡ h → (r.may_draw ≡ true → AllByRecursion (IsMissable m r') left) → IsToldPage m opening h r' (record p { seen = longer_list p.seen seen; older_histories = p.seen ∷ seen ∷ p.older_histories; joined_heads = lasts })
      joined left is missable = record {
        opening_is = t.opening_is;
        missed_entries = left;
        whole = is;
        missable = λ d. missable (sym draws ∙ d);
        own = λ d. ap (λ (w : Who). entries_of m.whose w h) who ∙ t.own (sym draws ∙ d);
        older_histories = ((t.missed_entries, t.whole), ((missed_entries, whole), t.older_histories));
        joined_heads = lasts_are;
      }

  -- what is kept of a head with nobody out
  pub told_last : (h : List E) (r : Right) (p : Page O E) → IsToldPage m opening h r p → r.may_draw ≡ true → r.actor ≡ HOST → r.absent_actors ≡ [] → p.earlier ≡ []
      → IsJoinedHead m h (record { family = r.family; mine = p.mine; seen = p.seen })
  told_last h r p t d host nobody_out none = record {
    missed_entries = t.missed_entries;
    whole = t.whole;
    own = ap (λ (a : ℕ). entries_of m.whose (record { family = r.family; actor = a }) h) (sym host) ∙ (t.own d ∙ ap (λ (l : List E). l ++ p.mine) none);
    others = all-weaker (IsMissable m r) (λ e. (m.whose e).family ≢ r.family) t.missed_entries (λ e x same. let there : Contains [] (m.whose e).actor = subst (λ (xs : List ℕ). Contains xs (m.whose e).actor) nobody_out (x.1 host same) in in_none (m.whose e).actor there) (t.missable d);
  }
