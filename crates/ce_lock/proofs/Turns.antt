-- A turn: what the caller sees and makes of the history while it has the object.
use Rattle.std.proofs.Common.{◌≡◌, ℕ, ◌^◌, ◌<◌, Bool, true, List, [], ◌∷◌, ◌++◌, length, refl, sym, ap, ◌∙◌, subst, Some, Ok, Err, Result, append_assoc}
use Rattle.std.proofs.lemmas.List.{append-nil}
use Rattle.std.specs.List.{AllByRecursion}
use Rattle.atomic_table.specs.Table.{Me, rest}
use Rattle.atomic_table.specs.Seated.{TableId}
use Rattle.ce_model.specs.declared.topology.TheConstants.{HOST}
use Rattle.ce_lock.specs.declared.who.Who.{Who}
use Rattle.ce_lock.specs.declared.view.View.{View}
use Rattle.ce_lock.specs.Entries.{IsForeignEntry, entries_of}
use Rattle.ce_lock.specs.Meanings.{Meanings}
use Rattle.ce_lock.specs.OneOrder.{who_of, IsMissable}
use Rattle.ce_lock.specs.Telling.{served_place, place_holding, view_at, view_with_seen, view_after_entry, HasTakenObject, HasCommitted, HasGivenObject}
use Rattle.ce_lock.specs.Sitting.{IsSeatTurn, IsSoundSeat, IsKnown}
use Rattle.ce_lock.proofs.Histories.{own_missed, own_mine, of_actor, foreign_missed}
use Rattle.ce_lock.proofs.Moves.{object_or}

-- what fits at what was seen fits at the whole history, since what was missed is foreign
pub carries : {E F C : Type 0} (lawful : F → List E → Type 0) (fits : F → List E → Who → C → Type 0) (whose : E → Who) (alone : E → Bool) → ((f : F) (xs ys : List E) → lawful f (xs ++ ys) → lawful f xs)
    → ((f : F) (before : List E) (e : E) (who : Who) (call : C) → lawful f (before ++ e ∷ []) → fits f before who call → IsForeignEntry whose alone who e → fits f (before ++ e ∷ []) who call)
    → (f : F) (who : Who) (call : C) (missed_entries before : List E) → lawful f (before ++ missed_entries) → AllByRecursion (IsForeignEntry whose alone who) missed_entries → fits f before who call → fits f (before ++ missed_entries) who call
carries lawful fits whose alone fronts still f who call [] before l h fit = subst (λ x. fits f x who call) (sym (append-nil before)) fit
carries lawful fits whose alone fronts still f who call (e ∷ es) before l h fit =
    let same : (before ++ e ∷ []) ++ es ≡ before ++ e ∷ es = append_assoc before (e ∷ []) es in
    let l' = subst (lawful f) (sym same) l in
    subst (λ x. fits f x who call) same (carries lawful fits whose alone fronts still f who call es (before ++ e ∷ []) l' h.1 (still f before e who call (fronts f (before ++ e ∷ []) es l') fit h.0))

module _ {O E F : Type 0} (m : Meanings O E F) (me me' : Me O (View O E)) (t : ℕ) (at : me.0.place ≡ served_place t) (took : HasTakenObject m me me') where
  -- the view while the object is out
  abbrev pub base : View O E
  base = view_at (view_with_seen me.0 (me.0.page.seen ++ took.missed_entries)) (place_holding t)

  pub taken : me' ≡ (base, (0, took.object) ∷ me.1)
  taken = took.after_is t at

  pub in_hand : me.1 ≡ [] → me'.1 ≡ (0, took.object) ∷ []
  in_hand e = ap (λ (x : Me O (View O E)). x.1) taken ∙ ap (λ (l : List (ℕ × O)). (0, took.object) ∷ l) e

  module _ (y z : O) (none : me.1 ≡ []) (hand : me'.1 ≡ (0, y) ∷ []) (me'' : Me O (View O E)) (acted : me'' ≡ (me'.0, (0, z) ∷ [])) where
    object_is : y ≡ took.object
    object_is = ap (object_or y) (sym hand ∙ in_hand none)

    history_is : m.history y ≡ me.0.page.seen ++ took.missed_entries
    history_is = ap m.history object_is ∙ took.history

    fixed_is : m.fixed y ≡ m.fixed took.opening
    fixed_is = ap m.fixed object_is ∙ took.fixed

    pub acted_view : me''.0 ≡ base
    acted_view = ap (λ (x : Me O (View O E)). x.0) acted ∙ ap (λ (x : Me O (View O E)). x.0) taken

    pub acted_hand : me''.1 ≡ (0, z) ∷ []
    acted_hand = ap (λ (x : Me O (View O E)). x.1) acted

    pub acted_place : (n : ℕ) × (me''.0.place ≡ place_holding n)
    acted_place = (t, ap (λ (v : View O E). v.place) acted_view)

    pub acted_opening : me''.0.page.opening ≡ Some took.opening
    acted_opening = ap (λ (v : View O E). v.page.opening) acted_view ∙ took.opening_is

    acted_seen : me''.0.page.seen ≡ me.0.page.seen ++ took.missed_entries
    acted_seen = ap (λ (v : View O E). v.page.seen) acted_view

    -- the object goes back as it was
    pub unchanged : z ≡ y → (m.fixed z ≡ m.fixed took.opening) × (m.history z ≡ me''.0.page.seen)
    unchanged same = (ap m.fixed same ∙ fixed_is, ap m.history same ∙ (history_is ∙ sym acted_seen))

    module _ (e : E) (grown : m.history z ≡ m.history y ++ e ∷ []) where
      grown_is : m.history z ≡ me''.0.page.seen ++ e ∷ []
      grown_is = grown ∙ ap (λ (l : List E). l ++ e ∷ []) (history_is ∙ sym acted_seen)

      -- what the commit asks
      pub entry_fits : m.fixed z ≡ m.fixed y → (m.lawful (m.fixed y) (m.history y) → m.lawful (m.fixed y) (m.history z)) → length (m.history z) < 2 ^ 63 → m.whose e ≡ who_of me.0.right
          → (m.alone e ≡ true → (me.0.right.actor ≡ HOST) × (me.0.right.absent_actors ≡ []))
          → (m.history z ≡ me''.0.page.seen ++ e ∷ []) × m.lawful (m.fixed took.opening) (me''.0.page.seen ++ e ∷ []) × (length (me''.0.page.seen ++ e ∷ []) < 2 ^ 63)
          × (m.whose e ≡ who_of me''.0.right) × (m.alone e ≡ true → (me''.0.right.actor ≡ HOST) × (me''.0.right.absent_actors ≡ []))
      entry_fits fixed lawful short mine alone = (
        grown_is,
        subst (λ (x : F × List E). m.lawful x.0 x.1) (λ k. (fixed_is k, grown_is k)) (lawful (subst (λ (x : F × List E). m.lawful x.0 x.1) (λ k. (sym fixed_is k, sym history_is k)) took.lawful)),
        subst (λ (l : List E). length l < 2 ^ 63) grown_is short,
        mine ∙ ap (λ (v : View O E). who_of v.right) (sym acted_view),
        λ a. subst (λ (v : View O E). (v.right.actor ≡ HOST) × (v.right.absent_actors ≡ [])) (sym acted_view) (alone a),
      )

      -- what a turn with an entry makes of the view
      pub turn_made : {C R : Type 0} (X : Type 0) (stands : F → List E → E → Who → C → R → Type 0) (who : Who) (call : C) (reply : R) → who_of me.0.right ≡ who
          → (m.lawful (m.fixed y) (m.history y) → m.lawful (m.fixed y) (m.history z)) → length (m.history z) < 2 ^ 63 → m.whose e ≡ who → stands (m.fixed y) (m.history y) e who call reply
          → (last : Me O (View O E)) → last.0 ≡ view_after_entry (view_with_seen me.0 (me.0.page.seen ++ took.missed_entries)) e → last.1 ≡ [] → (result : Result R (C × X)) → result ≡ Ok reply → IsSeatTurn m stands me last call result
      turn_made X stands who call reply actor lawful short mine stand last is hand result result_is =
          let all : m.history z ≡ last.0.page.seen = grown_is ∙ (ap (λ (l : List E). l ++ e ∷ []) acted_seen ∙ ap (λ (v : View O E). v.page.seen) (sym is)) in
          subst (IsSeatTurn m stands me last call) (sym result_is) record {
            hand = hand;
            opening = took.opening;
            missed_entries = took.missed_entries;
            opening_is = took.opening_is;
            missable = took.missable;
            lawful = subst (λ (x : F × List E). m.lawful x.0 x.1) (λ k. (fixed_is k, all k)) (lawful (subst (λ (x : F × List E). m.lawful x.0 x.1) (λ k. (sym fixed_is k, sym history_is k)) took.lawful));
            short = subst (λ (l : List E). length l < 2 ^ 63) all short;
            answered = (e, is, mine ∙ sym actor, subst (λ (x : F × (List E × Who)). stands x.0 x.1.0 e x.1.1 call reply) (λ k. (fixed_is k, (history_is k, sym actor k))) stand);
          }

      module _ (after : Me O (View O E)) (committed : HasCommitted m me'' after) where
        pub committed_is : after ≡ (view_after_entry me''.0 e, me''.1)
        committed_is = committed z e acted_hand grown_is

        committed_view : after.0 ≡ view_after_entry base e
        committed_view = ap (λ (x : Me O (View O E)). x.0) committed_is ∙ ap (λ (v : View O E). view_after_entry v e) acted_view

        pub committed_hand : after.1 ≡ (0, z) ∷ []
        committed_hand = ap (λ (x : Me O (View O E)). x.1) committed_is ∙ acted_hand

        pub committed_place : (n : ℕ) × (after.0.place ≡ place_holding n)
        committed_place = (t, ap (λ (v : View O E). v.place) committed_view)

        -- what the give asks
        pub committed_back : m.fixed z ≡ m.fixed y → (after.0.page.opening ≡ Some took.opening) × (m.fixed z ≡ m.fixed took.opening) × (m.history z ≡ after.0.page.seen)
        committed_back fixed = (ap (λ (v : View O E). v.page.opening) committed_view ∙ took.opening_is, fixed ∙ fixed_is, grown_is ∙ ap (λ (x : Me O (View O E)). x.0.page.seen) (sym committed_is))

        pub given : (last : Me O (View O E)) → HasGivenObject after last → (last.0 ≡ view_after_entry (view_with_seen me.0 (me.0.page.seen ++ took.missed_entries)) e) × (last.1 ≡ [])
        given last gave = let is = gave t (ap (λ (v : View O E). v.place) committed_view) in (
          ap (λ (x : Me O (View O E)). x.0) is ∙ (ap (λ (v : View O E). view_at v (served_place t)) committed_view ∙ ap (view_at (view_after_entry (view_with_seen me.0 (me.0.page.seen ++ took.missed_entries)) e)) (sym at)),
          ap (λ (x : Me O (View O E)). x.1) is ∙ ap rest committed_hand,
        )

    -- after a refusal
    pub refused : (last : Me O (View O E)) → HasGivenObject me'' last → (last.0 ≡ view_with_seen me.0 (me.0.page.seen ++ took.missed_entries)) × (last.1 ≡ [])
    refused last gave = let is = gave t (ap (λ (v : View O E). v.place) acted_view) in (
      ap (λ (x : Me O (View O E)). x.0) is ∙ (ap (λ (v : View O E). view_at v (served_place t)) acted_view ∙ ap (view_at (view_with_seen me.0 (me.0.page.seen ++ took.missed_entries))) (sym at)),
      ap (λ (x : Me O (View O E)). x.1) is ∙ ap rest acted_hand,
    )

  -- what a refused turn makes of the view
  pub turn_refused : {C R X : Type 0} (stands : F → List E → E → Who → C → R → Type 0) (call : C) (back : C × X) → length (me.0.page.seen ++ took.missed_entries) < 2 ^ 63 → back.0 ≡ call
      → (last : Me O (View O E)) → last.0 ≡ view_with_seen me.0 (me.0.page.seen ++ took.missed_entries) → last.1 ≡ [] → (result : Result R (C × X)) → result ≡ Err back → IsSeatTurn m stands me last call result
  turn_refused stands call back short same last is hand result result_is = let all : me.0.page.seen ++ took.missed_entries ≡ last.0.page.seen = ap (λ (v : View O E). v.page.seen) (sym is) in
      subst (IsSeatTurn m stands me last call) (sym result_is) record {
        hand = hand;
        opening = took.opening;
        missed_entries = took.missed_entries;
        opening_is = took.opening_is;
        missable = took.missable;
        lawful = subst (m.lawful (m.fixed took.opening)) all took.lawful;
        short = subst (λ (l : List E). length l < 2 ^ 63) all short;
        answered = (is, same);
      }

module _ {O E F : Type 0} (m : Meanings O E F) where
  -- what a sound seat missed has none of its actor's entries
  own_still : (who : Who) (me : Me O (View O E)) (missed_entries : List E) → IsSoundSeat m who me → AllByRecursion (IsMissable m me.0.right) missed_entries
      → entries_of m.whose (who_of me.0.right) (me.0.page.seen ++ missed_entries) ≡ me.0.page.earlier ++ me.0.page.mine
  own_still who me missed_entries s missable = own_missed m.whose m.alone (who_of me.0.right) me.0.page.seen missed_entries (foreign_missed m s.opening me.0.right missed_entries missable) ∙ s.own

module _ {O E F : Type 0} (m : Meanings O E F) {C R X : Type 0} (stands : F → List E → E → Who → C → R → Type 0) where
  -- a seat stays sound where no more of its view is another than what it has seen and made
  sound_after : (result : Result R (C × X)) (who : Who) (me me' : Me O (View O E)) (call : C) (seen mine : List E)
      → IsSoundSeat m who me → IsSeatTurn m stands me me' call result
      → me'.0 ≡ record me.0 { page = record me.0.page { seen = seen; mine = mine } } → entries_of m.whose (who_of me.0.right) seen ≡ me.0.page.earlier ++ mine → IsSoundSeat m who me'
  sound_after result who me me' call seen mine s t is own = let same : t.opening ≡ s.opening = cc (t.opening_is, s.opening_is) in
      subst (IsSoundSeat m who) (λ k. (sym is k, sym t.hand k)) record {
        opening = s.opening;
        opening_is = s.opening_is;
        place = s.place;
        hand = refl;
        who_is = s.who_is;
        live = s.live;
        may_draw = s.may_draw;
        older_histories = s.older_histories;
        joined_heads = s.joined_heads;
        lawful = subst (λ (x : O × View O E). m.lawful (m.fixed x.0) x.1.page.seen) (λ k. (same k, is k)) t.lawful;
        short = subst (λ (w : View O E). length w.page.seen < 2 ^ 63) is t.short;
        own = own;
        fresh = s.fresh;
      }

  -- a turn of a sound seat leaves it sound
  pub sound_turn : (result : Result R (C × X)) (who : Who) (me me' : Me O (View O E)) (call : C) → IsSoundSeat m who me → IsSeatTurn m stands me me' call result → IsSoundSeat m who me'
  sound_turn (Ok reply) who me me' call s t = let a = t.answered in sound_after (Ok reply) who me me' call _ _ s t a.1
      (own_mine m.whose (who_of me.0.right) (me.0.page.seen ++ t.missed_entries) a.0 (of_actor m.whose (who_of me.0.right) a.0 a.2)
      ∙ (ap (λ (l : List E). l ++ a.0 ∷ []) (own_still m who me t.missed_entries s t.missable) ∙ append_assoc me.0.page.earlier me.0.page.mine (a.0 ∷ [])))
  sound_turn (Err back) who me me' call s t = sound_after (Err back) who me me' call _ _ s t t.answered.0 (own_still m who me t.missed_entries s t.missable)

  -- a turn is one of the same book
  pub turn_opening : (result : Result R (C × X)) (me me' : Me O (View O E)) (call : C) → IsSeatTurn m stands me me' call result → me'.0.page.opening ≡ me.0.page.opening
  turn_opening (Ok reply) me me' call t = ap (λ (x : View O E). x.page.opening) t.answered.1
  turn_opening (Err back) me me' call t = ap (λ (x : View O E). x.page.opening) t.answered.0

-- what a sound seat has seen is known
pub known_of : {O E F : Type 0} (m : Meanings O E F) (who : Who) (me : Me O (View O E)) (o : O) (z : TableId) → IsSoundSeat m who me → me.0.page.opening ≡ Some o → IsKnown m o (z, me.0)
known_of m who me o z s is = let same : s.opening ≡ o = cc (s.opening_is, is) in record { lawful = subst (λ x. m.lawful (m.fixed x) me.0.page.seen) same s.lawful; short = s.short; own = s.own }
