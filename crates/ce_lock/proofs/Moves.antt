-- Each step on a word keeps the rule of the book, and tells what it is to tell.
use Rattle.std.proofs.Common.{◌≡◌, ◌≢◌, ℕ, suc, ◌+◌, ◌-◌, ◌*◌, ◌^◌, ◌%◌, ◌<◌, ◌≤◌, Bool, true, false, List, [], ◌∷◌, ◌++◌, map, length, get_or, set, refl, sym, ap, ◌∙◌, subst, inl, inr, ⊎_elim, ◌⊎◌, arith, Some, add-one, length-append}
use Rattle.std.proofs.Math.Nat.{mod-add-mod, mod-eq_of_lt}
use Rattle.std.proofs.lemmas.List.{append_cancel_left, length_push}
use Rattle.std.specs.List.{AllByRecursion, Contains}
use mathlib.Core.Logic.{dite}
use mathlib.Core.Option.{Option, some, none}
use native.Mathlib.Decide.{ℕ_discrete}
use lib.ListN.{get_elem?}
use lib.Seq.{set-get_or, map-set}
use Rattle.atomic_table.specs.Table.{State, Me, keeps, takes, gives, put_back, rest, Allows}
use Rattle.atomic_table.proofs.Lists.{set_again, at_map, set_here}
use Rattle.ce_model.specs.declared.topology.TheConstants.{HOST}
use Rattle.ce_model.specs.Lists.{IsFront}
use Rattle.ce_model.proofs.Members.{all-append, all-weaker}
use Rattle.ce_lock.specs.declared.who.Who.{Who}
use Rattle.ce_lock.specs.declared.view.QueuePlace.{QueuePlace}
use Rattle.ce_lock.specs.declared.view.Right.{Right}
use Rattle.ce_lock.specs.declared.view.JoinedHead.{JoinedHead}
use Rattle.ce_lock.specs.declared.view.View.{View}
use Rattle.ce_lock.specs.Entries.{AtEach, entries_of}
use Rattle.ce_lock.specs.Meanings.{Meanings}
use Rattle.ce_lock.specs.OneOrder.{IsQueue, IsFair, IsGone, who_of, IsMissable, IsToldPage, IsBookInOrder}
use Rattle.ce_lock.specs.Telling.{idle_place, place_waiting, served_place, place_holding, view_at, view_with_seen, view_after_entry, settled_view, HasDrawn, HasLookedAtTicket, HasGivenObject, HasLeftTurn, HasTakenObject, HasCommitted, IsSettled}
use Rattle.ce_lock.proofs.Members.{in_none}
use Rattle.ce_lock.proofs.Seats.{at_same, at_other, at_one, at_unmap, map_kept, each_kept, each_set, each_unset}
use Rattle.ce_lock.proofs.Tickets.{retell, draw, leave, one_at_turn, served}
use Rattle.ce_lock.proofs.Fair.{its_head}
use Rattle.ce_lock.proofs.Pigeons.{at_most}
use Rattle.ce_lock.proofs.Histories.{foreign_missed, own_missed, told_grows, told_wrote, told_reads, told_settles, between}

clash : {P : Type 0} → false ≡ true → P
clash e = absurd (cc)

-- the words, with one of them another
first_word : (ws : List ℕ) (a b c x : ℕ) → ws ≡ a ∷ b ∷ c ∷ [] → set ws 0 x ≡ x ∷ b ∷ c ∷ []
first_word ws a b c x e = ap (λ (l : List ℕ). set l 0 x) e

second_word : (ws : List ℕ) (a b c x : ℕ) → ws ≡ a ∷ b ∷ c ∷ [] → set ws 1 x ≡ a ∷ x ∷ c ∷ []
second_word ws a b c x e = ap (λ (l : List ℕ). set l 1 x) e

third_word : (ws : List ℕ) (a b c x : ℕ) → ws ≡ a ∷ b ∷ c ∷ [] → set ws 2 x ≡ a ∷ b ∷ x ∷ []
third_word ws a b c x e = ap (λ (l : List ℕ). set l 2 x) e

-- a word that counts on, as the remainder of the next number
next_word : (n : ℕ) → (n % 2 ^ 64 + 1) % 2 ^ 64 ≡ suc n % 2 ^ 64
next_word n = mod-add-mod n (2 ^ 64) 1 ∙ ap (λ (z : ℕ). z % 2 ^ 64) (add-one n)

-- the code of an actor of a family, below the number of pairs
code_below : (f a families : ℕ) → f < families → a < 2 ^ 32 → families < 2 ^ 32 → f * 4294967296 + a < 4294967295 * 4294967296
code_below f a families lf la few = omega arith

same_code : (f a g b : ℕ) → a < 2 ^ 32 → b < 2 ^ 32 → f * 4294967296 + a ≡ g * 4294967296 + b → (f ≡ g) × (a ≡ b)
same_code f a g b la lb e = (omega arith, omega arith)

pub is_true_or_false : (b : Bool) → (b ≡ true) ⊎ (b ≡ false)
is_true_or_false true = inl refl
is_true_or_false false = inr refl

-- the object in hand
abbrev pub object_or : {O : Type 0} → O → List (ℕ × O) → O
object_or o [] = o
object_or o (x ∷ xs) = x.1

module _ {O E F : Type 0} (m : Meanings O E F) (opening : O) (families : ℕ) where
  abbrev pub V : Type 0
  V = View O E

  abbrev pub St : Type 0
  St = State O V

  abbrev pub M : Type 0
  M = Me O V

  abbrev pub IsRuled : St → Type 0
  IsRuled = IsBookInOrder m opening families

  abbrev pub place_of : V → QueuePlace
  place_of v = v.place

  abbrev pub right_of : V → Right
  right_of v = v.right

  abbrev pub IsHome : List (Option O) → List E → Type 0
  IsHome homes history = (y : O) × (get_elem? homes 0 ≡ some (some y)) × (m.fixed y ≡ m.fixed opening) × (m.history y ≡ history)

  abbrev pub HasLongest : List V → List E → Type 0
  HasLongest views history = (i : ℕ) × (v : V) × (get_elem? views i ≡ some v) × (v.right.is_spent ≡ false) × (v.page.seen ≡ history)

  longest_kept : (vs : List V) (h : List E) (id : ℕ) (v w : V) → get_elem? vs id ≡ some v → w.right.is_spent ≡ v.right.is_spent → (v.page.seen ≡ h → w.page.seen ≡ h) → HasLongest vs h → HasLongest (set vs id w) h
  longest_kept vs h id v w at same seen l = dite (ℕ_discrete l.0 id)
      (λ is. let here : v ≡ l.1 = at_one vs id v l.1 at (ap (get_elem? vs) (sym is) ∙ l.2) in
      (id, w, at_same vs id v w at, same ∙ (ap (λ (z : V). z.right.is_spent) here ∙ l.3), seen (ap (λ (z : V). z.page.seen) here ∙ l.4)))
      (λ ne. (l.0, l.1, at_other vs id l.0 l.1 w ne l.2, l.3, l.4))

  -- the right of a view, in the list of rights
  pub right_at : (vs : List V) (i : ℕ) (v : V) → get_elem? vs i ≡ some v → get_elem? (map right_of vs) i ≡ some v.right
  right_at vs i v e = at_map right_of vs i v e

  pub place_at : (vs : List V) (i : ℕ) (v : V) → get_elem? vs i ≡ some v → get_elem? (map place_of vs) i ≡ some v.place
  place_at vs i v e = at_map place_of vs i v e

  -- whoever may draw isn't spent
  pub not_spent : (s : St) (r : IsRuled s) (i : ℕ) (v : V) → get_elem? s.views i ≡ some v → v.right.may_draw ≡ true → v.right.is_spent ≡ false
  not_spent s r i v e d = (r.fair.plain i v.right (right_at s.views i v e) d).0

  -- a step that makes no entry, of a view that keeps its right
  turns : (s : St) (r : IsRuled s) (id : ℕ) (v w : V) → get_elem? s.views id ≡ some v → w.right ≡ v.right → w.page.joined_heads ≡ v.page.joined_heads
      → (w.right.is_spent ≡ false → IsToldPage m opening r.history w.right w.page) → (v.page.seen ≡ r.history → w.page.seen ≡ r.history)
      → (now next : ℕ) (words : List ℕ) → words ≡ next % 2 ^ 64 ∷ now % 2 ^ 64 ∷ length r.history ∷ [] → IsQueue now next (set (map place_of s.views) id w.place)
      → (w.place.has_ticket ≡ true → w.right.may_draw ≡ true) → (homes : List (Option O)) → (AtEach (set s.views id w) (λ u. u.place.has_object ≡ false) → IsHome homes r.history)
      → (w.place.has_object ≡ true → w.page.seen ≡ r.history) → IsRuled record { words = words; homes = homes; views = set s.views id w }
  turns s r id v w at right lasts told seen now next words words_are queue entitled homes home informed =
      let rights : map right_of (set s.views id w) ≡ map right_of s.views = map_kept right_of s.views id v w at right in record {
        now = now;
        next = next;
        history = r.history;
        words = words_are;
        lawful = r.lawful;
        short = r.short;
        queue = subst (IsQueue now next) (sym (map-set place_of s.views id w)) queue;
        fair = subst (IsFair families) (sym rights) r.fair;
        entitled = each_kept (λ (u : V). u.place.has_ticket ≡ true → u.right.may_draw ≡ true) s.views id w entitled r.entitled;
        home = home;
        informed = each_kept (λ (u : V). u.place.has_object ≡ true → u.page.seen ≡ r.history) s.views id w informed r.informed;
        told = each_kept (λ (u : V). u.right.is_spent ≡ false → IsToldPage m opening r.history u.right u.page) s.views id w told r.told;
        gone = subst (λ (rs : List Right). AtEach (set s.views id w) (λ u. AllByRecursion (λ l. IsGone rs l.family) u.page.joined_heads)) (sym rights)
            (each_kept (λ (u : V). AllByRecursion (λ l. IsGone (map right_of s.views) l.family) u.page.joined_heads) s.views id w
            (subst (λ (ls : List (JoinedHead E)). AllByRecursion (λ l. IsGone (map right_of s.views) l.family) ls) (sym lasts) (r.gone id v at)) r.gone);
        made = each_kept (λ (u : V). 0 < u.right.heads → AllByRecursion (λ e. (m.whose e).family < u.right.heads) r.history) s.views id w
            (subst (λ (z : Right). 0 < z.heads → AllByRecursion (λ e. (m.whose e).family < z.heads) r.history) (sym right) (r.made id v at)) r.made;
        longest = longest_kept s.views r.history id v w at (ap (λ (z : Right). z.is_spent) right) seen r.longest;
      }

  -- the same, where only the place changes and the object stays where it is
  stays : (s : St) (r : IsRuled s) (id : ℕ) (v : V) (p : QueuePlace) → get_elem? s.views id ≡ some v → v.place.has_object ≡ false → p.has_object ≡ false
      → (now next : ℕ) (words : List ℕ) → words ≡ next % 2 ^ 64 ∷ now % 2 ^ 64 ∷ length r.history ∷ [] → IsQueue now next (set (map place_of s.views) id p)
      → (p.has_ticket ≡ true → v.right.may_draw ≡ true) → IsRuled record { words = words; homes = s.homes; views = set s.views id (view_at v p) }
  stays s r id v p at in_ out now next words words_are queue entitled = turns s r id v (view_at v p) at refl refl (λ live. r.told id v at live) (λ e. e) now next words words_are queue entitled s.homes
      (λ all. r.home (each_unset (λ (u : V). u.place.has_object ≡ false) s.views id v (view_at v p) at in_ all)) (λ e. clash (sym out ∙ e))

  -- nothing changes
  same_state : (s : St) (i id : ℕ) (v : V) → get_elem? s.views id ≡ some v → IsRuled s → IsRuled record { words = set s.words i (get_or s.words i 0); homes = s.homes; views = set s.views id v }
  same_state s i id v at r = subst (λ (z : List ℕ × List V). IsRuled record { words = z.0; homes = s.homes; views = z.1 }) (λ k. (sym (set-get_or s.words i 0) k, sym (set_again s.views id v at) k)) r

  -- a look leaves the words as they are
  same_words : (s : St) (r : IsRuled s) (i : ℕ) → set s.words i (get_or s.words i 0) ≡ r.next % 2 ^ 64 ∷ r.now % 2 ^ 64 ∷ length r.history ∷ []
  same_words s r i = set-get_or s.words i 0 ∙ r.words

  -- fewer than 2^64 tickets are out, and one more may be
  few_out : (s : St) (r : IsRuled s) (id : ℕ) (v : V) → get_elem? s.views id ≡ some v → v.place.has_ticket ≡ false → v.right.may_draw ≡ true → suc r.next < r.now + 2 ^ 64
  few_out s r id v at idle d = let up : r.now ≤ r.next = r.queue.up in
      let Has : ℕ → ℕ → V → Type 0 = λ k i w. ((w.place.has_ticket ≡ true) × (w.place.ticket ≡ r.now + k)) ⊎ ((r.now + k ≡ r.next) × (i ≡ id)) in
      let R : ℕ → ℕ → Type 0 = λ k c. (i : ℕ) × (w : V) × (get_elem? s.views i ≡ some w) × (w.right.may_draw ≡ true) × (w.right.family * 4294967296 + w.right.actor ≡ c) × Has k i w in
      let all : suc r.next - r.now ≤ 4294967295 * 4294967296 = at_most (4294967295 * 4294967296) (suc r.next - r.now) R
      (λ k l. dite (ℕ_discrete (r.now + k) r.next)
      (λ is. let p = r.fair.plain id v.right (right_at s.views id v at) d in
      (v.right.family * 4294967296 + v.right.actor, code_below v.right.family v.right.actor families p.1 p.2 r.fair.few, (id, v, at, d, refl, inr (is, refl))))
      (λ ne. let q = r.queue.each (r.now + k) (omega arith) (omega arith) in let u = at_unmap place_of s.views q.0 q.1 q.2 in
      let drawn : u.0.place.has_ticket ≡ true = ap (λ (z : QueuePlace). z.has_ticket) u.2 ∙ q.3 in let draws = r.entitled q.0 u.0 u.1 drawn in
      let p = r.fair.plain q.0 u.0.right (right_at s.views q.0 u.0 u.1) draws in (
        u.0.right.family * 4294967296 + u.0.right.actor,
        code_below u.0.right.family u.0.right.actor families p.1 p.2 r.fair.few,
        (q.0, u.0, u.1, draws, refl, inl (drawn, ap (λ (z : QueuePlace). z.ticket) u.2 ∙ q.4)),
      )))
      (λ i j c li lj x y. let px = r.fair.plain x.0 x.1.right (right_at s.views x.0 x.1 x.2) x.3 in let py = r.fair.plain y.0 y.1.right (right_at s.views y.0 y.1 y.2) y.3 in
      let both = same_code x.1.right.family x.1.right.actor y.1.right.family y.1.right.actor px.2 py.2 (x.4 ∙ sym y.4) in
      let place : x.0 ≡ y.0 = r.fair.apart x.0 y.0 x.1.right y.1.right (right_at s.views x.0 x.1 x.2) (right_at s.views y.0 y.1 y.2) x.3 y.3 both.0 both.1 in
      let same : x.1 ≡ y.1 = at_one s.views y.0 x.1 y.1 (ap (get_elem? s.views) (sym place) ∙ x.2) y.2 in ⊎_elim
      (λ (a : (x.1.place.has_ticket ≡ true) × (x.1.place.ticket ≡ r.now + i)). ⊎_elim
      (λ (b : (y.1.place.has_ticket ≡ true) × (y.1.place.ticket ≡ r.now + j)). let e : r.now + i ≡ r.now + j = sym a.1 ∙ (ap (λ (z : V). z.place.ticket) same ∙ b.1) in omega arith)
      (λ (b : (r.now + j ≡ r.next) × (y.0 ≡ id)). clash (sym idle ∙ (ap (λ (z : V). z.place.has_ticket) (at_one s.views id v x.1 at (ap (get_elem? s.views) (sym (place ∙ b.1)) ∙ x.2)) ∙ a.0))) y.5)
      (λ (a : (r.now + i ≡ r.next) × (x.0 ≡ id)). ⊎_elim
      (λ (b : (y.1.place.has_ticket ≡ true) × (y.1.place.ticket ≡ r.now + j)). clash (sym idle ∙ (ap (λ (z : V). z.place.has_ticket) (at_one s.views id v y.1 at (ap (get_elem? s.views) (sym (sym place ∙ a.1)) ∙ y.2)) ∙ b.0)))
      (λ (b : (r.now + j ≡ r.next) × (y.0 ≡ id)). let e : r.now + i ≡ r.now + j = a.0 ∙ sym b.0 in omega arith) y.5) x.5) in
      omega arith

  pub draws : (slots id : ℕ) (me : M) → me.0.place ≡ idle_place → me.0.right.may_draw ≡ true → Allows IsRuled slots id me 0 (λ n. (n + 1) % 2 ^ 64) (HasDrawn me)
  draws slots id me idle d s r _ at _ =
      let word : get_or s.words 0 0 ≡ r.next % 2 ^ 64 = ap (λ (l : List ℕ). get_or l 0 0) r.words in
      let not_drawn : me.0.place.has_ticket ≡ false = ap (λ (p : QueuePlace). p.has_ticket) idle in (
        view_at me.0 (place_waiting r.next),
        keeps,
        tt,
        stays s r id me.0 (place_waiting r.next) at (ap (λ (p : QueuePlace). p.has_object) idle) refl r.now (suc r.next) (set s.words 0 ((get_or s.words 0 0 + 1) % 2 ^ 64))
            (ap (λ (z : ℕ). set s.words 0 ((z + 1) % 2 ^ 64)) word ∙ (ap (set s.words 0) (next_word r.next) ∙ first_word s.words (r.next % 2 ^ 64) (r.now % 2 ^ 64) (length r.history) (suc r.next % 2 ^ 64) r.words))
            (draw r.now r.next (map place_of s.views) r.queue id me.0.place (place_at s.views id me.0 at) not_drawn (few_out s r id me.0 at not_drawn d)) (λ _. d),
        record { ticket = r.next; found_is = sym word; after_is = refl },
      )

  pub looks : (slots id : ℕ) (me : M) (t : ℕ) → me.0.place ≡ place_waiting t → Allows IsRuled slots id me 1 (λ n. n) (HasLookedAtTicket me)
  looks slots id me t is s r _ at _ =
      let word : get_or s.words 1 0 ≡ r.now % 2 ^ 64 = ap (λ (l : List ℕ). get_or l 1 0) r.words in
      let drawn : me.0.place.has_ticket ≡ true = ap (λ (p : QueuePlace). p.has_ticket) is in let ticket : me.0.place.ticket ≡ t = ap (λ (p : QueuePlace). p.ticket) is in
      dite (ℕ_discrete (get_or s.words 1 0) (t % 2 ^ 64))
      (λ here. let now : t ≡ r.now = sym ticket ∙ served r.now r.next (map place_of s.views) r.queue id me.0.place (place_at s.views id me.0 at) drawn (sym word ∙ (here ∙ ap (λ (z : ℕ). z % 2 ^ 64) (sym ticket))) in (
        view_at me.0 (served_place t),
        keeps,
        tt,
        stays s r id me.0 (served_place t) at (ap (λ (p : QueuePlace). p.has_object) is) refl r.now r.next (set s.words 1 (get_or s.words 1 0)) (same_words s r 1)
            (retell r.now r.next (map place_of s.views) r.queue id me.0.place (served_place t) (place_at s.views id me.0 at) drawn refl (sym ticket) (λ _. now) (λ e. clash e)) (λ _. r.entitled id me.0 at drawn),
        record {
          yes = λ t' is' _. let same : t ≡ t' = sym ticket ∙ ap (λ (p : QueuePlace). p.ticket) is' in ap (λ (z : ℕ). (view_at me.0 (served_place z), me.1)) same;
          no = λ t' is' ne. absurd (ne (here ∙ ap (λ (z : ℕ). z % 2 ^ 64) (sym ticket ∙ ap (λ (p : QueuePlace). p.ticket) is')));
        },
      ))
      (λ not. (
        me.0,
        keeps,
        tt,
        same_state s 1 id me.0 at r,
        record { yes = λ t' is' found. absurd (not (found ∙ ap (λ (z : ℕ). z % 2 ^ 64) (sym (sym ticket ∙ ap (λ (p : QueuePlace). p.ticket) is')))); no = λ _ _ _. refl },
      ))

  -- one at most has the object out, so at the turn of a view that hasn't, nobody has
  all_in : (s : St) (r : IsRuled s) (id : ℕ) (v : V) → get_elem? s.views id ≡ some v → v.place.is_turn ≡ true → v.place.has_object ≡ false → AtEach s.views (λ u. u.place.has_object ≡ false)
  all_in s r id v at turn in_ j u e = ⊎_elim
      (λ (out : u.place.has_object ≡ true). let same = one_at_turn r.now r.next (map place_of s.views) r.queue id j v.place u.place (place_at s.views id v at) (place_at s.views j u e) turn (r.queue.has_object j u.place (place_at s.views j u e) out) in
      ap (λ (z : V). z.place.has_object) (sym (at_one s.views id v u at (ap (get_elem? s.views) same ∙ e))) ∙ in_)
      (λ (i : u.place.has_object ≡ false). i) (is_true_or_false u.place.has_object)

  pub takes_out : (slots id : ℕ) (me : M) (t : ℕ) → me.0.place ≡ served_place t → Allows IsRuled slots id me 2 (λ n. n) (λ _ m'. HasTakenObject m me m')
  takes_out slots id me t is s r _ at _ =
      let drawn : me.0.place.has_ticket ≡ true = ap (λ (p : QueuePlace). p.has_ticket) is in let draws : me.0.right.may_draw ≡ true = r.entitled id me.0 at drawn in
      let ticket : me.0.place.ticket ≡ t = ap (λ (p : QueuePlace). p.ticket) is in let turn : me.0.place.is_turn ≡ true = ap (λ (p : QueuePlace). p.is_turn) is in
      let told = r.told id me.0 at (not_spent s r id me.0 at draws) in let y = r.home (all_in s r id me.0 at turn (ap (λ (p : QueuePlace). p.has_object) is)) in
      let w : V = view_at (view_with_seen me.0 (me.0.page.seen ++ told.missed_entries)) (place_holding t) in (
        w,
        takes 0 y.0,
        y.1,
        turns s r id me.0 w at refl refl (λ _. subst (λ (l : List E). IsToldPage m opening r.history me.0.right (record me.0.page { seen = l })) (sym told.whole) (told_reads m opening r.history me.0.right me.0.page told)) (λ _. told.whole)
            r.now r.next (set s.words 2 (get_or s.words 2 0)) (same_words s r 2)
            (retell r.now r.next (map place_of s.views) r.queue id me.0.place (place_holding t) (place_at s.views id me.0 at) drawn refl (sym ticket) (λ _. sym ticket ∙ (r.queue.is_turn id me.0.place (place_at s.views id me.0 at) turn).1) (λ _. refl))
            (λ _. draws) (set s.homes 0 none) (λ all. clash (sym (all id w (at_same s.views id me.0 w at)))) (λ _. told.whole),
        record {
          opening = opening;
          object = y.0;
          missed_entries = told.missed_entries;
          opening_is = told.opening_is;
          fixed = y.2;
          history = y.3 ∙ sym told.whole;
          lawful = subst (m.lawful (m.fixed opening)) (sym told.whole) r.lawful;
          short = subst (λ (l : List E). length l < 2 ^ 63) (sym told.whole) r.short;
          missable = told.missable draws;
          after_is = λ t' is'. let same : t ≡ t' = sym ticket ∙ ap (λ (p : QueuePlace). p.ticket) is' in ap (λ (z : ℕ). (view_at (view_with_seen me.0 (me.0.page.seen ++ told.missed_entries)) (place_holding z), (0, y.0) ∷ me.1)) same;
        },
      )

  pub gives_back : (slots id : ℕ) (me : M) (t : ℕ) (y o : O) → slots ≡ 1 → me.0.place ≡ place_holding t → me.1 ≡ (0, y) ∷ [] → me.0.page.opening ≡ Some o → m.fixed y ≡ m.fixed o → m.history y ≡ me.0.page.seen
      → Allows IsRuled slots id me 2 (λ n. n) (λ _ m'. HasGivenObject me m')
  gives_back slots id me t y o one is hand opened fixed history s r count at _ =
      let drawn : me.0.place.has_ticket ≡ true = ap (λ (p : QueuePlace). p.has_ticket) is in let draws : me.0.right.may_draw ≡ true = r.entitled id me.0 at drawn in
      let ticket : me.0.place.ticket ≡ t = ap (λ (p : QueuePlace). p.ticket) is in let turn : me.0.place.is_turn ≡ true = ap (λ (p : QueuePlace). p.is_turn) is in
      let told = r.told id me.0 at (not_spent s r id me.0 at draws) in let same : o ≡ opening = cc (opened, told.opening_is) in
      let all : me.0.page.seen ≡ r.history = r.informed id me.0 at (ap (λ (p : QueuePlace). p.has_object) is) in (
        view_at me.0 (served_place t),
        gives,
        tt,
        turns s r id me.0 (view_at me.0 (served_place t)) at refl refl (λ live. r.told id me.0 at live) (λ e. e) r.now r.next (set s.words 2 (get_or s.words 2 0)) (same_words s r 2)
            (retell r.now r.next (map place_of s.views) r.queue id me.0.place (served_place t) (place_at s.views id me.0 at) drawn refl (sym ticket) (λ _. sym ticket ∙ (r.queue.is_turn id me.0.place (place_at s.views id me.0 at) turn).1) (λ e. clash e))
            (λ _. draws) (put_back s.homes me.1)
            (λ _. (y, subst (λ (l : List (ℕ × O)). get_elem? (put_back s.homes l) 0 ≡ some (some y)) (sym hand) (set_here s.homes 0 (some y) (omega arith)), fixed ∙ ap m.fixed same, history ∙ all)) (λ e. clash e),
        λ t' is'. let same_ticket : t ≡ t' = sym ticket ∙ ap (λ (p : QueuePlace). p.ticket) is' in ap (λ (z : ℕ). (view_at me.0 (served_place z), rest me.1)) same_ticket,
      )

  pub leaves : (slots id : ℕ) (me : M) (t : ℕ) → me.0.place ≡ served_place t → Allows IsRuled slots id me 1 (λ n. (n + 1) % 2 ^ 64) (λ _ m'. HasLeftTurn me m')
  leaves slots id me t is s r _ at _ =
      let word : get_or s.words 1 0 ≡ r.now % 2 ^ 64 = ap (λ (l : List ℕ). get_or l 1 0) r.words in (
        view_at me.0 idle_place,
        keeps,
        tt,
        stays s r id me.0 idle_place at (ap (λ (p : QueuePlace). p.has_object) is) refl (suc r.now) r.next (set s.words 1 ((get_or s.words 1 0 + 1) % 2 ^ 64))
            (ap (λ (z : ℕ). set s.words 1 ((z + 1) % 2 ^ 64)) word ∙ (ap (set s.words 1) (next_word r.now) ∙ second_word s.words (r.next % 2 ^ 64) (r.now % 2 ^ 64) (length r.history) (suc r.now % 2 ^ 64) r.words))
            (leave r.now r.next (map place_of s.views) r.queue id me.0.place (place_at s.views id me.0 at) (ap (λ (p : QueuePlace). p.is_turn) is)) (λ e. clash e),
        refl,
      )

  pub settles : (slots id : ℕ) (me : M) → ((f : F) (xs ys : List E) → m.lawful f (xs ++ ys) → m.lawful f xs) → me.0.place ≡ idle_place → me.0.right.is_spent ≡ false
      → Allows IsRuled slots id me 2 (λ n. n) (λ _ m'. IsSettled m me m')
  settles slots id me fronts is live s r _ at _ =
      let told = r.told id me.0 at live in let seen : List E = me.0.page.seen in let missed_entries : List E = told.missed_entries in
      let count : length seen ≤ length r.history = omega (arith, ap length told.whole, length-append seen missed_entries) in (
        settled_view me.0,
        keeps,
        tt,
        turns s r id me.0 (settled_view me.0) at refl refl (λ _. told_settles m opening r.history me.0.right me.0.page told) (λ e. e) r.now r.next (set s.words 2 (get_or s.words 2 0)) (same_words s r 2)
            (subst (IsQueue r.now r.next) (sym (set_again (map place_of s.views) id me.0.place (place_at s.views id me.0 at))) r.queue)
            (r.entitled id me.0 at) s.homes (λ all. r.home (each_unset (λ (u : V). u.place.has_object ≡ false) s.views id me.0 (settled_view me.0) at (ap (λ (p : QueuePlace). p.has_object) is) all)) (r.informed id me.0 at),
        record {
          opening = opening;
          opening_is = told.opening_is;
          after_is = refl;
          lawful = fronts (m.fixed opening) seen missed_entries (subst (m.lawful (m.fixed opening)) (sym told.whole) r.lawful);
          short = let short : length r.history < 2 ^ 63 = r.short in omega arith;
          own = λ d. sym (own_missed m.whose m.alone (who_of me.0.right) seen missed_entries (foreign_missed m opening me.0.right missed_entries (told.missable d))) ∙ (ap (entries_of m.whose (who_of me.0.right)) told.whole ∙ told.own d);
          longest = all-weaker (λ old. IsFront old r.history) (λ old. length old ≤ length seen → IsFront old seen)
              me.0.page.older_histories (λ old p le. let t = between old p.0 seen missed_entries (p.1 ∙ sym told.whole) le in (t.0, t.1)) told.older_histories;
        },
      )

  -- the entry of the one who has the object out is one that each other view may miss
  module _ (s : St) (r : IsRuled s) (id : ℕ) (v : V) (at : get_elem? s.views id ≡ some v) (d : v.right.may_draw ≡ true) (e : E) (mine : m.whose e ≡ who_of v.right)
      (alone : m.alone e ≡ true → (v.right.actor ≡ HOST) × (v.right.absent_actors ≡ [])) where
    family_is : (m.whose e).family ≡ v.right.family
    family_is = ap (λ (w : Who). w.family) mine

    actor_is : (m.whose e).actor ≡ v.right.actor
    actor_is = ap (λ (w : Who). w.actor) mine

    -- another that may draw is of another family, or another actor
    apart : (j : ℕ) (u : V) → j ≢ id → get_elem? s.views j ≡ some u → u.right.may_draw ≡ true → v.right.family ≡ u.right.family → v.right.actor ≢ u.right.actor
    apart j u ne at' du same is = ne (sym (r.fair.apart id j v.right u.right (right_at s.views id v at) (right_at s.views j u at') d du same is))

    not_alone : (j : ℕ) (u : V) → j ≢ id → get_elem? s.views j ≡ some u → u.right.may_draw ≡ true → v.right.family ≡ u.right.family → m.alone e ≡ false
    not_alone j u ne at' du same = ⊎_elim
        (λ (t : m.alone e ≡ true). let a = alone t in let there : Contains [] u.right.actor = subst (λ (xs : List ℕ). Contains xs u.right.actor) a.1
        (its_head families (map right_of s.views) r.fair id j v.right u.right (right_at s.views id v at) d a.0 (right_at s.views j u at') du (sym same) (λ h. apart j u ne at' du same (a.0 ∙ sym h))) in absurd (in_none u.right.actor there))
        (λ (t : m.alone e ≡ false). t) (is_true_or_false (m.alone e))

    missable_by : (j : ℕ) (u : V) → j ≢ id → get_elem? s.views j ≡ some u → u.right.may_draw ≡ true → IsMissable m u.right e
    missable_by j u ne at' du = (
      dite (ℕ_discrete v.right.family u.right.family)
          (λ same. inr ((λ is. apart j u ne at' du same (sym actor_is ∙ is)), not_alone j u ne at' du same))
          (λ other. inl (λ is. other (sym family_is ∙ is))),
      λ host is. subst (λ (z : ℕ). Contains u.right.absent_actors z) (sym actor_is)
          (its_head families (map right_of s.views) r.fair j id u.right v.right (right_at s.views j u at') du host (right_at s.views id v at) d (sym family_is ∙ is)
          (λ h. apart j u ne at' du (sym family_is ∙ is) (h ∙ sym host))),
    )

    apart_from_gone : (j : ℕ) (u : V) → get_elem? s.views j ≡ some u → AllByRecursion (λ l. (m.whose e).family ≢ l.family) u.page.joined_heads
    apart_from_gone j u at' = all-weaker (λ l. IsGone (map right_of s.views) l.family) (λ l. (m.whose e).family ≢ l.family)
        u.page.joined_heads (λ l g is. (g id v.right (right_at s.views id v at)).0 d (sym family_is ∙ is)) (r.gone j u at')

  pub commits : (slots id : ℕ) (me : M) (t : ℕ) (y o : O) (e : E) → me.0.place ≡ place_holding t → me.1 ≡ (0, y) ∷ [] → me.0.page.opening ≡ Some o → m.history y ≡ me.0.page.seen ++ e ∷ []
      → m.lawful (m.fixed o) (me.0.page.seen ++ e ∷ []) → length (me.0.page.seen ++ e ∷ []) < 2 ^ 63 → m.whose e ≡ who_of me.0.right
      → (m.alone e ≡ true → (me.0.right.actor ≡ HOST) × (me.0.right.absent_actors ≡ [])) → Allows IsRuled slots id me 2 (λ n. (n + 1) % 2 ^ 64) (λ _ m'. HasCommitted m me m')
  commits slots id me t y o e is hand opened history lawful short mine alone s r _ at _ =
      let drawn : me.0.place.has_ticket ≡ true = ap (λ (p : QueuePlace). p.has_ticket) is in let d : me.0.right.may_draw ≡ true = r.entitled id me.0 at drawn in
      let told = r.told id me.0 at (not_spent s r id me.0 at d) in let same : o ≡ opening = cc (opened, told.opening_is) in
      let all : me.0.page.seen ≡ r.history = r.informed id me.0 at (ap (λ (p : QueuePlace). p.has_object) is) in
      let h' : List E = r.history ++ e ∷ [] in let longer_is : me.0.page.seen ++ e ∷ [] ≡ h' = ap (λ (l : List E). l ++ e ∷ []) all in
      let w : V = view_after_entry me.0 e in let turn : me.0.place.is_turn ≡ true = ap (λ (p : QueuePlace). p.is_turn) is in
      let few : length r.history + 1 < 2 ^ 63 = omega (arith, length_push r.history e, ap length longer_is) in
      let count : (length r.history + 1) % 2 ^ 64 ≡ length h' = mod-eq_of_lt (omega arith) ∙ sym (length_push r.history e) in
      let word : get_or s.words 2 0 ≡ length r.history = ap (λ (l : List ℕ). get_or l 2 0) r.words in
      let rights : map right_of (set s.views id w) ≡ map right_of s.views = map_kept right_of s.views id me.0 w at refl in
      let places : map place_of (set s.views id w) ≡ map place_of s.views = map_kept place_of s.views id me.0 w at refl in (
        w,
        keeps,
        tt,
        record {
          now = r.now;
          next = r.next;
          history = h';
          words = ap (λ (z : ℕ). set s.words 2 ((z + 1) % 2 ^ 64)) word ∙ (ap (set s.words 2) count ∙ third_word s.words (r.next % 2 ^ 64) (r.now % 2 ^ 64) (length r.history) (length h') r.words);
          lawful = subst (m.lawful (m.fixed opening)) longer_is (subst (λ (z : O). m.lawful (m.fixed z) (me.0.page.seen ++ e ∷ [])) same lawful);
          short = subst (λ (l : List E). length l < 2 ^ 63) longer_is short;
          queue = subst (IsQueue r.now r.next) (sym places) r.queue;
          fair = subst (IsFair families) (sym rights) r.fair;
          entitled = each_kept (λ (u : V). u.place.has_ticket ≡ true → u.right.may_draw ≡ true) s.views id w (λ _. d) r.entitled;
          home = λ in_. clash (sym (in_ id w (at_same s.views id me.0 w at)) ∙ ap (λ (p : QueuePlace). p.has_object) is);
          informed = each_set (λ (u : V). u.place.has_object ≡ true → u.page.seen ≡ h') s.views id w (λ _. longer_is)
              (λ j u ne at' out. absurd (ne (one_at_turn r.now r.next (map place_of s.views) r.queue j id u.place me.0.place (place_at s.views j u at') (place_at s.views id me.0 at)
              (r.queue.has_object j u.place (place_at s.views j u at') out) turn)));
          told = each_set (λ (u : V). u.right.is_spent ≡ false → IsToldPage m opening h' u.right u.page) s.views id w
              (λ _. told_wrote m opening r.history me.0.right me.0.page e told all mine (apart_from_gone s r id me.0 at d e mine alone id me.0 at))
              (λ j u ne at' live. told_grows m opening r.history u.right u.page e (r.told j u at' live) (λ du. missable_by s r id me.0 at d e mine alone j u ne at' du) (apart_from_gone s r id me.0 at d e mine alone j u at'));
          gone = subst (λ (rs : List Right). AtEach (set s.views id w) (λ u. AllByRecursion (λ l. IsGone rs l.family) u.page.joined_heads)) (sym rights)
              (each_kept (λ (u : V). AllByRecursion (λ l. IsGone (map right_of s.views) l.family) u.page.joined_heads) s.views id w (r.gone id me.0 at) r.gone);
          made = each_kept (λ (u : V). 0 < u.right.heads → AllByRecursion (λ x. (m.whose x).family < u.right.heads) h') s.views id w (maker_knows s r id me.0 at d e mine id me.0 at) (λ j u at'. maker_knows s r id me.0 at d e mine j u at');
          longest = (id, w, at_same s.views id me.0 w at, not_spent s r id me.0 at d, longer_is);
        },
        λ y' e' hand' history'. let same_y : y ≡ y' = ap (object_or y) (sym hand ∙ hand') in let lists : me.0.page.seen ++ e ∷ [] ≡ me.0.page.seen ++ e' ∷ [] = sym history ∙ (ap m.history same_y ∙ history') in
            let tails : e ∷ [] ≡ e' ∷ [] = append_cancel_left me.0.page.seen (e ∷ []) (e' ∷ []) lists in let same_e : e ≡ e' = cc tails in ap (λ (z : E). (view_after_entry me.0 z, me.1)) same_e,
      )
    where
      maker_knows : (s : St) (r : IsRuled s) (id : ℕ) (v : V) → get_elem? s.views id ≡ some v → v.right.may_draw ≡ true → (e : E) → m.whose e ≡ who_of v.right → (j : ℕ) (u : V) → get_elem? s.views j ≡ some u
          → 0 < u.right.heads → AllByRecursion (λ x. (m.whose x).family < u.right.heads) (r.history ++ e ∷ [])
      maker_knows s r id v at d e mine j u at' some_heads = all-append (λ x. (m.whose x).family < u.right.heads) r.history (e ∷ []) (r.made j u at' some_heads)
          (subst (λ (z : ℕ). z < u.right.heads) (sym (ap (λ (w : Who). w.family) mine)) (r.fair.made j id u.right v.right (right_at s.views j u at') (right_at s.views id v at) some_heads d), tt)
