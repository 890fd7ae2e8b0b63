-- The first seats of a book, and what its last ones leave.
use Rattle.std.proofs.Common.{◌≡◌, ℕ, ◌+◌, ◌<◌, List, [], ◌∷◌, ◌++◌, map, length, get_or, refl, sym, ap, ◌∙◌, subst, ⊎_elim, lit<, Some, Option, arith, append_assoc}
use Rattle.std.proofs.lemmas.List.{get_or_push, get_or_append_left}
use Rattle.std.specs.List.{AllByRecursion, Contains}
use mathlib.Core.Logic.{dite}
use native.Mathlib.Decide.{ℕ_discrete}
use Rattle.atomic_table.specs.Seated.{TableId}
use Rattle.atomic_table.specs.Table.{Me}
use Rattle.ce_model.specs.declared.topology.TheConstants.{HOST}
use Rattle.ce_model.proofs.Members.{all-back}
use Rattle.ce_lock.specs.declared.view.JoinedHead.{JoinedHead}
use Rattle.ce_lock.specs.declared.view.View.{View}
use Rattle.ce_lock.specs.Entries.{entries_of}
use Rattle.ce_lock.specs.Meanings.{Meanings}
use Rattle.ce_lock.specs.OneOrder.{IsJoinedHead}
use Rattle.ce_lock.specs.Telling.{fresh_head, joined_head_of}
use Rattle.ce_lock.specs.Sitting.{BookFacts, SeatFacts, IsSeatOf, IsNewHead, IsHeadIn, IsWholeSeat, IsSoundSeat, who}
use Rattle.ce_lock.proofs.Members.{in_first, in_later, in_cases}

module _ {O E F : Type 0} (m : Meanings O E F) where
  -- a new head is sound
  pub sound_head : ((f : F) → m.lawful f []) → (n : ℕ) (o : O) (heads : ℕ) (me : Me O (View O E)) → me ≡ (fresh_head o n heads, []) → IsSoundSeat m (record { family = n; actor = HOST }) me
  sound_head empty n o heads me is = subst (IsSoundSeat m (record { family = n; actor = HOST })) (sym is) record {
    opening = o;
    opening_is = refl;
    place = refl;
    hand = refl;
    who_is = refl;
    live = refl;
    may_draw = refl;
    older_histories = refl;
    joined_heads = refl;
    lawful = empty (m.fixed o);
    short = lit< tt;
    own = refl;
    fresh = λ _. refl;
  }

  -- the heads that were joined away, as their seats
  pub wholes : (book : BookFacts O) (h : List E) (ss : List (SeatFacts O E)) → AllByRecursion (IsHeadIn m book) ss → AllByRecursion (IsJoinedHead m h) (map (λ (s : SeatFacts O E). joined_head_of s.1) ss) → AllByRecursion (IsWholeSeat m h) ss
  wholes book h [] heads lasts = tt
  wholes book h (s ∷ ss) heads lasts = (
    record {
      missed_entries = lasts.0.missed_entries;
      whole = lasts.0.whole;
      own = ap (λ (a : ℕ). entries_of m.whose (record { family = s.1.right.family; actor = a }) h) heads.0.host ∙ lasts.0.own;
      others = lasts.0.others;
    },
    wholes book h ss heads.1 lasts.1,
  )

-- the families of the heads that were joined away
pub covers : {O E : Type 0} (f : ℕ) (ss : List (SeatFacts O E)) → Contains (map (λ (s : SeatFacts O E). (who s).family) ss) f → Contains (map (λ (l : JoinedHead E). l.family) (map (λ (s : SeatFacts O E). joined_head_of s.1) ss)) f
covers f [] h = h
covers f (s ∷ ss) h = let rest = map (λ (l : JoinedHead _). l.family) (map (λ (x : SeatFacts _ _). joined_head_of x.1) ss) in
    ⊎_elim (λ (t : f ≡ (who s).family). in_first f (who s).family rest t) (λ (t : Contains (map (λ (x : SeatFacts _ _). (who x).family) ss) f). in_later f (who s).family rest (covers f ss t))
    (in_cases f (who s).family (map (λ (x : SeatFacts _ _). (who x).family) ss) h)

module _ {O E : Type 0} (book : BookFacts O) where
  -- the seat of a new head is that of its family
  pub new_head : (n heads : ℕ) (z : TableId) (v : View O E) → z ≡ book.table → v ≡ fresh_head book.opening n heads → IsNewHead book n (z, v)
  new_head n heads z v table is = subst (λ (x : View O E). IsNewHead book n (z, x)) (sym is) record {
    of_book = λ k. (table k, Some book.opening);
    actor = refl;
    nothing_seen = refl;
    nothing_earlier = refl;
    nothing_made = refl;
    nobody_out = refl;
  }

  -- one more head is added
  pub heads_grow : (items : List (SeatFacts O E)) (n : ℕ) (s : SeatFacts O E) → length items ≡ n → ((k : ℕ) (d : SeatFacts O E) → k < n → IsNewHead book k (get_or items k d)) → IsNewHead book n s
      → (k : ℕ) (d : SeatFacts O E) → k < n + 1 → IsNewHead book k (get_or (items ++ s ∷ []) k d)
  heads_grow items n s count all mine k d low = dite (ℕ_discrete k n)
      (λ is. subst (λ (x : ℕ × SeatFacts O E). IsNewHead book x.0 x.1) (λ j. (sym is j, sym (ap (λ (i : ℕ). get_or (items ++ s ∷ []) i d) is ∙ get_or_push items s d n count) j)) mine)
      (λ ne. let below : k < length items = omega arith in subst (λ (x : SeatFacts O E). IsNewHead book k x) (sym (get_or_append_left items (s ∷ []) d k below)) (all k d (omega arith)))

module _ {O E F : Type 0} (m : Meanings O E F) (book : BookFacts O) where
  -- what holds of all heads holds of one among them
  pub one_of : (front : List (SeatFacts O E)) (s : SeatFacts O E) (closed all : List (SeatFacts O E)) → front ++ s ∷ closed ≡ all → AllByRecursion (IsHeadIn m book) all → IsHeadIn m book s
  one_of front s closed all is heads = (all-back (IsHeadIn m book) front (s ∷ closed) (subst (AllByRecursion (IsHeadIn m book)) (sym is) heads)).0

module _ {O E : Type 0} where
  -- a seat of a book is of its table
  pub table_of : (book : BookFacts O) (s : SeatFacts O E) → IsSeatOf book s → s.0 ≡ book.table
  table_of book s is = ap (λ (x : TableId × Option O). x.0) is

  -- heads are taken from the end of a list
  pub next_closed : (front : List (SeatFacts O E)) (s : SeatFacts O E) (closed all items : List (SeatFacts O E)) → items ++ closed ≡ all → items ≡ front ++ s ∷ [] → front ++ s ∷ closed ≡ all
  next_closed front s closed all items whole is = sym (append_assoc front (s ∷ []) closed) ∙ (ap (λ (l : List (SeatFacts O E)). l ++ closed) (sym is) ∙ whole)
