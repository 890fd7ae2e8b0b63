-- The rule of a book: the six points that hold between any two accesses.
use Rattle.std.specs.Prelude.{◌≡◌, ◌≢◌, ℕ, ◌+◌, ◌%◌, ◌^◌, ◌<◌, ◌≤◌, true, false, List, [], ◌∷◌, ◌++◌, map, length, Some}
use Rattle.std.specs.List.{AllByRecursion, Contains}
use mathlib.Core.Option.{some}
use lib.ListN.{get_elem?}
use Rattle.atomic_table.specs.Table.{State}
use Rattle.ce_model.specs.declared.topology.TheConstants.{HOST}
use Rattle.ce_model.specs.Lists.{IsFront}
use Rattle.ce_lock.specs.declared.limits.TheConstants.{HISTORY_LIMIT}
use Rattle.ce_lock.specs.declared.who.Who.{Who}
use Rattle.ce_lock.specs.declared.view.QueuePlace.{QueuePlace}
use Rattle.ce_lock.specs.declared.view.Right.{Right}
use Rattle.ce_lock.specs.declared.view.JoinedHead.{JoinedHead}
use Rattle.ce_lock.specs.declared.view.Page.{Page}
use Rattle.ce_lock.specs.declared.view.View.{View}
use Rattle.ce_lock.specs.Entries.{AtEach, entries_of, IsForeignEntry}
use Rattle.ce_lock.specs.Meanings.{Meanings}

-- Tickets. The first point: each ticket from `now` up to `next` is in exactly one view, and no view
-- has another; fewer than 2^64 are out, so the words, which are the remainders of the two, double
-- none.
-- The second point: a view that tells that it is its turn has the ticket that is served, so there
-- is one at most. And, of the third point: only such a view tells that the object is out.
pub record IsQueue (now next : ℕ) (places : List QueuePlace) : Type 0 where
  pub up : now ≤ next
  pub few : next < now + 2 ^ 64
  pub each : (t : ℕ) → now ≤ t → t < next
      → (i : ℕ) × (p : QueuePlace) × (get_elem? places i ≡ some p) × (p.has_ticket ≡ true)
      × (p.ticket ≡ t)
  pub once : (i j : ℕ) (p q : QueuePlace) → get_elem? places i ≡ some p → get_elem? places j
      ≡ some q
      → p.has_ticket ≡ true → q.has_ticket ≡ true → p.ticket ≡ q.ticket → i ≡ j
  pub has_ticket : AtEach places (λ p. p.has_ticket ≡ true → (now ≤ p.ticket) × (p.ticket < next))
  pub is_turn : AtEach places (λ p. p.is_turn ≡ true → (p.has_ticket ≡ true) × (p.ticket ≡ now))
  pub has_object : AtEach places (λ p. p.has_object ≡ true → p.is_turn ≡ true)

-- the head of the family of r has a view, and has the actor of r out
pub record IsHeaded (rights : List Right) (r : Right) : Type 0 where
  pub at : ℕ
  pub head : Right
  pub there : get_elem? rights at ≡ some head
  pub may_draw : head.may_draw ≡ true
  pub host : head.actor ≡ HOST
  pub family : head.family ≡ r.family
  pub absent_actors : r.actor ≢ HOST → Contains head.absent_actors r.actor

-- a view of this actor may draw
pub record IsSeated (rights : List Right) (family actor : ℕ) : Type 0 where
  pub at : ℕ
  pub right : Right
  pub there : get_elem? rights at ≡ some right
  pub may_draw : right.may_draw ≡ true
  pub family_is : right.family ≡ family
  pub actor_is : right.actor ≡ actor

-- Who may draw: the first half of the sixth point. Views that may draw have distinct pairs of
-- family and actor, both in range. A family of which a view may draw has a head's view, and one
-- only. The others of the family that may draw are those of the actors that the head has out, one
-- for each. The heads are made in order of family: each makes the next, and only the last one may.
pub record IsFair (families : ℕ) (rights : List Right) : Type 0 where
  pub few : families < 2 ^ 32
  pub plain : AtEach rights
      (λ r. r.may_draw ≡ true → (r.is_spent ≡ false) × (r.family < families) × (r.actor < 2 ^ 32))
  pub apart : (i j : ℕ) (p q : Right) → get_elem? rights i ≡ some p → get_elem? rights j ≡ some q
      → p.may_draw ≡ true → q.may_draw ≡ true → p.family ≡ q.family → p.actor ≡ q.actor → i ≡ j
  pub headed : AtEach rights (λ r. r.may_draw ≡ true → IsHeaded rights r)
  pub seated : AtEach rights (λ r. r.may_draw ≡ true → r.actor ≡ HOST
      → (a : ℕ) → Contains r.absent_actors a → (a ≢ HOST) × IsSeated rights r.family a)
  pub maker : (i j : ℕ) (p q : Right) → get_elem? rights i ≡ some p → get_elem? rights j ≡ some q
      → 0 < p.heads → 0 < q.heads → i ≡ j
  pub made : (i j : ℕ) (p q : Right) → get_elem? rights i ≡ some p → get_elem? rights j ≡ some q
      → 0 < p.heads → q.may_draw ≡ true → q.family < p.heads

-- no view of the family may draw, and none will: its head was made, and joined away
abbrev pub IsGone : List Right → ℕ → Type 0
IsGone rights family =
    AtEach rights (λ r. (r.may_draw ≡ true → r.family ≢ family) × (0 < r.heads → family < r.heads))

-- whom a view acts for
abbrev pub who_of : Right → Who
who_of r = record { family = r.family; actor = r.actor }

module _ {O E F : Type 0} (m : Meanings O E F) where
  -- An entry that a view need not have seen: it is foreign to it, and the view of a head has the
  -- entry's actor out, if that is of its family.
  abbrev pub IsMissable : Right → E → Type 0
  IsMissable r e = IsForeignEntry m.whose m.alone (who_of r) e
      × (r.actor ≡ HOST → (m.whose e).family ≡ r.family
      → Contains r.absent_actors (m.whose e).actor)

  -- Of a head that was joined away: its entries are the kept ones, and all entries of its family
  -- are in what it had seen.
  pub record IsJoinedHead (history : List E) (l : JoinedHead E) : Type 0 where
    pub missed_entries : List E
    pub whole : l.seen ++ missed_entries ≡ history
    pub own : entries_of m.whose (record { family = l.family; actor = HOST }) history ≡ l.mine
    pub others : AllByRecursion (λ e. (m.whose e).family ≢ l.family) missed_entries

  -- What a view tells. The fifth point: what it has seen, and each old list that it keeps, is a
  -- prefix of the history; its own entries are those there of its actor since its seat was made;
  -- and the same of each head that was joined into it. The second half of the sixth point: a view
  -- that may draw has seen each entry of its actor, each alone one of its family, and, if it is a
  -- head's, each one of an actor of its family that is not out.
  pub record IsToldPage (opening : O) (history : List E) (r : Right) (p : Page O E) : Type 0 where
    pub opening_is : p.opening ≡ Some opening
    pub missed_entries : List E
    pub whole : p.seen ++ missed_entries ≡ history
    pub missable : r.may_draw ≡ true → AllByRecursion (IsMissable r) missed_entries
    pub own : r.may_draw ≡ true → entries_of m.whose (who_of r) history ≡ p.earlier ++ p.mine
    pub older_histories : AllByRecursion (λ old. IsFront old history) p.older_histories
    pub joined_heads : AllByRecursion (IsJoinedHead history) p.joined_heads

  -- The rule. There is one history, lawful at every moment, and its length is the third word.
  -- The third point: the slot holds the object unless a view tells that it is out; it has the fixed
  -- data of the opening object, and just this history.
  -- The fourth point: a view that tells that the object is out has seen the whole history.
  -- Spent views tell nothing, and some view that isn't spent has seen all of the history.
  pub record IsBookInOrder (opening : O) (families : ℕ) (s : State O (View O E)) : Type 0 where
    pub now : ℕ
    pub next : ℕ
    pub history : List E
    pub words : s.words ≡ next % 2 ^ 64 ∷ now % 2 ^ 64 ∷ length history ∷ []
    pub lawful : m.lawful (m.fixed opening) history
    pub short : length history < HISTORY_LIMIT
    pub queue : IsQueue now next (map (λ v. v.place) s.views)
    pub fair : IsFair families (map (λ v. v.right) s.views)
    pub entitled : AtEach s.views (λ v. v.place.has_ticket ≡ true → v.right.may_draw ≡ true)
    pub home : AtEach s.views (λ v. v.place.has_object ≡ false)
        → (y : O) × (get_elem? s.homes 0 ≡ some (some y)) × (m.fixed y ≡ m.fixed opening)
        × (m.history y ≡ history)
    pub informed : AtEach s.views (λ v. v.place.has_object ≡ true → v.page.seen ≡ history)
    pub told : AtEach s.views
        (λ v. v.right.is_spent ≡ false → IsToldPage opening history v.right v.page)
    pub gone : AtEach s.views
        (λ v. AllByRecursion
        (λ l. IsGone (map (λ w. w.right) s.views) l.family) v.page.joined_heads)
    pub made : AtEach s.views
        (λ v. 0 < v.right.heads → AllByRecursion (λ e. (m.whose e).family < v.right.heads) history)
    pub longest : (i : ℕ) × (v : View O E) × (get_elem? s.views i ≡ some v)
        × (v.right.is_spent ≡ false)
        × (v.page.seen ≡ history)
