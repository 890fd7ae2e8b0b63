-- Books and seats as their callers see them.
use Rattle.std.specs.Prelude.{◌≡◌, ◌≢◌, ℕ, ◌<◌, Bool, true, false, List, [], ◌∷◌, ◌++◌, length, Option, Some, Result, MatchResult}
use Rattle.std.specs.List.{AllByRecursion}
use Rattle.atomic_table.specs.Table.{Me}
use Rattle.atomic_table.specs.Seated.{TableId}
use Rattle.atomic_table.specs.declared.shared.Seat.{Seat}
use Rattle.ce_model.specs.declared.topology.TheConstants.{HOST}
use Rattle.ce_model.specs.Lists.{IsFront}
use Rattle.ce_lock.specs.declared.limits.TheConstants.{HISTORY_LIMIT}
use Rattle.ce_lock.specs.declared.who.Who.{Who}
use Rattle.ce_lock.specs.declared.view.View.{View}
use Rattle.ce_lock.specs.Entries.{entries_of}
use Rattle.ce_lock.specs.Meanings.{Meanings}
use Rattle.ce_lock.specs.OneOrder.{who_of, IsMissable}
use Rattle.ce_lock.specs.Telling.{idle_place, view_with_seen, view_after_entry}

-- a book: which table it is, the object that it was made of, and how many families it has
pub record BookFacts (O : Type 0) : Type 0 where
  pub table : TableId
  pub opening : O
  pub families : ℕ

-- a seat: of which table, and what it knows
abbrev pub SeatFacts : Type 0 → Type 0 → Type 0
SeatFacts O E = TableId × View O E

-- the table has three words and one slot
abbrev pub IsSized : TableId → Type 0
IsSized z = (z.words ≡ 3) × (z.slots ≡ 1)

module _ {O E : Type 0} where
  -- whom the seat acts for
  abbrev pub who : SeatFacts O E → Who
  who s = who_of s.1.right

  -- the front part of the history that it has seen
  abbrev pub seen_history : SeatFacts O E → List E
  seen_history s = s.1.page.seen

  -- the entries of its actor from before it was made
  abbrev pub earlier : SeatFacts O E → List E
  earlier s = s.1.page.earlier

  -- its own entries since then
  abbrev pub mine : SeatFacts O E → List E
  mine s = s.1.page.mine

  -- of a head: the actors of its family whose seats are out
  abbrev pub out : SeatFacts O E → List ℕ
  out s = s.1.right.absent_actors

  -- which book the seat is of
  abbrev pub name_of : SeatFacts O E → TableId × Option O
  name_of s = (s.0, s.1.page.opening)

  -- the seat is one of this book
  abbrev pub IsSeatOf : BookFacts O → SeatFacts O E → Type 0
  IsSeatOf book s = name_of s ≡ (book.table, Some book.opening)

  -- the head of family `number` of a fresh book
  pub record IsNewHead (book : BookFacts O) (number : ℕ) (s : SeatFacts O E) : Type 0 where
    pub of_book : IsSeatOf book s
    pub actor : who s ≡ record { family = number; actor = HOST }
    pub nothing_seen : seen_history s ≡ []
    pub nothing_earlier : earlier s ≡ []
    pub nothing_made : mine s ≡ []
    pub nobody_out : out s ≡ []

  -- the seat is still of its book and its actor, and was made when it was
  pub record IsSameSeat (s next_s : SeatFacts O E) : Type 0 where
    pub name : name_of next_s ≡ name_of s
    pub actor : who next_s ≡ who s
    pub since : earlier next_s ≡ earlier s

  -- two raw seats of one table without tickets, the second with nothing in hand: what each join
  -- asks of both
  pub record AreIdle (a b : Seat O (View O E)) : Type 0 where
    pub same_table : b.table_id ≡ a.table_id
    pub places : (a.me.0.place ≡ idle_place) × (b.me.0.place ≡ idle_place)
    pub hand : b.me.1 ≡ []

module _ {O E F : Type 0} (m : Meanings O E F) where
  -- What a seat has seen is a lawful history of fewer than `HISTORY_LIMIT` entries. Its actor's
  -- entries in it are the earlier ones and its own, each once, in its order.
  pub record IsKnown (opening : O) (s : SeatFacts O E) : Type 0 where
    pub lawful : m.lawful (m.fixed opening) (seen_history s)
    pub short : length (seen_history s) < HISTORY_LIMIT
    pub own : entries_of m.whose (who s) (seen_history s) ≡ earlier s ++ mine s

  -- The list begins with what the seat has seen, and goes on by entries that the seat need not have
  -- seen.
  pub record IsSeatBehind (s : SeatFacts O E) (whole_history : List E) : Type 0 where
    pub missed_entries : List E
    pub whole : seen_history s ++ missed_entries ≡ whole_history
    pub missable : AllByRecursion (IsMissable m s.1.right) missed_entries

  -- so what the seat has seen is a front part of the list
  pub IsSeatBehind-front : (s : SeatFacts O E) (whole_history : List E)
      → IsSeatBehind s whole_history → IsFront (seen_history s) whole_history
  IsSeatBehind-front s whole_history behind = (behind.missed_entries, behind.whole)

  -- A head of the book that has nobody out.
  pub record IsHeadIn (book : BookFacts O) (s : SeatFacts O E) : Type 0 where
    pub of_book : IsSeatOf book s
    pub host : (who s).actor ≡ HOST
    pub nobody_out : out s ≡ []

  -- The history begins with what the seat has seen. Its actor's entries there are the seat's own,
  -- and all entries of its family there are among those seen.
  pub record IsWholeSeat (history : List E) (s : SeatFacts O E) : Type 0 where
    pub missed_entries : List E
    pub whole : seen_history s ++ missed_entries ≡ history
    pub own : entries_of m.whose (who s) history ≡ mine s
    pub others : AllByRecursion (λ e. (m.whose e).family ≢ (who s).family) missed_entries

  -- What holds of a seat that no call is using.
  pub record IsSoundSeat (actor : Who) (me : Me O (View O E)) : Type 0 where
    pub opening : O
    pub opening_is : me.0.page.opening ≡ Some opening
    pub place : me.0.place ≡ idle_place
    pub hand : me.1 ≡ []
    pub who_is : who_of me.0.right ≡ actor
    pub live : me.0.right.is_spent ≡ false
    pub may_draw : me.0.right.may_draw ≡ true
    pub older_histories : me.0.page.older_histories ≡ []
    pub joined_heads : me.0.page.joined_heads ≡ []
    pub lawful : m.lawful (m.fixed opening) me.0.page.seen
    pub short : length me.0.page.seen < HISTORY_LIMIT
    pub own : entries_of m.whose (who_of me.0.right) me.0.page.seen ≡ me.0.page.earlier
        ++ me.0.page.mine
    pub fresh : me.0.right.actor ≡ HOST → me.0.page.earlier ≡ []

  -- What a turn asks of the seat that makes it: it acts for this actor, knows the opening object
  -- and has nothing in hand; the call fits what it has seen, and is not alone, or the seat is a
  -- head's with nobody out.
  pub record IsReadySeat {C : Type 0} (fits : F → List E → Who → C → Type 0) (alone : C → Bool)
      (actor : Who) (call : C) (me : Me O (View O E)) : Type 0 where
    pub opening : O
    pub opening_is : me.0.page.opening ≡ Some opening
    pub hand : me.1 ≡ []
    pub who_is : who_of me.0.right ≡ actor
    pub fitting : fits (m.fixed opening) me.0.page.seen actor call
    pub nobody_out : alone call ≡ true → (me.0.right.actor ≡ HOST) × (me.0.right.absent_actors ≡ [])

  module _ {C R X : Type 0} (stands : F → List E → E → Who → C → R → Type 0) where
    -- what one answer makes of the object
    pub record IsAnswer (y z : O) (actor : Who) (call : C)
        (result : Result R (C × X)) : Type 0 where
      pub fixed : m.fixed z ≡ m.fixed y
      pub answered : MatchResult result
          (λ reply. (entry : E) × (m.history z ≡ m.history y ++ entry ∷ [])
          × stands (m.fixed y) (m.history y) entry actor call reply
          × (m.lawful (m.fixed y) (m.history y) → m.lawful (m.fixed y) (m.history z))
          × (length (m.history z) < HISTORY_LIMIT))
          (λ refusal. (z ≡ y) × (refusal.0 ≡ call))

    -- What a turn makes of the seat: it has nothing in hand, and its view has seen all before its
    -- entry, and made that, or none.
    pub record IsSeatTurn (me next_me : Me O (View O E)) (call : C)
        (result : Result R (C × X)) : Type 0 where
      pub hand : next_me.1 ≡ []
      pub opening : O
      pub missed_entries : List E
      pub opening_is : me.0.page.opening ≡ Some opening
      pub missable : AllByRecursion (IsMissable m me.0.right) missed_entries
      pub lawful : m.lawful (m.fixed opening) next_me.0.page.seen
      pub short : length next_me.0.page.seen < HISTORY_LIMIT
      pub answered : MatchResult result
          (λ reply. (entry : E)
          × (next_me.0
          ≡ view_after_entry (view_with_seen me.0 (me.0.page.seen ++ missed_entries)) entry)
          × (m.whose entry ≡ who_of me.0.right)
          × stands (m.fixed opening) (me.0.page.seen ++ missed_entries) entry
          (who_of me.0.right) call reply)
          (λ refusal. (next_me.0 ≡ view_with_seen me.0 (me.0.page.seen ++ missed_entries))
          × (refusal.0 ≡ call))
