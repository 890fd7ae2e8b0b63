-- What each kind of access tells the seat that makes it, and how a view is cut in two and two are
-- joined.
use Rattle.std.specs.Prelude.{◌≡◌, ◌≢◌, ℕ, ◌+◌, ◌%◌, ◌^◌, ◌<◌, ◌≤◌, true, false, List, [], ◌∷◌, ◌++◌, length, Option, Some, None}
use Rattle.std.specs.List.{AllByRecursion}
use Rattle.atomic_table.specs.Table.{Me, rest}
use Rattle.ce_model.specs.declared.topology.TheConstants.{HOST}
use Rattle.ce_model.specs.Lists.{IsFront}
use Rattle.ce_lock.specs.declared.view.QueuePlace.{QueuePlace}
use Rattle.ce_lock.specs.declared.view.Right.{Right}
use Rattle.ce_lock.specs.declared.view.JoinedHead.{JoinedHead}
use Rattle.ce_lock.specs.declared.view.Page.{Page}
use Rattle.ce_lock.specs.declared.view.View.{View}
use Rattle.ce_lock.specs.declared.limits.TheConstants.{HISTORY_LIMIT}
use Rattle.ce_lock.specs.declared.who.Who.{Who}
use Rattle.ce_lock.specs.Entries.{longer_list, ids_without, entries_of}
use Rattle.ce_lock.specs.Meanings.{Meanings}
use Rattle.ce_lock.specs.OneOrder.{who_of, IsMissable, IsJoinedHead}

-- the places: with no ticket, waiting, at its turn, and with the object out
abbrev pub idle_place : QueuePlace
idle_place = record { has_ticket = false; is_turn = false; has_object = false; ticket = 0 }

abbrev pub place_waiting : ℕ → QueuePlace
place_waiting t = record { has_ticket = true; is_turn = false; has_object = false; ticket = t }

abbrev pub served_place : ℕ → QueuePlace
served_place t = record { has_ticket = true; is_turn = true; has_object = false; ticket = t }

abbrev pub place_holding : ℕ → QueuePlace
place_holding t = record { has_ticket = true; is_turn = true; has_object = true; ticket = t }

-- the right of who acts for nobody
abbrev pub no_actor : Right
no_actor = record {
  is_spent = false;
  may_draw = false;
  family = 0;
  actor = 0;
  heads = 0;
  absent_actors = [];
}

-- the right of a seat that was joined into another
abbrev pub spent_right : Right
spent_right = record no_actor { is_spent = true }

-- the right of who may draw, with no actor out
abbrev pub drawing_right : ℕ → ℕ → ℕ → Right
drawing_right family actor heads = record {
  is_spent = false;
  may_draw = true;
  family = family;
  actor = actor;
  heads = heads;
  absent_actors = [];
}

module _ {O E : Type 0} where
  -- the page of who has seen nothing yet
  abbrev pub blank_page : Option O → Page O E
  blank_page opening = record {
    opening = opening;
    seen = [];
    earlier = [];
    mine = [];
    older_histories = [];
    joined_heads = [];
  }

  -- the view at another place
  abbrev pub view_at : View O E → QueuePlace → View O E
  view_at v p = record v { place = p }

  -- the view, which has seen the list
  abbrev pub view_with_seen : View O E → List E → View O E
  view_with_seen v seen = record v { page = record v.page { seen = seen } }

  -- the view after it has made an entry
  abbrev pub view_after_entry : View O E → E → View O E
  view_after_entry v e = record v {
    page = record v.page {
      seen = v.page.seen ++ e ∷ [];
      mine = v.page.mine ++ e ∷ [];
    };
  }

  -- the view after the look that follows a join
  abbrev pub settled_view : View O E → View O E
  settled_view v = record v { page = record v.page { older_histories = [] } }

  -- what was seen, as a page with no entries of its own
  abbrev pub page_of : View O E → List E → Page O E
  page_of v earlier = record {
    opening = v.page.opening;
    seen = v.page.seen;
    earlier = earlier;
    mine = [];
    older_histories = [];
    joined_heads = [];
  }

  -- a copy of what a view has seen, which may not draw
  abbrev pub view_copy : View O E → View O E
  view_copy v = record { place = idle_place; right = no_actor; page = page_of v [] }

  -- the view of the maker of heads, after it has made one more, which makes the next
  abbrev pub view_after_making : View O E → View O E
  view_after_making v = record v { right = record v.right { heads = 0 } }

  -- the view of the next head
  abbrev pub next_head : View O E → View O E
  next_head v = record {
    place = idle_place;
    right = drawing_right v.right.heads HOST (v.right.heads + 1);
    page = page_of v [];
  }

  -- the view of a head, with one actor more out
  abbrev pub view_with_out : ℕ → View O E → View O E
  view_with_out a v =
      record v { right = record v.right { absent_actors = a ∷ v.right.absent_actors } }

  -- the view of the actor that is sent out
  abbrev pub actor_view : (E → Who) → ℕ → View O E → View O E
  actor_view whose a v = record {
    place = idle_place;
    right = drawing_right v.right.family a 0;
    page = page_of v (entries_of whose (record { family = v.right.family; actor = a }) v.page.seen);
  }

  -- the view after it has met another
  abbrev pub view_after_meeting : View O E → View O E → View O E
  view_after_meeting v w = record v {
    page = record v.page {
      seen = longer_list v.page.seen w.page.seen;
      older_histories = v.page.seen ∷ w.page.seen ∷ v.page.older_histories;
    };
  }

  -- the view of a head after it has taken an actor back
  abbrev pub view_after_joining : View O E → View O E → View O E
  view_after_joining v w = record (view_after_meeting v w) {
    right = record v.right {
      absent_actors = ids_without w.right.actor v.right.absent_actors;
    };
  }

  -- what is kept of a head that is joined away
  abbrev pub joined_head_of : View O E → JoinedHead E
  joined_head_of w = record { family = w.right.family; mine = w.page.mine; seen = w.page.seen }

  -- the view after it has joined a head away
  abbrev pub view_after_closing : View O E → View O E → View O E
  view_after_closing v w = record v {
    page = record v.page {
      seen = longer_list v.page.seen w.page.seen;
      older_histories = v.page.seen ∷ w.page.seen ∷ v.page.older_histories;
      joined_heads = joined_head_of w ∷ v.page.joined_heads;
    };
  }

  -- what is left of a seat that was joined into another
  abbrev pub spent_view : View O E
  spent_view = record { place = idle_place; right = spent_right; page = blank_page None }

  -- The view of the head of family n, which has seen nothing yet. It makes the next head where
  -- `heads` is n + 1, and none where `heads` is 0.
  abbrev pub fresh_head : O → ℕ → ℕ → View O E
  fresh_head o n heads = record {
    place = idle_place;
    right = drawing_right n HOST heads;
    page = blank_page (Some o);
  }

  -- the view of the first head
  abbrev pub first_view : O → View O E
  first_view o = fresh_head o 0 1

  -- draw: the caller's view holds the ticket that it drew
  pub record HasDrawn (me : Me O (View O E)) (word : ℕ) (next_me : Me O (View O E)) : Type 0 where
    pub ticket : ℕ
    pub found_is : ticket % 2 ^ 64 ≡ word
    pub after_is : next_me ≡ (view_at me.0 (place_waiting ticket), me.1)

  -- look: it is the view's turn where the word equals its ticket
  pub record HasLookedAtTicket (me : Me O (View O E)) (word : ℕ)
      (next_me : Me O (View O E)) : Type 0 where
    pub yes : (t : ℕ) → me.0.place ≡ place_waiting t → word ≡ t % 2 ^ 64 → next_me
        ≡ (view_at me.0 (served_place t), me.1)
    pub no : (t : ℕ) → me.0.place ≡ place_waiting t → word ≢ t % 2 ^ 64 → next_me ≡ me

  -- give: the object is home
  abbrev pub HasGivenObject : Me O (View O E) → Me O (View O E) → Type 0
  HasGivenObject me next_me =
      (t : ℕ) → me.0.place ≡ place_holding t → next_me ≡ (view_at me.0 (served_place t), rest me.1)

  -- leave: the view holds no ticket
  abbrev pub HasLeftTurn : Me O (View O E) → Me O (View O E) → Type 0
  HasLeftTurn me next_me = next_me ≡ (view_at me.0 idle_place, me.1)

module _ {O E F : Type 0} (m : Meanings O E F) where
  -- take: the view has seen the whole history, and has the object, which has just this history
  pub record HasTakenObject (me : Me O (View O E)) (next_me : Me O (View O E)) : Type 0 where
    pub opening : O
    pub object : O
    pub missed_entries : List E
    pub opening_is : me.0.page.opening ≡ Some opening
    pub fixed : m.fixed object ≡ m.fixed opening
    pub history : m.history object ≡ me.0.page.seen ++ missed_entries
    pub lawful : m.lawful (m.fixed opening) (me.0.page.seen ++ missed_entries)
    pub short : length (me.0.page.seen ++ missed_entries) < HISTORY_LIMIT
    pub missable : AllByRecursion (IsMissable m me.0.right) missed_entries
    pub after_is : (t : ℕ) → me.0.place ≡ served_place t
        → next_me
        ≡ (
          view_at (view_with_seen me.0 (me.0.page.seen ++ missed_entries)) (place_holding t),
          (0, object) ∷ me.1,
        )

  -- commit: the view gains the entry that the object gained
  abbrev pub HasCommitted : Me O (View O E) → Me O (View O E) → Type 0
  HasCommitted me next_me =
      (y : O) (e : E) → me.1 ≡ (0, y) ∷ [] → m.history y ≡ me.0.page.seen ++ e ∷ []
      → next_me ≡ (view_after_entry me.0 e, me.1)

  -- look, after a join: all that was kept is a prefix of what the view has seen
  pub record IsSettled (me : Me O (View O E)) (next_me : Me O (View O E)) : Type 0 where
    pub opening : O
    pub opening_is : me.0.page.opening ≡ Some opening
    pub after_is : next_me ≡ (settled_view me.0, me.1)
    pub lawful : m.lawful (m.fixed opening) me.0.page.seen
    pub short : length me.0.page.seen < HISTORY_LIMIT
    pub own : me.0.right.may_draw ≡ true
        → entries_of m.whose (who_of me.0.right) me.0.page.seen ≡ me.0.page.earlier
        ++ me.0.page.mine
    pub longest : AllByRecursion
        (λ old. length old ≤ length me.0.page.seen
        → IsFront old me.0.page.seen) me.0.page.older_histories

  -- What is left when all heads were joined away: the object has the fixed data of the opening one,
  -- and its history is lawful, and is what each head saw and made.
  pub record IsClosingObject (opening : O) (joined_heads : List (JoinedHead E))
      (y : O) : Type 0 where
    pub fixed : m.fixed y ≡ m.fixed opening
    pub lawful : m.lawful (m.fixed opening) (m.history y)
    pub short : length (m.history y) < HISTORY_LIMIT
    pub each : AllByRecursion (IsJoinedHead m (m.history y)) joined_heads
