-- The words on a trace, for one entry more at its end.
use Rattle.std.proofs.Common.{◌≡◌, ℕ, ◌+◌, List, [], ◌∷◌, ◌++◌, Option, Some, None, Bool, true, false, not, ◌||◌, ◌==◌, if◌then◌else◌, refl, ap, sym, ◌∙◌, length, length-append, filter, add_assoc, append_assoc}
use Rattle.std.specs.Prelude.{flat_map, filter_map}
use Rattle.std.specs.List.{list_any}
use Rattle.std.proofs.lemmas.List.Sums.{fold-append}
use Rattle.std.proofs.lemmas.List.{append-nil}
use Rattle.std.proofs.lemmas.List.Elements.{filter_map-append, filter-append}
use Rattle.std.proofs.lemmas.List.Folds.{list_any-append}
use Rattle.std.proofs.lemmas.Grind.{flat_map-append}
use Rattle.ce_model.specs.declared.topology.TheConstants.{HOST}
use Rattle.ce_model.specs.declared.topology.Place.{Place}
use Rattle.ce_model.specs.declared.topology.BlockId.{BlockId}
use Rattle.ce_model.specs.declared.entry.Entry.{Entry}
use Rattle.ce_model.specs.declared.entry.TakeResult.{TakeResult}
use Rattle.ce_model.specs.Parcels.{Item, is_named_by}
use Rattle.ce_model.specs.Trace.{Standing, items_to, taken_result, start_ids_in, kill_ids_in, sent_parcels, allowed_dispatches_after, made_dispatches_after, mark_after, sent_items, taken_results, waiting_items, spawned_ids, killed_ids, mark, allowed_dispatches, made_dispatches, parcels}
use Rattle.ce_model.specs.Cube.{Cube, CubeState, state, node_after_entry, store_after, hoststore}
use Rattle.ce_model.specs.Order.{messages_got, messages_sent, bytes_between, bytes_handed}
use Rattle.ce_model.proofs.Walked.{walked-more}

-- a list made of the pieces of each entry has the piece of the last one at its end
flat-more : {A : Type 0} (f : Entry → List A) (t : List Entry) (entry : Entry) → flat_map f (t ++ entry ∷ []) ≡ flat_map f t ++ f entry
flat-more f t entry = flat_map-append f t (entry ∷ []) ∙ ap (λ more. flat_map f t ++ more) (append-nil (f entry))

pub sent_items-more : (o : Standing) (r : ℕ) (t : List Entry) (entry : Entry) → sent_items o r (t ++ entry ∷ []) ≡ sent_items o r t ++ items_to r entry
unfolding sent_items
sent_items-more o r t entry =
    ap (λ more. (o.node_record r).waiting_items ++ more) (flat-more (items_to r) t entry)
    ∙ sym (append_assoc (o.node_record r).waiting_items (flat_map (items_to r) t) (items_to r entry))

pub spawned-more : (o : Standing) (r : ℕ) (t : List Entry) (entry : Entry) → spawned_ids o r (t ++ entry ∷ []) ≡ spawned_ids o r t ++ start_ids_in r entry.what
unfolding spawned_ids
spawned-more o r t entry =
    ap (λ more. (o.node_record r).spawned_ids ++ more) (flat-more (λ e. start_ids_in r e.what) t entry)
    ∙ sym (append_assoc (o.node_record r).spawned_ids (flat_map (λ (e : Entry). start_ids_in r e.what) t) (start_ids_in r entry.what))

pub killed-more : (o : Standing) (r : ℕ) (t : List Entry) (entry : Entry) → killed_ids o r (t ++ entry ∷ []) ≡ killed_ids o r t ++ kill_ids_in r entry.what
unfolding killed_ids
killed-more o r t entry =
    ap (λ more. (o.node_record r).killed_ids ++ more) (flat-more (λ e. kill_ids_in r e.what) t entry)
    ∙ sym (append_assoc (o.node_record r).killed_ids (flat_map (λ (e : Entry). kill_ids_in r e.what) t) (kill_ids_in r entry.what))

pub parcels-more : (t : List Entry) (entry : Entry) → parcels (t ++ entry ∷ []) ≡ parcels t ++ sent_parcels entry.actor entry.what
unfolding parcels
parcels-more t entry = flat-more (λ e. sent_parcels e.actor e.what) t entry

-- how many parcels were sent
pub parcel_count-more : (first : ℕ) (t : List Entry) (entry : Entry)
    → first + length (parcels (t ++ entry ∷ [])) ≡ first + length (parcels t) + length (sent_parcels entry.actor entry.what)
parcel_count-more first t entry =
    rw (parcels-more t entry, length-append (parcels t) (sent_parcels entry.actor entry.what))
    (sym (add_assoc first (length (parcels t)) (length (sent_parcels entry.actor entry.what))))

pub armed-more : (o : Standing) (t : List Entry) (entry : Entry) → allowed_dispatches o (t ++ entry ∷ []) ≡ allowed_dispatches_after (allowed_dispatches o t) entry.what
unfolding allowed_dispatches
armed-more o t entry = fold-append (λ (count : ℕ) (e : Entry). allowed_dispatches_after count e.what) o.allowed_dispatches t (entry ∷ [])

pub dispatched-more : (o : Standing) (t : List Entry) (entry : Entry) → made_dispatches o (t ++ entry ∷ []) ≡ made_dispatches_after (made_dispatches o t) entry.what
unfolding made_dispatches
dispatched-more o t entry = fold-append (λ (count : ℕ) (e : Entry). made_dispatches_after count e.what) o.made_dispatches t (entry ∷ [])

pub mark-more : (o : Standing) (r : ℕ) (t : List Entry) (entry : Entry)
    → mark o r (t ++ entry ∷ []) ≡ (if entry.actor == r then mark_after (mark o r t) entry.what else mark o r t)
unfolding mark
mark-more o r t entry =
    fold-append (λ now (e : Entry). if e.actor == r then mark_after now e.what else now) (o.node_record r).mark t (entry ∷ [])

-- what an entry takes for node r
abbrev pub taken_for : ℕ → Entry → Option TakeResult
taken_for r entry = if entry.actor == r then taken_result entry.what else None

option_list-more : {A : Type 0} (f : Entry → Option A) (t : List Entry) (entry : Entry)
    → filter_map f (t ++ entry ∷ []) ≡ filter_map f t ++ filter_map f (entry ∷ [])
option_list-more f t entry = filter_map-append f t (entry ∷ [])

-- an entry that takes nothing for node r leaves what it has taken, and one that takes an item adds
-- it
pub taken_results-stays : (r : ℕ) (t : List Entry) (entry : Entry) → taken_for r entry ≡ None → taken_results r (t ++ entry ∷ []) ≡ taken_results r t
unfolding taken_results
taken_results-stays r t entry e = option_list-more (taken_for r) t entry ∙ rw e (append-nil (filter_map (taken_for r) t))

pub taken_results-more : (r : ℕ) (t : List Entry) (entry : Entry) (given : TakeResult) → taken_for r entry ≡ Some given
    → taken_results r (t ++ entry ∷ []) ≡ taken_results r t ++ given ∷ []
unfolding taken_results
taken_results-more r t entry given e = option_list-more (taken_for r) t entry ∙ rw e refl

-- an item that some entry has not named among these
abbrev pub is_untaken : List TakeResult → Item → Bool
is_untaken taken item = not (list_any (λ given. is_named_by given item) taken)

-- what waits once an entry is made that takes nothing for node r: of what it sends there, all that
-- was not taken before
pub waiting-stays : (o : Standing) (r : ℕ) (t : List Entry) (entry : Entry) → taken_for r entry ≡ None
    → waiting_items o r (t ++ entry ∷ []) ≡ waiting_items o r t ++ filter (is_untaken (taken_results r t)) (items_to r entry)
unfolding waiting_items
waiting-stays o r t entry e =
    rw (taken_results-stays r t entry e, sent_items-more o r t entry) (filter-append (is_untaken (taken_results r t)) (sent_items o r t) (items_to r entry))

neither : (a b : Bool) → not (a || (b || false)) ≡ (if not a then not b else false)
neither true b = refl
neither false true = refl
neither false false = refl

-- what one more item taken leaves
untaken-more : (taken : List TakeResult) (given : TakeResult) (item : Item)
    → is_untaken (taken ++ given ∷ []) item ≡ (if is_untaken taken item then not (is_named_by given item) else false)
untaken-more taken given item =
    ap not (list_any-append (λ (g : TakeResult). is_named_by g item) taken (given ∷ []))
    ∙ neither (list_any (λ (g : TakeResult). is_named_by g item) taken) (is_named_by given item)

one_item : (b c : Bool) (item : Item) (xs : List Item)
    → (if (if b then c else false) then item ∷ xs else xs) ≡ (if b then (if c then item ∷ xs else xs) else xs)
one_item true c item xs = refl
one_item false c item xs = refl

kept_item : (p : Item → Bool) (b : Bool) (item : Item) (xs : List Item)
    → (if b then (if p item then item ∷ filter p xs else filter p xs) else filter p xs) ≡ filter p (if b then item ∷ xs else xs)
kept_item p true item xs = refl
kept_item p false item xs = refl

untaken_items : (taken : List TakeResult) (given : TakeResult) (items : List Item)
    → filter (is_untaken (taken ++ given ∷ [])) items ≡ filter (λ item. not (is_named_by given item)) (filter (is_untaken taken) items)
untaken_items taken given [] = refl
untaken_items taken given (item ∷ items) =
    rw (untaken-more taken given item, untaken_items taken given items)
    (one_item (is_untaken taken item) (not (is_named_by given item)) item (filter (λ x. not (is_named_by given x)) (filter (is_untaken taken) items))
    ∙ kept_item (λ x. not (is_named_by given x)) (is_untaken taken item) item (filter (is_untaken taken) items))

-- what waits once node r has taken an item by an entry that sends it nothing: what isn't named so
pub waiting-taken : (o : Standing) (r : ℕ) (t : List Entry) (entry : Entry) (given : TakeResult) → taken_for r entry ≡ Some given
    → items_to r entry ≡ [] → waiting_items o r (t ++ entry ∷ []) ≡ filter (λ item. not (is_named_by given item)) (waiting_items o r t)
unfolding waiting_items
waiting-taken o r t entry given e s =
    rw (taken_results-more r t entry given e, sent_items-more o r t entry, s, append-nil (sent_items o r t)) (untaken_items (taken_results r t) given (sent_items o r t))

-- ---- nodes, the host's store, and what was got

pub state-more : (cube : Cube) (o : CubeState) (r : ℕ) (t : List Entry) (entry : Entry)
    → state cube o r (t ++ entry ∷ []) ≡ node_after_entry cube o r t (state cube o r t) entry
unfolding state
state-more cube o r t entry = walked-more (node_after_entry cube o r) (o.node r) t entry

pub hoststore-more : (o : CubeState) (t : List Entry) (entry : Entry)
    → hoststore o (t ++ entry ∷ [])
    ≡ (if entry.actor == HOST then store_after (waiting_items o.standing HOST t) (hoststore o t) entry.what else hoststore o t)
unfolding hoststore
hoststore-more o t entry =
    walked-more (λ before (store : List BlockId) (e : Entry). if e.actor == HOST then store_after (waiting_items o.standing HOST before) store e.what else store)
    o.hoststore t entry

pub sent-more : (o : Standing) (from to : Place) (t : List Entry) (entry : Entry)
    → messages_sent o from to (t ++ entry ∷ []) ≡ bytes_between from to (sent_items o to.node t ++ items_to to.node entry)
unfolding messages_sent
sent-more o from to t entry = ap (bytes_between from to) (sent_items-more o to.node t entry)

pub got-more : (o : Standing) (from to : Place) (t : List Entry) (entry : Entry)
    → messages_got o from to (t ++ entry ∷ []) ≡ messages_got o from to t ++ bytes_handed from to (waiting_items o to.node t) entry
unfolding messages_got
got-more o from to t entry =
    walked-more (λ before messages e. messages ++ bytes_handed from to (waiting_items o to.node before) e) [] t entry
