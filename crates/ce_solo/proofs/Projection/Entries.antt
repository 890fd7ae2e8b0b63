-- What the machine keeps for a cube behind an entry of the cube is what the entry leaves of the
-- cube, with the machine's numbers and names.
use Rattle.std.proofs.Common.{◌≡◌, ℕ, ◌+◌, ◌≤◌, Bool, true, false, not, ◌==◌, if◌then◌else◌, List, [], ◌∷◌, ◌++◌, map, filter, count_by, length, Option, Some, None, refl, ap, ap₂, sym, ◌∙◌, inl, inr, arith, append-nil}
use Rattle.std.specs.List.{AllByRecursion}
use Rattle.std.proofs.lemmas.Bool.{cases_Bool}
use Rattle.std.proofs.lemmas.List.{map-append}
use Rattle.ce_model.specs.declared.topology.Place.{Place}
use Rattle.ce_model.specs.declared.topology.BlockId.{BlockId}
use Rattle.ce_model.specs.declared.entry.Entry.{Entry}
use Rattle.ce_model.specs.declared.entry.What.{What}
use Rattle.ce_model.specs.declared.entry.What.TheVariants.{Send, Spawn, Kill}
use Rattle.ce_model.specs.declared.entry.KillResult.TheVariants.{Killed, Unused, Already}
use Rattle.ce_model.specs.declared.entry.TakeResult.{TakeResult}
use Rattle.ce_model.specs.declared.entry.TakeResult.TheVariants as take_result
use Rattle.ce_model.specs.Lists.{without_first}
use Rattle.ce_model.specs.Parcels.{Parcel, Item, start, mail, kill, is_named_by, item_id, message_parcels}
use Rattle.ce_model.specs.Trace.{NodeRecord, Mark, items_to, starts_in, kills_in, mails_in, taken_result, start_ids_in, kill_ids_in, sent_parcels, allowed_dispatches_after, made_dispatches_after, mark_after}
use Rattle.ce_model.specs.Owners.{IsBlockOf}
use Rattle.ce_model.specs.Renaming.{CubeGrant, place_outward, block_outward, number_outward, renamed_targets, renamed_item, renamed_record}
use Rattle.ce_model.specs.Machine.{item_inward, without_taken_item, waiting_items_after, record_after_entry}
use Rattle.ce_model.proofs.OneMore.{taken_for}
use Rattle.ce_solo.proofs.Lists.{with_appended, with_appended-is, filter-all, none-from_count, count_by-cons, truth_bit-true, truth_bit-false}
use Rattle.ce_solo.proofs.Entries.{waiting_after}
use Rattle.ce_solo.proofs.Entries as entry_states
use Rattle.ce_solo.proofs.Projection.Numbers.{IsPlaced, IsNumber, IsWhatOf, what_outward, entry_outward, out_test, place_in_out}

-- ---- what an entry takes and counts has no places and blocks

module _ (grant : CubeGrant) where
  pub taken-outward : (what : What) → taken_result (what_outward grant what) ≡ taken_result what
  taken-outward (Send pid first to bytes) = refl
  taken-outward (Spawn pid image to fresh) = refl
  taken-outward (Kill pid to found) = refl
  taken-outward other = refl

  pub marked-outward : (mark : Mark) (what : What) → mark_after mark (what_outward grant what) ≡ mark_after mark what
  marked-outward mark (Send pid first to bytes) = refl
  marked-outward mark (Spawn pid image to fresh) = refl
  marked-outward mark (Kill pid to found) = refl
  marked-outward mark other = refl

  pub armed-outward : (count : ℕ) (what : What) → allowed_dispatches_after count (what_outward grant what) ≡ allowed_dispatches_after count what
  armed-outward count (Send pid first to bytes) = refl
  armed-outward count (Spawn pid image to fresh) = refl
  armed-outward count (Kill pid to found) = refl
  armed-outward count other = refl

  pub dispatched-outward : (count : ℕ) (what : What) → made_dispatches_after count (what_outward grant what) ≡ made_dispatches_after count what
  dispatched-outward count (Send pid first to bytes) = refl
  dispatched-outward count (Spawn pid image to fresh) = refl
  dispatched-outward count (Kill pid to found) = refl
  dispatched-outward count other = refl

  as_many : (from from' : Place) (number : ℕ) (bytes : List ℕ) (to : List (Place × BlockId))
      → length (message_parcels from' number bytes (renamed_targets (place_outward grant.sub) (block_outward grant) to)) ≡ length (message_parcels from number bytes to)
  as_many from from' number bytes [] = refl
  as_many from from' number bytes (target ∷ to) = omega (arith, as_many from from' (number + 1) bytes to)

  pub sent-outward : (actor actor' : ℕ) (what : What) → length (sent_parcels actor' (what_outward grant what)) ≡ length (sent_parcels actor what)
  sent-outward actor actor' (Send pid first to bytes) = as_many (record { node = actor; pid = pid }) (record { node = actor'; pid = pid }) first bytes to
  sent-outward actor actor' (Spawn pid image to fresh) = refl
  sent-outward actor actor' (Kill pid to found) = refl
  sent-outward actor actor' other = refl

-- ---- what an entry sends

abbrev inward_all : CubeGrant → List Item → List Item
inward_all grant items = map (item_inward grant.sub) items

abbrev outward_all : CubeGrant → List Item → List Item
outward_all grant items = map (renamed_item (block_outward grant)) items

module _ (dim : ℕ) (grant : CubeGrant) (of : IsPlaced dim grant) where
  abbrev out : ℕ → ℕ
  out n = number_outward grant.sub n

  pick : (b b' : Bool) (p' p : Parcel) (rest' rest : List Parcel) → b' ≡ b → item_inward grant.sub (mail p') ≡ renamed_item (block_outward grant) (mail p)
      → inward_all grant (map mail rest') ≡ outward_all grant (map mail rest)
      → inward_all grant (map mail (if b' then p' ∷ rest' else rest')) ≡ outward_all grant (map mail (if b then p ∷ rest else rest))
  pick true b' p' p rest' rest e item more =
      ap (λ b. inward_all grant (map mail (if b then p' ∷ rest' else rest'))) e ∙ ap₂ (λ x xs. x ∷ xs) item more
  pick false b' p' p rest' rest e item more = ap (λ b. inward_all grant (map mail (if b then p' ∷ rest' else rest'))) e ∙ more

  mails_run : (n actor pid number : ℕ) (bytes : List ℕ) (to : List (Place × BlockId)) → IsNumber grant.dim n → IsNumber grant.dim actor
      → AllByRecursion (λ target. IsNumber grant.dim target.0.node × IsBlockOf grant.dim target.1) to
      → inward_all grant (map mail (filter (λ parcel. parcel.to.node == out n)
      (message_parcels (record { node = out actor; pid = pid }) number bytes (renamed_targets (place_outward grant.sub) (block_outward grant) to))))
      ≡ outward_all grant (map mail (filter (λ parcel. parcel.to.node == n) (message_parcels (record { node = actor; pid = pid }) number bytes to)))
  mails_run n actor pid number bytes [] of_n of_actor all = refl
  mails_run n actor pid number bytes (target ∷ to) of_n of_actor all =
      pick (target.0.node == n) (out target.0.node == out n) _ _ _ _ (out_test dim grant of target.0.node n all.0.0 of_n)
      (λ i. mail (record {
        from = place_in_out dim grant of (record { node = actor; pid = pid }) of_actor i;
        to = place_in_out dim grant of target.0 all.0.0 i;
        number = number;
        block = record { id = block_outward grant target.1; bytes = bytes };
      }))
      (mails_run n actor pid (number + 1) bytes to of_n of_actor all.1)

  starts-outward : (n : ℕ) (what : What) → IsNumber grant.dim n → IsWhatOf grant.dim what → starts_in (out n) (what_outward grant what) ≡ starts_in n what
  starts-outward n (Spawn pid image to true) of_n is = ap (λ b. if b then start to.pid image ∷ [] else []) (out_test dim grant of to.node n (inl is) of_n)
  starts-outward n (Spawn pid image to false) of_n is = refl
  starts-outward n (Send pid first to bytes) of_n is = refl
  starts-outward n (Kill pid to found) of_n is = refl
  starts-outward n other of_n is = refl

  kills-outward : (n : ℕ) (what : What) → IsNumber grant.dim n → IsWhatOf grant.dim what → kills_in (out n) (what_outward grant what) ≡ kills_in n what
  kills-outward n (Kill pid to Killed) of_n is = ap (λ b. if b then kill to.pid ∷ [] else []) (out_test dim grant of to.node n (inl is) of_n)
  kills-outward n (Kill pid to Unused) of_n is = refl
  kills-outward n (Kill pid to Already) of_n is = refl
  kills-outward n (Spawn pid image to fresh) of_n is = refl
  kills-outward n (Send pid first to bytes) of_n is = refl
  kills-outward n other of_n is = refl

  mails-outward : (n actor user : ℕ) (what : What) → IsNumber grant.dim n → IsNumber grant.dim actor → IsWhatOf grant.dim what
      → inward_all grant (mails_in (out n) (record { user = user; actor = out actor; what = what_outward grant what }))
      ≡ outward_all grant (mails_in n (record { user = user; actor = actor; what = what }))
  mails-outward n actor user (Send pid first to bytes) of_n of_actor is = mails_run n actor pid first bytes to of_n of_actor is
  mails-outward n actor user (Spawn pid image to fresh) of_n of_actor is = refl
  mails-outward n actor user (Kill pid to found) of_n of_actor is = refl
  mails-outward n actor user other of_n of_actor is = refl

  starts_named : (n : ℕ) (what : What) → inward_all grant (starts_in n what) ≡ outward_all grant (starts_in n what)
  starts_named n (Spawn pid image to true) = one_start (to.node == n) to.pid image
    where
      one_start : (b : Bool) (pid image : ℕ) → inward_all grant (if b then start pid image ∷ [] else []) ≡ outward_all grant (if b then start pid image ∷ [] else [])
      one_start true pid image = refl
      one_start false pid image = refl
  starts_named n (Spawn pid image to false) = refl
  starts_named n other = refl

  kills_named : (n : ℕ) (what : What) → inward_all grant (kills_in n what) ≡ outward_all grant (kills_in n what)
  kills_named n (Kill pid to Killed) = one_kill (to.node == n) to.pid
    where
      one_kill : (b : Bool) (pid : ℕ) → inward_all grant (if b then kill pid ∷ [] else []) ≡ outward_all grant (if b then kill pid ∷ [] else [])
      one_kill true pid = refl
      one_kill false pid = refl
  kills_named n (Kill pid to Unused) = refl
  kills_named n (Kill pid to Already) = refl
  kills_named n other = refl

  three_parts : (f : Item → Item) (a b c : List Item) → map f (a ++ (b ++ c)) ≡ map f a ++ (map f b ++ map f c)
  three_parts f a b c = map-append f a (b ++ c) ∙ ap (λ rest. map f a ++ rest) (map-append f b c)

  pub items-outward : (n : ℕ) (entry : Entry) → IsNumber grant.dim n → IsNumber grant.dim entry.actor → IsWhatOf grant.dim entry.what
      → inward_all grant (items_to (out n) (entry_outward grant entry)) ≡ outward_all grant (items_to n entry)
  items-outward n entry of_n of_actor is =
      three_parts (item_inward grant.sub) (starts_in (out n) (what_outward grant entry.what)) (kills_in (out n) (what_outward grant entry.what))
      (mails_in (out n) (entry_outward grant entry))
      ∙ ap₂ (λ starts rest. starts ++ rest) (ap (inward_all grant) (starts-outward n entry.what of_n is) ∙ starts_named n entry.what)
      (ap₂ (λ kills mails. kills ++ mails) (ap (inward_all grant) (kills-outward n entry.what of_n is) ∙ kills_named n entry.what)
      (mails-outward n entry.actor entry.user entry.what of_n of_actor is))
      ∙ sym (three_parts (renamed_item (block_outward grant)) (starts_in n entry.what) (kills_in n entry.what) (mails_in n entry))

-- ---- what an entry takes

-- an item of which the blocks have other names is the one of the same name
pub named-renamed : (rename : BlockId → BlockId) (given : TakeResult) (item : Item) → is_named_by given (renamed_item rename item) ≡ is_named_by given item
named-renamed rename given (start pid image) = refl
named-renamed rename (take_result.Start pid image) (mail parcel) = refl
named-renamed rename (take_result.Mail pid number) (mail parcel) = refl
named-renamed rename (take_result.Kill pid) (mail parcel) = refl
named-renamed rename (take_result.Poll pid) (mail parcel) = refl
named-renamed rename take_result.Idle (mail parcel) = refl
named-renamed rename take_result.Spent (mail parcel) = refl
named-renamed rename given (kill pid) = refl

first_out : (rename : BlockId → BlockId) (given : TakeResult) (items : List Item) → count_by (is_named_by given) items ≤ 1
    → without_first (is_named_by given) (map (renamed_item rename) items) ≡ map (renamed_item rename) (filter (λ item. not (is_named_by given item)) items)
first_out rename given [] once = refl
first_out rename given (item ∷ items) once =
    elim (cases_Bool (is_named_by given item)) [
      | inl named ↦
          let none = none-from_count (is_named_by given) items (omega (arith, once, count_by-cons (is_named_by given) item items, truth_bit-true (is_named_by given item) named)) in
          rw (named-renamed rename given item, named) (ap (map (renamed_item rename)) (sym (filter-all (is_named_by given) items none)))
      | inr other ↦
          rw (named-renamed rename given item, other)
          (ap (λ rest. renamed_item rename item ∷ rest)
          (first_out rename given items (omega (arith, once, count_by-cons (is_named_by given) item items, truth_bit-false (is_named_by given item) other))))
    ]

module _ (dim : ℕ) (grant : CubeGrant) (of : IsPlaced dim grant) (entry : Entry) (actor : IsNumber grant.dim entry.actor) (is : IsWhatOf grant.dim entry.what) where
  own_test : (n : ℕ) → IsNumber grant.dim n → ((entry_outward grant entry).actor == number_outward grant.sub n) ≡ (entry.actor == n)
  own_test n of_n = out_test dim grant of entry.actor n actor of_n

  by_own : (b : Bool) (taken : Option TakeResult) (items : List Item)
      → (if b then without_taken_item taken items else items) ≡ without_taken_item (if b then taken else None) items
  by_own true taken items = refl
  by_own false taken items = refl

  waiting_by_taken : (taken : Option TakeResult) (sent waiting : List Item)
      → ((given : TakeResult) → taken ≡ Some given → (count_by (is_named_by given) waiting ≤ 1) × (sent ≡ []))
      → without_taken_item taken (outward_all grant waiting) ++ outward_all grant sent ≡ outward_all grant (waiting_after taken sent waiting)
  waiting_by_taken None sent waiting known =
      sym (map-append (renamed_item (block_outward grant)) waiting sent) ∙ ap (outward_all grant) (with_appended-is waiting sent)
  waiting_by_taken (Some given) sent waiting known =
      ap (λ sent. without_taken_item (Some given) (outward_all grant waiting) ++ outward_all grant sent) (known given refl).1
      ∙ append-nil (without_taken_item (Some given) (outward_all grant waiting)) ∙ first_out (block_outward grant) given waiting (known given refl).0

  -- what an entry takes for a node is one item that waits there, and then it sends nothing there
  abbrev pub IsOneTaken : ℕ → List Item → Type 0
  IsOneTaken n waiting = (given : TakeResult) → taken_for n entry ≡ Some given → (count_by (is_named_by given) waiting ≤ 1) × (items_to n entry ≡ [])

  pub waiting-behind : (n : ℕ) (waiting : List Item) → IsNumber grant.dim n → IsOneTaken n waiting
      → waiting_items_after grant.sub (entry_outward grant entry) (number_outward grant.sub n) (outward_all grant waiting)
      ≡ outward_all grant (waiting_after (taken_for n entry) (items_to n entry) waiting)
  waiting-behind n waiting of_n one =
      ap₂ (λ (b : Bool) sent. (if b then without_taken_item (taken_result (what_outward grant entry.what)) (outward_all grant waiting) else outward_all grant waiting) ++ sent)
      (own_test n of_n) (items-outward dim grant of n entry of_n actor is)
      ∙ ap (λ taken. (if entry.actor == n then without_taken_item taken (outward_all grant waiting) else outward_all grant waiting) ++ outward_all grant (items_to n entry))
      (taken-outward grant entry.what)
      ∙ ap (λ items. items ++ outward_all grant (items_to n entry)) (by_own (entry.actor == n) (taken_result entry.what) (outward_all grant waiting))
      ∙ waiting_by_taken (taken_for n entry) (items_to n entry) waiting one

  abbrev record_of : List Item → List ℕ → List ℕ → Mark → NodeRecord
  record_of waiting spawned killed mark = record { waiting_items = waiting; spawned_ids = spawned; killed_ids = killed; mark = mark }

  pub record-behind : (n : ℕ) (kept : NodeRecord) → IsNumber grant.dim n → IsOneTaken n kept.waiting_items
      → record_after_entry grant.sub (entry_outward grant entry) (number_outward grant.sub n) (renamed_record (block_outward grant) kept)
      ≡ renamed_record (block_outward grant) (entry_states.cube_record_after (entry.actor == n) n entry kept)
  record-behind n kept of_n one =
      let spawned : kept.spawned_ids ++ start_ids_in (number_outward grant.sub n) (what_outward grant entry.what) ≡ with_appended kept.spawned_ids (start_ids_in n entry.what) =
      ap (λ items. kept.spawned_ids ++ map item_id items) (starts-outward dim grant of n entry.what of_n is) ∙ with_appended-is kept.spawned_ids (start_ids_in n entry.what) in
      let killed : kept.killed_ids ++ kill_ids_in (number_outward grant.sub n) (what_outward grant entry.what) ≡ with_appended kept.killed_ids (kill_ids_in n entry.what) =
      ap (λ items. kept.killed_ids ++ map item_id items) (kills-outward dim grant of n entry.what of_n is) ∙ with_appended-is kept.killed_ids (kill_ids_in n entry.what) in
      let marks : (if (entry_outward grant entry).actor == number_outward grant.sub n then mark_after kept.mark (what_outward grant entry.what) else kept.mark)
      ≡ (if entry.actor == n then mark_after kept.mark entry.what else kept.mark) =
      ap₂ (λ (b : Bool) mark. if b then mark else kept.mark) (own_test n of_n) (marked-outward grant kept.mark entry.what) in
      λ i. record { waiting_items = waiting-behind n kept.waiting_items of_n one i; spawned_ids = spawned i; killed_ids = killed i; mark = marks i }
