-- What was sent is what was got and what waits, as long as the receiver has not stopped; and what
-- was got is a front of it always.
use Rattle.std.proofs.Common.{◌≡◌, ℕ, Bool, true, false, not, List, [], ◌∷◌, ◌++◌, filter, Option, Some, None, refl, ap, sym, ◌∙◌, subst, append_assoc, append-nil}
use Rattle.std.proofs.lemmas.Bool.{both_ways, false_from_ne_true}
use Rattle.ce_model.specs.declared.topology.Place.{Place}
use Rattle.ce_model.specs.declared.entry.Entry.{Entry}
use Rattle.ce_model.specs.declared.entry.TakeResult.{TakeResult}
use Rattle.ce_model.specs.Lists.{IsFront}
use Rattle.ce_model.specs.Parcels.{Item, is_named_by}
use Rattle.ce_model.specs.Trace.{Standing, items_to, sent_items, waiting_items}
use Rattle.ce_model.specs.Cube.{Cube, CubeState, IsCube, state_after_trace}
use Rattle.ce_model.specs.Order.{bytes_between, bytes_handed, messages_sent, messages_got}
use Rattle.ce_model.proofs.OneMore.{taken_for, sent-more, got-more}
use Rattle.ce_solo.proofs.Lists.{with_appended-is}
use Rattle.ce_solo.proofs.Entries.{waiting_after, state_after, entry_in}
use Rattle.ce_solo.proofs.Made.{taking-sends_none}
use Rattle.ce_solo.proofs.Stands.{IsSoundTrace, IsEntryOf, left-made, waits-made, waiting-nil}
use Rattle.ce_solo.proofs.Stopped.{is_receiver_stopped}
use Rattle.ce_solo.proofs.Between.{between-append, handed-none}
use Rattle.ce_model.specs.Node.{Call}

-- from one place to another: what was sent is what was got and what waits, while the receiver has
-- not stopped
pub record AreRisingIds (cube : Cube) (o : CubeState) (from to : Place) (t : List Entry) : Type 0 where
  pub equal : is_receiver_stopped cube (state_after_trace cube o t) to ≡ false → messages_sent o.standing from to t ≡ messages_got o.standing from to t ++ bytes_between from to (waiting_items o.standing to.node t)
  pub front : IsFront (messages_got o.standing from to t) (messages_sent o.standing from to t)

-- what an entry by which the receiver's node takes an item does to the bytes between the two: none
-- go; the first is handed over; or the receiver has stopped
pub data HasPassed (handed before after : List (List ℕ)) (is_receiver_stopped is_receiver_stopped' : Bool) : Type 0 where
  passes : handed ≡ [] → after ≡ before → HasPassed handed before after is_receiver_stopped is_receiver_stopped'
  hands : (bytes : List ℕ) → handed ≡ bytes ∷ [] → before ≡ bytes ∷ after → is_receiver_stopped ≡ false → HasPassed handed before after is_receiver_stopped is_receiver_stopped'
  drops : handed ≡ [] → is_receiver_stopped' ≡ true → HasPassed handed before after is_receiver_stopped is_receiver_stopped'

-- the order between two places
record IsOrdered (is_receiver_stopped : Bool) (messages_sent messages_got waits : List (List ℕ)) : Type 0 where
  equal : is_receiver_stopped ≡ false → messages_sent ≡ messages_got ++ waits
  front : IsFront messages_got messages_sent

more-sent : (is_receiver_stopped is_receiver_stopped' : Bool) (messages_sent messages_got waits new : List (List ℕ)) → (is_receiver_stopped ≡ true → is_receiver_stopped' ≡ true) → IsOrdered is_receiver_stopped messages_sent messages_got waits → IsOrdered is_receiver_stopped' (messages_sent ++ new) (messages_got ++ []) (waits ++ new)
more-sent is_receiver_stopped is_receiver_stopped' messages_sent messages_got waits new stays is = record {
  equal = λ h.
      let here : is_receiver_stopped ≡ false = false_from_ne_true is_receiver_stopped (λ t. both_ways _ h (stays t)) in
      ap (λ xs. xs ++ new) (is.equal here) ∙ append_assoc messages_got waits new ∙ ap (λ xs. xs ++ (waits ++ new)) (sym (append-nil messages_got));
  front = (is.front.0 ++ new, ap (λ xs. xs ++ (is.front.0 ++ new)) (append-nil messages_got) ∙ sym (append_assoc messages_got is.front.0 new) ∙ ap (λ xs. xs ++ new) is.front.1);
}

same-sent : (is_receiver_stopped is_receiver_stopped' : Bool) (messages_sent messages_got waits : List (List ℕ)) (handed waits' : List (List ℕ)) → (is_receiver_stopped ≡ true → is_receiver_stopped' ≡ true) → IsOrdered is_receiver_stopped messages_sent messages_got waits
    → HasPassed handed waits waits' is_receiver_stopped is_receiver_stopped' → IsOrdered is_receiver_stopped' messages_sent (messages_got ++ handed) waits'
same-sent is_receiver_stopped is_receiver_stopped' messages_sent messages_got waits handed waits' stays is (passes none same) = record {
  equal = λ h.
      let here : is_receiver_stopped ≡ false = false_from_ne_true is_receiver_stopped (λ t. both_ways _ h (stays t)) in
      is.equal here ∙ ap (λ xs. messages_got ++ xs) (sym same) ∙ ap (λ xs. xs ++ waits') (sym (ap (λ xs. messages_got ++ xs) none ∙ append-nil messages_got));
  front = (is.front.0, ap (λ xs. xs ++ is.front.0) (ap (λ xs. messages_got ++ xs) none ∙ append-nil messages_got) ∙ is.front.1);
}
same-sent is_receiver_stopped is_receiver_stopped' messages_sent messages_got waits handed waits' stays is (hands bytes one first here) =
    let whole : messages_sent ≡ (messages_got ++ handed) ++ waits' =
    is.equal here ∙ ap (λ xs. messages_got ++ xs) first ∙ sym (append_assoc messages_got (bytes ∷ []) waits') ∙ ap (λ xs. (messages_got ++ xs) ++ waits') (sym one) in
    record { equal = λ h. whole; front = (waits', sym whole) }
same-sent is_receiver_stopped is_receiver_stopped' messages_sent messages_got waits handed waits' stays is (drops none stopped) = record {
  equal = λ h. absurd (both_ways _ h stopped);
  front = (is.front.0, ap (λ xs. xs ++ is.front.0) (ap (λ xs. messages_got ++ xs) none ∙ append-nil messages_got) ∙ is.front.1);
}

sent-is : (o : Standing) (from to : Place) (t : List Entry) → bytes_between from to (sent_items o to.node t) ≡ messages_sent o from to t
unfolding messages_sent
sent-is o from to t = refl

pub order-nil : (cube : Cube) (o : CubeState) (from to : Place) → AreRisingIds cube o from to []
unfolding messages_sent messages_got sent_items
order-nil cube o from to =
    let same : bytes_between from to (waiting_items o.standing to.node []) ≡ bytes_between from to ((o.standing.node_record to.node).waiting_items ++ []) =
    ap (bytes_between from to) (waiting-nil o.standing to.node ∙ sym (append-nil (o.standing.node_record to.node).waiting_items)) in
    record { equal = λ h. sym same; front = (bytes_between from to ((o.standing.node_record to.node).waiting_items ++ []), refl) }

module _ (cube : Cube) (o : CubeState) (from to : Place) (t : List Entry) (of : IsCube cube) (stands : IsSoundTrace cube o t) where
  abbrev s : CubeState
  s = state_after_trace cube o t

  abbrev items : List Item
  items = waiting_items o.standing to.node t

  -- what the order comes to by the words on traces
  ordered : AreRisingIds cube o from to t → IsOrdered (is_receiver_stopped cube s to) (messages_sent o.standing from to t) (messages_got o.standing from to t) (bytes_between from to items)
  ordered is = record { equal = is.equal; front = is.front }

  order-by : (entry : Entry) (is_receiver_stopped' : Bool) (sent' got' waits' : List (List ℕ)) → is_receiver_stopped cube (state_after_trace cube o (t ++ entry ∷ [])) to ≡ is_receiver_stopped' → messages_sent o.standing from to (t ++ entry ∷ []) ≡ sent'
      → messages_got o.standing from to (t ++ entry ∷ []) ≡ got' → bytes_between from to (waiting_items o.standing to.node (t ++ entry ∷ [])) ≡ waits' → IsOrdered is_receiver_stopped' sent' got' waits'
      → AreRisingIds cube o from to (t ++ entry ∷ [])
  order-by entry is_receiver_stopped' sent' got' waits' g s h w is = record {
    equal = λ not_gone. s ∙ is.equal (sym g ∙ not_gone) ∙ ap (λ xs. xs ++ waits') (sym h) ∙ ap (λ xs. messages_got o.standing from to (t ++ entry ∷ []) ++ xs) (sym w);
    front = subst (λ xs. IsFront xs (messages_sent o.standing from to (t ++ entry ∷ []))) (sym h) (subst (λ xs. IsFront got' xs) (sym s) is.front);
  }

  -- an entry with which the receiver's node takes nothing, and one with which it takes an item
  pub order-entry : (actor : ℕ) (call : Call) (e : IsEntryOf cube s (entry_in cube s actor call)) (taken : Option TakeResult)
      → taken_for to.node (entry_in cube s actor call) ≡ taken
      → ((given : TakeResult) → taken ≡ Some given
      → HasPassed (bytes_handed from to items (entry_in cube s actor call)) (bytes_between from to items) (bytes_between from to (filter (λ item. not (is_named_by given item)) items))
      (is_receiver_stopped cube s to) (is_receiver_stopped cube (state_after cube s (entry_in cube s actor call)) to))
      → (is_receiver_stopped cube s to ≡ true → is_receiver_stopped cube (state_after cube s (entry_in cube s actor call)) to ≡ true)
      → AreRisingIds cube o from to t → AreRisingIds cube o from to (t ++ entry_in cube s actor call ∷ [])
  order-entry actor call e None none passed stays is =
      let entry = entry_in cube s actor call in
      let new = items_to to.node entry in
      order-by entry (is_receiver_stopped cube (state_after cube s entry) to) (messages_sent o.standing from to t ++ bytes_between from to new) (messages_got o.standing from to t ++ []) (bytes_between from to items ++ bytes_between from to new)
      (ap (λ s. is_receiver_stopped cube s to) (left-made cube o t entry stands e))
      (sent-more o.standing from to t entry ∙ between-append from to (sent_items o.standing to.node t) new ∙ ap (λ xs. xs ++ bytes_between from to new) (sent-is o.standing from to t))
      (got-more o.standing from to t entry ∙ ap (λ xs. messages_got o.standing from to t ++ xs) (handed-none from to items entry none))
      (ap (bytes_between from to) (waits-made cube o t actor call stands to.node ∙ ap (λ taken. waiting_after taken new items) none ∙ sym (with_appended-is items new)) ∙ between-append from to items new)
      (more-sent (is_receiver_stopped cube s to) (is_receiver_stopped cube (state_after cube s entry) to) (messages_sent o.standing from to t) (messages_got o.standing from to t) (bytes_between from to items) (bytes_between from to new) stays (ordered is))
  order-entry actor call e (Some given) one passed stays is =
      let entry = entry_in cube s actor call in
      let new = items_to to.node entry in
      let left = filter (λ (item : Item). not (is_named_by given item)) items in
      order-by entry (is_receiver_stopped cube (state_after cube s entry) to) (messages_sent o.standing from to t) (messages_got o.standing from to t ++ bytes_handed from to items entry) (bytes_between from to left)
      (ap (λ s. is_receiver_stopped cube s to) (left-made cube o t entry stands e))
      (sent-more o.standing from to t entry
      ∙ ap (bytes_between from to) (ap (λ xs. sent_items o.standing to.node t ++ xs) (taking-sends_none cube s actor to.node call given one) ∙ append-nil (sent_items o.standing to.node t)) ∙ sent-is o.standing from to t)
      (got-more o.standing from to t entry)
      (ap (bytes_between from to) (waits-made cube o t actor call stands to.node ∙ ap (λ taken. waiting_after taken new items) one))
      (same-sent (is_receiver_stopped cube s to) (is_receiver_stopped cube (state_after cube s entry) to) (messages_sent o.standing from to t) (messages_got o.standing from to t) (bytes_between from to items) (bytes_handed from to items entry) (bytes_between from to left) stays (ordered is)
      (passed given refl))
