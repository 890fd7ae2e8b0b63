-- What any one got from another is a front of what that one sent it, after each trace.
use Rattle.std.proofs.Common.{◌≡◌, ℕ, ◌^◌, ◌<◌, true, false, List, [], ◌∷◌, ◌++◌, Option, Some, refl, sym, subst, arith}
use Rattle.std.proofs.lemmas.Bool.{eq-eqb, eqb-true, lt-ltb, le-ltb, and_from, and_left}
use Rattle.ce_model.specs.declared.topology.TheConstants.{HOST}
use Rattle.ce_model.specs.declared.topology.Place.{Place}
use Rattle.ce_model.specs.declared.entry.Entry.{Entry}
use Rattle.ce_model.specs.declared.entry.TakeResult.{TakeResult}
use Rattle.ce_model.specs.Lists.{EachAfter}
use Rattle.ce_model.specs.Process.{is_stopped}
use Rattle.ce_model.specs.Node.{process_at, Call, take_call, send_call, spawn_call, kill_call, note_call, arm_call, look_call, mail_call}
use Rattle.ce_model.specs.Trace.{taken_result}
use Rattle.ce_model.specs.Answers.{answer}
use Rattle.ce_model.specs.Saying.{says}
use Rattle.ce_model.specs.Cube.{Cube, CubeState, IsCube, Wish, node_numbers, state_after_trace, IsNext, IsAloneFrom}
use Rattle.ce_model.specs.Sound.{IsSound}
use Rattle.ce_model.specs.Order.{bytes_between, bytes_handed, IsInOrder}
use Rattle.ce_model.proofs.Walked.{kept_by_each, each_of_front}
use Rattle.ce_model.proofs.AloneByEntries.{entries_of_alone}
use Rattle.ce_model.proofs.OneMore.{taken_for}
use Rattle.ce_solo.proofs.Words.{HasMadeCall}
use Rattle.ce_solo.proofs.Sending.{host_past}
use Rattle.ce_solo.proofs.Entries.{cube_node_after, state_after, entry_in}
use Rattle.ce_solo.proofs.Made.{IsMadeCall, by_host, by_node, made-leaves}
use Rattle.ce_solo.proofs.Stands.{taken_result-of, no_take, IsSoundTrace, IsEntryOf, entry_of-next, stands-made, stands-nil}
use Rattle.ce_solo.proofs.Stopped.{is_receiver_stopped, own-stays, is_receiver_stopped-stays}
use Rattle.ce_solo.proofs.InOrder.{AreRisingIds, HasPassed, order-nil, order-entry}
use Rattle.ce_solo.proofs.Passing.{unnamed, host-takes, node-takes}

module _ (cube : Cube) (s : CubeState) (of : IsCube cube) (sound : IsSound cube s) (from to : Place) where
  -- what the receiver's own entry does to the bytes between the two
  abbrev IsPassed : Call → TakeResult → Type 0
  IsPassed call given =
      HasPassed (bytes_handed from to (s.standing.node_record to.node).waiting_items (entry_in cube s to.node call)) (bytes_between from to (s.standing.node_record to.node).waiting_items)
      (bytes_between from to (unnamed given (s.standing.node_record to.node).waiting_items)) (is_receiver_stopped cube s to) (is_receiver_stopped cube (state_after cube s (entry_in cube s to.node call)) to)

  -- the host does not stop
  host_here : to.node ≡ HOST → is_receiver_stopped cube s to ≡ false
  host_here e = and_left _ _ (le-ltb to.node (2 ^ cube.dim) (omega (arith, e, host_past cube of)))

  -- who has stopped by now has stopped behind the entry
  stops-later : (call : Call) → to.node < 2 ^ cube.dim → HasMadeCall (s.node to.node) (says (s.node to.node)).node call → is_stopped (process_at (says (s.node to.node)).node to.pid).status ≡ true
      → is_receiver_stopped cube (state_after cube s (entry_in cube s to.node call)) to ≡ true
  stops-later call below said h =
      and_from _ _ (lt-ltb to.node (2 ^ cube.dim) below)
      (subst (λ b. is_stopped (process_at (cube_node_after b cube s to.node (entry_in cube s to.node call)) to.pid).status ≡ true) (sym (eq-eqb to.node to.node refl))
      (own-stays cube s to.node of below sound call said to.pid h))

  passed-own : (wish : Option Wish) (call : Call) (given : TakeResult) → IsMadeCall cube s to.node wish call → taken_result (answer (node_numbers cube.dim) s.standing to.node call) ≡ Some given → IsPassed call given
  unfolding answer
  passed-own wish (take_call asking dead poller) given (by_host is e) t = absurd (no_take cube s wish (take_call asking dead poller) refl e)
  passed-own wish (take_call asking dead poller) given (by_node below e) t =
      let said = made-leaves cube s to.node (take_call asking dead poller) of below sound e in
      node-takes cube s of sound from to below asking dead poller said given (is_receiver_stopped cube (state_after cube s (entry_in cube s to.node (take_call asking dead poller))) to) t
      (stops-later (take_call asking dead poller) below said)
  passed-own wish (send_call pid targets bytes) given m t = absurd (cc)
  passed-own wish (spawn_call pid image place) given m t = absurd (cc)
  passed-own wish (kill_call pid place) given m t = absurd (cc)
  passed-own wish (note_call pid word) given m t = absurd (cc)
  passed-own wish (arm_call count) given m t = absurd (cc)
  passed-own wish look_call given m t = absurd (cc)
  passed-own wish mail_call given (by_host is e) t =
      host-takes cube s from to given sound is t (host_here is) (is_receiver_stopped cube (state_after cube s (entry_in cube s to.node mail_call)) to) cube.user
  passed-own wish mail_call given (by_node below e) t = absurd (made-leaves cube s to.node mail_call of below sound e).of_node

  pub passed-by : (actor : ℕ) (wish : Option Wish) (call : Call) (given : TakeResult) → IsMadeCall cube s actor wish call → taken_for to.node (entry_in cube s actor call) ≡ Some given
      → HasPassed (bytes_handed from to (s.standing.node_record to.node).waiting_items (entry_in cube s actor call)) (bytes_between from to (s.standing.node_record to.node).waiting_items)
      (bytes_between from to (unnamed given (s.standing.node_record to.node).waiting_items)) (is_receiver_stopped cube s to) (is_receiver_stopped cube (state_after cube s (entry_in cube s actor call)) to)
  passed-by actor wish call given m t =
      let parts = taken_result-of actor to.node (taken_result (entry_in cube s actor call).what) given t in
      let same = eqb-true actor to.node parts.0 in
      subst (λ actor. IsMadeCall cube s actor wish call → taken_result (answer (node_numbers cube.dim) s.standing actor call) ≡ Some given
      → HasPassed (bytes_handed from to (s.standing.node_record to.node).waiting_items (entry_in cube s actor call)) (bytes_between from to (s.standing.node_record to.node).waiting_items)
      (bytes_between from to (unnamed given (s.standing.node_record to.node).waiting_items)) (is_receiver_stopped cube s to) (is_receiver_stopped cube (state_after cube s (entry_in cube s actor call)) to))
      (sym same) (passed-own wish call given) m parts.1

order-made : (cube : Cube) (o : CubeState) (from to : Place) (t : List Entry) (entry : Entry) → IsCube cube → IsSoundTrace cube o t → IsEntryOf cube (state_after_trace cube o t) entry
    → AreRisingIds cube o from to t → AreRisingIds cube o from to (t ++ entry ∷ [])
order-made cube o from to t entry of stands e is =
    let s = state_after_trace cube o t in
    let made_entry : IsEntryOf cube s (entry_in cube s e.actor e.call) = record { actor = e.actor; wish = e.wish; call = e.call; by = e.by; is = refl } in
    subst (λ entry. AreRisingIds cube o from to (t ++ entry ∷ [])) (sym e.is)
    (order-entry cube o from to t of stands e.actor e.call made_entry (taken_for to.node (entry_in cube s e.actor e.call)) refl
    (λ given one. passed-by cube s of stands.sound from to e.actor e.wish e.call given e.by one)
    (is_receiver_stopped-stays cube s e.actor e.wish e.call to of stands.sound e.by) is)

-- a trace that stands, and is in order between two places
record IsSoundInOrder (cube : Cube) (o : CubeState) (from to : Place) (t : List Entry) : Type 0 where
  stands : IsSoundTrace cube o t
  order : AreRisingIds cube o from to t

pub in_order : (cube : Cube) (o : CubeState) (t : List Entry) → IsCube cube → IsSound cube o → IsAloneFrom cube o t → IsInOrder o.standing t
in_order cube o t of sound alone front is from to =
    let each = each_of_front (IsNext cube o) [] front is.0 (subst (EachAfter (IsNext cube o) []) (sym is.1) (entries_of_alone cube o t alone)) in
    (kept_by_each (IsNext cube o) (IsSoundInOrder cube o from to)
    (λ before entry now next.
    let e = entry_of-next cube o before entry next in
    record { stands = stands-made cube o before entry of now.stands e; order = order-made cube o from to before entry of now.stands e now.order })
    [] front (record { stands = stands-nil cube o sound; order = order-nil cube o from to }) each).order.front
