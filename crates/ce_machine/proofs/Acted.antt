-- What each call that fits makes of the machine, where its user holds a cube: of what is kept for
-- each node, and of the cube.
use Rattle.std.proofs.Common.{◌≡◌, ℕ, ◌+◌, ◌^◌, ◌<◌, true, false, ◌==◌, if◌then◌else◌, List, [], ◌∷◌, find, Option, Some, None, refl, ap, sym, ◌∙◌}
use Rattle.std.specs.List.{list_all}
use Rattle.std.proofs.lemmas.Bool.{both_ways, eq-eqb, ne_eqb, eqb-true}
use Rattle.ce_model.specs.declared.topology.TheConstants.{HOST}
use Rattle.ce_model.specs.declared.topology.Place.{Place}
use Rattle.ce_model.specs.declared.entry.Entry.{Entry}
use Rattle.ce_model.specs.declared.entry.What.{What}
use Rattle.ce_model.specs.declared.entry.What.TheVariants.{Arm, Look, HostTake, Note, Take}
use Rattle.ce_model.specs.declared.entry.LookResult.{LookResult}
use Rattle.ce_model.specs.declared.entry.TakeResult.{TakeResult}
use Rattle.ce_model.specs.Limits.{process_count}
use Rattle.ce_model.specs.Parcels.{Parcel, Item, mail, is_eligible}
use Rattle.ce_model.specs.Node.{Call, take_call, note_call, arm_call, look_call, mail_call, is_place}
use Rattle.ce_model.specs.Trace.{NodeRecord, taken_result, is_work, is_idle}
use Rattle.ce_model.specs.Answers.{offer_of, look_result_where, is_quiet_node, first_number}
use Rattle.ce_model.specs.Subcubes.{node_of, is_inside}
use Rattle.ce_model.specs.Machine.{MachineParts, IsMachine, HeldCube, MachineState, cube_held_by, nodes_of, without_taken_item, record_after_entry, cube_after_entry, after, IsCallOf, IsLawful}
use Rattle.ce_solo.proofs.Sending.{place_parts}
use Rattle.ce_solo.proofs.Projection.Numbers.{IsPlaced, out_no_host, inside_no_host}
use Rattle.ce_model.specs.Literals.{entry_of}
use Rattle.ce_machine.specs.declared.order.Order.{Order}
use Rattle.ce_machine.specs.declared.order.Order.TheVariants.{Spawn, Kill}
use Rattle.ce_machine.specs.Orders.{call_of_order, what_of_order, with_order}
use Rattle.ce_machine.proofs.Changes.{next_state}
use Rattle.ce_machine.proofs.Called.{HasPlacesOf, placed-now, call-places, of-host, of-node}
use Rattle.ce_machine.proofs.Answered.{place_of, answer_to, take-answer, order-answer, note-answer, arm-answer, look-answer, mail-answer}
use Rattle.ce_machine.proofs.CallEffects.{with_call_mark, note-record, order-here, order-away, take-own, take-other, arm-record, look-record, take_mail-record, note-cube, arm-cube, look-cube, order-cube, take-cube, no_mail-cube, mail-cube, call-each, call-cube}

-- an order names a place
place_of_order : (d : ℕ) (order : Order) (pid : ℕ) (to : Place) → HasPlacesOf d (call_of_order order pid to) → is_place d to ≡ true
place_of_order d (Spawn image) pid to is = is
place_of_order d Kill pid to is = is

module _ (parts : MachineParts) (machine : IsMachine parts) (h : List Entry) (lawful : IsLawful parts h) (user : ℕ) (cube : HeldCube) (holds : cube_held_by (after h) user ≡ Some cube)
    (actor : ℕ) where
  -- the state once the actor has made this entry, and what was kept before
  abbrev now : What → MachineState
  now what = next_state h (entry_of user actor what)

  abbrev was : ℕ → NodeRecord
  was node = (after h).node_record node

  abbrev answered_as : Call → What
  answered_as call = answer_to (after h) cube actor call

  module _ (call : Call) (fits : IsCallOf parts h actor call cube) where
    placed : IsPlaced parts.dim cube.grant
    placed = placed-now parts machine h lawful user cube holds

    -- who makes it
    by_host : ((actor == HOST) ≡ true) → (node : ℕ) → (node == HOST) ≡ false → (actor == node) ≡ false
    by_host host node no_host = ne_eqb actor node (λ e. both_ways _ no_host (eq-eqb node HOST (sym e ∙ eqb-true actor HOST host)))

    no_host_by : is_inside cube.grant.sub actor ≡ true → (actor == HOST) ≡ false
    no_host_by inside = inside_no_host parts.dim cube.grant placed actor inside

    each : (what : What) → answered_as call ≡ what → (node : ℕ) → (node == HOST) ≡ false → (now what).node_record node ≡ record_after_entry cube.grant.sub (entry_of user actor what) node (was node)
    each what e node no_host = call-each parts machine h lawful user cube holds actor call fits what e node no_host

    whole : (what : What) → answered_as call ≡ what → cube_held_by (now what) user ≡ Some (cube_after_entry (entry_of user actor what) cube)
    whole what e = call-cube parts machine h lawful user cube holds actor call fits what e

  -- ---- notes

  pub noted-each : (pid word : ℕ) → IsCallOf parts h actor (note_call pid word) cube → (node : ℕ) → (node == HOST) ≡ false
      → (next_state h (entry_of user actor (Note pid word))).node_record node ≡ with_call_mark actor node ((after h).node_record node)
  noted-each pid word fits node no_host =
      each (note_call pid word) fits (Note pid word) (note-answer (after h) cube actor pid word) node no_host ∙ note-record cube.grant.sub user actor node (was node) pid word

  pub noted-cube : (pid word : ℕ) → IsCallOf parts h actor (note_call pid word) cube → cube_held_by (next_state h (entry_of user actor (Note pid word))) user ≡ Some cube
  noted-cube pid word fits = whole (note_call pid word) fits (Note pid word) (note-answer (after h) cube actor pid word) ∙ ap Some (note-cube user actor cube pid word)

  -- ---- what a host asks

  pub armed-each : (count : ℕ) → IsCallOf parts h actor (arm_call count) cube → (node : ℕ) → (node == HOST) ≡ false
      → (next_state h (entry_of user actor (Arm count))).node_record node ≡ (after h).node_record node
  armed-each count fits node no_host =
      each (arm_call count) fits (Arm count) (arm-answer (after h) cube actor count) node no_host
      ∙ arm-record cube.grant.sub user actor node (was node) (by_host (arm_call count) fits (of-host parts machine h lawful user cube holds actor (arm_call count) fits (λ none. none)) node no_host) count

  pub armed-cube : (count : ℕ) → IsCallOf parts h actor (arm_call count) cube
      → cube_held_by (next_state h (entry_of user actor (Arm count))) user ≡ Some (record cube { allowed_dispatches = count; made_dispatches = 0 })
  armed-cube count fits = whole (arm_call count) fits (Arm count) (arm-answer (after h) cube actor count) ∙ ap Some (arm-cube user actor cube count)

  module _ (fits : IsCallOf parts h actor look_call cube) where
    -- what a look finds
    abbrev pub found : LookResult
    found = look_result_where (list_all (λ node. is_quiet_node ((after h).node_record node)) (nodes_of cube.grant)) (cube.made_dispatches == cube.allowed_dispatches)

    pub looked : answer_to (after h) cube actor look_call ≡ Look found
    looked = look-answer (after h) cube actor parts.dim (placed look_call fits)

    pub looked-each : (node : ℕ) → (node == HOST) ≡ false → (next_state h (entry_of user actor (Look found))).node_record node ≡ (after h).node_record node
    looked-each node no_host =
        each look_call fits (Look found) looked node no_host
        ∙ look-record cube.grant.sub user actor node (was node) (by_host look_call fits (of-host parts machine h lawful user cube holds actor look_call fits (λ none. none)) node no_host) found

    pub looked-cube : cube_held_by (next_state h (entry_of user actor (Look found))) user ≡ Some cube
    looked-cube = whole look_call fits (Look found) looked ∙ ap Some (look-cube user actor cube found)

  module _ (fits : IsCallOf parts h actor mail_call cube) where
    is_host : (actor == HOST) ≡ true
    is_host = of-host parts machine h lawful user cube holds actor mail_call fits (λ none. none)

    mail-each : (number : Option ℕ) → answered_as mail_call ≡ HostTake number → (node : ℕ) → (node == HOST) ≡ false
        → (now (HostTake number)).node_record node ≡ was node
    mail-each number e node no_host =
        each mail_call fits (HostTake number) e node no_host
        ∙ take_mail-record cube.grant.sub user actor node (was node) (by_host mail_call fits is_host node no_host) number

    -- no message waits
    module _ (none : cube.mail ≡ []) where
      pub no_mail : answer_to (after h) cube actor mail_call ≡ HostTake None
      no_mail = mail-answer (after h) cube actor is_host ∙ ap (λ items. HostTake (first_number items)) none

      pub no_mail-each : (node : ℕ) → (node == HOST) ≡ false → (next_state h (entry_of user actor (HostTake None))).node_record node ≡ (after h).node_record node
      no_mail-each node no_host = mail-each None no_mail node no_host

      pub no_mail-held : cube_held_by (next_state h (entry_of user actor (HostTake None))) user ≡ Some cube
      no_mail-held = whole mail_call fits (HostTake None) no_mail ∙ ap Some (no_mail-cube user actor cube)

    -- the first that waits is taken
    module _ (parcel : Parcel) (rest : List Item) (first : cube.mail ≡ mail parcel ∷ rest) where
      pub mail_taken : answer_to (after h) cube actor mail_call ≡ HostTake (Some parcel.number)
      mail_taken = mail-answer (after h) cube actor is_host ∙ ap (λ items. HostTake (first_number items)) first

      pub mail_taken-each : (node : ℕ) → (node == HOST) ≡ false
          → (next_state h (entry_of user actor (HostTake (Some parcel.number)))).node_record node ≡ (after h).node_record node
      mail_taken-each node no_host = mail-each (Some parcel.number) mail_taken node no_host

      pub mail_taken-cube : cube_held_by (next_state h (entry_of user actor (HostTake (Some parcel.number)))) user ≡ Some (record cube { mail = rest })
      mail_taken-cube = whole mail_call fits (HostTake (Some parcel.number)) mail_taken ∙ ap Some (mail-cube user actor cube parcel rest is_host first)

  -- ---- orders: what is kept for the node of the process, and for each other

  module _ (order : Order) (pid : ℕ) (to : Place) (fits : IsCallOf parts h actor (call_of_order order pid to) cube) where
    abbrev order_at : ℕ
    order_at = node_of cube.grant.sub to.node

    abbrev order_made : What
    order_made = what_of_order order pid (place_of cube to) (was order_at)

    at_no_host : (order_at == HOST) ≡ false
    at_no_host = out_no_host parts.dim cube.grant (placed (call_of_order order pid to) fits) to.node

    pub order-place : (to.node < 2 ^ cube.grant.dim) × (to.pid < process_count)
    order-place = place_parts cube.grant.dim to (place_of_order cube.grant.dim order pid to (call-places parts machine h lawful user cube holds actor (call_of_order order pid to) fits))

    pub ordered-as : answer_to (after h) cube actor (call_of_order order pid to) ≡ what_of_order order pid (place_of cube to) ((after h).node_record (node_of cube.grant.sub to.node))
    ordered-as = order-answer (after h) cube actor parts.dim (placed (call_of_order order pid to) fits) order pid to order-place.0

    pub ordered-here : let node = node_of cube.grant.sub to.node in
        (next_state h (entry_of user actor (what_of_order order pid (place_of cube to) ((after h).node_record node)))).node_record node
        ≡ with_call_mark actor node (with_order order to.pid ((after h).node_record node))
    ordered-here =
        each (call_of_order order pid to) fits order_made ordered-as order_at at_no_host
        ∙ order-here cube.grant.sub user actor order_at (was order_at) order pid (place_of cube to) (eq-eqb order_at order_at refl)

    pub ordered-away : (node : ℕ) → (node == HOST) ≡ false → (node_of cube.grant.sub to.node == node) ≡ false
        → (next_state h (entry_of user actor (what_of_order order pid (place_of cube to) ((after h).node_record (node_of cube.grant.sub to.node))))).node_record node
        ≡ with_call_mark actor node ((after h).node_record node)
    ordered-away node no_host away =
        each (call_of_order order pid to) fits order_made ordered-as node no_host
        ∙ order-away cube.grant.sub user actor node (was node) order pid (place_of cube to) (was order_at) away

    pub ordered-cube : cube_held_by (next_state h (entry_of user actor (what_of_order order pid (place_of cube to) ((after h).node_record (node_of cube.grant.sub to.node))))) user ≡ Some cube
    ordered-cube =
        whole (call_of_order order pid to) fits order_made ordered-as
        ∙ ap Some (order-cube user actor cube order pid (place_of cube to) (was order_at) at_no_host)

  -- ---- takes

  module _ (asking dead : ℕ) (poller : Option ℕ) (fits : IsCallOf parts h actor (take_call asking dead poller) cube) where
    abbrev call : Call
    call = take_call asking dead poller

    -- a node takes, and it isn't the host
    pub taker : is_inside cube.grant.sub actor ≡ true
    taker = of-node parts machine h lawful user cube holds actor call fits (λ none. none)

    no_host : (actor == HOST) ≡ false
    no_host = no_host_by call fits taker

    module _ (given : TakeResult) (e : offer_of (find (is_eligible asking dead) ((after h).node_record actor).waiting_items) poller (cube.made_dispatches == cube.allowed_dispatches) ≡ given) where
      pub took-as : answer_to (after h) cube actor (take_call asking dead poller) ≡ Take asking dead poller given
      took-as = take-answer (after h) cube actor asking dead poller no_host ∙ ap (Take asking dead poller) e

      pub took-own : let node_record = (after h).node_record actor in (next_state h (entry_of user actor (Take asking dead poller given))).node_record actor
          ≡ record node_record { waiting_items = without_taken_item (taken_result (Take asking dead poller given)) node_record.waiting_items; mark = record { is_idle = is_idle given; asking = asking; dead = dead } }
      took-own =
          each call fits (Take asking dead poller given) took-as actor no_host
          ∙ take-own cube.grant.sub user actor actor (was actor) asking dead poller given (eq-eqb actor actor refl)

      pub took-other : (node : ℕ) → (node == HOST) ≡ false → (actor == node) ≡ false
          → (next_state h (entry_of user actor (Take asking dead poller given))).node_record node ≡ (after h).node_record node
      took-other node apart other =
          each call fits (Take asking dead poller given) took-as node apart ∙ take-other cube.grant.sub user actor node (was node) other asking dead poller given

      pub took-cube : cube_held_by (next_state h (entry_of user actor (Take asking dead poller given))) user
          ≡ Some (record cube { made_dispatches = if is_work given then cube.made_dispatches + 1 else cube.made_dispatches })
      took-cube = whole call fits (Take asking dead poller given) took-as ∙ ap Some (take-cube user actor cube asking dead poller given no_host)
