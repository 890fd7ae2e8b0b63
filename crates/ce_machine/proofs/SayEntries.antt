-- What nodes and hosts say, answered.
use Rattle.std.proofs.Common.{◌≡◌, ◌⊎◌, ℕ, ◌+◌, ◌^◌, ◌<◌, Bool, true, false, ◌==◌, if◌then◌else◌, List, [], ◌∷◌, ◌++◌, length, find, get_or, set, Option, Some, None, IsTrue, refl, ap, ap₂, sym, ◌∙◌, subst, arith, inl, inr}
use Rattle.std.proofs.lemmas.Bool.{cond_both, cases_Bool, eqb-true, eq-eqb}
use Rattle.std.proofs.lemmas.List.{get_or-set_same, get_or-set_other, length-set, length-append}
use Rattle.ce_model.specs.declared.topology.TheConstants.{HOST}
use Rattle.ce_model.specs.declared.topology.Place.{Place}
use Rattle.ce_model.specs.declared.entry.Entry.{Entry}
use Rattle.ce_model.specs.declared.entry.What.{What}
use Rattle.ce_model.specs.declared.entry.What.TheVariants as whats
use Rattle.ce_model.specs.declared.entry.TakeResult.{TakeResult}
use Rattle.ce_model.specs.declared.entry.KillResult.TheVariants.{Killed}
use Rattle.ce_model.specs.Limits.{process_count, node_room_lem}
use Rattle.ce_model.specs.Lists.{without_first}
use Rattle.ce_model.specs.Parcels as model
use Rattle.ce_model.specs.Parcels.{is_eligible, is_named_by, take_result_of}
use Rattle.ce_model.specs.Cube.{parcel_numbered}
use Rattle.ce_model.specs.Node as model_node
use Rattle.ce_model.specs.Node.{take_call, note_call}
use Rattle.ce_model.specs.Trace.{Mark, NodeRecord, blank_record, taken_result, is_work, is_idle}
use Rattle.ce_model.specs.Answers.{recorded_call, offer_of}
use Rattle.ce_model.specs.Subcubes.{node_of, is_inside}
use Rattle.ce_model.specs.Renaming.{place_outward}
use Rattle.ce_model.specs.Machine.{MachineParts, MachineState, HeldCube, host_record, cube_held_by, after, what_of_request, without_taken_item, IsCallOf}
use Rattle.ce_solo.proofs.Projection.Numbers.{inside_no_host, out_node}
use Rattle.ce_model.specs.Literals.{entry_of}
use Rattle.ce_lock.specs.declared.who.Who.{Who}
use Rattle.ce_daemon.specs.declared.grant.Grant.{Grant}
use Rattle.ce_daemon.specs.Holding as daemon
use Rattle.rk_mail.specs.declared.parcel.Parcel.{Parcel}
use Rattle.rk_mail.specs.Items.{parcel_of}
use Rattle.rk_mail.specs.declared.talk.Hearing.{Hearing}
use Rattle.rk_mail.specs.declared.talk.Say.TheVariants as say
use Rattle.rk_mail.specs.declared.talk.Hearing.TheVariants as hearings
use Rattle.rk_mail.specs.Talk.{is_take_hearing, IsHearingOfTake, IsHearingOfEntry}
use Rattle.ce_machine.specs.declared.call.Call.{Call}
use Rattle.ce_machine.specs.declared.call.Call.TheVariants as calls
use Rattle.ce_machine.specs.declared.call.Reply.{Reply}
use Rattle.ce_machine.specs.declared.call.Reply.TheVariants as replies
use Rattle.ce_machine.specs.declared.order.Order.{Order}
use Rattle.ce_machine.specs.declared.order.Order.TheVariants as orders
use Rattle.ce_machine.specs.Requests.{request_of, IsFittingCall}
use Rattle.ce_machine.specs.Replies.{IsReplyTo, IsHearingReply, OfHeldCube, actor_items}
use Rattle.ce_machine.specs.Tables.{HostRecord, cube_host, desk_at, host_at}
use Rattle.ce_machine.specs.Desks.{AreChanged, change_at_node, with_busy_mark, with_start, with_kill}
use Rattle.ce_machine.specs.Orders.{say_of_order, call_of_order, what_of_order, hearing_of_order, with_order, HasOrderRoom}
use Rattle.ce_machine.specs.Gives.{hearing_item, result_of_hearing, chosen_item, items_left}
use Rattle.ce_machine.proofs.Changes.{next_state}
use Rattle.ce_machine.proofs.QueueRoom.{queue_room_lem, IsSmallRecord, node-limits}
use Rattle.ce_machine.proofs.Answered.{place_of, call-answered, note-answer}
use Rattle.ce_machine.proofs.CallEffects as effects
use Rattle.ce_machine.proofs.Taking.{taken-first, taken-parcel}
use Rattle.ce_machine.proofs.Acted as acted
use Rattle.ce_machine.proofs.Holdings.{grant_held, placed-node}
use Rattle.ce_machine.proofs.Firsts.{none-left}
use Rattle.ce_machine.proofs.Entries.{SoundMachine, IsIn, is-in, if-held, host-same, host-set, host-read, host-held, desk-read, differs, user-below, inside-below, placed, grant-is, desks-changed, tables-call, more-lawful, HasMadeEntry, done-with}

-- a node that is busy, told in two ways
busy-same : (actor node : ℕ) (node_record : NodeRecord) → effects.with_call_mark actor node node_record ≡ change_at_node actor with_busy_mark node node_record
busy-same actor node node_record =
    cond_both (actor == node) (with_busy_mark node_record) node_record (λ now. effects.with_call_mark actor node node_record ≡ now) (λ t. rw t refl) (λ f. rw f refl)

-- one change behind another
pub chained : (a b c : List NodeRecord) (f g : ℕ → NodeRecord → NodeRecord) → AreChanged a b f → AreChanged b c g → AreChanged a c (λ node node_record. g node (f node node_record))
chained a b c f g first second = record {
  count = second.count ∙ first.count;
  each = λ node below. second.each node (omega (arith, first.count)) ∙ ap (g node) (first.each node below);
}

-- as many desks as before
pub still-actor : (a b : List NodeRecord) (f : ℕ → NodeRecord → NodeRecord) (actor : ℕ) → AreChanged a b f → (actor ≡ HOST) ⊎ (actor < length a) → (actor ≡ HOST) ⊎ (actor < length b)
still-actor a b f actor changed (inl host) = inl host
still-actor a b f actor changed (inr below) = inr (omega (arith, changed.count))

-- a place has a desk, and is a process's
pub record HasDesk (desks : List NodeRecord) (at : Place) : Type 0 where
  pub node : at.node < length desks
  pub process : at.pid < process_count

-- ---- what a node that asks for work is given

given_one : (asking dead : ℕ) (poller : Option ℕ) (item : model.Item) (items : List model.Item)
    → without_taken_item (taken_result (whats.Take asking dead poller (take_result_of item))) items ≡ without_first (is_named_by (take_result_of item)) items
given_one asking dead poller (model.start pid image) items = refl
given_one asking dead poller (model.mail parcel) items = refl
given_one asking dead poller (model.kill pid) items = refl

take-left : (asking dead : ℕ) (poller : Option ℕ) (is_used_up : Bool) (items : List model.Item) (found : Option model.Item) → find (is_eligible asking dead) items ≡ found
    → ((item : model.Item) → found ≡ Some item → without_first (is_named_by (take_result_of item)) items ≡ without_first (is_eligible asking dead) items)
    → without_taken_item (taken_result (whats.Take asking dead poller (offer_of found poller is_used_up))) items ≡ items_left is_used_up asking dead items
take-left asking dead poller true items (Some item) e first = refl
take-left asking dead poller false items (Some item) e first = given_one asking dead poller item items ∙ first item refl
take-left asking dead (Some pid) true items None e first = refl
take-left asking dead (Some pid) false items None e first = sym (none-left (is_eligible asking dead) items e)
take-left asking dead None true items None e first = refl
take-left asking dead None false items None e first = sym (none-left (is_eligible asking dead) items e)

given-heard : (items : List model.Item) (h : Hearing) → IsTrue (is_take_hearing h)
    → ((parcel : Parcel) → hearing_item h ≡ Some (model.mail (parcel_of parcel)) → parcel_numbered parcel.number items ≡ Some (parcel_of parcel)) → IsHearingOfTake items (result_of_hearing h) h
given-heard items (hearings.Start pid image) kind at = refl
given-heard items (hearings.Mail parcel) kind at = (parcel, refl, at parcel refl)
given-heard items (hearings.Kill pid) kind at = refl
given-heard items (hearings.Poll pid) kind at = refl
given-heard items hearings.Idle kind at = refl
given-heard items hearings.Spent kind at = refl
given-heard items (hearings.Posted batch) kind at = absurd (cc)
given-heard items hearings.Spawned kind at = absurd (cc)
given-heard items hearings.Used kind at = absurd (cc)
given-heard items hearings.Killed kind at = absurd (cc)
given-heard items hearings.Unused kind at = absurd (cc)
given-heard items hearings.Already kind at = absurd (cc)
given-heard items hearings.Noted kind at = absurd (cc)

found_item : (is_used_up : Bool) (asking dead : ℕ) (items : List model.Item) (item : model.Item) → chosen_item is_used_up asking dead items ≡ Some item → find (is_eligible asking dead) items ≡ Some item
found_item true asking dead items item e = absurd (cc)
found_item false asking dead items item e = e

-- an answer with work is none where the allowed dispatches are used up
pub no_work : (found : Option model.Item) (poller : Option ℕ) (is_used_up : Bool) → is_work (offer_of found poller is_used_up) ≡ true → is_used_up ≡ false
no_work (Some item) poller true e = absurd (cc)
no_work None (Some pid) true e = absurd (cc)
no_work None None true e = absurd (cc)
no_work found poller false e = refl

-- ---- an order's call, its reply, and its room

order-recorded : (order : Order) (pid : ℕ) (at : Place) (node_record : NodeRecord) → recorded_call (what_of_order order pid at node_record) ≡ Some (call_of_order order pid at)
order-recorded (orders.Spawn image) pid at node_record = refl
order-recorded orders.Kill pid at node_record = refl

order-heard : (items : List model.Item) (order : Order) (pid : ℕ) (at : Place) (node_record : NodeRecord) (hearing : Hearing) → hearing ≡ hearing_of_order order at.pid node_record
    → IsHearingOfEntry items (what_of_order order pid at node_record) hearing
order-heard items (orders.Spawn image) pid at node_record hearing is = is
order-heard items orders.Kill pid at node_record hearing is = is

order-reply : {N : Type 0} (home : N → ℕ) (clean : N → Type 0) (parts : MachineParts) (state : MachineState) (user actor : ℕ) (order : Order) (pid : ℕ) (at : Place) (node_record : NodeRecord)
    (reply : Reply N) → OfHeldCube state user (λ cube. IsHearingReply (actor_items state cube actor) (what_of_order order pid at node_record) reply)
    → IsReplyTo home clean parts state user actor (what_of_order order pid at node_record) reply
order-reply home clean parts state user actor (orders.Spawn image) pid at node_record reply is = is
order-reply home clean parts state user actor orders.Kill pid at node_record reply is = is

-- what is kept once the order is given keeps its limits, so there was room for it
order-small : (actor node : ℕ) (order : Order) (pid : ℕ) (node_record : NodeRecord) → IsSmallRecord (effects.with_call_mark actor node (with_order order pid node_record)) → HasOrderRoom order pid node_record
order-small actor node (orders.Spawn image) pid node_record small =
    λ fresh. let is : with_order (orders.Spawn image) pid node_record ≡ with_start pid image node_record = ap (λ fresh. if fresh then with_start pid image node_record else node_record) fresh in (
      omega (arith, small.waiting, ap (λ (node_record : NodeRecord). length node_record.waiting_items) is, length-append node_record.waiting_items (model.start pid image ∷ []), queue_room_lem, node_room_lem),
      omega (arith, small.spawned, ap (λ (node_record : NodeRecord). length node_record.spawned_ids) is, length-append node_record.spawned_ids (pid ∷ [])),
    )
order-small actor node orders.Kill pid node_record small =
    λ found. let is : with_order orders.Kill pid node_record ≡ with_kill Killed pid node_record = ap (λ found. with_kill found pid node_record) found in (
      omega (arith, small.waiting, ap (λ (node_record : NodeRecord). length node_record.waiting_items) is, length-append node_record.waiting_items (model.kill pid ∷ []), queue_room_lem, node_room_lem),
      omega (arith, small.killed, ap (λ (node_record : NodeRecord). length node_record.killed_ids) is, length-append node_record.killed_ids (pid ∷ [])),
    )

module _ (m : SoundMachine) (who : Who) where
  open m use {parts, history as h, table, desks, hosts, sound, few}
  open who use {family as user, actor}

  abbrev now : What → MachineState
  now what = next_state h (entry_of who.family who.actor what)

  -- the caller is busy, and the desk of a node changes
  changed_at : (what : What) (n : ℕ) (change : NodeRecord → NodeRecord) → (now what).node_record n ≡ effects.with_call_mark who.actor n (change ((after h).node_record n))
      → ((node : ℕ) → (node == HOST) ≡ false → (n == node) ≡ false → (now what).node_record node ≡ effects.with_call_mark who.actor node ((after h).node_record node))
      → (node : ℕ) → (node == HOST) ≡ false
      → (now what).node_record node ≡ change_at_node who.actor with_busy_mark node (change_at_node n change node ((after h).node_record node))
  changed_at what n change here away node apart =
      elim (cases_Bool (n == node)) [
        | inl same ↦
            let own : change ((after h).node_record n) ≡ change_at_node n change n ((after h).node_record n) = rw (eq-eqb n n refl) refl in
            subst (λ k. (now what).node_record k ≡ change_at_node actor with_busy_mark k (change_at_node n change k ((after h).node_record k))) (eqb-true n node same)
            (here ∙ busy-same actor n (change ((after h).node_record n)) ∙ ap (change_at_node actor with_busy_mark n) own)
        | inr differ ↦
            away node apart differ ∙ busy-same actor node ((after h).node_record node)
            ∙ ap (change_at_node actor with_busy_mark node) (sym (rw differ refl))
      ]

  -- a place of the user's cube
  module _ (cube : HeldCube) (holds : cube_held_by (after h) who.family ≡ Some cube) (to : Place) (is_in : (to.node < 2 ^ cube.grant.dim) × (to.pid < process_count)) where
    kept_at : desk_at desks (node_of cube.grant.sub to.node) ≡ (after h).node_record (node_of cube.grant.sub to.node)
    kept_at =
        sound.tables.desk_is (node_of cube.grant.sub to.node)
        (placed-node parts.dim cube.grant (placed m user cube holds) to.node)

    module _ (grant : Grant) (known : daemon.grant_held_by table who.family ≡ Some grant) where
      is_held : grant ≡ grant_held cube
      is_held = grant-is m user cube grant holds known

      pub number_below : to.node < 2 ^ grant.dim
      number_below = subst (λ (g : Grant). to.node < 2 ^ g.dim) (sym is_held) is_in.0

      -- by the machine's number for its node
      at_is : (at : Place) → at ≡ place_outward grant.sub to → at ≡ place_of cube to
      at_is at is =
          is ∙ ap (λ (g : Grant). place_outward g.sub to) is_held
          ∙ ap (λ node. record { node = node; pid = to.pid }) (out_node parts.dim cube.grant (placed m user cube holds) to.node is_in.0)

      pub has_desk : (at : Place) → at ≡ place_outward grant.sub to → HasDesk desks at
      has_desk at is =
          subst (HasDesk desks) (sym (at_is at is)) (record {
            node = omega (arith, sound.tables.desk_count, placed-node parts.dim cube.grant (placed m user cube holds) to.node);
            process = is_in.1;
          })

  module _ {N : Type 0} {home : N → ℕ} {clean : N → Type 0} where
    -- a call of a cube that leaves all hosts as they are
    stays : {h' : List Entry} {call : Call N} (reply : Reply N) (what : What) (made : model_node.Call) → recorded_call what ≡ Some made → IsFittingCall home clean parts h who call
        → what_of_request parts (after h) who.family who.actor (request_of call) ≡ Some what → (cube : HeldCube) → cube_held_by (after h) who.family ≡ Some cube
        → {desks' : List NodeRecord} (change : ℕ → NodeRecord → NodeRecord) → AreChanged desks desks' change
        → ((node : ℕ) → (node == HOST) ≡ false → (now what).node_record node ≡ change node ((after h).node_record node))
        → cube_held_by (now what) who.family ≡ Some cube → IsReplyTo home clean parts (after h) who.family who.actor what reply → h' ≡ h ++ entry_of who.family who.actor what ∷ []
        → HasMadeEntry home clean m h' table desks' hosts who call reply
    stays reply what made called fits answer cube holds {desks'} change changed each held reply_is is =
        done-with m who reply what fits answer reply_is is
        (tables-call m user actor what made called desks' hosts cube (host_at hosts user) changed.count
        (desks-changed m (now what) desks' change changed each) (host-same hosts user) held
        (host-held m user cube fits.fits.0 holds))

    pub noting : {pid word : ℕ} → IsFittingCall home clean parts h who (calls.Say (say.Note pid word)) → IsIn h who.family (IsCallOf parts h who.actor (note_call pid word))
    noting {pid} {word} fits = is-in h user (IsCallOf parts h actor (note_call pid word)) fits.fits.1

    pub noted : {h' : List Entry} {pid word : ℕ} {desks' : List NodeRecord} → IsFittingCall home clean parts h who (calls.Say (say.Note pid word)) → AreChanged desks desks' (change_at_node who.actor with_busy_mark)
        → h' ≡ h ++ entry_of who.family who.actor (whats.Note pid word) ∷ []
        → HasMadeEntry home clean m h' table desks' hosts who (calls.Say (say.Note pid word)) (replies.Heard hearings.Noted)
    noted {pid = pid} {word} fits changed is =
        let what = whats.Note pid word in
        let in_cube = noting fits in
        let each = acted.noted-each parts sound.machine h sound.lawful user in_cube.cube in_cube.holds actor pid word in_cube.is in
        stays (replies.Heard hearings.Noted) what (note_call pid word) refl fits
        (call-answered (after h) in_cube.cube actor parts user (note_call pid word) in_cube.holds ∙ ap Some (note-answer (after h) in_cube.cube actor pid word))
        in_cube.cube in_cube.holds (change_at_node who.actor with_busy_mark) changed (λ node apart. each node apart ∙ busy-same actor node ((after h).node_record node))
        (acted.noted-cube parts sound.machine h sound.lawful user in_cube.cube in_cube.holds actor pid word in_cube.is)
        (if-held (after h) user (λ cube. IsHearingReply {N = N} (actor_items (after h) cube actor) what (replies.Heard hearings.Noted)) in_cube.cube in_cube.holds refl) is

    -- ---- takes

    module _ {asking dead : ℕ} {poller : Option ℕ} (fits : IsFittingCall home clean parts h who (calls.Say (say.Take asking dead poller))) where
      pub taking : IsIn h who.family (IsCallOf parts h who.actor (take_call asking dead poller))
      taking = is-in h user (IsCallOf parts h actor (take_call asking dead poller)) fits.fits.1

      taker : is_inside taking.cube.grant.sub who.actor ≡ true
      taker = acted.taker parts sound.machine h sound.lawful user taking.cube taking.holds actor asking dead poller taking.is

      pub taker-below : who.actor < length desks
      taker-below = omega (arith, sound.tables.desk_count, inside-below m user taking.cube actor taking.holds taker)

      taker_no_host : (who.actor == HOST) ≡ false
      taker_no_host = inside_no_host parts.dim taking.cube.grant (placed m user taking.cube taking.holds) actor taker

      took : {h' : List Entry} (desk desk' : NodeRecord) (host host' : HostRecord) (hearing : Hearing) → desk ≡ get_or desks who.actor desk → host ≡ get_or hosts who.family host
          → result_of_hearing hearing ≡ offer_of (find (is_eligible asking dead) desk.waiting_items) poller (host.made_dispatches == host.allowed_dispatches)
          → hearing_item hearing ≡ chosen_item (host.made_dispatches == host.allowed_dispatches) asking dead desk.waiting_items → IsTrue (is_take_hearing hearing)
          → desk' ≡ record desk {
            waiting_items = items_left (host.made_dispatches == host.allowed_dispatches) asking dead desk.waiting_items;
            mark = record { is_idle = is_idle (result_of_hearing hearing); asking = asking; dead = dead };
          }
          → host' ≡ record host { made_dispatches = if is_work (result_of_hearing hearing) then host.made_dispatches + 1 else host.made_dispatches }
          → h' ≡ h ++ entry_of who.family who.actor (whats.Take asking dead poller (result_of_hearing hearing)) ∷ []
          → HasMadeEntry home clean m h' table (set desks who.actor desk') (set hosts who.family host') who (calls.Say (say.Take asking dead poller)) (replies.Heard hearing)
      took desk desk' host host' hearing read_desk read_host given item kind desk_changed host_changed is =
          let cube = taking.cube in
          let machine = sound.machine in
          let node_record : NodeRecord = (after h).node_record actor in
          let is_used_up : Bool = cube.made_dispatches == cube.allowed_dispatches in
          let what = whats.Take asking dead poller (result_of_hearing hearing) in
          let below = user-below m user fits.fits.0 in
          let desk_was : desk ≡ node_record = desk-read desks actor desk taker-below read_desk ∙ sound.tables.desk_is actor (omega (arith, taker-below, sound.tables.desk_count)) in
          let host_was : host ≡ cube_host (Some cube) = host-read hosts user host below read_host ∙ host-held m user cube fits.fits.0 taking.holds in
          let used_same : (host.made_dispatches == host.allowed_dispatches) ≡ is_used_up = ap (λ (host : HostRecord). host.made_dispatches == host.allowed_dispatches) host_was in
          let items_same : desk.waiting_items ≡ node_record.waiting_items = ap (λ (node_record : NodeRecord). node_record.waiting_items) desk_was in
          let offer : offer_of (find (is_eligible asking dead) node_record.waiting_items) poller is_used_up ≡ result_of_hearing hearing =
          sym (given ∙ ap₂ (λ items is_used_up. offer_of (find (is_eligible asking dead) items) poller is_used_up) items_same used_same) in
          let found : (item : model.Item) → hearing_item hearing ≡ Some item → find (is_eligible asking dead) node_record.waiting_items ≡ Some item =
          λ one e. found_item is_used_up asking dead node_record.waiting_items one (sym (item ∙ ap₂ (λ is_used_up items. chosen_item is_used_up asking dead items) used_same items_same) ∙ e) in
          let left : items_left is_used_up asking dead node_record.waiting_items ≡ without_taken_item (taken_result what) node_record.waiting_items =
          sym (take-left asking dead poller is_used_up node_record.waiting_items (find (is_eligible asking dead) node_record.waiting_items) refl
          (λ one e. taken-first parts machine h sound.lawful user cube taking.holds taking.is.not_drained actor taker asking dead one e))
          ∙ ap (λ given. without_taken_item (taken_result (whats.Take asking dead poller given)) node_record.waiting_items) offer in
          let mark : Mark = record { is_idle = is_idle (result_of_hearing hearing); asking = asking; dead = dead } in
          let own : desk' ≡ record node_record { waiting_items = without_taken_item (taken_result what) node_record.waiting_items; mark = mark } =
          desk_changed ∙ ap₂ (λ (desk : NodeRecord) (is_used_up : Bool). record desk { waiting_items = items_left is_used_up asking dead desk.waiting_items; mark = mark }) desk_was used_same
          ∙ (λ i. record node_record { waiting_items = left i; mark = mark }) in
          done-with m who (replies.Heard hearing) what fits
          (call-answered (after h) cube actor parts user (take_call asking dead poller) taking.holds
          ∙ ap Some (acted.took-as parts machine h sound.lawful user cube taking.holds actor asking dead poller taking.is (result_of_hearing hearing) offer))
          (if-held (after h) user (λ cube. IsHearingReply {N = N} (actor_items (after h) cube actor) what (replies.Heard hearing)) cube taking.holds
          (subst (λ (b : Bool). IsHearingOfTake (let node_record : NodeRecord = if b then host_record cube else (after h).node_record actor in node_record.waiting_items) (result_of_hearing hearing) hearing) (sym taker_no_host)
          (given-heard node_record.waiting_items hearing kind (λ parcel e. taken-parcel parts machine h sound.lawful user cube taking.holds taking.is.not_drained actor taker asking dead (parcel_of parcel) (found (model.mail (parcel_of parcel)) e)))))
          is
          (tables-call m user actor what (take_call asking dead poller) refl (set desks actor desk') (set hosts user host') _ host' (length-set desks actor desk')
          (λ node node_below apart. elim (cases_Bool (actor == node)) [
            | inl same ↦ subst (λ n. desk_at (set desks actor desk') n ≡ (now what).node_record n) (eqb-true actor node same)
                (get_or-set_same desks actor desk' blank_record taker-below ∙ own
                ∙ sym (acted.took-own parts machine h sound.lawful user cube taking.holds actor asking dead poller taking.is (result_of_hearing hearing) offer))
            | inr differ ↦ get_or-set_other desks actor node desk' blank_record (differs actor node differ) ∙ sound.tables.desk_is node node_below
                ∙ sym (acted.took-other parts machine h sound.lawful user cube taking.holds actor asking dead poller taking.is (result_of_hearing hearing) offer node apart differ)
          ])
          (host-set hosts user host' host' below refl)
          (acted.took-cube parts machine h sound.lawful user cube taking.holds actor asking dead poller taking.is (result_of_hearing hearing) offer)
          (host_changed ∙ ap (λ (host : HostRecord). record host { made_dispatches = if is_work (result_of_hearing hearing) then host.made_dispatches + 1 else host.made_dispatches }) host_was))

      -- the same, step by step
      pub took-by : {h' : List Entry} {desk between desk' : NodeRecord} {host host' : HostRecord} (hearing : Hearing) {is_used_up work idle : Bool} {given : TakeResult} → desk ≡ get_or desks who.actor desk
          → host ≡ get_or hosts who.family host → is_used_up ≡ (host.made_dispatches == host.allowed_dispatches) → given ≡ result_of_hearing hearing → work ≡ is_work given → idle ≡ is_idle given
          → result_of_hearing hearing ≡ offer_of (find (is_eligible asking dead) desk.waiting_items) poller is_used_up → hearing_item hearing ≡ chosen_item is_used_up asking dead desk.waiting_items → IsTrue (is_take_hearing hearing)
          → between ≡ record desk { waiting_items = items_left is_used_up asking dead desk.waiting_items } → desk' ≡ record between { mark = record { is_idle = idle; asking = asking; dead = dead } }
          → host' ≡ record host { made_dispatches = if work then host.made_dispatches + 1 else host.made_dispatches }
          → h' ≡ h ++ entry_of who.family who.actor (whats.Take asking dead poller given) ∷ []
          → HasMadeEntry home clean m h' table (set desks who.actor desk') (set hosts who.family host') who (calls.Say (say.Take asking dead poller)) (replies.Heard hearing)
      took-by {h'} {desk} {between} {desk'} {host} {host'} hearing {is_used_up} {work} {idle} {given} read_desk read_host used_is given_is work_is idle_is offer item kind between_is desk_is host_is is =
          let idle_now : idle ≡ is_idle (result_of_hearing hearing) = idle_is ∙ ap is_idle given_is in
          let work_now : work ≡ is_work (result_of_hearing hearing) = work_is ∙ ap is_work given_is in
          took desk desk' host host' hearing read_desk read_host (offer ∙ ap (λ is_used_up. offer_of (find (is_eligible asking dead) desk.waiting_items) poller is_used_up) used_is)
          (item ∙ ap (λ is_used_up. chosen_item is_used_up asking dead desk.waiting_items) used_is) kind
          (desk_is ∙ ap (λ (between : NodeRecord). record between { mark = record { is_idle = idle; asking = asking; dead = dead } }) between_is
          ∙ (λ i. record desk { waiting_items = items_left (used_is i) asking dead desk.waiting_items; mark = record { is_idle = idle_now i; asking = asking; dead = dead } }))
          (host_is ∙ (λ i. record host { made_dispatches = if work_now i then host.made_dispatches + 1 else host.made_dispatches }))
          (is ∙ ap (λ given. h ++ entry_of who.family who.actor (whats.Take asking dead poller given) ∷ []) given_is)

      -- work is given only where dispatches are left
      pub work-left : (items : List model.Item) (hearing : Hearing) {is_used_up used' work : Bool} {given : TakeResult} → is_used_up ≡ used' → given ≡ result_of_hearing hearing → work ≡ is_work given
          → result_of_hearing hearing ≡ offer_of (find (is_eligible asking dead) items) poller is_used_up → work ≡ true → used' ≡ false
      work-left items hearing {is_used_up} {used'} {work} {given} used_is given_is work_is offer works =
          sym used_is ∙ no_work (find (is_eligible asking dead) items) poller is_used_up (ap is_work (sym (given_is ∙ offer)) ∙ sym work_is ∙ works)

    -- ---- orders

    module _ (order : Order) (pid : ℕ) (to : Place) (fits : IsFittingCall home clean parts h who (calls.Say (say_of_order order pid to))) where
      pub ordering : IsIn h who.family (IsCallOf parts h who.actor (call_of_order order pid to))
      ordering = is-in h user (IsCallOf parts h actor (call_of_order order pid to)) fits.fits.1

      pub order_place : (to.node < 2 ^ ordering.cube.grant.dim) × (to.pid < process_count)
      order_place = acted.order-place parts sound.machine h sound.lawful user ordering.cube ordering.holds actor order pid to ordering.is

      -- the node of the place, what is kept for it, and the entry
      abbrev order_at : ℕ
      order_at = node_of ordering.cube.grant.sub to.node

      abbrev order_kept : NodeRecord
      order_kept = (after h).node_record order_at

      abbrev order_made : What
      order_made = what_of_order order pid (place_of ordering.cube to) order_kept

      order_answer : what_of_request parts (after h) who.family who.actor (request_of {N = N} (calls.Say (say_of_order order pid to)))
          ≡ Some (what_of_order order pid (place_of ordering.cube to) ((after h).node_record (node_of ordering.cube.grant.sub to.node)))
      order_answer =
          call-answered (after h) ordering.cube actor parts user (call_of_order order pid to) ordering.holds
          ∙ ap Some (acted.ordered-as parts sound.machine h sound.lawful user ordering.cube ordering.holds actor order pid to ordering.is)

      -- at a place that the code has at hand the desk shows the same
      module _ {grant : Grant} {at : Place} (known : daemon.grant_held_by table who.family ≡ Some grant) (at_outward : at ≡ place_outward grant.sub to) where
        order_at_is : at ≡ place_of ordering.cube to
        order_at_is = at_is ordering.cube ordering.holds to order_place grant known at at_outward

        at_desk : {X : Type 0} (f : Place → NodeRecord → X) → f at (desk_at desks at.node) ≡ f (place_of ordering.cube to) ((after h).node_record (node_of ordering.cube.grant.sub to.node))
        at_desk f =
            ap (λ (at : Place). f at (desk_at desks at.node)) order_at_is
            ∙ ap (f (place_of ordering.cube to)) (kept_at ordering.cube ordering.holds to order_place)

        pub ordered : {h' : List Entry} {what : What} {hearing : Hearing} {mid desks' : List NodeRecord}
            → what ≡ what_of_order order pid at (desk_at desks at.node) → hearing ≡ hearing_of_order order at.pid (desk_at desks at.node)
            → AreChanged desks mid (change_at_node at.node (with_order order at.pid)) → AreChanged mid desks' (change_at_node who.actor with_busy_mark)
            → h' ≡ h ++ entry_of who.family who.actor what ∷ []
            → HasMadeEntry home clean m h' table desks' hosts who (calls.Say (say_of_order order pid to)) (replies.Heard hearing)
        ordered {h'} {what} {hearing} {mid} {desks'} what_is heard_is first second is =
            let cube = ordering.cube in
            let n = order_at in
            let made : what ≡ order_made = what_is ∙ at_desk (what_of_order order pid) in
            let change : ℕ → NodeRecord → NodeRecord = λ node node_record. change_at_node who.actor with_busy_mark node (change_at_node n (with_order order to.pid) node node_record) in
            stays (replies.Heard hearing) order_made (call_of_order order pid (place_of cube to)) (order-recorded order pid (place_of cube to) order_kept) fits order_answer cube ordering.holds change
            (chained desks mid desks' (change_at_node n (with_order order to.pid)) (change_at_node who.actor with_busy_mark)
            (subst (λ (at : Place). AreChanged desks mid (change_at_node at.node (with_order order at.pid))) order_at_is first) second)
            (changed_at order_made n (with_order order to.pid)
            (acted.ordered-here parts sound.machine h sound.lawful user cube ordering.holds actor order pid to ordering.is)
            (acted.ordered-away parts sound.machine h sound.lawful user cube ordering.holds actor order pid to ordering.is))
            (acted.ordered-cube parts sound.machine h sound.lawful user cube ordering.holds actor order pid to ordering.is)
            (order-reply home clean parts (after h) user actor order pid (place_of cube to) order_kept (replies.Heard hearing)
            (if-held (after h) user (λ cube. IsHearingReply {N = N} (actor_items (after h) cube actor) order_made (replies.Heard hearing)) cube ordering.holds
            (order-heard (actor_items (after h) cube actor) order pid (place_of cube to) order_kept hearing (heard_is ∙ at_desk (λ at node_record. hearing_of_order order at.pid node_record)))))
            (is ∙ ap (λ what. h ++ entry_of who.family who.actor what ∷ []) made)

        -- there is room for it on its desk
        pub order-room : HasOrderRoom order at.pid (desk_at desks at.node)
        order-room =
            subst (λ (at : Place). HasOrderRoom order at.pid (desk_at desks at.node)) (sym order_at_is)
            (subst (HasOrderRoom order to.pid) (sym (kept_at ordering.cube ordering.holds to order_place))
            (order-small who.actor order_at order to.pid order_kept
            (subst IsSmallRecord (acted.ordered-here parts sound.machine h sound.lawful user ordering.cube ordering.holds actor order pid to ordering.is)
            (node-limits parts (h ++ entry_of who.family who.actor order_made ∷ []) sound.machine
            (more-lawful m home clean who (calls.Say (say_of_order order pid to)) fits order_made order_answer) order_at))))
