-- What each kind of call makes of what is kept for a node and of how its cube stands, and how a
-- message comes to its places one by one.
use Rattle.std.proofs.Common.{◌≡◌, ℕ, ◌+◌, ◌≤◌, Bool, true, false, not, ◌==◌, if◌then◌else◌, List, [], ◌∷◌, ◌++◌, map, filter, length, Option, Some, None, refl, ap, sym, ◌∙◌, subst, inl, inr, arith, append-nil, length-append}
use Rattle.std.specs.List.{AllByRecursion}
use Rattle.std.proofs.lemmas.Bool.{cases_Bool, both_ways, eq-eqb, ne_eqb, eqb-true}
use Rattle.std.proofs.lemmas.List.{length-map}
use Rattle.ce_model.specs.declared.topology.TheConstants.{HOST}
use Rattle.ce_model.specs.declared.topology.Place.{Place}
use Rattle.ce_model.specs.declared.topology.BlockId.{BlockId}
use Rattle.ce_model.specs.declared.topology.Subcube.{Subcube}
use Rattle.ce_model.specs.declared.entry.Entry.{Entry}
use Rattle.ce_model.specs.declared.entry.What.{What}
use Rattle.ce_model.specs.declared.entry.What.TheVariants.{Arm, Look, HostTake, Send, Spawn, Kill, Note, Take}
use Rattle.ce_model.specs.declared.entry.LookResult.{LookResult}
use Rattle.ce_model.specs.declared.entry.TakeResult.{TakeResult}
use Rattle.ce_model.specs.declared.entry.TakeResult.TheVariants.{Mail}
use Rattle.ce_model.specs.declared.entry.KillResult.{KillResult}
use Rattle.ce_model.specs.declared.entry.KillResult.TheVariants.{Killed, Unused, Already}
use Rattle.ce_model.specs.Lists.{without_first}
use Rattle.ce_model.specs.Parcels.{Parcel, Item, start, mail, kill, is_named_by, message_parcels}
use Rattle.ce_model.specs.Node.{Call, take_call, send_call, spawn_call, kill_call, note_call, arm_call, look_call, mail_call}
use Rattle.ce_model.specs.Trace.{NodeRecord, Standing, taken_result, is_work, is_idle}
use Rattle.ce_model.specs.Answers.{answer, recorded_call, is_among, kill_result, is_quiet, is_used_up, look_result_where}
use Rattle.ce_model.specs.Subcubes.{is_inside}
use Rattle.ce_model.specs.Renaming.{CubeGrant, place_outward, number_outward, renamed_targets}
use Rattle.ce_model.specs.Limits.{greatest_blocks}
use Rattle.ce_model.specs.Machine.{MachineParts, IsMachine, HeldCube, cube_held_by, nodes_of, cube_standing, item_inward, without_taken_item, record_after_entry, cube_after_entry, after, with_places_outward, IsCallOf, IsLawful}
use Rattle.ce_model.proofs.Subcubes.{is_inside-node_of}
use Rattle.ce_model.proofs.AloneByEntries.{call_of-answer}
use Rattle.ce_solo.proofs.Sending.{place_parts}
use Rattle.ce_solo.proofs.Projection.Numbers.{IsPlaced, IsNumber, out_node}
use Rattle.ce_model.specs.Literals.{entry_of}
use Rattle.ce_machine.specs.declared.order.Order.{Order}
use Rattle.ce_machine.specs.declared.order.Order.TheVariants as orders
use Rattle.ce_machine.specs.Desks.{with_start, with_kill}
use Rattle.ce_machine.specs.Orders.{what_of_order, with_order}
use Rattle.ce_machine.proofs.Changes.{next_state}
use Rattle.ce_machine.proofs.Called.{IsTarget, target-number, HasPlacesOf, placed-now, call-places}
use Rattle.ce_machine.proofs.Answered.{send-answer}
use Rattle.ce_machine.proofs.QueueRoom.{few-parcels, queue_room, node-limits, cube-limits}
use Rattle.ce_machine.proofs.Effects.{call-own, call-inside, call-outside}

-- ---- what a message brings

-- what the entry of a message to these places of the cube brings to a number of the machine, which
-- may be the host's
abbrev pub mails_at : Subcube → Place → ℕ → List ℕ → ℕ → List (Place × BlockId) → List Item
mails_at sub from first bytes node to =
    map (item_inward sub) (map mail (filter (λ parcel. parcel.to.node == node) (message_parcels from first bytes (renamed_targets (place_outward sub) (λ id. id) to))))

-- where none of the targets is, nothing comes
pub mails-none : (sub : Subcube) (from : Place) (first : ℕ) (bytes : List ℕ) (node : ℕ) (to : List (Place × BlockId))
    → AllByRecursion (λ target. (number_outward sub target.0.node == node) ≡ false) to → mails_at sub from first bytes node to ≡ []
mails-none sub from first bytes node [] all = refl
mails-none sub from first bytes node (target ∷ to) all = rw all.0 (mails-none sub from (first + 1) bytes node to all.1)

-- ---- what is kept for a node

-- what is kept for a node, once an actor has made an entry that is no take
abbrev pub with_call_mark : ℕ → ℕ → NodeRecord → NodeRecord
with_call_mark actor node node_record = record node_record { mark = if actor == node then record node_record.mark { is_idle = false } else node_record.mark }

pub busy-other : (actor node : ℕ) (node_record : NodeRecord) → (actor == node) ≡ false → with_call_mark actor node node_record ≡ node_record
busy-other actor node node_record differ = rw differ refl

-- nothing is taken, and nothing is sent
stays : (b : Bool) (items : List Item) → (if b then items else items) ++ [] ≡ items
stays b items = append-nil (if b then items else items) ∙ same b items
  where
    same : (b : Bool) (items : List Item) → (if b then items else items) ≡ items
    same true items = refl
    same false items = refl

comes : (b : Bool) (items more : List Item) → (if b then items else items) ++ more ≡ items ++ more
comes true items more = refl
comes false items more = refl

module _ (sub : Subcube) (user actor node : ℕ) (node_record : NodeRecord) where
  -- what is kept once this entry is made
  abbrev pub by : What → NodeRecord
  by what = record_after_entry sub (entry_of user actor what) node node_record

  pub note-record : (pid word : ℕ) → by (Note pid word) ≡ with_call_mark actor node node_record
  note-record pid word = λ i. record {
    waiting_items = stays (actor == node) node_record.waiting_items i;
    spawned_ids = append-nil node_record.spawned_ids i;
    killed_ids = append-nil node_record.killed_ids i;
    mark = if actor == node then record node_record.mark { is_idle = false } else node_record.mark;
  }

  -- a spawn, of an id that is new or of one that isn't
  spawn-here : (pid image : ℕ) (to : Place) (fresh : Bool) → (to.node == node) ≡ true
      → by (Spawn pid image to fresh) ≡ with_call_mark actor node (if fresh then with_start to.pid image node_record else node_record)
  spawn-here pid image to true here = rw here (λ i. record {
    waiting_items = comes (actor == node) node_record.waiting_items (start to.pid image ∷ []) i;
    spawned_ids = node_record.spawned_ids ++ to.pid ∷ [];
    killed_ids = append-nil node_record.killed_ids i;
    mark = if actor == node then record node_record.mark { is_idle = false } else node_record.mark;
  })
  spawn-here pid image to false here = note-record pid image

  spawn-away : (pid image : ℕ) (to : Place) (fresh : Bool) → (to.node == node) ≡ false → by (Spawn pid image to fresh) ≡ with_call_mark actor node node_record
  spawn-away pid image to true away = rw away (note-record pid image)
  spawn-away pid image to false away = note-record pid image

  -- a kill that is accepted, or one that isn't
  kill-here : (pid : ℕ) (to : Place) (found : KillResult) → (to.node == node) ≡ true → by (Kill pid to found) ≡ with_call_mark actor node (with_kill found to.pid node_record)
  kill-here pid to Killed here = rw here (λ i. record {
    waiting_items = comes (actor == node) node_record.waiting_items (kill to.pid ∷ []) i;
    spawned_ids = append-nil node_record.spawned_ids i;
    killed_ids = node_record.killed_ids ++ to.pid ∷ [];
    mark = if actor == node then record node_record.mark { is_idle = false } else node_record.mark;
  })
  kill-here pid to Unused here = note-record pid 0
  kill-here pid to Already here = note-record pid 0

  kill-away : (pid : ℕ) (to : Place) (found : KillResult) → (to.node == node) ≡ false → by (Kill pid to found) ≡ with_call_mark actor node node_record
  kill-away pid to Killed away = rw away (note-record pid 0)
  kill-away pid to Unused away = note-record pid 0
  kill-away pid to Already away = note-record pid 0

  -- an order, at its place and away from it
  pub order-here : (order : Order) (pid : ℕ) (to : Place) → (to.node == node) ≡ true → by (what_of_order order pid to node_record) ≡ with_call_mark actor node (with_order order to.pid node_record)
  order-here (orders.Spawn image) pid to here = spawn-here pid image to (not (is_among to.pid node_record.spawned_ids)) here
  order-here orders.Kill pid to here = kill-here pid to (kill_result node_record to.pid) here

  pub order-away : (order : Order) (pid : ℕ) (to : Place) (there : NodeRecord) → (to.node == node) ≡ false → by (what_of_order order pid to there) ≡ with_call_mark actor node node_record
  order-away (orders.Spawn image) pid to there away = spawn-away pid image to (not (is_among to.pid there.spawned_ids)) away
  order-away orders.Kill pid to there away = kill-away pid to (kill_result there to.pid) away

  -- a message to places of the cube
  pub send-record : (pid first : ℕ) (to : List (Place × BlockId)) (bytes : List ℕ)
      → by (Send pid first (renamed_targets (place_outward sub) (λ id. id) to) bytes)
      ≡ record (with_call_mark actor node node_record) { waiting_items = node_record.waiting_items ++ mails_at sub (record { node = actor; pid = pid }) first bytes node to }
  send-record pid first to bytes = λ i. record {
    waiting_items = comes (actor == node) node_record.waiting_items (mails_at sub (record { node = actor; pid = pid }) first bytes node to) i;
    spawned_ids = append-nil node_record.spawned_ids i;
    killed_ids = append-nil node_record.killed_ids i;
    mark = if actor == node then record node_record.mark { is_idle = false } else node_record.mark;
  }

  -- what a node takes
  pub take-own : (asking dead : ℕ) (poller : Option ℕ) (given : TakeResult) → (actor == node) ≡ true → by (Take asking dead poller given)
      ≡ record node_record { waiting_items = without_taken_item (taken_result (Take asking dead poller given)) node_record.waiting_items; mark = record { is_idle = is_idle given; asking = asking; dead = dead } }
  take-own asking dead poller given own = rw own (λ i. record {
    waiting_items = append-nil (without_taken_item (taken_result (Take asking dead poller given)) node_record.waiting_items) i;
    spawned_ids = append-nil node_record.spawned_ids i;
    killed_ids = append-nil node_record.killed_ids i;
    mark = record { is_idle = is_idle given; asking = asking; dead = dead };
  })

  -- what the calls of others leave
  module _ (other : (actor == node) ≡ false) where
    quiet : record { waiting_items = node_record.waiting_items ++ []; spawned_ids = node_record.spawned_ids ++ []; killed_ids = node_record.killed_ids ++ []; mark = node_record.mark } ≡ node_record
    quiet = λ i. record { waiting_items = append-nil node_record.waiting_items i; spawned_ids = append-nil node_record.spawned_ids i; killed_ids = append-nil node_record.killed_ids i; mark = node_record.mark }

    pub take-other : (asking dead : ℕ) (poller : Option ℕ) (given : TakeResult) → by (Take asking dead poller given) ≡ node_record
    take-other asking dead poller given = rw other quiet

    pub arm-record : (count : ℕ) → by (Arm count) ≡ node_record
    arm-record count = rw other quiet

    pub look-record : (found : LookResult) → by (Look found) ≡ node_record
    look-record found = rw other quiet

    pub take_mail-record : (number : Option ℕ) → by (HostTake number) ≡ node_record
    take_mail-record number = rw other quiet

-- ---- how the cube stands

module _ (user actor : ℕ) (cube : HeldCube) where
  -- how the cube stands once this entry is made
  abbrev pub cube_by : What → HeldCube
  cube_by what = cube_after_entry (entry_of user actor what) cube

  pub note-cube : (pid word : ℕ) → cube_by (Note pid word) ≡ cube
  note-cube pid word = λ i. record cube { parcel_count = none i; mail = stays (actor == HOST) cube.mail i }
    where
      none : cube.parcel_count + 0 ≡ cube.parcel_count
      none = omega arith

  pub arm-cube : (count : ℕ) → cube_by (Arm count) ≡ record cube { allowed_dispatches = count; made_dispatches = 0 }
  arm-cube count = λ i. let was = note-cube 0 0 i in record was { allowed_dispatches = count; made_dispatches = 0 }

  pub look-cube : (found : LookResult) → cube_by (Look found) ≡ cube
  look-cube found = note-cube 0 0

  spawn-cube : (pid image : ℕ) (to : Place) (fresh : Bool) → (to.node == HOST) ≡ false → cube_by (Spawn pid image to fresh) ≡ cube
  spawn-cube pid image to true node = rw node (note-cube 0 0)
  spawn-cube pid image to false node = note-cube 0 0

  kill-cube : (pid : ℕ) (to : Place) (found : KillResult) → (to.node == HOST) ≡ false → cube_by (Kill pid to found) ≡ cube
  kill-cube pid to Killed node = rw node (note-cube 0 0)
  kill-cube pid to Unused node = note-cube 0 0
  kill-cube pid to Already node = note-cube 0 0

  pub order-cube : (order : Order) (pid : ℕ) (to : Place) (there : NodeRecord) → (to.node == HOST) ≡ false → cube_by (what_of_order order pid to there) ≡ cube
  order-cube (orders.Spawn image) pid to there node = spawn-cube pid image to (not (is_among to.pid there.spawned_ids)) node
  order-cube orders.Kill pid to there node = kill-cube pid to (kill_result there to.pid) node

  pub take-cube : (asking dead : ℕ) (poller : Option ℕ) (given : TakeResult) → (actor == HOST) ≡ false
      → cube_by (Take asking dead poller given) ≡ record cube { made_dispatches = if is_work given then cube.made_dispatches + 1 else cube.made_dispatches }
  take-cube asking dead poller given node =
      rw node (λ i. record cube { made_dispatches = if is_work given then cube.made_dispatches + 1 else cube.made_dispatches; parcel_count = none i; mail = append-nil cube.mail i })
    where
      none : cube.parcel_count + 0 ≡ cube.parcel_count
      none = omega arith

  pub no_mail-cube : cube_by (HostTake None) ≡ cube
  no_mail-cube = note-cube 0 0

  -- a host takes its first message
  pub mail-cube : (parcel : Parcel) (rest : List Item) → (actor == HOST) ≡ true → cube.mail ≡ mail parcel ∷ rest
      → cube_by (HostTake (Some parcel.number)) ≡ record cube { mail = rest }
  mail-cube parcel rest host first = rw host (λ i. record cube { parcel_count = none i; mail = without i })
    where
      none : cube.parcel_count + 0 ≡ cube.parcel_count
      none = omega arith

      without : without_first (is_named_by (Mail 0 parcel.number)) cube.mail ++ [] ≡ rest
      without =
          append-nil (without_first (is_named_by (Mail 0 parcel.number)) cube.mail)
          ∙ ap (without_first (is_named_by (Mail 0 parcel.number))) first
          ∙ ap (λ b. if b then rest else mail parcel ∷ without_first (is_named_by (Mail 0 parcel.number)) rest) (eq-eqb parcel.number parcel.number refl)

  pub send-cube : (pid first : ℕ) (to : List (Place × BlockId)) (bytes : List ℕ)
      → cube_by (Send pid first (renamed_targets (place_outward cube.grant.sub) (λ id. id) to) bytes) ≡ record cube {
        parcel_count = cube.parcel_count + length to;
        mail = cube.mail ++ mails_at cube.grant.sub (record { node = actor; pid = pid }) first bytes HOST to;
      }
  send-cube pid first to bytes = λ i. record cube {
    parcel_count = cube.parcel_count + count i;
    mail = comes (actor == HOST) cube.mail (mails_at cube.grant.sub (record { node = actor; pid = pid }) first bytes HOST to) i;
  }
    where
      count : length (message_parcels (record { node = actor; pid = pid }) first bytes (renamed_targets (place_outward cube.grant.sub) (λ id. id) to)) ≡ length to
      count = few-parcels (record { node = actor; pid = pid }) first bytes _ ∙ length-map {B = Place × BlockId} to (λ target. (place_outward cube.grant.sub target.0, target.1))

-- ---- each node of the machine

-- an entry whose actor and places are elsewhere leaves what is kept for a node
outside-quiet : (d : ℕ) (grant : CubeGrant) (user actor node : ℕ) (node_record : NodeRecord) (nodes : List ℕ) (s : Standing) (call : Call) → HasPlacesOf d call
    → (actor == node) ≡ false → ((n : ℕ) → IsNumber d n → (number_outward grant.sub n == node) ≡ false)
    → record_after_entry grant.sub (entry_of user actor (answer nodes s actor (with_places_outward grant call))) node node_record ≡ node_record
unfolding answer
outside-quiet d grant user actor node node_record nodes s (take_call asking dead poller) is other apart = take-other grant.sub user actor node node_record other asking dead poller _
outside-quiet d grant user actor node node_record nodes s (send_call pid to bytes) is other apart =
    send-record grant.sub user actor node node_record pid s.parcel_count to bytes
    ∙ rw (mails-none grant.sub (record { node = actor; pid = pid }) s.parcel_count bytes node to (away to is), other) (λ i. record node_record { waiting_items = append-nil node_record.waiting_items i })
  where
    away : (to : List (Place × BlockId)) → AllByRecursion (λ target. IsTarget d target.0) to
        → AllByRecursion (λ target. (number_outward grant.sub target.0.node == node) ≡ false) to
    away [] all = tt
    away (target ∷ to) all = (apart target.0.node (target-number d target.0 all.0), away to all.1)
outside-quiet d grant user actor node node_record nodes s (spawn_call pid image to) is other apart =
    spawn-away grant.sub user actor node node_record pid image (place_outward grant.sub to) _ (apart to.node (inl (place_parts d to is).0)) ∙ busy-other actor node node_record other
outside-quiet d grant user actor node node_record nodes s (kill_call pid to) is other apart =
    kill-away grant.sub user actor node node_record pid (place_outward grant.sub to) _ (apart to.node (inl (place_parts d to is).0)) ∙ busy-other actor node node_record other
outside-quiet d grant user actor node node_record nodes s (note_call pid word) is other apart = note-record grant.sub user actor node node_record pid word ∙ busy-other actor node node_record other
outside-quiet d grant user actor node node_record nodes s (arm_call count) is other apart = arm-record grant.sub user actor node node_record other count
outside-quiet d grant user actor node node_record nodes s look_call is other apart = look-record grant.sub user actor node node_record other (look_result_where (is_quiet nodes s) (is_used_up s))
outside-quiet d grant user actor node node_record nodes s mail_call is other apart = take_mail-record grant.sub user actor node node_record other _

module _ (parts : MachineParts) (machine : IsMachine parts) (h : List Entry) (lawful : IsLawful parts h) (user : ℕ) (cube : HeldCube) (holds : cube_held_by (after h) user ≡ Some cube)
    (actor : ℕ) (call : Call) (fits : IsCallOf parts h actor call cube) where
  abbrev placed : IsPlaced parts.dim cube.grant
  placed = placed-now parts machine h lawful user cube holds

  module _ (what : What) (answered : answer (nodes_of cube.grant) (cube_standing (after h) cube) actor (with_places_outward cube.grant call) ≡ what) where
    abbrev entry : Entry
    entry = entry_of user actor what

    is_called : recorded_call what ≡ Some (with_places_outward cube.grant call)
    is_called = ap recorded_call (sym answered) ∙ call_of-answer (nodes_of cube.grant) (cube_standing (after h) cube) actor (with_places_outward cube.grant call)

    -- a call that fits changes what is kept for each node of the machine as it does for one of the
    -- cube
    pub call-each : (node : ℕ) → (node == HOST) ≡ false
        → (next_state h (entry_of user actor what)).node_record node ≡ record_after_entry cube.grant.sub (entry_of user actor what) node ((after h).node_record node)
    call-each node no_host =
        elim (cases_Bool (is_inside cube.grant.sub node)) [
          | inl inside ↦ call-inside h entry (with_places_outward cube.grant call) is_called cube node holds inside
          | inr outside ↦
              call-outside h entry (with_places_outward cube.grant call) is_called cube node holds outside
              ∙ sym (ap (λ what. record_after_entry cube.grant.sub (entry_of user actor what) node ((after h).node_record node)) (sym answered)
              ∙ outside-quiet cube.grant.dim cube.grant user actor node ((after h).node_record node) (nodes_of cube.grant) (cube_standing (after h) cube) call
              (call-places parts machine h lawful user cube holds actor call fits) (elsewhere outside) (apart outside))
        ]
      where
        elsewhere : is_inside cube.grant.sub node ≡ false → (actor == node) ≡ false
        elsewhere outside =
            elim fits.inside [
              | inl host ↦ ne_eqb actor node (λ e. both_ways _ no_host (eq-eqb node HOST (sym e ∙ eqb-true actor HOST host)))
              | inr inside ↦ ne_eqb actor node (λ e. both_ways _ outside (subst (λ n. is_inside cube.grant.sub n ≡ true) e inside))
            ]

        apart : is_inside cube.grant.sub node ≡ false → (n : ℕ) → IsNumber cube.grant.dim n → (number_outward cube.grant.sub n == node) ≡ false
        apart outside n (inl below) =
            ne_eqb _ node (λ e. both_ways _ outside (subst (λ m. is_inside cube.grant.sub m ≡ true) (sym (out_node parts.dim cube.grant placed n below) ∙ e)
            (is_inside-node_of cube.grant.sub n placed.sub.apart (rw placed.sub.dimension below))))
        apart outside n (inr host) =
            ne_eqb _ node (λ e. both_ways _ no_host (eq-eqb node HOST (sym e ∙ ap (number_outward cube.grant.sub) host)))

    -- and the cube itself
    pub call-cube : cube_held_by (next_state h (entry_of user actor what)) user ≡ Some (cube_after_entry (entry_of user actor what) cube)
    call-cube = call-own h entry (with_places_outward cube.grant call) is_called cube holds

-- ---- room for a message

module _ (parts : MachineParts) (machine : IsMachine parts) (h : List Entry) (lawful : IsLawful parts h) (user : ℕ) (cube : HeldCube) (holds : cube_held_by (after h) user ≡ Some cube)
    (actor pid : ℕ) (to : List (Place × BlockId)) (bytes : List ℕ) (fits : IsCallOf parts h actor (send_call pid to bytes) cube) where
  abbrev sending : What
  sending = Send pid cube.parcel_count (renamed_targets (place_outward cube.grant.sub) (λ id. id) to) bytes

  abbrev arrived : ℕ → List (Place × BlockId) → List Item
  arrived node to = mails_at cube.grant.sub (record { node = actor; pid = pid }) cube.parcel_count bytes node to

  -- what a message that fits brings to a node of the machine, and to the host
  pub sent-each : (node : ℕ) → (node == HOST) ≡ false → (next_state h (entry_of user actor sending)).node_record node
      ≡ record (with_call_mark actor node ((after h).node_record node)) { waiting_items = ((after h).node_record node).waiting_items ++ arrived node to }
  sent-each node no_host =
      call-each parts machine h lawful user cube holds actor (send_call pid to bytes) fits sending (send-answer (after h) cube actor pid to bytes) node no_host
      ∙ send-record cube.grant.sub user actor node ((after h).node_record node) pid cube.parcel_count to bytes

  pub sent-cube : cube_held_by (next_state h (entry_of user actor sending)) user
      ≡ Some (record cube { parcel_count = cube.parcel_count + length to; mail = cube.mail ++ arrived HOST to })
  sent-cube =
      call-cube parts machine h lawful user cube holds actor (send_call pid to bytes) fits sending (send-answer (after h) cube actor pid to bytes)
      ∙ ap Some (send-cube user actor cube pid cube.parcel_count to bytes)

  module _ (lawful' : IsLawful parts (h ++ entry_of user actor sending ∷ [])) where
    -- there is room for all that comes
    pub sent-room : (node : ℕ) → (node == HOST) ≡ false → length ((after h).node_record node).waiting_items + length (arrived node to) ≤ queue_room
    sent-room node no_host =
        omega (
          arith,
          (node-limits parts (h ++ entry_of user actor sending ∷ []) machine lawful' node).waiting,
          ap (λ (node_record : NodeRecord). length node_record.waiting_items) (sent-each node no_host),
          length-append ((after h).node_record node).waiting_items (arrived node to),
        )

    pub sent-mail_room : length cube.mail + length (arrived HOST to) ≤ greatest_blocks
    sent-mail_room =
        omega (
          arith,
          (cube-limits parts (h ++ entry_of user actor sending ∷ []) machine lawful' user _ sent-cube).mail,
          length-append cube.mail (arrived HOST to),
        )
