-- How much the machine has to keep: what waits at a node and for a host, the ids that were spawned
-- and killed, and a cube's counts.
use Rattle.std.proofs.Common.{◌≡◌, ℕ, suc, ◌+◌, ◌*◌, ◌^◌, ◌<◌, ◌≤◌, true, false, ◌==◌, if◌then◌else◌, List, [], ◌∷◌, ◌++◌, map, length, count_by, Option, Some, None, refl, ap, sym, ◌∙◌, subst, inl, inr, arith, length-append}
use Rattle.std.specs.List.{AllByRecursion}
use Rattle.std.proofs.lemmas.Bool.{cases_Bool, cond_both, both_ways, eqb-true, eq-eqb, ne_eqb}
use Rattle.std.proofs.lemmas.List.{length-map}
use Rattle.ce_model.specs.declared.topology.TheConstants.{HOST}
use Rattle.ce_model.specs.declared.topology.Place.{Place}
use Rattle.ce_model.specs.declared.topology.BlockId.{BlockId}
use Rattle.ce_model.specs.declared.entry.Entry.{Entry}
use Rattle.ce_model.specs.Limits.{greatest_dim, greatest_count, greatest_targets, greatest_targets_lem, process_count, process_count_lem, home_blocks, home_blocks_lem, greatest_nodes_lem, greatest_blocks, greatest_blocks_lem}
use Rattle.ce_model.specs.Parcels.{Item, start, mail, kill, item_id, message_parcels}
use Rattle.ce_model.specs.Node.{Call, send_call, arm_call}
use Rattle.ce_model.specs.Trace.{Standing, NodeRecord, blank_record, sent_parcels, allowed_dispatches_after}
use Rattle.ce_model.specs.Answers.{answer, is_among}
use Rattle.ce_model.specs.Cube.{Cube, CubeState, IsCube}
use Rattle.ce_model.specs.Sound.{IsItemOf, IsHostItem, AreDistinct, IsSoundRecord, IsSound}
use Rattle.ce_model.specs.Subcubes.{extract, is_inside}
use Rattle.ce_model.specs.Renaming.{CubeGrant, block_outward, place_outward, renamed_item, renamed_record}
use Rattle.ce_model.specs.Machine.{MachineParts, IsMachine, HeldCube, MachineState, cube_held_by, nodes_of, cube_standing, cube_of, record_after_entry, cube_after_entry, changed_record, with_cube, after, with_places_outward, IsCallWithinLimits, IsCallOf, IsLawfulEntry, IsLawful}
use Rattle.ce_model.proofs.Subcubes.{node_of-extract}
use Rattle.ce_model.proofs.Walked.{kept_by_each, each-more}
use Rattle.ce_solo.proofs.Lists.{all-map, all-weaker, count_by-cons}
use Rattle.ce_solo.proofs.Room.{few-distinct, node_room, host_room}
use Rattle.ce_solo.proofs.Records.{among-all}
use Rattle.ce_solo.proofs.Renaming.Grants.{few_nodes}
use Rattle.ce_solo.proofs.Projection.Numbers.{inside_below}
use Rattle.ce_solo.proofs.Projection.Held.{held-own, granted-own, left-own}
use Rattle.ce_solo.proofs.Projection.Invariant.{IsHeld, IsNextState}
use Rattle.ce_solo.proofs.Projection.Law.{projected, lawful-entry}
use Rattle.ce_machine.proofs.NodeCalls.{IsNodeActorCall}
use Rattle.ce_machine.proofs.Changes.{same_cube, next_state, user_grant, Change, nothing, grants, drains, frees, calls, change-of}
use Rattle.ce_machine.proofs.Called.{HasFewPlaces, left_now, own-is, sound-now, node-call, call-few}

-- ---- the room

-- as many parcels can wait for a node as the largest cube has blocks, and a start and a kill of
-- each of its ids
abbrev pub queue_room : ℕ
queue_room = greatest_blocks + 2 * process_count

pub queue_room_lem : queue_room ≡ 2_096
queue_room_lem = omega (arith, greatest_blocks_lem, process_count_lem)

-- a cube has no more blocks than the largest
room-most : (d : ℕ) → d ≤ greatest_dim → (2 ^ d + 1) * home_blocks ≤ greatest_blocks
room-most d small =
    omega (
      arith,
      few_nodes d small,
      greatest_nodes_lem,
      ap (λ n. (2 ^ d + 1) * n) home_blocks_lem,
      greatest_blocks_lem,
    )

-- ---- what is kept for a node

-- what is kept for a node has its limits, and so have the ids for which its items are
pub record IsSmallRecord (node_record : NodeRecord) : Type 0 where
  pub waiting : length node_record.waiting_items ≤ queue_room
  pub ids : AllByRecursion (λ item. item_id item < process_count) node_record.waiting_items
  pub spawned : length node_record.spawned_ids ≤ process_count
  pub spawned_ids : AllByRecursion (λ pid. pid < process_count) node_record.spawned_ids
  pub killed : length node_record.killed_ids ≤ process_count
  pub killed_ids : AllByRecursion (λ pid. pid < process_count) node_record.killed_ids

pub blank-small : IsSmallRecord blank_record
blank-small = record { waiting = omega arith; ids = tt; spawned = omega arith; spawned_ids = tt; killed = omega arith; killed_ids = tt }

-- numbers that differ stand once each
none-times : (k : ℕ) (pids : List ℕ) → AllByRecursion (λ pid. (k == pid) ≡ false) pids → count_by (λ other. other == k) pids ≡ 0
none-times k [] all = refl
none-times k (pid ∷ pids) all =
    let other : (pid == k) ≡ false = ne_eqb pid k (λ e. both_ways _ all.0 (eq-eqb k pid (sym e))) in
    omega (arith, count_by-cons (λ other. other == k) pid pids, ap {B = ℕ} (λ b. if b then 1 else 0) other, none-times k pids all.1)

distinct-once : (k : ℕ) (pids : List ℕ) → AreDistinct pids → count_by (λ other. other == k) pids ≤ 1
distinct-once k [] all = omega arith
distinct-once k (pid ∷ pids) all =
    elim (cases_Bool (pid == k)) [
      | inl t ↦
          let none = subst (λ n. count_by (λ other. other == n) pids ≡ 0) (eqb-true pid k t) (none-times pid pids all.0) in
          omega (arith, count_by-cons (λ other. other == k) pid pids, ap {B = ℕ} (λ b. if b then 1 else 0) t, none)
      | inr f ↦ omega (arith, count_by-cons (λ other. other == k) pid pids, ap {B = ℕ} (λ b. if b then 1 else 0) f, distinct-once k pids all.1)
    ]

-- the ids that are killed were spawned, so they are a node's too
killed-ids : (cube : Cube) (sent r : ℕ) (node_record : NodeRecord) → IsSoundRecord cube sent r node_record → AllByRecursion (λ pid. pid < process_count) node_record.killed_ids
killed-ids cube sent r node_record sound =
    all-weaker (λ pid. is_among pid node_record.spawned_ids ≡ true) (λ pid. pid < process_count) node_record.killed_ids
    (λ pid among. among-all (λ q. q < process_count) pid node_record.spawned_ids sound.ids among) sound.killed

item-small : (cube : Cube) (sent r : ℕ) (node_record : NodeRecord) → IsSoundRecord cube sent r node_record → (item : Item) → IsItemOf cube r node_record item → item_id item < process_count
item-small cube sent r node_record sound (start pid image) of = among-all (λ q. q < process_count) pid node_record.spawned_ids sound.ids of.0
item-small cube sent r node_record sound (mail parcel) of = of.1
item-small cube sent r node_record sound (kill pid) of = among-all (λ q. q < process_count) pid node_record.killed_ids (killed-ids cube sent r node_record sound) of

same_id : (rename : BlockId → BlockId) (item : Item) → item_id (renamed_item rename item) ≡ item_id item
same_id rename (start pid image) = refl
same_id rename (mail parcel) = refl
same_id rename (kill pid) = refl

sound-small : (cube : Cube) (s : CubeState) (r : ℕ) (rename : BlockId → BlockId) → IsCube cube → IsSound cube s → r < 2 ^ cube.dim
    → IsSmallRecord (renamed_record rename (s.standing.node_record r))
sound-small cube s r rename of sound below =
    let node_record = s.standing.node_record r in
    let is = sound.records r below in
    record {
      waiting = omega (arith, node_room cube s r of sound below, length-map node_record.waiting_items (renamed_item rename), room-most cube.dim of.dim);
      ids = all-map (λ item. item_id item < process_count) (renamed_item rename) node_record.waiting_items
          (all-weaker (IsItemOf cube r node_record) (λ item. item_id (renamed_item rename item) < process_count) node_record.waiting_items
          (λ item of. subst (λ n. n < process_count) (sym (same_id rename item)) (item-small cube s.standing.parcel_count r node_record is item of)) is.own);
      spawned = few-distinct node_record.spawned_ids process_count is.ids (λ pid. distinct-once pid node_record.spawned_ids is.spawned_once);
      spawned_ids = is.ids;
      killed = few-distinct node_record.killed_ids process_count (killed-ids cube s.standing.parcel_count r node_record is) (λ pid. distinct-once pid node_record.killed_ids is.killed_once);
      killed_ids = killed-ids cube s.standing.parcel_count r node_record is;
    }

-- ---- a cube that is held

-- so have a cube's counts and what waits for its host: who holds a cube was granted it, so one
-- entry at least sent nothing
pub record IsSmallCube (entries : ℕ) (cube : HeldCube) : Type 0 where
  pub mail : length cube.mail ≤ greatest_blocks
  pub own : AllByRecursion IsHostItem cube.mail
  pub allowed_dispatches : cube.allowed_dispatches ≤ greatest_count
  pub made_dispatches : cube.made_dispatches ≤ cube.allowed_dispatches
  pub parcel_count : cube.parcel_count + greatest_targets ≤ greatest_targets * entries

host-own : (rename : BlockId → BlockId) (item : Item) → IsHostItem item → IsHostItem (renamed_item rename item)
host-own rename (start pid image) own = absurd own
host-own rename (mail parcel) own = own
host-own rename (kill pid) own = absurd own

module _ (parts : MachineParts) (machine : IsMachine parts) (h : List Entry) (lawful : IsLawful parts h) (user : ℕ) (cube : HeldCube)
    (holds : cube_held_by (after h) user ≡ Some cube) (goes : cube.is_drained ≡ false) where
  abbrev was : IsHeld parts (after h) h cube
  was = (projected parts h machine lawful).held user cube holds

  abbrev now : CubeState
  now = left_now parts machine h lawful user cube holds

  abbrev own : Cube
  own = cube_of parts.images cube.grant

  abbrev own_is : IsCube own
  own_is = own-is parts machine h lawful user cube holds

  abbrev sound : IsSound own now
  sound = sound-now parts machine h lawful user cube holds goes

  inside-small : (node : ℕ) → is_inside cube.grant.sub node ≡ true → IsSmallRecord ((after h).node_record node)
  inside-small node inside =
      let r = extract node cube.grant.sub.mask in
      let below = inside_below parts.dim cube.grant was.placed node inside in
      subst (λ n. IsSmallRecord ((after h).node_record n)) (node_of-extract cube.grant.sub node inside)
      (subst IsSmallRecord (sym ((was.kept goes).nodes r below)) (sound-small own now r (block_outward cube.grant) own_is sound below))

  mail-small : length cube.mail ≤ greatest_blocks
  mail-small =
      let items = (now.standing.node_record HOST).waiting_items in
      omega (arith, ap length (was.kept goes).mail, length-map items (renamed_item (block_outward cube.grant)), host_room own now own_is sound, room-most own.dim own_is.dim)

  mail-own : AllByRecursion IsHostItem cube.mail
  mail-own =
      let items = (now.standing.node_record HOST).waiting_items in
      subst (AllByRecursion IsHostItem) (sym (was.kept goes).mail)
      (all-map IsHostItem (renamed_item (block_outward cube.grant)) items
      (all-weaker IsHostItem (λ item. IsHostItem (renamed_item (block_outward cube.grant) item)) items (host-own (block_outward cube.grant)) sound.host.own))

  few-dispatched : cube.made_dispatches ≤ cube.allowed_dispatches
  few-dispatched = omega (arith, sound.dispatches, (was.kept goes).allowed_dispatches, (was.kept goes).made_dispatches)

-- ---- calls

-- a message has a parcel for each target
pub few-parcels : (from : Place) (number : ℕ) (bytes : List ℕ) (to : List (Place × BlockId)) → length (message_parcels from number bytes to) ≡ length to
few-parcels from number bytes [] = refl
few-parcels from number bytes (target ∷ to) = ap suc (few-parcels from (number + 1) bytes to)

-- an entry sends one parcel for each place of its call
few-sent : (nodes : List ℕ) (s : Standing) (actor : ℕ) (grant : CubeGrant) (call : Call) → HasFewPlaces call
    → length (sent_parcels actor (answer nodes s actor (with_places_outward grant call))) ≤ greatest_targets
unfolding answer
few-sent nodes s actor grant (send_call pid to bytes) few =
    let place : Place × BlockId → Place × BlockId = λ (target : Place × BlockId). (place_outward grant.sub target.0, target.1) in
    omega (arith, few, length-map {B = Place × BlockId} to place, few-parcels (record { node = actor; pid = pid }) s.parcel_count bytes (map place to))
few-sent nodes s actor grant other few = omega arith

-- what a host allows has its limit
abbrev IsAllowed : Call → Type 0
IsAllowed (arm_call count) = count ≤ greatest_count
IsAllowed other = Unit {0}

allowed-by_node : (call : Call) → IsNodeActorCall call → IsAllowed call
allowed-by_node (arm_call count) is = absurd is
allowed-by_node other is = tt

allowed-by_host : (call : Call) → IsCallWithinLimits call → IsAllowed call
allowed-by_host (arm_call count) is = is
allowed-by_host other is = tt

armed-few : (nodes : List ℕ) (s : Standing) (actor armed : ℕ) (grant : CubeGrant) (call : Call) → armed ≤ greatest_count → IsAllowed call
    → allowed_dispatches_after armed (answer nodes s actor (with_places_outward grant call)) ≤ greatest_count
unfolding answer
armed-few nodes s actor armed grant (arm_call count) few is = is
armed-few nodes s actor armed grant other few is = few

call-allowed : (parts : MachineParts) (machine : IsMachine parts) (h : List Entry) (lawful : IsLawful parts h) (user actor : ℕ) (call : Call) (cube : HeldCube)
    → cube_held_by (after h) user ≡ Some cube → IsCallOf parts h actor call cube → IsAllowed call
call-allowed parts machine h lawful user actor call cube holds fits =
    elim fits.inside [
      | inl host ↦ allowed-by_host call (fits.within host)
      | inr inside ↦ allowed-by_node call (node-call parts machine h lawful user cube holds actor call fits inside)
    ]

-- ---- one entry more

more_room : (entries : ℕ) (cube : HeldCube) → IsSmallCube entries cube → IsSmallCube (entries + 1) cube
more_room entries cube small = record {
  mail = small.mail;
  own = small.own;
  allowed_dispatches = small.allowed_dispatches;
  made_dispatches = small.made_dispatches;
  parcel_count = omega (arith, small.parcel_count, ap (λ n. n * entries) greatest_targets_lem, ap (λ n. n * (entries + 1)) greatest_targets_lem);
}

-- a history with what its state has room for
record IsRoomy (parts : MachineParts) (h : List Entry) : Type 0 where
  pub lawful : IsLawful parts h
  pub nodes : (node : ℕ) → IsSmallRecord ((after h).node_record node)
  pub cubes : (user : ℕ) (cube : HeldCube) → cube_held_by (after h) user ≡ Some cube → IsSmallCube (length h) cube

changed-small : (P : NodeRecord → Type 0) (change : HeldCube → ℕ → NodeRecord → NodeRecord) (node : ℕ) (node_record : NodeRecord) (held : Option HeldCube)
    → P node_record → ((cube : HeldCube) → P (change cube node node_record)) → P (changed_record change node node_record held)
changed-small P change node node_record None small each = small
changed-small P change node node_record (Some cube) small each = cond_both (is_inside cube.grant.sub node) (change cube node node_record) node_record P (λ t. each cube) (λ f. small)

module _ (parts : MachineParts) (machine : IsMachine parts) (h : List Entry) (entry : Entry) (room : IsRoomy parts h) (is : IsLawfulEntry parts h entry) where
  abbrev h' : List Entry
  h' = h ++ entry ∷ []

  lawful-next : IsLawful parts h'
  lawful-next = each-more (IsLawfulEntry parts) h entry room.lawful is

  abbrev step : IsNextState parts (after h) h entry (after h')
  step = lawful-entry parts machine h (projected parts h machine room.lawful) entry is

  -- a cube that makes a call
  held_next : (cube : HeldCube) → cube_held_by (after h) entry.user ≡ Some cube
      → next_state h entry ≡ with_cube entry.user (cube_after_entry entry) (λ cube. record_after_entry cube.grant.sub entry) (after h)
      → cube_held_by (after h') entry.user ≡ Some (cube_after_entry entry cube)
  held_next cube holds e =
      ap (λ state. cube_held_by state entry.user) e
      ∙ held-own entry.user (cube_after_entry entry) (λ cube. refl) (λ cube. record_after_entry cube.grant.sub entry) (after h) cube holds

  node-next : Change parts h entry → (node : ℕ) → IsSmallRecord ((after h').node_record node)
  node-next (nothing e) node = subst (λ (s : MachineState). IsSmallRecord (s.node_record node)) (sym e) (room.nodes node)
  node-next (grants dim sub none free e) node = subst (λ (s : MachineState). IsSmallRecord (s.node_record node)) (sym e) (room.nodes node)
  node-next (drains cube holds e) node =
      let was = room.nodes node in
      subst (λ (s : MachineState). IsSmallRecord (s.node_record node)) (sym e)
      (changed-small IsSmallRecord (λ cube node node_record. record node_record { waiting_items = [] }) node ((after h).node_record node) (cube_held_by (after h) entry.user) was
      (λ cube. record { waiting = omega arith; ids = tt; spawned = was.spawned; spawned_ids = was.spawned_ids; killed = was.killed; killed_ids = was.killed_ids }))
  node-next (frees cube holds drained e) node =
      subst (λ (s : MachineState). IsSmallRecord (s.node_record node)) (sym e)
      (changed-small IsSmallRecord (λ cube node node_record. blank_record) node ((after h).node_record node) (cube_held_by (after h) entry.user) (room.nodes node) (λ cube. blank-small))
  node-next (calls call cube holds fits what e) node =
      elim (cases_Bool (is_inside cube.grant.sub node)) [
        | inl inside ↦ inside-small parts machine h' lawful-next entry.user (cube_after_entry entry cube) (held_next cube holds e) fits.not_drained node inside
        | inr outside ↦
            subst IsSmallRecord (sym (step.records node (λ other held.
            let same = same_cube cube other (sym holds ∙ held) in subst (λ (c : HeldCube). is_inside c.grant.sub node ≡ false) same outside))) (room.nodes node)
      ]

  own-next : Change parts h entry → (cube' : HeldCube) → cube_held_by (after h') entry.user ≡ Some cube' → IsSmallCube (length h + 1) cube'
  own-next (nothing e) cube' held = more_room (length h) cube' (room.cubes entry.user cube' (ap (λ state. cube_held_by state entry.user) (sym e) ∙ held))
  own-next (grants dim sub none free e) cube' held =
      let grant = user_grant entry.user dim sub in
      let now : HeldCube = record { number = (after h).grant_count; grant = grant; is_drained = false; allowed_dispatches = 0; made_dispatches = 0; parcel_count = 0; mail = [] } in
      let same = same_cube now cube' (sym (granted-own grant (after h) none) ∙ ap (λ state. cube_held_by state entry.user) (sym e) ∙ held) in
      subst (IsSmallCube (length h + 1)) same (record {
        mail = omega arith;
        own = tt;
        allowed_dispatches = omega arith;
        made_dispatches = omega arith;
        parcel_count = omega (arith, ap (λ n. n * (length h + 1)) greatest_targets_lem, greatest_targets_lem);
      })
  own-next (drains cube holds e) cube' held =
      let change : HeldCube → HeldCube = λ cube. record cube { is_drained = true; mail = [] } in
      let now = held-own entry.user change (λ cube. refl) (λ cube node node_record. record node_record { waiting_items = [] }) (after h) cube holds in
      let same = same_cube (change cube) cube' (sym now ∙ ap (λ state. cube_held_by state entry.user) (sym e) ∙ held) in
      let was = more_room (length h) cube (room.cubes entry.user cube holds) in
      subst (IsSmallCube (length h + 1)) same (record { mail = omega arith; own = tt; allowed_dispatches = was.allowed_dispatches; made_dispatches = was.made_dispatches; parcel_count = was.parcel_count })
  own-next (frees cube holds drained e) cube' held =
      let none : None ≡ Some cube' = sym (left-own entry.user (after h)) ∙ ap (λ state. cube_held_by state entry.user) (sym e) ∙ held in absurd (cc)
  own-next (calls call cube holds fits what e) cube' held =
      let now = cube_after_entry entry cube in
      let holds' = held_next cube holds e in
      let same = same_cube now cube' (sym holds' ∙ held) in
      let was = room.cubes entry.user cube holds in
      let few = call-few parts machine h room.lawful entry.user cube holds entry.actor call fits in
      let allowed = call-allowed parts machine h room.lawful entry.user entry.actor call cube holds fits in
      let sent = few-sent (nodes_of cube.grant) (cube_standing (after h) cube) entry.actor cube.grant call few in
      subst (IsSmallCube (length h + 1)) same (record {
        mail = mail-small parts machine h' lawful-next entry.user now holds' fits.not_drained;
        own = mail-own parts machine h' lawful-next entry.user now holds' fits.not_drained;
        allowed_dispatches = subst (λ what. allowed_dispatches_after cube.allowed_dispatches what ≤ greatest_count) what
            (armed-few (nodes_of cube.grant) (cube_standing (after h) cube) entry.actor cube.allowed_dispatches cube.grant call was.allowed_dispatches allowed);
        made_dispatches = few-dispatched parts machine h' lawful-next entry.user now holds' fits.not_drained;
        parcel_count = omega (
          arith,
          was.parcel_count,
          sent,
          ap (λ what. length (sent_parcels entry.actor what)) what,
          ap (λ n. n * length h) greatest_targets_lem,
          ap (λ n. n * (length h + 1)) greatest_targets_lem,
          greatest_targets_lem,
        );
      })

  cube-next : (user : ℕ) (cube' : HeldCube) → cube_held_by (after h') user ≡ Some cube' → IsSmallCube (length h + 1) cube'
  cube-next user cube' held =
      elim (cases_Bool (entry.user == user)) [
        | inl own ↦ own-next (change-of parts h entry is) cube' (ap (cube_held_by (after h')) (eqb-true _ _ own) ∙ held)
        | inr other ↦ more_room (length h) cube' (room.cubes user cube' (sym (step.others user other) ∙ held))
      ]

  roomy-next : IsRoomy parts h'
  roomy-next = record {
    lawful = lawful-next;
    nodes = node-next (change-of parts h entry is);
    cubes = λ user cube held. let one : length h + 1 ≡ length h' = omega (arith, length-append h (entry ∷ [])) in subst (λ n. IsSmallCube n cube) one (cube-next user cube held);
  }

roomy-nil : (parts : MachineParts) → IsRoomy parts []
unfolding after
roomy-nil parts = record { lawful = tt; nodes = λ node. blank-small; cubes = λ user cube held. absurd (cc) }

roomy : (parts : MachineParts) (history : List Entry) → IsMachine parts → IsLawful parts history → IsRoomy parts history
roomy parts history machine lawful =
    kept_by_each (IsLawfulEntry parts) (IsRoomy parts) (λ h entry room is. roomy-next parts machine h entry room is) [] history (roomy-nil parts) lawful

-- ---- a whole history

-- what is kept for each node has its limits
pub node-limits : (parts : MachineParts) (history : List Entry) → IsMachine parts → IsLawful parts history → (node : ℕ) → IsSmallRecord ((after history).node_record node)
node-limits parts history machine lawful node = (roomy parts history machine lawful).nodes node

-- so has each cube that is held
pub cube-limits : (parts : MachineParts) (history : List Entry) → IsMachine parts → IsLawful parts history → (user : ℕ) (cube : HeldCube)
    → cube_held_by (after history) user ≡ Some cube → IsSmallCube (length history) cube
cube-limits parts history machine lawful user cube holds = (roomy parts history machine lawful).cubes user cube holds

-- the parcels of a cube have a number of 64 bits
pub parcels-fit : (entries : ℕ) (cube : HeldCube) → IsSmallCube entries cube → entries ≤ 2 ^ 57 → cube.parcel_count < 2 ^ 63
parcels-fit entries cube small few = omega (arith, small.parcel_count, ap (λ n. n * entries) greatest_targets_lem, greatest_targets_lem)
