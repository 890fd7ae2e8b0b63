-- What a user has its host do fits, and what it makes of the host's store.
use Rattle.std.proofs.Common.{◌≡◌, ℕ, ◌+◌, ◌*◌, ◌^◌, ◌≤◌, true, false, ◌==◌, if◌then◌else◌, List, [], ◌∷◌, ◌++◌, map, drop, length, slice_get, Option, Some, None, IsSomeAnd, option_map, option_and_then, refl, ap, sym, ◌∙◌, subst, inl, inr, arith, pow_mono, append-nil}
use Rattle.std.specs.List.{AllByRecursion}
use Rattle.std.proofs.lemmas.Bool.{cases_Bool, cases_lt}
use Rattle.rv_model.specs.Image.{ImageParts}
use Rattle.ce_model.specs.declared.topology.TheConstants.{HOST}
use Rattle.ce_model.specs.declared.topology.BlockId.{BlockId}
use Rattle.ce_model.specs.declared.topology.Place.{Place}
use Rattle.ce_model.specs.declared.entry.Entry.{Entry}
use Rattle.ce_model.specs.declared.entry.What.TheVariants.{HostTake, Send, Arm}
use Rattle.ce_model.specs.Limits.{greatest_dim, home_blocks, home_blocks_lem, block_room, greatest_count, greatest_blocks_lem, greatest_nodes_lem}
use Rattle.ce_model.specs.Blocks.{with_id, is_same_id, without_id}
use Rattle.ce_model.specs.Parcels.{Parcel, Item, start, mail, kill}
use Rattle.ce_model.specs.Node.{Node, Call, take_call, send_call, spawn_call, kill_call, note_call, arm_call, look_call, mail_call, is_place}
use Rattle.ce_model.specs.Hearing.{mail_of, node_after_hearing}
use Rattle.ce_model.specs.Answers.{answer}
use Rattle.ce_model.specs.Trace.{allowed_dispatches, made_dispatches, allowed_dispatches_after, made_dispatches_after}
use Rattle.ce_model.specs.Cube.{Cube, CubeState, Wish, send_wish, opening, state_after_trace, hoststore, store_after, with_parcel, parcel_numbered, call_of_wish, wish_of_call, actor_call, mail_wish, arm_wish}
use Rattle.ce_model.specs.Owners.{IsBlockOf}
use Rattle.ce_model.specs.Subcubes.{relative_number}
use Rattle.ce_model.specs.Renaming.{CubeGrant, place_inward, block_inward, place_outward, block_outward, renamed_what, renamed_call_blocks, renamed_parcel, entry_inward, node_outward}
use Rattle.ce_model.specs.Views.{view}
use Rattle.ce_model.specs.Machine.{MachineParts, HeldCube, IsLawful, IsCallWithinLimits, IsFitting, IsCallOf, HasHeldCube, cube_request, after, cube_held_by, cube_of, MachineState, IsLawfulEntry, drain, freecube}
use Rattle.ce_model.proofs.OneMore.{hoststore-more, armed-more, dispatched-more}
use Rattle.ce_model.proofs.AloneByEntries.{call_of_wish-wish}
use Rattle.ce_solo.proofs.Counting.{same_id-self, hit, hit-self, hit-le, same_from_hit, count, count-cons, count-is}
use Rattle.ce_solo.proofs.Items.{parcel_ids}
use Rattle.ce_solo.proofs.Totals.{total, total-is, total-le}
use Rattle.ce_solo.proofs.Room.{held_blocks, few-blocks}
use Rattle.ce_solo.proofs.Renaming.Grants.{renaming}
use Rattle.ce_solo.proofs.Projection.Numbers.{IsPlaced, relative_host, block_in_out}
use Rattle.ce_solo.proofs.Projection.Law.{projected, after-more}
use Rattle.ce_cube.specs.Boxes.{drain_entry, trace_store, IsCubeCallEntry, IsAccepted}
use Rattle.ce_cube.specs.Laws.{ArmsAllow, DrainsFit, HostsFit, HostsSend, HostsTake}
use Rattle.ce_cube.specs.Rounds.{dispatches_left}
use Rattle.ce_model.proofs.Walked.{each-more}
use Rattle.ce_solo.proofs.Projection.Held.{held-own}
use Rattle.ce_cube.proofs.Held.{IsSeen, placed-grant, by_seen}
use Rattle.ce_cube.proofs.Users.{user-within}
use Rattle.ce_cube.proofs.Adds.{answer-made, one-more}
use Rattle.ce_cube.proofs.Names.{count-outward}
use Rattle.ce_cube.proofs.Replies.{numbered-renamed}

-- names don't matter for a machine's limits
limits-renamed : (rename : BlockId → BlockId) (call : Call) → IsCallWithinLimits call → IsCallWithinLimits (renamed_call_blocks rename call)
limits-renamed rename (send_call pid to bytes) is = is
limits-renamed rename (spawn_call pid image to) is = tt
limits-renamed rename (kill_call pid to) is = tt
limits-renamed rename (arm_call count) is = is
limits-renamed rename (take_call asking dead poller) is = tt
limits-renamed rename (note_call pid word) is = tt
limits-renamed rename look_call is = tt
limits-renamed rename mail_call is = tt

-- the first of a store is out of it
first_out : (id : BlockId) (store : List BlockId) → slice_get store 0 ≡ Some id → without_id id store ≡ drop 1 store
first_out id [] e = absurd (cc)
first_out id (x ∷ store) e =
    let same : x ≡ id = ap (λ found. elim found [ None ↦ id | Some y ↦ y ]) e in
    let is : is_same_id id x ≡ true = subst (λ y. is_same_id id y ≡ true) (sym same) (same_id-self id) in
    rw is refl

first_in : (P : BlockId → Type 0) (id : BlockId) (store : List BlockId) → AllByRecursion P store → slice_get store 0 ≡ Some id → P id
first_in P id [] all e = absurd (cc)
first_in P id (x ∷ store) all e = subst P (ap (λ found. elim found [ None ↦ id | Some y ↦ y ]) e) all.0

-- the block of a parcel that was found is among those that wait
found-waits : (number : ℕ) (items : List Item) (parcel : Parcel) → parcel_numbered number items ≡ Some parcel → 1 ≤ count parcel.block.id (parcel_ids items)
found-waits number [] parcel e = absurd (cc)
found-waits number (start pid image ∷ items) parcel e = found-waits number items parcel e
found-waits number (kill pid ∷ items) parcel e = found-waits number items parcel e
found-waits number (mail other ∷ items) parcel e =
    elim (cases_Bool (number == other.number)) [
      | inl here ↦
          let some : Some other ≡ Some parcel = rw here at e in
          let same : other ≡ parcel = cc in
          omega (arith, count-cons parcel.block.id other.block.id (parcel_ids items), ap (λ (p : Parcel). count parcel.block.id (p.block.id ∷ parcel_ids items)) same, count-cons parcel.block.id parcel.block.id (parcel_ids items), hit-self parcel.block.id)
      | inr past ↦
          let later : parcel_numbered number items ≡ Some parcel = rw past at e in
          omega (arith, found-waits number items parcel later, count-cons parcel.block.id other.block.id (parcel_ids items))
    ]

-- a node without processes, which stores what it hears of
keeper : List BlockId → Node
keeper store = record { number = 0; dim = 0; home = 0; images = 0; processes = []; store = store; polling_ids = []; turn = None }

keeper-stores : (images : List ImageParts) (grant : CubeGrant) (store : List BlockId) (parcel : Parcel)
    → node_after_hearing images (node_outward grant (keeper store)) (mail_of parcel) ≡ record (node_outward grant (keeper store)) { store = with_id parcel.block.id (map (block_outward grant) store) }
unfolding node_after_hearing keeper
keeper-stores images grant store parcel = refl

put-outward : (dim : ℕ) (grant : CubeGrant) (placed : IsPlaced dim grant) (store : List BlockId) (parcel : Parcel) → AllByRecursion (IsBlockOf grant.dim) store
    → IsBlockOf grant.dim parcel.block.id → map (block_outward grant) (with_id parcel.block.id store) ≡ with_id (block_outward grant parcel.block.id) (map (block_outward grant) store)
unfolding node_after_hearing keeper
put-outward dim grant placed store parcel all of =
    ap (λ (node : Node). node.store) (sym ((renaming dim grant (keeper store) (placed-grant dim grant placed) (subst (AllByRecursion (IsBlockOf grant.dim)) (sym (append-nil store)) all)).1 [] (mail_of parcel) of))

module _ (parts : MachineParts) (history : List Entry) (cube : HeldCube) (now : IsSeen parts history cube) where
  abbrev own : Cube
  own = cube_of parts.images cube.grant

  abbrev s : CubeState
  s = state_after_trace own (opening own) (view history cube.number)

  abbrev out : BlockId → BlockId
  out = block_outward cube.grant

  store-blocks : AllByRecursion (IsBlockOf cube.grant.dim) s.hoststore
  store-blocks = held_blocks own s s.hoststore now.stands.sound (λ id. omega (arith, total-is id cube.grant.dim s))

  fits-by : (wish : Wish) (call : Call) → call_of_wish own s.hoststore wish ≡ Some call → IsCallWithinLimits call
      → IsFitting parts history cube.grant.user HOST (cube_request (renamed_call_blocks out call))
  fits-by wish call e within =
      let was = (projected parts history now.machine now.lawful).held cube.grant.user cube now.holds in
      let host = relative_host parts.dim cube.grant now.placed in
      let of : IsCallOf parts history HOST (renamed_call_blocks out call) cube = record {
        inner = call;
        inside = inl refl;
        next = ap (λ actor. actor_call own (opening own) (view history cube.number) actor (wish_of_call call)) host
            ∙ ap (option_and_then (call_of_wish own s.hoststore)) (call_of_wish-wish own s.hoststore wish call e) ∙ e;
        renamed = refl;
        within = λ host. limits-renamed out call within;
        not_drained = now.goes;
      } in (
        user-within parts history cube.number cube.grant was.behind now.lawful was.found,
        subst (λ held. IsSomeAnd held (IsCallOf parts history HOST (renamed_call_blocks out call))) (sym now.holds) of,
      )

  -- the host's store behind an entry of its own
  module _ (wish : Wish) (call : Call) (is : call_of_wish own s.hoststore wish ≡ Some call) (within : IsCallWithinLimits call) (entry : Entry)
      (made : IsCubeCallEntry parts history cube.grant HOST (renamed_call_blocks out call) entry) where
    abbrev inner : Entry
    inner = entry_inward cube.grant.sub entry

    store-next : trace_store parts (history ++ entry ∷ []) cube.number cube.grant ≡ store_after (s.standing.node_record HOST).waiting_items s.hoststore inner.what
    store-next =
        let more = one-more parts history cube now HOST (renamed_call_blocks out call) entry (fits-by wish call is within) made in
        let actor : inner.actor ≡ HOST = ap (relative_number cube.grant.sub) made.actor_is ∙ relative_host parts.dim cube.grant now.placed in
        ap (hoststore (opening own)) more.trace
        ∙ hoststore-more (opening own) (view history cube.number) inner
        ∙ ap (λ n. if n == HOST then store_after (s.standing.node_record HOST).waiting_items s.hoststore inner.what else s.hoststore) actor

  -- ---- it allows dispatches

  arm-allows : (count : ℕ) (entry : Entry) → count ≤ greatest_count → IsCubeCallEntry parts history cube.grant HOST (arm_call count) entry
      → dispatches_left parts (history ++ entry ∷ []) cube.number cube.grant ≡ count
  unfolding answer
  arm-allows count entry within made =
      let o = (opening own).standing in
      let t = view history cube.number in
      let inner = entry_inward cube.grant.sub entry in
      let more = one-more parts history cube now HOST (arm_call count) entry (fits-by (arm_wish count) (arm_call count) refl within) made in
      let what : inner.what ≡ Arm count =
      ap (renamed_what (place_inward cube.grant.sub) (block_inward cube.grant.sub)) (sym (answer-made parts history cube HOST (arm_call count) entry now.holds made)) in
      omega (
        arith,
        ap (allowed_dispatches o) more.trace ∙ armed-more o t inner ∙ ap (allowed_dispatches_after (allowed_dispatches o t)) what,
        ap (made_dispatches o) more.trace ∙ dispatched-more o t inner ∙ ap (made_dispatches_after (made_dispatches o t)) what,
      )

  -- ---- it gives its cube back

  drain-fits : IsFitting parts history cube.grant.user HOST drain
  drain-fits =
      let was = (projected parts history now.machine now.lawful).held cube.grant.user cube now.holds in (
        user-within parts history cube.number cube.grant was.behind now.lawful was.found,
        (refl, subst (λ held. IsSomeAnd held (λ one. one.is_drained ≡ false)) (sym now.holds) now.goes),
      )

  drained_held : cube_held_by (after (history ++ drain_entry cube.grant ∷ [])) cube.grant.user ≡ Some (record cube { is_drained = true; mail = [] })
  drained_held =
      ap (λ (state : MachineState). cube_held_by state cube.grant.user) (after-more history (drain_entry cube.grant))
      ∙ held-own cube.grant.user (λ one. record one { is_drained = true; mail = [] }) (λ one. refl) (λ one node kept. record kept { waiting_items = [] }) (after history) cube now.holds

  drains-fit : IsFitting parts history cube.grant.user HOST drain × IsLawful parts (history ++ drain_entry cube.grant ∷ [])
      × IsFitting parts (history ++ drain_entry cube.grant ∷ []) cube.grant.user HOST freecube
  drains-fit = (
    drain-fits,
    each-more (IsLawfulEntry parts) history (drain_entry cube.grant) now.lawful (record { request = drain; fits = drain-fits; answer = refl }),
    (drain-fits.0, (refl, subst (λ held. IsSomeAnd held (λ one. one.is_drained ≡ true)) (sym drained_held) refl)),
  )

  -- ---- it sends

  module _ (to : Place) (id : BlockId) (bytes : List ℕ) (least : slice_get s.hoststore 0 ≡ Some id) (place : is_place cube.grant.dim to ≡ true)
      (short : length bytes ≤ block_room) (entry : Entry) (made : IsCubeCallEntry parts history cube.grant HOST (send_call 0 ((to, out id) ∷ []) bytes) entry) where
    sent-is : entry.what ≡ Send 0 cube.parcel_count ((place_outward cube.grant.sub to, out id) ∷ []) bytes
    unfolding answer
    sent-is = sym (answer-made parts history cube HOST (send_call 0 ((to, out id) ∷ []) bytes) entry now.holds made)

    asked-is : call_of_wish own s.hoststore (send_wish to bytes) ≡ Some (send_call 0 ((to, id) ∷ []) bytes)
    asked-is = rw (place, least) refl

    send-next : trace_store parts (history ++ entry ∷ []) cube.number cube.grant ≡ drop 1 s.hoststore
    send-next =
        store-next (send_wish to bytes) (send_call 0 ((to, id) ∷ []) bytes) asked-is short entry made
        ∙ ap (λ what. store_after (s.standing.node_record HOST).waiting_items s.hoststore (renamed_what (place_inward cube.grant.sub) (block_inward cube.grant.sub) what)) sent-is
        ∙ ap (λ id. without_id id s.hoststore)
        (block_in_out parts.dim cube.grant now.placed id (first_in (IsBlockOf cube.grant.dim) id s.hoststore store-blocks least))
        ∙ first_out id s.hoststore least

  -- ---- it takes

  module _ (number : ℕ) (entry : Entry) (made : IsCubeCallEntry parts history cube.grant HOST mail_call entry) (what : entry.what ≡ HostTake (Some number)) where
    abbrev items : List Item
    items = (s.standing.node_record HOST).waiting_items

    module _ (parcel : Parcel) (found : parcel_numbered number items ≡ Some parcel) where
      once_with : (id : BlockId) → count id (parcel.block.id ∷ s.hoststore) ≤ total id cube.grant.dim s
      once_with id =
          elim (cases_lt (hit id parcel.block.id) 1) [
            | inl other ↦ omega (arith, other, count-cons id parcel.block.id s.hoststore, total-is id cube.grant.dim s)
            | inr same ↦
                omega (
                  arith,
                  hit-le id parcel.block.id,
                  count-cons id parcel.block.id s.hoststore,
                  total-is id cube.grant.dim s,
                  found-waits number items parcel found,
                  ap (λ id. count id (parcel_ids items)) (same_from_hit id parcel.block.id same),
                )
          ]

      own-blocks : AllByRecursion (IsBlockOf cube.grant.dim) (parcel.block.id ∷ s.hoststore)
      own-blocks = held_blocks own s (parcel.block.id ∷ s.hoststore) now.stands.sound once_with

      few : length (parcel.block.id ∷ s.hoststore) ≤ (2 ^ cube.grant.dim + 1) * home_blocks
      few = few-blocks own (parcel.block.id ∷ s.hoststore) now.of own-blocks (λ id. omega (arith, once_with id, total-le own s id now.stands.sound))

      accepted : IsAccepted parts history cube.number cube.grant entry (renamed_parcel out parcel)
      accepted = record {
        new =
            let id = parcel.block.id in
            omega (arith, count-outward parts.dim cube.grant now.placed id s.hoststore own-blocks.0 own-blocks.1, count-is id s.hoststore, once_with id, total-le own s id now.stands.sound, count-cons id id s.hoststore, hit-self id);
        room =
            let more : 2 ^ cube.grant.dim ≤ 2 ^ greatest_dim = pow_mono now.of.dim in
            omega (arith, few, more, ap (λ n. (2 ^ cube.grant.dim + 1) * n) home_blocks_lem, greatest_nodes_lem, greatest_blocks_lem);
        stored =
            ap (map out) (store-next mail_wish mail_call refl tt entry made
            ∙ ap (λ what. store_after items s.hoststore (renamed_what (place_inward cube.grant.sub) (block_inward cube.grant.sub) what)) what
            ∙ ap (with_parcel s.hoststore) found)
            ∙ put-outward parts.dim cube.grant now.placed s.hoststore parcel own-blocks.1 own-blocks.0;
      }

    take-next : (parcel : Parcel) (found : Option Parcel) → parcel_numbered number items ≡ found → option_map (renamed_parcel out) found ≡ Some parcel
        → IsAccepted parts history cube.number cube.grant entry parcel
    take-next parcel None is e = absurd (cc)
    take-next parcel (Some own) is e =
        subst (IsAccepted parts history cube.number cube.grant entry) (ap (λ found. elim found [ None ↦ parcel | Some p ↦ p ]) e) (accepted own is)

    taken-next : (parcel : Parcel) → HasHeldCube history cube.grant.user (λ cube. parcel_numbered number cube.mail ≡ Some parcel)
        → IsAccepted parts history cube.number cube.grant entry parcel
    taken-next parcel is =
        let here = subst (λ held. IsSomeAnd held (λ one. parcel_numbered number one.mail ≡ Some parcel)) now.holds is in
        take-next parcel (parcel_numbered number items) refl (sym (ap (parcel_numbered number) now.standing.host ∙ numbered-renamed out number items) ∙ here)

pub hosts-fit : HostsFit
hosts-fit parts history number grant machine lawful held wish call is within =
    by_seen
    (λ number grant. call_of_wish (cube_of parts.images grant) (trace_store parts history number grant) wish ≡ Some call
    → IsFitting parts history grant.user HOST (cube_request (renamed_call_blocks (block_outward grant) call))) parts history number grant machine lawful
    (λ cube now is. fits-by parts history cube now wish call is within) held is

pub hosts-send : HostsSend
hosts-send parts history number grant machine lawful held to id bytes entry least place short made =
    by_seen
    (λ number grant. slice_get (trace_store parts history number grant) 0 ≡ Some id → is_place grant.dim to ≡ true
    → IsCubeCallEntry parts history grant HOST (send_call 0 ((to, block_outward grant id) ∷ []) bytes) entry
    → trace_store parts (history ++ entry ∷ []) number grant ≡ drop 1 (trace_store parts history number grant)) parts history number grant machine lawful
    (λ cube now least place made. send-next parts history cube now to id bytes least place short entry made) held least place made

pub hosts-take : HostsTake
hosts-take parts history number grant machine lawful held number' parcel entry made what is =
    by_seen
    (λ number grant. IsCubeCallEntry parts history grant HOST mail_call entry → HasHeldCube history grant.user (λ cube. parcel_numbered number' cube.mail ≡ Some parcel)
    → IsAccepted parts history number grant entry parcel) parts history number grant machine lawful
    (λ cube now made is. taken-next parts history cube now number' entry made what parcel is) held made is

pub arms-allow : ArmsAllow
arms-allow parts history number grant machine lawful held count entry within made =
    by_seen
    (λ number grant. IsCubeCallEntry parts history grant HOST (arm_call count) entry → dispatches_left parts (history ++ entry ∷ []) number grant ≡ count) parts history number grant machine lawful
    (λ cube now made. arm-allows parts history cube now count entry within made) held made

pub drains-fit-held : DrainsFit
drains-fit-held parts history number grant machine lawful held =
    by_seen
    (λ number grant. IsFitting parts history grant.user HOST drain × IsLawful parts (history ++ drain_entry grant ∷ [])
    × IsFitting parts (history ++ drain_entry grant ∷ []) grant.user HOST freecube) parts history number grant machine lawful
    (λ cube now. drains-fit parts history cube now) held
