-- A process that has stopped has stopped for good.
use Rattle.std.proofs.Common.{◌≡◌, ℕ, ◌+◌, ◌^◌, ◌<◌, ◌≤◌, Bool, true, false, not, ◌&&◌, ◌==◌, nat_lt, if◌then◌else◌, [], ◌∷◌, find, slice_get, Option, Some, None, refl, ap, sym, ◌∙◌, subst, arith, inl, inr}
use Rattle.std.proofs.lemmas.Bool.{cases_eq, both_ways, eqb-true, and_parts, and_from, ltb-true}
use Rattle.ce_model.specs.declared.topology.BlockId.{BlockId}
use Rattle.ce_model.specs.declared.topology.Place.{Place}
use Rattle.ce_model.specs.declared.process.Status.{Status}
use Rattle.ce_model.specs.declared.process.Status.TheVariants.{Unborn, Running, Asking, Polling, Stopped}
use Rattle.ce_model.specs.Limits.{process_count}
use Rattle.ce_model.specs.Parcels.{Item, start, mail, kill, is_eligible, take_result_of}
use Rattle.ce_model.specs.Process.{Process, is_stopped}
use Rattle.ce_model.specs.Node.{Node, process_at, blocks_of, Call, take_call, send_call, spawn_call, kill_call, note_call, arm_call, look_call, mail_call, take_call_of}
use Rattle.ce_model.specs.Trace.{NodeRecord}
use Rattle.ce_model.specs.Answers.{is_among, kill_result, offer_of, is_used_up, answer}
use Rattle.ce_model.specs.Saying.{says}
use Rattle.ce_model.specs.Hearing.{node_after_hearing, nothing}
use Rattle.ce_model.specs.Cube.{Cube, CubeState, IsCube, hearing_of_result, hearing_of_parcel, kill_answer, Wish}
use Rattle.ce_model.specs.Sound.{is_unborn, IsSound}
use Rattle.ce_solo.proofs.Counting.{count, count-nil}
use Rattle.ce_solo.proofs.Words.{HasMadeCall}
use Rattle.ce_solo.proofs.Hears.{nothing-hears, told-hears, poll-hears, kill-hears, mail-hears, start-begins}
use Rattle.ce_solo.proofs.Records.{record_with, takes-item, start-taken, kill-taken, without_named, among-all}
use Rattle.ce_solo.proofs.NodeEntries.{once_here}
use Rattle.ce_solo.proofs.NodeTakes.{polling_is, poller-polls, poller-within, now_well, birth_of, numbered_parcel}
use Rattle.ce_solo.proofs.Entries.{cube_node_after, state_after, entry_in}
use Rattle.ce_solo.proofs.Made.{IsMadeCall, by_host, by_node, made-leaves}
use Rattle.ce_model.specs.declared.entry.TakeResult.TheVariants.{Poll}
use Rattle.ce_solo.proofs.Sending.{not_host}

-- each process that has stopped has stopped still
abbrev pub AreStillStopped : Node → Node → Type 0
AreStillStopped node node' = (pid : ℕ) → is_stopped (process_at node pid).status ≡ true → is_stopped (process_at node' pid).status ≡ true

not_both : (s : Status) → is_unborn s ≡ true → is_stopped s ≡ true → ⊥
not_both Unborn u h = both_ways _ refl h
not_both Running u h = both_ways _ refl u
not_both Asking u h = both_ways _ refl u
not_both Polling u h = both_ways _ refl u
not_both (Stopped cause) u h = both_ways _ refl u

module _ (cube : Cube) (s : CubeState) (r : ℕ) (of : IsCube cube) (below : r < 2 ^ cube.dim) (sound : IsSound cube s) where
  abbrev now : Node
  now = (says (s.node r)).node

  abbrev node_record : NodeRecord
  node_record = s.standing.node_record r

  module _ (asking dead : ℕ) (poller : Option ℕ) (said : HasMadeCall (s.node r) now (take_call asking dead poller)) where
    item-stays : (item : Item) → find (is_eligible asking dead) node_record.waiting_items ≡ Some item → AreStillStopped now (node_after_hearing cube.images now (hearing_of_result node_record.waiting_items (take_result_of item)))
    item-stays (start pid image) found =
        let taken = takes-item cube s.standing.parcel_count r asking dead node_record node_record.mark (start pid image) (sound.records r below) found in
        let is = start-taken cube s.standing.parcel_count r asking dead pid image node_record (record_with (without_named (start pid image) node_record.waiting_items) node_record.spawned_ids node_record.killed_ids node_record.mark) (sound.records r below) refl refl taken in
        let within = among-all (λ q. q < process_count) pid node_record.spawned_ids (sound.records r below).ids taken.of_node.0 in
        let unborn = birth_of cube s r of below sound asking dead poller said pid within ∙ is.0 in
        let begins = start-begins cube.images now pid image (now_well cube s r of below sound asking dead poller said) within unborn in
        λ q h. elim (cases_eq q pid) [
          | inl same ↦ absurd (not_both (process_at now pid).status unborn (subst (λ k. is_stopped (process_at now k).status ≡ true) same h))
          | inr differ ↦ ap (λ (p : Process). is_stopped p.status) (begins.others q differ) ∙ h
        ]
    item-stays (mail parcel) found =
        let taken = takes-item cube s.standing.parcel_count r asking dead node_record node_record.mark (mail parcel) (sound.records r below) found in
        let once : (id : BlockId) → count id (blocks_of now) + count id (parcel.block.id ∷ []) ≤ 1 =
        λ id. omega (arith, once_here cube s r of below sound id, taken.parcels id, said.became.blocks id, count-nil id) in
        let heard = mail-hears cube.images now parcel (now_well cube s r of below sound asking dead poller said) said.of_node.1 taken.of_node.1 once in
        subst (λ found. AreStillStopped now (node_after_hearing cube.images now (hearing_of_parcel found))) (sym (numbered_parcel cube s r of below sound asking dead poller said parcel taken.out.found)) heard.became.stopped
    item-stays (kill pid) found =
        let taken = takes-item cube s.standing.parcel_count r asking dead node_record node_record.mark (kill pid) (sound.records r below) found in
        let is = kill-taken cube s.standing.parcel_count r asking dead pid node_record (record_with (without_named (kill pid) node_record.waiting_items) node_record.spawned_ids node_record.killed_ids node_record.mark) (sound.records r below) taken in
        (kill-hears cube.images now pid (now_well cube s r of below sound asking dead poller said) said.of_node.1 is.0 (birth_of cube s r of below sound asking dead poller said pid is.0 ∙ is.1)).became.stopped

    poller-at : (node : Node) → take_call asking dead poller ≡ take_call_of node → slice_get node.polling_ids 0 ≡ poller
    poller-at node same = cc

    poll-stays : (pid : ℕ) → poller ≡ Some pid → AreStillStopped now (node_after_hearing cube.images now (hearing_of_result node_record.waiting_items (Poll pid)))
    poll-stays pid e =
        let well = now_well cube s r of below sound asking dead poller said in
        let polls = poller-polls now pid well (poller-at now said.of_node.0 ∙ e) in
        let is = polling_is (process_at now pid).status polls in
        (poll-hears cube.images now pid well (poller-within now pid well polls) is.0 is.1).became.stopped

    nothing-stays : AreStillStopped now (node_after_hearing cube.images now nothing)
    nothing-stays = (nothing-hears cube.images now said.became.well said.turn).became.stopped

    offered-stays : (found : Option Item) (p : Option ℕ) (used : Bool) → find (is_eligible asking dead) node_record.waiting_items ≡ found → poller ≡ p
        → AreStillStopped now (node_after_hearing cube.images now (hearing_of_result node_record.waiting_items (offer_of found p used)))
    offered-stays (Some item) p true f e = nothing-stays
    offered-stays (Some item) p false f e = item-stays item f
    offered-stays None (Some pid) true f e = nothing-stays
    offered-stays None (Some pid) false f e = poll-stays pid e
    offered-stays None None used f e = nothing-stays

  -- by the node's own entry
  pub own-stays : (call : Call) → HasMadeCall (s.node r) now call → AreStillStopped now (cube_node_after true cube s r (entry_in cube s r call))
  unfolding answer
  own-stays (take_call asking dead poller) said = offered-stays asking dead poller said (find (is_eligible asking dead) node_record.waiting_items) poller (is_used_up s.standing) refl refl
  own-stays (send_call pid to bytes) said = (told-hears cube.images now 0 said.became.well said.turn).became.stopped
  own-stays (spawn_call pid image to) said =
      (told-hears cube.images now (if not (is_among to.pid (s.standing.node_record to.node).spawned_ids) then 0 else 2) said.became.well said.turn).became.stopped
  own-stays (kill_call pid to) said =
      (told-hears cube.images now (kill_answer (kill_result (s.standing.node_record to.node) to.pid)) said.became.well said.turn).became.stopped
  own-stays (note_call pid word) said = (nothing-hears cube.images now said.became.well said.turn).became.stopped
  own-stays (arm_call count) said = absurd said.of_node
  own-stays look_call said = absurd said.of_node
  own-stays mail_call said = absurd said.of_node

-- whether the process at this place is one of the cube that has stopped
abbrev pub is_receiver_stopped : Cube → CubeState → Place → Bool
is_receiver_stopped cube s to = nat_lt to.node (2 ^ cube.dim) && is_stopped (process_at (s.node to.node) to.pid).status

stays-by : (cube : Cube) (s : CubeState) (actor r : ℕ) (wish : Option Wish) (call : Call) (b : Bool) → (actor == r) ≡ b → IsCube cube → IsSound cube s → r < 2 ^ cube.dim
    → IsMadeCall cube s actor wish call → AreStillStopped (s.node r) (cube_node_after b cube s r (entry_in cube s actor call))
stays-by cube s actor r wish call false is of sound below m = λ pid h. h
stays-by cube s actor r wish call true is of sound below (by_host e m) = absurd (omega (arith, not_host cube r of below, eqb-true actor r is))
stays-by cube s actor r wish call true is of sound below (by_node low e) =
    let same = eqb-true actor r is in
    let said = made-leaves cube s actor call of low sound e in
    subst (λ r. AreStillStopped (s.node r) (cube_node_after true cube s r (entry_in cube s actor call))) same
    (λ pid h. own-stays cube s actor of low sound call said pid (said.became.stopped pid h))

pub is_receiver_stopped-stays : (cube : Cube) (s : CubeState) (actor : ℕ) (wish : Option Wish) (call : Call) (to : Place) → IsCube cube → IsSound cube s → IsMadeCall cube s actor wish call
    → is_receiver_stopped cube s to ≡ true → is_receiver_stopped cube (state_after cube s (entry_in cube s actor call)) to ≡ true
is_receiver_stopped-stays cube s actor wish call to of sound m h =
    let parts = and_parts (nat_lt to.node (2 ^ cube.dim)) (is_stopped (process_at (s.node to.node) to.pid).status) h in
    and_from _ _ parts.0
    (stays-by cube s actor to.node wish call (actor == to.node) refl of sound (ltb-true _ _ parts.0) m to.pid parts.1)
