-- A node of a sound cube can hear what its Take is answered.
use Rattle.std.proofs.Common.{◌≡◌, ℕ, ◌+◌, ◌*◌, ◌^◌, ◌<◌, ◌≤◌, Bool, true, false, ◌||◌, [], ◌∷◌, find, length, count_by, slice_get, Option, Some, None, refl, ap, sym, ◌∙◌, subst, inl, inr, arith, pow_mono}
use Rattle.std.proofs.lemmas.Bool.{or_cases}
use Rattle.ce_model.specs.declared.topology.BlockId.{BlockId}
use Rattle.ce_model.specs.Limits.{greatest_dim, home_blocks_lem, process_count, greatest_blocks, greatest_blocks_lem, greatest_nodes_lem}
use Rattle.ce_model.specs.Blocks.{is_same_id}
use Rattle.ce_model.specs.Parcels.{Parcel, Item, start, mail, kill, is_member, is_eligible, take_result_of}
use Rattle.ce_model.specs.Process.{is_receiving, is_stopped}
use Rattle.ce_model.specs.Node.{Node, take_call, blocks_of, process_set}
use Rattle.ce_model.specs.Saying.{says}
use Rattle.ce_model.specs.Trace.{NodeRecord}
use Rattle.ce_model.specs.Answers.{offer_of}
use Rattle.ce_model.specs.Cube.{Cube, CubeState, IsCube, hearing_of_parcel, hearing_of_result}
use Rattle.ce_model.specs.Sound.{IsSound}
use Rattle.ce_model.proofs.Subcubes.{find-passes}
use Rattle.ce_solo.proofs.Counting.{hit-self, count, count-nil, count-cons, count-is, sum_run-part}
use Rattle.ce_solo.proofs.Records.{record_with, among-all, HasTakenItem, without_named, takes-item, start-taken, kill-taken}
use Rattle.ce_solo.proofs.Totals.{count_at_node, count_at_node-is, total, total-is, total-le}
use Rattle.ce_solo.proofs.Room.{held_blocks, few-blocks}
use Rattle.ce_solo.proofs.Words.{HasMadeCall}
use Rattle.ce_solo.proofs.HandedOver.{member-of}
use Rattle.ce_solo.proofs.NodeTakes.{poller-polls, poller-within, now_well, birth_of, numbered_parcel}
use Rattle.ce_cube.specs.Hearable.{IsStartable, IsDeliverable, IsEndable, IsPoller, IsHearable}

module _ (cube : Cube) (s : CubeState) (r : ℕ) (of : IsCube cube) (below : r < 2 ^ cube.dim) (sound : IsSound cube s) (asking dead : ℕ) (poller : Option ℕ)
    (said : HasMadeCall (s.node r) (says (s.node r)).node (take_call asking dead poller)) where
  abbrev now : Node
  now = (says (s.node r)).node

  abbrev kept : NodeRecord
  kept = s.standing.node_record r

  abbrev left_behind : Item → NodeRecord
  left_behind item = record_with (without_named item kept.waiting_items) kept.spawned_ids kept.killed_ids kept.mark

  -- what a node is given is the first that it can be given
  abbrev IsFirst : Item → Type 0
  IsFirst item = find (is_eligible asking dead) kept.waiting_items ≡ Some item

  taken_is : (item : Item) → IsFirst item → HasTakenItem cube s.standing.parcel_count r asking dead kept (left_behind item) item
  taken_is item found = takes-item cube s.standing.parcel_count r asking dead kept kept.mark item (sound.records r below) found

  startable : (pid image : ℕ) → IsFirst (start pid image) → IsStartable cube.images now pid image
  startable pid image found =
      let taken = taken_is (start pid image) found in
      let is = start-taken cube s.standing.parcel_count r asking dead pid image kept (left_behind (start pid image)) (sound.records r below) refl refl taken in
      let within = among-all (λ q. q < process_count) pid kept.spawned_ids (sound.records r below).ids taken.of_node.0 in
      record {
        pid_within = within;
        image_within = taken.of_node.1;
        unborn = birth_of cube s r of below sound asking dead poller said pid within ∙ is.0;
        between_turns = said.of_node.1;
      }

  endable : (pid : ℕ) → IsFirst (kill pid) → IsEndable now pid
  endable pid found =
      let taken = taken_is (kill pid) found in
      let is = kill-taken cube s.standing.parcel_count r asking dead pid kept (left_behind (kill pid)) (sound.records r below) taken in
      record { pid_within = is.0; born = birth_of cube s r of below sound asking dead poller said pid is.0 ∙ is.1; between_turns = said.of_node.1 }

  -- the block of a parcel that waits, and those of the node, are blocks of the cube, each once
  once_with : (parcel : Parcel) (id : BlockId) → IsFirst (mail parcel) → count id (parcel.block.id ∷ blocks_of now) ≤ total id cube.dim s
  once_with parcel id found =
      omega (
        arith,
        (taken_is (mail parcel) found).parcels id,
        said.became.blocks id,
        count-nil id,
        count-cons id parcel.block.id (blocks_of now),
        count-cons id parcel.block.id [],
        count_at_node-is id s r,
        total-is id cube.dim s,
        sum_run-part (count_at_node id s) r 0 (2 ^ cube.dim) (omega arith) (omega (arith, below)),
      )

  new_block : (parcel : Parcel) → IsFirst (mail parcel) → count_by (is_same_id parcel.block.id) (blocks_of now) ≡ 0
  new_block parcel found =
      let id = parcel.block.id in
      omega (arith, count-is id (blocks_of now), once_with parcel id found, total-le cube s id sound, count-cons id id (blocks_of now), hit-self id)

  room_left : (parcel : Parcel) → IsFirst (mail parcel) → length (blocks_of now) < greatest_blocks
  room_left parcel found =
      let few = few-blocks cube (parcel.block.id ∷ blocks_of now) of (held_blocks cube s (parcel.block.id ∷ blocks_of now) sound (λ id. once_with parcel id found))
      (λ id. omega (arith, once_with parcel id found, total-le cube s id sound)) in
      let more : 2 ^ cube.dim ≤ 2 ^ greatest_dim = pow_mono of.dim in
      omega (arith, few, more, ap (λ n. (2 ^ cube.dim + 1) * n) home_blocks_lem, greatest_nodes_lem, greatest_blocks_lem)

  asking_is : asking ≡ process_set is_receiving now.processes
  asking_is = ap (λ call. elim call [ take_call a d p ↦ a | other ↦ 0 ]) said.of_node.0

  dead_is : dead ≡ process_set is_stopped now.processes
  dead_is = ap (λ call. elim call [ take_call a d p ↦ d | other ↦ 0 ]) said.of_node.0

  can_be_given : (parcel : Parcel) → IsFirst (mail parcel)
      → (is_member parcel.to.pid (process_set is_receiving now.processes) || is_member parcel.to.pid (process_set is_stopped now.processes)) ≡ true
  can_be_given parcel found =
      ap (λ ids. is_member parcel.to.pid ids || is_member parcel.to.pid (process_set is_stopped now.processes)) (sym asking_is)
      ∙ ap (λ ids. is_member parcel.to.pid asking || is_member parcel.to.pid ids) (sym dead_is)
      ∙ find-passes (is_eligible asking dead) kept.waiting_items (mail parcel) found

  deliverable : (parcel : Parcel) → IsFirst (mail parcel) → IsDeliverable now parcel
  deliverable parcel found = record {
    pid_within = (taken_is (mail parcel) found).of_node.1;
    receiver = elim (or_cases _ _ (can_be_given parcel found)) [
      | inl asks ↦ inl (member-of is_receiving now.processes parcel.to.pid asks)
      | inr ended ↦ inr (member-of is_stopped now.processes parcel.to.pid ended)
    ];
    eligible = can_be_given parcel found;
    new = new_block parcel found;
    room = room_left parcel found;
    between_turns = said.of_node.1;
  }

  first_poller : (pid : ℕ) → poller ≡ Some pid → IsPoller now pid
  first_poller pid e =
      let first : slice_get now.polling_ids 0 ≡ Some pid = sym (ap (λ call. elim call [ take_call a d p ↦ p | other ↦ None ]) said.of_node.0) ∙ e in
      let well = now_well cube s r of below sound asking dead poller said in
      let polls = poller-polls now pid well first in
      record { pid_within = poller-within now pid well polls; polls = polls; first = first; between_turns = said.of_node.1 }

  item-hearable : (item : Item) → IsFirst item → IsHearable cube.images now (hearing_of_result kept.waiting_items (take_result_of item))
  item-hearable (start pid image) found = startable pid image found
  item-hearable (mail parcel) found =
      subst (λ found. IsHearable cube.images now (hearing_of_parcel found))
      (sym (numbered_parcel cube s r of below sound asking dead poller said parcel (taken_is (mail parcel) found).out.found)) (deliverable parcel found)
  item-hearable (kill pid) found = endable pid found

  offered-hearable : (found : Option Item) (polls : Option ℕ) (used : Bool) → find (is_eligible asking dead) kept.waiting_items ≡ found → poller ≡ polls
      → IsHearable cube.images now (hearing_of_result kept.waiting_items (offer_of found polls used))
  offered-hearable (Some item) polls true f p = tt
  offered-hearable (Some item) polls false f p = item-hearable item f
  offered-hearable None (Some pid) true f p = tt
  offered-hearable None (Some pid) false f p = first_poller pid p
  offered-hearable None None used f p = tt

  pub take-hearable : (used : Bool) → IsHearable cube.images now (hearing_of_result kept.waiting_items (offer_of (find (is_eligible asking dead) kept.waiting_items) poller used))
  take-hearable used = offered-hearable (find (is_eligible asking dead) kept.waiting_items) poller used refl refl
