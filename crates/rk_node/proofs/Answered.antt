-- What the answer to a box's call leaves of its node: it is well.
use Rattle.std.proofs.Common.{◌≡◌, ℕ, suc, ◌+◌, ◌<◌, ◌≤◌, Bool, true, false, ◌||◌, List, [], ◌∷◌, length, Option, Some, None, IfSome, refl, ap, sym, ◌∙◌, subst, arith, inl, inr}
use Rattle.std.specs.List.{Contains}
use Rattle.std.proofs.lemmas.Bool.{cases_lt, both_ways, or_cases}
use Rattle.std.proofs.lemmas.List.{get_or_past}
use Rattle.rv_model.specs.Image.{ImageParts}
use Rattle.ce_model.specs.declared.topology.Place.{Place}
use Rattle.ce_model.specs.declared.topology.BlockId.{BlockId}
use Rattle.ce_model.specs.declared.process.Status.{Status}
use Rattle.ce_model.specs.declared.process.Status.TheVariants.{Unborn, Running, Asking, Polling, Stopped}
use Rattle.ce_model.specs.Limits.{process_count}
use Rattle.ce_model.specs.Blocks.{Block, with_id}
use Rattle.ce_model.specs.Parcels.{is_member}
use Rattle.ce_model.specs.Process.{Process, unborn_process, is_receiving, is_stopped}
use Rattle.ce_model.specs.Node.{Turn, Node, Call, take_call, send_call, spawn_call, kill_call, note_call, arm_call, look_call, mail_call, process_at, blocks_of, process_set}
use Rattle.ce_model.specs.Kernel.{with_store}
use Rattle.ce_model.specs.Hearing as model
use Rattle.ce_model.specs.Sound.{is_unborn, is_polling, IsSoundTurn}
use Rattle.ce_solo.proofs.Counting.{hit, hit-le, same_from_hit, count, count-nil, count-one, count-cons, rising-put}
use Rattle.ce_solo.proofs.Nodes.{IsWell}
use Rattle.ce_solo.proofs.Hears.{mail-hears, nothing-hears, kill-hears, poll-hears, told-hears, receiving_is, start-begins}
use Rattle.ce_solo.proofs.HandedOver.{member-of}
use Rattle.ce_solo.proofs.NodeTakes.{poller-polls}
use Rattle.rk_mail.specs.declared.talk.Hearing.{Hearing}
use Rattle.rk_mail.specs.declared.talk.Hearing.TheVariants.{Start, Mail, Kill, Poll, Idle, Spent, Posted, Spawned, Used, Killed, Unused, Already, Noted}
use Rattle.rk_mail.specs.Items.{parcel_of}
use Rattle.rk_mail.specs.Talk.{hearing_model, is_take_hearing, IsAnswerTo}
use Rattle.rk_node.specs.declared.node.Node as code
use Rattle.rk_node.specs.Boxes.{Box}
use Rattle.rk_node.specs.Standing.{node_model}
use Rattle.rk_node.specs.Wording.{HasBatch}
use Rattle.rk_node.specs.Answering.{IsAwaitingAnswer, IsBoxWork, IsAbleToHear}
use Rattle.rk_node.specs.Hearings.{IsNodeWork, HasRoomToHear, batch_after_hearing}
use Rattle.rk_node.proofs.Counted.{count-blocks}
use Rattle.rk_node.proofs.Heard.{apart-stored, once-stored}

-- ---- names that aren't there

contains-more : (id x : BlockId) (xs : List BlockId) → Contains xs id → Contains (x ∷ xs) id
contains-more id x xs (k, low, same) = (suc k, omega arith, same)

pub not-counted : (id : BlockId) (xs : List BlockId) → ¬ (Contains xs id) → count id xs ≡ 0
not-counted id [] apart = count-nil id
not-counted id (x ∷ xs) apart =
    elim (cases_lt (hit id x) 1) [
      | inl none ↦ omega (arith, count-cons id x xs, not-counted id xs (λ there. apart (contains-more id x xs there)))
      | inr here ↦ absurd (apart (0, omega arith, sym (same_from_hit id x here)))
    ]

-- a block that is nowhere in the node is there once when it has come
pub once-come : (node : Node) (id other : BlockId) → ((id : BlockId) → count id (blocks_of node) ≤ 1) → count id (blocks_of node) ≡ 0
    → count other (blocks_of node) + count other (id ∷ []) ≤ 1
once-come node id other once none =
    elim (cases_lt (hit other id) 1) [
      | inl not_it ↦ omega (arith, count-one other id, once other)
      | inr it ↦ (let here : count other (blocks_of node) ≡ 0 = ap (λ name. count name (blocks_of node)) (same_from_hit other id it) ∙ none in
          omega (arith, here, count-one other id, hit-le other id))
    ]

-- a node with a block more in its store
pub put-well : (turn : Option Turn) (node : Node) (id : BlockId) → IsWell turn node → count id (blocks_of node) ≡ 0 → IsWell turn (with_store (with_id id node.store) node)
put-well turn node id well none = record {
  process_ids = well.process_ids;
  processes = well.processes;
  polling_ids = well.polling_ids;
  store = rising-put id node.store well.store (apart-stored node id none);
  once = (once-stored node id (record { once = well.once }) none).once;
}

-- ---- who an answer is for

-- a process of which something holds that doesn't of one that wasn't started is one of the node's
within-by : (turn : Option Turn) (node : Node) (pid : ℕ) (test : Status → Bool) → IsWell turn node → test Unborn ≡ false
    → test (process_at node pid).status ≡ true → pid < process_count
within-by turn node pid test well not_unborn holds =
    elim (cases_lt pid process_count) [
      | inl within ↦ within
      | inr past ↦ (let none : process_at node pid ≡ unborn_process = get_or_past node.processes pid unborn_process (omega (arith, well.process_ids)) in
          absurd (both_ways _ (ap (λ (p : Process). test p.status) none ∙ not_unborn) holds))
    ]

eligible-within : (turn : Option Turn) (node : Node) (pid : ℕ) → IsWell turn node
    → (is_member pid (process_set is_receiving node.processes) || is_member pid (process_set is_stopped node.processes)) ≡ true → pid < process_count
eligible-within turn node pid well can =
    elim (or_cases (is_member pid (process_set is_receiving node.processes)) (is_member pid (process_set is_stopped node.processes)) can) [
      | inl t ↦ within-by turn node pid is_receiving well refl (member-of is_receiving node.processes pid t)
      | inr t ↦ within-by turn node pid is_stopped well refl (member-of is_stopped node.processes pid t)
    ]

pub polling-receives : (s : Status) → is_polling s ≡ true → is_receiving s ≡ true
polling-receives Unborn h = absurd (cc)
polling-receives Running h = absurd (cc)
polling-receives Asking h = refl
polling-receives Polling h = refl
polling-receives (Stopped cause) h = absurd (cc)

pub born_status : (s : Status) → ¬ (s ≡ Unborn) → is_unborn s ≡ false
born_status Unborn h = absurd (h refl)
born_status Running h = refl
born_status Asking h = refl
born_status Polling h = refl
born_status (Stopped cause) h = refl

-- ---- what was said

-- only a Take is answered by something to do, and it is said without a turn
pub take-idle : (box : Box) (call : Call) (hearing : Hearing) → IsAwaitingAnswer box call → IsAnswerTo call hearing → is_take_hearing hearing ≡ true → box.node.turn ≡ None
take-idle box (take_call asking dead poller) hearing said answer h = said.1
take-idle box (send_call pid to bytes) hearing said answer h = absurd (both_ways _ (ap is_take_hearing answer) h)
take-idle box (spawn_call pid image to) hearing said answer h =
    elim answer [ inl e ↦ absurd (both_ways _ (ap is_take_hearing e) h) | inr e ↦ absurd (both_ways _ (ap is_take_hearing e) h) ]
take-idle box (kill_call pid to) hearing said answer h =
    elim answer [
      | inl e ↦ absurd (both_ways _ (ap is_take_hearing e) h)
      | inr others ↦ elim others [ inl e ↦ absurd (both_ways _ (ap is_take_hearing e) h) | inr e ↦ absurd (both_ways _ (ap is_take_hearing e) h) ]
    ]
take-idle box (note_call pid word) hearing said answer h = absurd (both_ways _ (ap is_take_hearing answer) h)
take-idle box (arm_call n) hearing said answer h = absurd answer
take-idle box look_call hearing said answer h = absurd answer
take-idle box mail_call hearing said answer h = absurd answer

take-keeps : (hearing : Hearing) (batch : Option (List (Place × Block))) → is_take_hearing hearing ≡ true → batch_after_hearing hearing batch ≡ batch
take-keeps (Start pid image) batch h = refl
take-keeps (Mail parcel) batch h = refl
take-keeps (Kill pid) batch h = refl
take-keeps (Poll pid) batch h = refl
take-keeps Idle batch h = refl
take-keeps Spent batch h = refl
take-keeps (Posted other) batch h = absurd (both_ways _ refl h)
take-keeps Spawned batch h = refl
take-keeps Used batch h = refl
take-keeps Killed batch h = refl
take-keeps Unused batch h = refl
take-keeps Already batch h = refl
take-keeps Noted batch h = refl

-- the spare batch is here and empty once the answer was heard
pub heard-batch : (box : Box) (call : Call) (hearing : Hearing) (batch : Option (List (Place × Block))) → IsAwaitingAnswer box call → IsAnswerTo call hearing → HasBatch box.awaited_call batch
    → batch_after_hearing hearing batch ≡ Some []
heard-batch box (take_call asking dead poller) hearing batch said answer has =
    let here : batch ≡ Some [] = subst (λ o. HasBatch o batch) said.0 has in take-keeps hearing batch answer ∙ here
heard-batch box (send_call pid to bytes) hearing batch said answer has = ap (λ h. batch_after_hearing h batch) answer
heard-batch box (spawn_call pid image to) hearing batch said answer has =
    let here : batch ≡ Some [] = subst (λ o. HasBatch o batch) (sym said) has in
    elim answer [ inl e ↦ ap (λ h. batch_after_hearing h batch) e ∙ here | inr e ↦ ap (λ h. batch_after_hearing h batch) e ∙ here ]
heard-batch box (kill_call pid to) hearing batch said answer has =
    let here : batch ≡ Some [] = subst (λ o. HasBatch o batch) (sym said) has in
    elim answer [
      | inl e ↦ ap (λ h. batch_after_hearing h batch) e ∙ here
      | inr others ↦ elim others [ inl e ↦ ap (λ h. batch_after_hearing h batch) e ∙ here | inr e ↦ ap (λ h. batch_after_hearing h batch) e ∙ here ]
    ]
heard-batch box (note_call pid word) hearing batch said answer has =
    let here : batch ≡ Some [] = subst (λ o. HasBatch o batch) (sym said) has in ap (λ h. batch_after_hearing h batch) answer ∙ here
heard-batch box (arm_call n) hearing batch said answer has = absurd answer
heard-batch box look_call hearing batch said answer has = absurd answer
heard-batch box mail_call hearing batch said answer has = absurd answer

-- ---- the node once it has heard

-- the node is well in the turn that it keeps
abbrev pub IsWellNow : Node → Type 0
IsWellNow node = IsWell node.turn node

module _ (images : List ImageParts) (box : Box) (well : IsWell box.node.turn box.node) (sound : IfSome box.node.turn IsSoundTurn) where
  -- the node has no turn
  well-idle : box.node.turn ≡ None → IsWell None box.node
  well-idle none = subst (λ turn. IsWell turn box.node) none well

  pub work-of : (hearing : Hearing) → IsAbleToHear images box hearing → IsNodeWork images box.node hearing
  work-of (Start pid image) can = can.work
  work-of (Mail parcel) can = (
    take-idle box can.call (Mail parcel) can.said can.answer refl,
    eligible-within box.node.turn box.node parcel.to.pid well can.work.eligible,
    not-counted parcel.block.id (blocks_of box.node) can.work.apart,
  )
  work-of (Kill pid) can = can.work.0
  work-of (Poll pid) can = within-by box.node.turn box.node pid is_polling well refl (poller-polls box.node pid well can.work)
  work-of Idle can = tt
  work-of Spent can = tt
  work-of (Posted batch) can = tt
  work-of Spawned can = tt
  work-of Used can = tt
  work-of Killed can = tt
  work-of Unused can = tt
  work-of Already can = tt
  work-of Noted can = tt

  pub hears-well : (hearing : Hearing) → IsAbleToHear images box hearing → IsWellNow (model.node_after_hearing images box.node (hearing_model hearing))
  hears-well (Start pid image) can =
      let none = take-idle box can.call (Start pid image) can.said can.answer refl in
      let begins = start-begins images box.node pid image (well-idle none) can.work.0 (ap is_unborn can.work.1) in
      begins.well
  hears-well (Mail parcel) can =
      let work = work-of (Mail parcel) can in
      (mail-hears images box.node (parcel_of parcel) (well-idle work.0) work.0 work.1 (λ id. once-come box.node parcel.block.id id well.once work.2)).became.well
  hears-well (Kill pid) can =
      let none = take-idle box can.call (Kill pid) can.said can.answer refl in
      (kill-hears images box.node pid (well-idle none) none can.work.0 (born_status (process_at box.node pid).status can.work.1)).became.well
  hears-well (Poll pid) can =
      let none = take-idle box can.call (Poll pid) can.said can.answer refl in
      let is = receiving_is (process_at box.node pid).status (polling-receives (process_at box.node pid).status (poller-polls box.node pid well can.work)) in
      (poll-hears images box.node pid (well-idle none) (work-of (Poll pid) can) is.0 is.1).became.well
  hears-well Idle can = (nothing-hears images box.node well sound).became.well
  hears-well Spent can = (nothing-hears images box.node well sound).became.well
  hears-well (Posted batch) can = (told-hears images box.node 0 well sound).became.well
  hears-well Spawned can = (told-hears images box.node 0 well sound).became.well
  hears-well Used can = (told-hears images box.node 2 well sound).became.well
  hears-well Killed can = (told-hears images box.node 0 well sound).became.well
  hears-well Unused can = (told-hears images box.node 2 well sound).became.well
  hears-well Already can = (told-hears images box.node 3 well sound).became.well
  hears-well Noted can = (nothing-hears images box.node well sound).became.well

-- there is room for what the node is given
pub room-for : (images : List ImageParts) (box : Box) (node : code.Node) (hearing : Hearing) → box.node ≡ node_model node → box.room ≡ node.room
    → IsBoxWork images box hearing → HasRoomToHear hearing node
room-for images box node (Mail parcel) same room work =
    omega (arith, work.room, room, ap (λ (n : Node). length (blocks_of n)) same, count-blocks node)
room-for images box node (Start pid image) same room work = tt
room-for images box node (Kill pid) same room work = tt
room-for images box node (Poll pid) same room work = tt
room-for images box node Idle same room work = tt
room-for images box node Spent same room work = tt
room-for images box node (Posted batch) same room work = tt
room-for images box node Spawned same room work = tt
room-for images box node Used same room work = tt
room-for images box node Killed same room work = tt
room-for images box node Unused same room work = tt
room-for images box node Already same room work = tt
room-for images box node Noted same room work = tt
