-- What a box that said something, and heard the answer, is.
use Rattle.std.proofs.Common.{◌≡◌, ℕ, ◌+◌, ◌≤◌, List, [], length, None, IfSome, refl, ap, sym, ◌∙◌, subst, arith}
use Rattle.rv_model.specs.Image.{ImageParts}
use Rattle.ce_model.specs.declared.topology.BlockId.{BlockId}
use Rattle.ce_model.specs.Limits.{greatest_blocks}
use Rattle.ce_model.specs.Node.{Node, Call, process_at, blocks_of}
use Rattle.ce_model.specs.Saying.{says}
use Rattle.ce_model.specs.Hearing.{node_after_hearing}
use Rattle.ce_model.specs.Sound.{is_unborn, IsSoundTurn}
use Rattle.ce_solo.proofs.Counting.{count, count-nil}
use Rattle.ce_solo.proofs.Nodes.{IsWell}
use Rattle.ce_solo.proofs.Items.{parcel_ids}
use Rattle.ce_solo.proofs.Says.{says-said}
use Rattle.ce_solo.proofs.Hears.{HasHeardAnswer, mail-hears, nothing-hears, kill-hears, poll-hears, told-hears, receiving_is, start-begins}
use Rattle.ce_solo.proofs.NodeTakes.{poller-polls}
use Rattle.rk_mail.specs.declared.talk.Hearing.{Hearing}
use Rattle.rk_mail.specs.declared.talk.Hearing.TheVariants.{Start, Mail, Kill, Poll, Idle, Spent, Posted, Spawned, Used, Killed, Unused, Already, Noted}
use Rattle.rk_mail.specs.Queue.{Queue}
use Rattle.rk_mail.specs.Items.{parcel_of}
use Rattle.rk_mail.specs.Talk.{hearing_model}
use Rattle.rk_node.specs.declared.awaited_call.AwaitedCall.TheVariants.{Nothing}
use Rattle.rk_node.specs.Boxes.{Box, fresh_node_at}
use Rattle.rk_node.specs.Answering.{IsAwaitingAnswer, IsAbleToHear}
use Rattle.rk_node.specs.Withdrawal.{HasTakenOut}
use Rattle.rk_node.proofs.Answered.{once-come, born_status, polling-receives, take-idle, work-of}
use Rattle.rk_node.proofs.Sorted.{idle-well, idle-fresh, idle-blocks}
use Rattle.rk_rows.specs.Lone.{hearing_ids, HasQueued, IsAnswerable, IsAnsweredAlone, IsAloneAtRest}

-- ---- a fresh box

pub fresh-rests : (box : Box) (images : List ImageParts) (queue : Queue) (n : ℕ) → box.node ≡ fresh_node_at 0 0 0 n → box.awaited_call ≡ Nothing → greatest_blocks ≤ box.room
    → length images ≡ n → queue.items ≡ [] → IsAloneAtRest box images queue
fresh-rests box images queue n fresh idle room long empty = record {
  idle = idle;
  well = subst (λ (node : Node). IsWell node.turn node) (sym fresh) (idle-well (fresh_node_at 0 0 0 n) (idle-fresh 0 0 0 n));
  sound = subst (λ (node : Node). IfSome node.turn IsSoundTurn) (sym fresh) tt;
  images = long ∙ sym (ap (λ (node : Node). node.images) fresh);
  room = room;
  places = record {
    places = λ id. omega (
      arith,
      ap (λ (node : Node). count id (blocks_of node)) fresh,
      ap (count id) (idle-blocks (fresh_node_at 0 0 0 n) (idle-fresh 0 0 0 n)),
      count-nil id,
      ap (λ items. count id (parcel_ids items)) empty,
    );
  };
}

-- ---- what was said

-- a box that has said a call waits for its answer
pub said-answerable : (before after : Box) (call : Call) (images : List ImageParts) (queue : Queue) → IsAloneAtRest before images queue → IsAwaitingAnswer after call
    → after.room ≡ before.room → HasTakenOut before.node after.node call → IsAnswerable after call queue.items
said-answerable before after call images queue rests said room out = record {
  said = said;
  room = omega (arith, room, rests.room);
  places = record { places = λ id. omega (arith, rests.places.places id, out id, count-nil id) };
}

-- ---- what was heard

-- the node is well, and its turn within its limits; it has as many images, and the block that came
-- is its own
pub record IsAfter (node node' : Node) (come : List BlockId) : Type 0 where
  pub well : IsWell node'.turn node'
  pub sound : IfSome node'.turn IsSoundTurn
  pub images : node'.images ≡ node.images
  pub blocks : (id : BlockId) → count id (blocks_of node') ≡ count id (blocks_of node) + count id come

heard-after : (node node' : Node) (come : List BlockId) → HasHeardAnswer node node' come → IsAfter node node' come
heard-after node node' come node_after_hearing = record {
  well = node_after_hearing.became.well;
  sound = node_after_hearing.turn;
  images = node_after_hearing.became.images;
  blocks = λ id. omega (arith, node_after_hearing.became.blocks id, count-nil id);
}

module _ (images : List ImageParts) (box : Box) (well : IsWell box.node.turn box.node) (sound : IfSome box.node.turn IsSoundTurn) where
  well-idle : box.node.turn ≡ None → IsWell None box.node
  well-idle none = subst (λ turn. IsWell turn box.node) none well

  pub hears-after : (hearing : Hearing) → IsAbleToHear images box hearing → IsAfter box.node (node_after_hearing images box.node (hearing_model hearing)) (hearing_ids hearing)
  hears-after (Start pid image) can =
      let none = take-idle box can.call (Start pid image) can.said can.answer refl in
      let begins = start-begins images box.node pid image (well-idle none) can.work.0 (ap is_unborn can.work.1) in
      record { well = begins.well; sound = begins.turn; images = begins.images; blocks = λ id. omega (arith, begins.blocks id, count-nil id) }
  hears-after (Mail parcel) can =
      let work = work-of images box well sound (Mail parcel) can in
      heard-after box.node _ _ (mail-hears images box.node (parcel_of parcel) (well-idle work.0) work.0 work.1 (λ id. once-come box.node parcel.block.id id well.once work.2))
  hears-after (Kill pid) can =
      let none = take-idle box can.call (Kill pid) can.said can.answer refl in
      heard-after box.node _ _ (kill-hears images box.node pid (well-idle none) none can.work.0 (born_status (process_at box.node pid).status can.work.1))
  hears-after (Poll pid) can =
      let none = take-idle box can.call (Poll pid) can.said can.answer refl in
      let is = receiving_is (process_at box.node pid).status (polling-receives (process_at box.node pid).status (poller-polls box.node pid well can.work)) in
      heard-after box.node _ _ (poll-hears images box.node pid (well-idle none) (work-of images box well sound (Poll pid) can) is.0 is.1)
  hears-after Idle can = heard-after box.node _ _ (nothing-hears images box.node well sound)
  hears-after Spent can = heard-after box.node _ _ (nothing-hears images box.node well sound)
  hears-after (Posted batch) can = heard-after box.node _ _ (told-hears images box.node 0 well sound)
  hears-after Spawned can = heard-after box.node _ _ (told-hears images box.node 0 well sound)
  hears-after Used can = heard-after box.node _ _ (told-hears images box.node 2 well sound)
  hears-after Killed can = heard-after box.node _ _ (told-hears images box.node 0 well sound)
  hears-after Unused can = heard-after box.node _ _ (told-hears images box.node 2 well sound)
  hears-after Already can = heard-after box.node _ _ (told-hears images box.node 3 well sound)
  hears-after Noted can = heard-after box.node _ _ (nothing-hears images box.node well sound)

-- a box that has heard the answer is at rest again
pub heard-rests : (images : List ImageParts) (before said after : Box) (hearing : Hearing) (queue queue' : Queue) → IsAloneAtRest before images queue
    → said.node ≡ (says before.node).node → said.room ≡ before.room → IsAnsweredAlone images said hearing queue'.items
    → after.node ≡ node_after_hearing images said.node (hearing_model hearing) → after.room ≡ said.room → after.awaited_call ≡ Nothing → IsAloneAtRest after images queue'
heard-rests images before said after hearing queue queue' rests is room answered heard_is room' idle =
    let leaves = (says-said before.node rests.well rests.sound).leaves in
    let well = subst (λ (node : Node). IsWell node.turn node) (sym is) leaves.became.well in
    let sound = subst (λ (node : Node). IfSome node.turn IsSoundTurn) (sym is) leaves.turn in
    let now = hears-after images said well sound hearing answered.can in
    record {
      idle = idle;
      well = subst (λ (node : Node). IsWell node.turn node) (sym heard_is) now.well;
      sound = subst (λ (node : Node). IfSome node.turn IsSoundTurn) (sym heard_is) now.sound;
      images = rests.images ∙ sym (ap (λ (node : Node). node.images) heard_is ∙ now.images ∙ ap (λ (node : Node). node.images) is ∙ leaves.became.images);
      room = omega (arith, room, room', rests.room);
      places = record {
        places = λ id. omega (arith, answered.places.places id, now.blocks id, ap (λ (node : Node). count id (blocks_of node)) heard_is, count-nil id);
      };
    }

-- the list of images is as long as the box was told, also once it has said something
pub said-images : (images : List ImageParts) (before said : Box) (queue : Queue) → IsAloneAtRest before images queue → said.node ≡ (says before.node).node
    → length images ≡ said.node.images
said-images images before said queue rests is =
    rests.images ∙ sym (ap (λ (node : Node). node.images) is ∙ (says-said before.node rests.well rests.sound).leaves.became.images)

-- nothing else waits than before that has a block
pub queued-rests : (box : Box) (images : List ImageParts) (queue queue' : Queue) → IsAloneAtRest box images queue → HasQueued [] queue.items queue'.items
    → IsAloneAtRest box images queue'
queued-rests box images queue queue' rests queued = record {
  idle = rests.idle;
  well = rests.well;
  sound = rests.sound;
  images = rests.images;
  room = rests.room;
  places = record { places = λ id. omega (arith, rests.places.places id, queued.counts id, count-nil id) };
}
