-- Which answer a box can hear.
use Rattle.std.specs.Prelude.{◌≡◌, ◌<◌, IsTrue, List, length, Some, None, slice_get, Contains}
use Rattle.rv_model.specs.Image.{ImageParts}
use Rattle.ce_model.specs.declared.process.Status.TheVariants.{Unborn}
use Rattle.ce_model.specs.Limits.{process_count}
use Rattle.ce_model.specs.Parcels.{Parcel, mail, is_eligible}
use Rattle.ce_model.specs.Process.{is_receiving, is_stopped}
use Rattle.ce_model.specs.Node.{Call, take_call, take_call_of, process_set, process_at, blocks_of}
use Rattle.rk_mail.specs.declared.talk.Hearing.{Hearing}
use Rattle.rk_mail.specs.declared.talk.Hearing.TheVariants.{Start, Mail, Kill, Poll}
use Rattle.rk_mail.specs.Items.{parcel_of}
use Rattle.rk_mail.specs.Talk.{IsAnswerTo}
use Rattle.rk_node.specs.declared.awaited_call.AwaitedCall.TheVariants.{Nothing}
use Rattle.rk_node.specs.Wording.{awaited_call_of}
use Rattle.rk_node.specs.Boxes.{Box, HasRoomForBlock}

-- the box has said this call, and waits for its answer; a Take is said by a node without a turn
abbrev pub IsAwaitingAnswer : Box → Call → Type 0
IsAwaitingAnswer box (take_call asking dead poller) = (box.awaited_call ≡ Nothing)
    × (box.node.turn ≡ None) × (take_call asking dead poller ≡ take_call_of box.node)
IsAwaitingAnswer box call = awaited_call_of call ≡ box.awaited_call

-- a parcel is for a process that waits for a message or has stopped, and its block is new to the
-- box, which has room for it
pub record IsEligibleForBox (box : Box) (parcel : Parcel) : Type 0 where
  pub eligible : IsTrue
      (is_eligible (process_set is_receiving box.node.processes)
      (process_set is_stopped box.node.processes) (mail parcel))
  pub apart : ¬ (Contains (blocks_of box.node) parcel.block.id)
  pub room : HasRoomForBlock box

-- what is asked for is the node's: the start of a process that wasn't started, of an image of the
-- list, a parcel for it, the end of a process that was started, or a poll of the one that polls
-- longest
abbrev pub IsBoxWork : List ImageParts → Box → Hearing → Type 0
IsBoxWork images box (Start pid image) =
    (pid < process_count) × ((process_at box.node pid).status ≡ Unborn) × (image < length images)
IsBoxWork images box (Mail parcel) = IsEligibleForBox box (parcel_of parcel)
IsBoxWork images box (Kill pid) =
    (pid < process_count) × ¬ ((process_at box.node pid).status ≡ Unborn)
IsBoxWork images box (Poll pid) = slice_get box.node.polling_ids 0 ≡ Some pid
IsBoxWork images box other = Unit {0}

-- the box can hear this answer: it is one to the call that it has said, and its work is the node's
pub record IsAbleToHear (images : List ImageParts) (box : Box) (hearing : Hearing) : Type 0 where
  pub call : Call
  pub said : IsAwaitingAnswer box call
  pub answer : IsAnswerTo call hearing
  pub work : IsBoxWork images box hearing
