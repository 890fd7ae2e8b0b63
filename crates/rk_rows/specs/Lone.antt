-- A node that is alone, and what waits for it.
use Rattle.std.specs.Prelude.{◌≡◌, ◌+◌, ◌≤◌, List, [], ◌∷◌, length, map, IfSome}
use Rattle.rv_model.specs.Image.{ImageParts}
use Rattle.ce_model.specs.declared.topology.Place.{Place}
use Rattle.ce_model.specs.declared.topology.BlockId.{BlockId}
use Rattle.ce_model.specs.Limits.{greatest_blocks}
use Rattle.ce_model.specs.Blocks.{Block, blocks_of_home}
use Rattle.ce_model.specs.Parcels.{Item, mail}
use Rattle.ce_model.specs.Node.{Node, Call, blocks_of}
use Rattle.ce_model.specs.Saying.{says}
use Rattle.ce_model.specs.Hearing.{node_after_hearing}
use Rattle.ce_model.specs.Sound.{IsSoundTurn}
use Rattle.ce_solo.proofs.Counting.{count}
use Rattle.ce_solo.proofs.Nodes.{IsWell}
use Rattle.ce_solo.proofs.Items.{parcel_ids}
use Rattle.ce_solo.proofs.Words.{call_ids}
use Rattle.rk_mail.specs.declared.talk.Hearing.{Hearing}
use Rattle.rk_mail.specs.declared.talk.Hearing.TheVariants.{Mail}
use Rattle.rk_mail.specs.Queue.{Queue}
use Rattle.rk_mail.specs.Talk.{hearing_model}
use Rattle.rk_mail.specs.Targets.{targets_of}
use Rattle.rk_node.specs.Boxes.{Box, IsIdleBox}
use Rattle.rk_node.specs.Answering.{IsAwaitingAnswer, IsEligibleForBox, IsAbleToHear}

-- the names of the blocks of a message
abbrev pub batch_ids : List (Place × Block) → List BlockId
batch_ids batch = map (λ (target : Place × BlockId). target.1) (targets_of batch)

-- the names of the blocks that come with an answer
abbrev pub hearing_ids : Hearing → List BlockId
hearing_ids (Mail parcel) = parcel.block.id ∷ []
hearing_ids other = []

-- each block that the node has, that is away with a call or an answer, or that waits in a parcel,
-- is one of the node's own, at one place
pub record AreAtOnePlace (node : Node) (away_ids : List BlockId) (items : List Item) : Type 0 where
  pub places : (id : BlockId) → count id (blocks_of node) + count id away_ids
      + count id (parcel_ids items) ≤ count id (blocks_of_home 0)

-- no more blocks than these wait that didn't wait before
pub record HasQueued (ids : List BlockId) (old_items new_items : List Item) : Type 0 where
  pub counts : (id : BlockId) → count id (parcel_ids new_items)
      ≤ count id (parcel_ids old_items) + count id ids

-- an item can be given to the box
abbrev pub IsEligibleItem : Box → Item → Type 0
IsEligibleItem box (mail parcel) = IsEligibleForBox box parcel
IsEligibleItem box other = Unit {0}

-- the box waits for the answer to a call, while these items wait for it
pub record IsAnswerable (box : Box) (call : Call) (items : List Item) : Type 0 where
  pub said : IsAwaitingAnswer box call
  pub room : greatest_blocks ≤ box.room
  pub places : AreAtOnePlace box.node (call_ids call) items

-- the box can hear this answer, while these items wait for it
pub record IsAnsweredAlone (images : List ImageParts) (box : Box) (hearing : Hearing)
    (items : List Item) : Type 0 where
  pub can : IsAbleToHear images box hearing
  pub places : AreAtOnePlace box.node (hearing_ids hearing) items

-- no call of the box but a Take is out, and each of its blocks is at one place
pub record IsAloneAtRest (box : Box) (image_list : List ImageParts) (queue : Queue) : Type 0 where
  pub idle : IsIdleBox box
  pub well : IsWell box.node.turn box.node
  pub sound : IfSome box.node.turn IsSoundTurn
  pub images : length image_list ≡ box.node.images
  pub room : greatest_blocks ≤ box.room
  pub places : AreAtOnePlace box.node [] queue.items

-- the box has said what it says, and has heard an answer that it could hear
pub record HasExchangedAlone (old_box new_box : Box) : Type 0 where
  pub images : List ImageParts
  pub box_after : Box
  pub hearing : Hearing
  pub said_is : box_after.node ≡ (says old_box.node).node
  pub can : IsAbleToHear images box_after hearing
  pub heard_is : new_box.node ≡ node_after_hearing images box_after.node (hearing_model hearing)
