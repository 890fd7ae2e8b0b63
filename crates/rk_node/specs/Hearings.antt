-- What the parts of an answer, and of the end of a cube, ask of a node.
use Rattle.std.specs.Prelude.{◌≡◌, ℕ, ◌<◌, ◌≤◌, List, ◌++◌, length, Option, Some, None}
use Rattle.rv_model.specs.Image.{ImageParts}
use Rattle.ce_model.specs.declared.topology.Place.{Place}
use Rattle.ce_model.specs.declared.topology.BlockId.{BlockId}
use Rattle.ce_model.specs.declared.process.Status.TheVariants.{Unborn}
use Rattle.ce_model.specs.Limits.{process_count}
use Rattle.ce_model.specs.Blocks.{Block}
use Rattle.ce_model.specs.Space.{mapped_ids}
use Rattle.ce_model.specs.Node as model
use Rattle.ce_solo.proofs.Counting.{count}
use Rattle.xm_block.specs.Stores.{BlockStore, ids_of}
use Rattle.rk_mail.specs.declared.talk.Hearing.{Hearing}
use Rattle.rk_mail.specs.declared.talk.Hearing.TheVariants.{Start, Mail, Kill, Poll, Posted}
use Rattle.rk_node.specs.declared.node.Node.{Node}
use Rattle.rk_node.specs.Ready.{HasRoom}

-- what the node can be asked to do
abbrev pub IsNodeWork : List ImageParts → model.Node → Hearing → Type 0
IsNodeWork images node (Start pid image) =
    (pid < process_count) × ((model.process_at node pid).status ≡ Unborn) × (image < length images)
IsNodeWork images node (Mail parcel) =
    (node.turn ≡ None) × (parcel.to.pid < process_count)
    × (count parcel.block.id (model.blocks_of node) ≡ 0)
IsNodeWork images node (Kill pid) = pid < process_count
IsNodeWork images node (Poll pid) = pid < process_count
IsNodeWork images node other = Unit {0}

-- there is room for a parcel's block
abbrev pub HasRoomToHear : Hearing → Node → Type 0
HasRoomToHear (Mail parcel) node = HasRoom node
HasRoomToHear other node = Unit {0}

-- the spare batch comes back with the answer to a message
abbrev pub batch_after_hearing : Hearing → Option (List (Place × Block))
    → Option (List (Place × Block))
batch_after_hearing (Posted batch) old_batch = Some batch
batch_after_hearing other old_batch = old_batch

-- the names of the blocks of a process of the node
abbrev pub process_block_ids : ℕ → model.Node → List BlockId
process_block_ids pid node = mapped_ids (model.process_at node pid).space

-- no two of these names and of those in a store are the same
pub record AreNewToStore (ids : List BlockId) (store : BlockStore) : Type 0 where
  pub apart : (id : BlockId) → count id (ids ++ ids_of store.blocks) ≤ 1
