-- What waits at a node: starts and kills of its processes, and the parcels that were sent to them.
use Rattle.std.specs.Prelude.{ℕ, ◌+◌, ◌/◌, ◌%◌, ◌^◌, Bool, true, false, ◌&&◌, ◌||◌, ◌==◌, List, [], ◌∷◌, filter_map, Option, Some, None}
use Rattle.ce_model.specs.declared.topology.Place.{Place}
use Rattle.ce_model.specs.declared.topology.BlockId.{BlockId}
use Rattle.ce_model.specs.declared.entry.TakeResult.{TakeResult}
use Rattle.ce_model.specs.declared.entry.TakeResult.TheVariants.{Start, Mail, Kill}
use Rattle.ce_model.specs.Blocks.{Block}

-- a parcel: who sent it to whom, its number among all parcels of its cube, and the block that
-- carries its bytes
pub record Parcel : Type 0 where
  pub from : Place
  pub to : Place
  pub number : ℕ
  pub block : Block

-- an item that waits: an image's start as a process, a parcel, or the end of a process
pub data Item : Type 0 where
  start : ℕ → ℕ → Item
  mail : Parcel → Item
  kill : ℕ → Item

abbrev pub is_same_place : Place → Place → Bool
is_same_place a b = a.node == b.node && a.pid == b.pid

-- a number is in a set of numbers, which is a word that has one bit for each
abbrev pub is_member : ℕ → ℕ → Bool
is_member n word = word / 2 ^ n % 2 == 1

-- a node can be given the item, by the sets of its processes that wait for a message and that have
-- stopped: a parcel waits until its receiver asks for it or has stopped
abbrev pub is_eligible : ℕ → ℕ → Item → Bool
is_eligible asking dead (start pid image) = true
is_eligible asking dead (mail parcel) =
    is_member parcel.to.pid asking || is_member parcel.to.pid dead
is_eligible asking dead (kill pid) = true

-- how an entry names the item that a node is given
abbrev pub take_result_of : Item → TakeResult
take_result_of (start pid image) = Start pid image
take_result_of (mail parcel) = Mail parcel.to.pid parcel.number
take_result_of (kill pid) = Kill pid

-- an entry names this item: a process is started once and killed once, and a parcel has its number
abbrev pub is_named_by : TakeResult → Item → Bool
is_named_by (Start pid image) (start pid' image') = pid == pid'
is_named_by (Mail pid number) (mail parcel) = number == parcel.number
is_named_by (Kill pid) (kill pid') = pid == pid'
is_named_by given item = false

-- the id of the process for which an item is
abbrev pub item_id : Item → ℕ
item_id (start pid image) = pid
item_id (mail parcel) = parcel.to.pid
item_id (kill pid) = pid

abbrev pub parcel_in : Item → Option Parcel
parcel_in (mail parcel) = Some parcel
parcel_in other = None

-- the parcels among these items
abbrev pub item_parcels : List Item → List Parcel
item_parcels items = filter_map parcel_in items

-- what a node is given is an item, and not only leave to go on or none
abbrev pub is_item : TakeResult → Bool
is_item (Start pid image) = true
is_item (Mail pid number) = true
is_item (Kill pid) = true
is_item other = false

-- the parcels of one message, numbered from a number on: one for each target, of the same bytes
abbrev pub message_parcels : Place → ℕ → List ℕ → List (Place × BlockId) → List Parcel
message_parcels from number bytes [] = []
message_parcels from number bytes (target ∷ targets) =
    record {
      from = from;
      to = target.0;
      number = number;
      block = record { id = target.1; bytes = bytes };
    }
    ∷ message_parcels from (number + 1) bytes targets
