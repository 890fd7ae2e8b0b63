-- What one process sent to another, and what that one got of it, in order.
use Rattle.std.specs.Prelude.{ℕ, Bool, ◌&&◌, ◌==◌, if◌then◌else◌, List, [], ◌++◌, map, filter, Option, Some, None, option_and_then, option_to_list}
use Rattle.ce_model.specs.declared.topology.Place.{Place}
use Rattle.ce_model.specs.declared.entry.Entry.{Entry}
use Rattle.ce_model.specs.declared.entry.What.{What}
use Rattle.ce_model.specs.declared.entry.What.TheVariants.{HostTake, Take}
use Rattle.ce_model.specs.declared.entry.TakeResult.TheVariants.{Mail}
use Rattle.ce_model.specs.Lists.{fold_with_front, IsFront}
use Rattle.ce_model.specs.Parcels.{Parcel, Item, item_parcels, is_same_place, is_member}
use Rattle.ce_model.specs.Cube.{parcel_numbered}
use Rattle.ce_model.specs.Trace.{Standing, waiting_items, sent_items}

-- the parcel goes from the one place to the other
abbrev pub is_between : Place → Place → Parcel → Bool
is_between from to parcel = is_same_place parcel.from from && is_same_place parcel.to to

-- the bytes of the parcels among these items that go from the one place to the other
abbrev pub bytes_between : Place → Place → List Item → List (List ℕ)
bytes_between from to items =
    map (λ parcel. parcel.block.bytes) (filter (is_between from to) (item_parcels items))

-- what was sent from the one place to the other, in order; what waited at first counts as sent
unfoldable pub messages_sent : Standing → Place → Place → List Entry → List (List ℕ)
messages_sent o from to t = bytes_between from to (sent_items o to.node t)

-- the number of the parcel that an entry of its actor hands to a process there: to one that asked
-- for a message, or to the host
abbrev pub number_handed : ℕ → What → Option ℕ
number_handed pid (Take asking dead poller (Mail receiver number)) =
    if receiver == pid && is_member pid asking then Some number else None
number_handed pid (HostTake number) = if pid == 0 then number else None
number_handed pid other = None

-- the parcel that an entry hands to a process, of those that wait
abbrev pub parcel_handed : Place → List Item → Entry → Option Parcel
parcel_handed to items entry =
    if entry.actor == to.node
    then option_and_then (λ number. parcel_numbered number items)
    (number_handed to.pid entry.what) else None

-- the bytes that an entry hands from the one place to the other, with these items waiting
abbrev pub bytes_handed : Place → Place → List Item → Entry → List (List ℕ)
bytes_handed from to items entry =
    map (λ parcel. parcel.block.bytes)
    (filter (is_between from to) (option_to_list (parcel_handed to items entry)))

-- what the one got from the other, in the order of the trace
unfoldable pub messages_got : Standing → Place → Place → List Entry → List (List ℕ)
messages_got o from to t = fold_with_front
    (λ before messages entry. messages
    ++ bytes_handed from to (waiting_items o to.node before) entry) [] t

-- after every front of the trace, what any one got from another is a front of what that one sent it
abbrev pub IsInOrder : Standing → List Entry → Type 0
IsInOrder o t = (front : List Entry) → IsFront front t → (from to : Place)
    → IsFront (messages_got o from to front) (messages_sent o from to front)
