-- What a node hears that asks for work.
use Rattle.std.specs.Prelude.{ℕ, Bool, if◌then◌else◌, List, Option, Some, None, find}
use Rattle.ce_model.specs.declared.entry.TakeResult.{TakeResult}
use Rattle.ce_model.specs.declared.entry.TakeResult.TheVariants as take_result
use Rattle.ce_model.specs.Lists.{without_first}
use Rattle.ce_model.specs.Parcels.{Item, start, mail, kill, is_eligible}
use Rattle.rk_mail.specs.declared.talk.Hearing.{Hearing}
use Rattle.rk_mail.specs.declared.talk.Hearing.TheVariants.{Start, Mail, Kill, Poll, Spent}
use Rattle.rk_mail.specs.Items.{parcel_of}

-- the item that a node hears of, if any
abbrev pub hearing_item : Hearing → Option Item
hearing_item (Start pid image) = Some (start pid image)
hearing_item (Mail parcel) = Some (mail (parcel_of parcel))
hearing_item (Kill pid) = Some (kill pid)
hearing_item other = None

-- how an entry names what a node hears
abbrev pub result_of_hearing : Hearing → TakeResult
result_of_hearing (Start pid image) = take_result.Start pid image
result_of_hearing (Mail parcel) = take_result.Mail parcel.to.pid parcel.number
result_of_hearing (Kill pid) = take_result.Kill pid
result_of_hearing (Poll pid) = take_result.Poll pid
result_of_hearing Spent = take_result.Spent
result_of_hearing other = take_result.Idle

-- the item that a node is given, if any, by whether the allowed dispatches are used up
abbrev pub chosen_item : Bool → ℕ → ℕ → List Item → Option Item
chosen_item is_used_up asking dead items =
    if is_used_up then None else find (is_eligible asking dead) items

-- what waits then
abbrev pub items_left : Bool → ℕ → ℕ → List Item → List Item
items_left is_used_up asking dead items =
    if is_used_up then items else without_first (is_eligible asking dead) items
