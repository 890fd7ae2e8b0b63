-- What a node hears in the program by the machine's reply is what the node of the cube hears, with
-- the machine's names.
use Rattle.std.proofs.Common.{◌≡◌, ℕ, true, false, if◌then◌else◌, Bool, List, [], ◌∷◌, map, find, Option, Some, None, option_map, option_and_then, refl, ap, sym, ◌∙◌}
use Rattle.std.specs.List.{AllByRecursion}
use Rattle.ce_model.specs.declared.calls.TheConstants.{DONE, USED_ID}
use Rattle.ce_model.specs.declared.topology.Place.{Place}
use Rattle.ce_model.specs.declared.topology.BlockId.{BlockId}
use Rattle.ce_model.specs.declared.entry.What.{What}
use Rattle.ce_model.specs.declared.entry.What.TheVariants as whats
use Rattle.ce_model.specs.declared.entry.KillResult.{KillResult}
use Rattle.ce_model.specs.declared.entry.KillResult.TheVariants as kill_result
use Rattle.ce_model.specs.declared.entry.TakeResult.{TakeResult}
use Rattle.ce_model.specs.declared.entry.TakeResult.TheVariants as take_result
use Rattle.ce_model.specs.Parcels as model
use Rattle.ce_model.specs.Parcels.{Item, start, mail, kill, is_named_by, parcel_in}
use Rattle.ce_model.specs.Hearing.{mail_of, nothing, answer_of}
use Rattle.ce_model.specs.Cube.{parcel_numbered, hearing_of_parcel, hearing_of_result, hearing_of_entry, kill_answer}
use Rattle.ce_model.specs.Renaming.{renamed_parcel, renamed_item, renamed_hearing, renamed_what}
use Rattle.rk_mail.specs.declared.talk.Hearing.{Hearing}
use Rattle.rk_mail.specs.Talk.{hearing_model, kill_hearing, IsHearingOfTake, IsHearingOfEntry}
use Rattle.ce_solo.specs.Laws.{IsHearingOfCube}
use Rattle.ce_solo.proofs.Items.{parcel_ids}
use Rattle.ce_solo.proofs.Made.{find-all}
use Rattle.ce_solo.proofs.Projection.Entries.{named-renamed}
use Rattle.ce_model.specs.Owners.{IsBlockOf}

module _ (rename : BlockId → BlockId) where
  found_of : (b : Bool) (item : Item) (rest rest' : Option Item) → rest' ≡ option_map (renamed_item rename) rest
      → (if b then Some (renamed_item rename item) else rest') ≡ option_map (renamed_item rename) (if b then Some item else rest)
  found_of true item rest rest' same = refl
  found_of false item rest rest' same = same

  find-named : (given : TakeResult) (items : List Item) → find (is_named_by given) (map (renamed_item rename) items) ≡ option_map (renamed_item rename) (find (is_named_by given) items)
  find-named given [] = refl
  find-named given (item ∷ items) =
      rw (named-renamed rename given item)
      (found_of (is_named_by given item) item (find (is_named_by given) items) (find (is_named_by given) (map (renamed_item rename) items)) (find-named given items))

  parcel_in-renamed : (found : Option Item) → option_and_then parcel_in (option_map (renamed_item rename) found) ≡ option_map (renamed_parcel rename) (option_and_then parcel_in found)
  parcel_in-renamed None = refl
  parcel_in-renamed (Some (start pid image)) = refl
  parcel_in-renamed (Some (mail parcel)) = refl
  parcel_in-renamed (Some (kill pid)) = refl

  pub numbered-renamed : (number : ℕ) (items : List Item) → parcel_numbered number (map (renamed_item rename) items) ≡ option_map (renamed_parcel rename) (parcel_numbered number items)
  numbered-renamed number items =
      ap (option_and_then parcel_in) (find-named (take_result.Mail 0 number) items) ∙ parcel_in-renamed (find (is_named_by (take_result.Mail 0 number)) items)

  mail-heard : (found : Option model.Parcel) (parcel : model.Parcel) → option_map (renamed_parcel rename) found ≡ Some parcel → mail_of parcel ≡ renamed_hearing rename (hearing_of_parcel found)
  mail-heard None parcel e = absurd (cc)
  mail-heard (Some own) parcel e = ap (λ found. elim found [ None ↦ nothing | Some p ↦ mail_of p ]) (sym e)

  given-heard : (items : List Item) (given : TakeResult) (hearing : Hearing) → IsHearingOfTake (map (renamed_item rename) items) given hearing
      → hearing_model hearing ≡ renamed_hearing rename (hearing_of_result items given)
  given-heard items (take_result.Start pid image) hearing is = ap hearing_model is
  given-heard items (take_result.Mail pid number) hearing is =
      ap hearing_model is.1 ∙ mail-heard (parcel_numbered number items) _ (sym (numbered-renamed number items) ∙ is.2)
  given-heard items (take_result.Kill pid) hearing is = ap hearing_model is
  given-heard items (take_result.Poll pid) hearing is = ap hearing_model is
  given-heard items take_result.Idle hearing is = ap hearing_model is
  given-heard items take_result.Spent hearing is = ap hearing_model is

  fresh-heard : (fresh : Bool) (hearing : Hearing) → IsHearingOfEntry [] (whats.Spawn 0 0 (record { node = 0; pid = 0 }) fresh) hearing → hearing_model hearing ≡ answer_of (if fresh then DONE else USED_ID)
  fresh-heard true hearing is = ap hearing_model is
  fresh-heard false hearing is = ap hearing_model is

  kill-heard : (found : KillResult) (hearing : Hearing) → hearing ≡ kill_hearing found → hearing_model hearing ≡ answer_of (kill_answer found)
  kill-heard kill_result.Killed hearing is = ap hearing_model is
  kill-heard kill_result.Unused hearing is = ap hearing_model is
  kill-heard kill_result.Already hearing is = ap hearing_model is

  -- an entry's places and blocks may have any names
  pub reply-heard : (place : Place → Place) (block : BlockId → BlockId) (items : List Item) (what : What) (hearing : Hearing) → IsHearingOfEntry (map (renamed_item rename) items) what hearing
      → hearing_model hearing ≡ renamed_hearing rename (hearing_of_entry items (renamed_what place block what))
  reply-heard place block items (whats.Take asking dead poller given) hearing is = given-heard items given hearing is
  reply-heard place block items (whats.Send pid first to bytes) hearing is = ap hearing_model is
  reply-heard place block items (whats.Spawn pid image to fresh) hearing is = fresh-heard fresh hearing is
  reply-heard place block items (whats.Kill pid to found) hearing is = kill-heard found hearing is
  reply-heard place block items (whats.Note pid word) hearing is = ap hearing_model is
  reply-heard place block items other hearing is = absurd is

-- ---- whose block comes with a parcel

abbrev IsItemIn : ℕ → Item → Type 0
IsItemIn dim (mail parcel) = IsBlockOf dim parcel.block.id
IsItemIn dim other = Unit {0}

items_in : (dim : ℕ) (items : List Item) → AllByRecursion (IsBlockOf dim) (parcel_ids items) → AllByRecursion (IsItemIn dim) items
items_in dim [] all = tt
items_in dim (start pid image ∷ items) all = (tt, items_in dim items all)
items_in dim (mail parcel ∷ items) all = (all.0, items_in dim items all.1)
items_in dim (kill pid ∷ items) all = (tt, items_in dim items all)

found_in : (dim : ℕ) (found : Option Item) → ((item : Item) → found ≡ Some item → IsItemIn dim item) → IsHearingOfCube dim (hearing_of_parcel (option_and_then parcel_in found))
found_in dim None is = tt
found_in dim (Some (start pid image)) is = tt
found_in dim (Some (mail parcel)) is = is (mail parcel) refl
found_in dim (Some (kill pid)) is = tt

given_in : (dim : ℕ) (items : List Item) (given : TakeResult) → AllByRecursion (IsItemIn dim) items → IsHearingOfCube dim (hearing_of_result items given)
given_in dim items (take_result.Start pid image) all = tt
given_in dim items (take_result.Mail pid number) all =
    found_in dim (find (is_named_by (take_result.Mail 0 number)) items) (λ item e. find-all (IsItemIn dim) (is_named_by (take_result.Mail 0 number)) items item all e)
given_in dim items (take_result.Kill pid) all = tt
given_in dim items (take_result.Poll pid) all = tt
given_in dim items take_result.Idle all = tt
given_in dim items take_result.Spent all = tt

hearing_of_entry-in : (dim : ℕ) (items : List Item) (what : What) → AllByRecursion (IsItemIn dim) items → IsHearingOfCube dim (hearing_of_entry items what)
hearing_of_entry-in dim items (whats.Take asking dead poller given) all = given_in dim items given all
hearing_of_entry-in dim items (whats.Send pid first to bytes) all = tt
hearing_of_entry-in dim items (whats.Spawn pid image to fresh) all = tt
hearing_of_entry-in dim items (whats.Kill pid to found) all = tt
hearing_of_entry-in dim items other all = tt

pub heard-of : (dim : ℕ) (items : List Item) (what : What) → AllByRecursion (IsBlockOf dim) (parcel_ids items) → IsHearingOfCube dim (hearing_of_entry items what)
heard-of dim items what all = hearing_of_entry-in dim items what (items_in dim items all)
