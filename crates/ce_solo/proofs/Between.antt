-- The bytes that go between two places: what joining items, taking one out, and handing one over
-- does to them.
use Rattle.std.proofs.Common.{◌≡◌, ℕ, Bool, true, false, ◌||◌, ◌==◌, if◌then◌else◌, List, [], ◌∷◌, ◌++◌, map, filter, Option, Some, None, option_and_then, option_to_list, option_map, refl, ap, sym, ◌∙◌, subst, inl, inr}
use Rattle.std.specs.List.{AllByRecursion}
use Rattle.std.proofs.lemmas.Bool.{cases_Bool, both_ways, eqb-true, and_parts}
use Rattle.std.proofs.lemmas.List.{map-append}
use Rattle.std.proofs.lemmas.List.Elements.{filter-append}
use Rattle.ce_model.specs.declared.topology.Place.{Place}
use Rattle.ce_model.specs.declared.entry.Entry.{Entry}
use Rattle.ce_model.specs.declared.entry.What.{What}
use Rattle.ce_model.specs.declared.entry.What.TheVariants.{HostTake, Take}
use Rattle.ce_model.specs.declared.entry.TakeResult.{TakeResult}
use Rattle.ce_model.specs.declared.entry.TakeResult.TheVariants.{Start, Mail, Kill, Poll, Idle, Spent}
use Rattle.ce_model.specs.Parcels.{Parcel, Item, start, mail, kill, is_member, is_eligible, item_parcels, is_same_place, is_item}
use Rattle.ce_model.specs.Cube.{parcel_numbered}
use Rattle.ce_model.specs.Trace.{taken_result}
use Rattle.ce_model.specs.Order.{is_between, bytes_between, number_handed, bytes_handed}
use Rattle.ce_solo.proofs.Items.{among-append}

module _ (from to : Place) where
  abbrev pub bytes_of : List Parcel → List (List ℕ)
  bytes_of ps = map (λ parcel. parcel.block.bytes) (filter (is_between from to) ps)

  pub between-append : (xs ys : List Item) → bytes_between from to (xs ++ ys) ≡ bytes_between from to xs ++ bytes_between from to ys
  between-append xs ys =
      ap bytes_of (among-append xs ys) ∙ ap (map (λ parcel. parcel.block.bytes)) (filter-append (is_between from to) (item_parcels xs) (item_parcels ys))
      ∙ map-append (λ (parcel : Parcel). parcel.block.bytes) (filter (is_between from to) (item_parcels xs)) (filter (is_between from to) (item_parcels ys))

  -- an item in the midst
  pub between-out : (before : List Item) (item : Item) (behind : List Item)
      → bytes_between from to (before ++ item ∷ behind) ≡ bytes_between from to before ++ (bytes_between from to (item ∷ []) ++ bytes_between from to behind)
  between-out before item behind =
      between-append before (item ∷ behind) ∙ ap (λ xs. bytes_between from to before ++ xs) (between-append (item ∷ []) behind)

  -- an item that carries nothing between the two can go
  pub between-other : (before : List Item) (item : Item) (behind : List Item) → bytes_between from to (item ∷ []) ≡ []
      → bytes_between from to (before ++ behind) ≡ bytes_between from to (before ++ item ∷ behind)
  between-other before item behind none =
      between-append before behind
      ∙ sym (between-out before item behind ∙ ap (λ xs. bytes_between from to before ++ (xs ++ bytes_between from to behind)) none)

  pub one-between : (parcel : Parcel) → is_between from to parcel ≡ true → bytes_between from to (mail parcel ∷ []) ≡ parcel.block.bytes ∷ []
  one-between parcel t = ap (λ b. map (λ (p : Parcel). p.block.bytes) (if b then parcel ∷ [] else [])) t

  pub none-between : (parcel : Parcel) → is_between from to parcel ≡ false → bytes_between from to (mail parcel ∷ []) ≡ []
  none-between parcel f = ap (λ b. map (λ (p : Parcel). p.block.bytes) (if b then parcel ∷ [] else [])) f

  -- the first that goes between the two is what the bytes begin with
  pub between-first : (before : List Item) (parcel : Parcel) (behind : List Item) → is_between from to parcel ≡ true → bytes_between from to before ≡ []
      → bytes_between from to (before ++ mail parcel ∷ behind) ≡ parcel.block.bytes ∷ bytes_between from to (before ++ behind)
  between-first before parcel behind t none =
      between-out before (mail parcel) behind ∙ ap (λ xs. xs ++ (bytes_between from to (mail parcel ∷ []) ++ bytes_between from to behind)) none
      ∙ ap (λ xs. xs ++ bytes_between from to behind) (one-between parcel t)
      ∙ ap (λ xs. parcel.block.bytes ∷ xs) (sym (between-append before behind ∙ ap (λ xs. xs ++ bytes_between from to behind) none))

  -- a parcel between the two is for the second's process
  pub between-receiver : (parcel : Parcel) → is_between from to parcel ≡ true → (parcel.to.node == to.node ≡ true) × (parcel.to.pid == to.pid ≡ true)
  between-receiver parcel t =
      let parts = and_parts (is_same_place parcel.from from) (is_same_place parcel.to to) t in
      and_parts (parcel.to.node == to.node) (parcel.to.pid == to.pid) parts.1

  -- where no item can be given that is for a process that can be given mail, none goes to it
  pub none-earlier : (asking dead : ℕ) (before : List Item) → (is_member to.pid asking || is_member to.pid dead) ≡ true
      → AllByRecursion (λ x. is_eligible asking dead x ≡ false) before → bytes_between from to before ≡ []
  none-earlier asking dead [] can all = refl
  none-earlier asking dead (start pid image ∷ before) can all = none-earlier asking dead before can all.1
  none-earlier asking dead (mail parcel ∷ before) can all =
      let rest = none-earlier asking dead before can all.1 in
      elim (cases_Bool (is_between from to parcel)) [
        | inl t ↦
            let same = eqb-true parcel.to.pid to.pid (between-receiver parcel t).1 in
            absurd (both_ways _ all.0 (subst (λ p. (is_member p asking || is_member p dead) ≡ true) (sym same) can))
        | inr f ↦ between-append (mail parcel ∷ []) before ∙ ap (λ xs. xs ++ bytes_between from to before) (none-between parcel f) ∙ rest
      ]
  none-earlier asking dead (kill pid ∷ before) can all = none-earlier asking dead before can all.1

  -- ---- what an entry hands over

  -- the bytes that a parcel found carries
  abbrev pub found_bytes : Option Parcel → List (List ℕ)
  found_bytes found = bytes_of (option_to_list found)

  pub handed-other : (items : List Item) (entry : Entry) → (entry.actor == to.node) ≡ false → bytes_handed from to items entry ≡ []
  handed-other items entry f =
      ap (λ b. found_bytes (if b then option_and_then (λ number. parcel_numbered number items) (number_handed to.pid entry.what) else None)) f

  pub handed-own : (items : List Item) (entry : Entry) (number : Option ℕ) → (entry.actor == to.node) ≡ true → number_handed to.pid entry.what ≡ number
      → bytes_handed from to items entry ≡ found_bytes (option_and_then (λ number. parcel_numbered number items) number)
  handed-own items entry number t n =
      ap (λ b. found_bytes (if b then option_and_then (λ number. parcel_numbered number items) (number_handed to.pid entry.what) else None)) t
      ∙ ap (λ number. found_bytes (option_and_then (λ number. parcel_numbered number items) number)) n

  abbrev no_number : Option ℕ
  no_number = None

  none_number : (b : Bool) → (if b then no_number else no_number) ≡ no_number
  none_number true = refl
  none_number false = refl

  number-given : (asking dead : ℕ) (poller : Option ℕ) (given : TakeResult) → (if is_item given then Some given else None) ≡ None
      → number_handed to.pid (Take asking dead poller given) ≡ None
  number-given asking dead poller (Start pid image) e = refl
  number-given asking dead poller (Mail pid number) e = absurd (cc)
  number-given asking dead poller (Kill pid) e = refl
  number-given asking dead poller (Poll pid) e = refl
  number-given asking dead poller Idle e = refl
  number-given asking dead poller Spent e = refl

  number-taken : (number : Option ℕ) → option_map (λ n. Mail 0 n) number ≡ None → number_handed to.pid (HostTake number) ≡ None
  number-taken None e = none_number (to.pid == 0)
  number-taken (Some n) e = absurd (cc)

  -- who takes nothing is handed nothing
  pub number-none : (what : What) → taken_result what ≡ None → number_handed to.pid what ≡ None
  number-none (Take asking dead poller given) e = number-given asking dead poller given e
  number-none (HostTake number) e = number-taken number e
  number-none other e = refl

  pub handed-none : (items : List Item) (entry : Entry) → (if entry.actor == to.node then taken_result entry.what else None) ≡ None → bytes_handed from to items entry ≡ []
  handed-none items entry e =
      elim (cases_Bool (entry.actor == to.node)) [
        | inl t ↦ handed-own items entry None t (number-none entry.what (sym (ap (λ b. if b then taken_result entry.what else None) t) ∙ e))
        | inr f ↦ handed-other items entry f
      ]
