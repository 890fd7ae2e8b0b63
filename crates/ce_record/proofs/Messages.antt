-- What the machine keeps for a host is among what was sent to it.
use Rattle.std.proofs.Common.{◌≡◌, ℕ, Bool, true, false, not, ◌||◌, ◌==◌, if◌then◌else◌, List, [], ◌∷◌, ◌++◌, map, filter, find, flat_map, Option, Some, None, option_map, option_and_then, refl, ap, ap₂, sym, ◌∙◌, append_assoc, inl, inr}
use Rattle.std.specs.List.{list_any}
use Rattle.std.proofs.lemmas.Bool.{cases_Bool, eqb-true}
use Rattle.std.proofs.lemmas.Grind.{flat_map-append}
use Rattle.ce_model.specs.declared.topology.TheConstants.{HOST}
use Rattle.ce_model.specs.declared.topology.BlockId.{BlockId}
use Rattle.ce_model.specs.declared.entry.Entry.{Entry}
use Rattle.ce_model.specs.declared.entry.TakeResult.{TakeResult}
use Rattle.ce_model.specs.declared.entry.TakeResult.TheVariants.{Mail}
use Rattle.ce_model.specs.Parcels.{Parcel, Item, start, mail, kill, is_named_by, parcel_in}
use Rattle.ce_model.specs.Renaming.{block_outward, renamed_item, renamed_parcel}
use Rattle.ce_model.specs.Trace.{Standing, items_to, sent_items, taken_results, waiting_items}
use Rattle.ce_model.specs.Cube.{opening}
use Rattle.ce_model.specs.Views.{view}
use Rattle.ce_model.proofs.OneMore.{is_untaken}
use Rattle.ce_model.proofs.Subcubes.{find-append_found, find-passes}
use Rattle.ce_solo.proofs.Lists.{all-filtered}
use Rattle.ce_solo.proofs.Made.{find-all}
use Rattle.ce_solo.proofs.Projection.Views.{view-is}
use Rattle.ce_solo.proofs.Projection.Law.{projected}
use Rattle.ce_host.specs.declared.answer.Answer.TheVariants.{Message}
use Rattle.ce_script.specs.Commands.{message_reply}
use Rattle.ce_record.specs.HeldCubes.{granted_cube}
use Rattle.ce_record.specs.Laws.{MessageIsSent}

-- the parcel of this number
abbrev is_numbered : ℕ → Item → Bool
is_numbered number item = is_named_by (Mail 0 number) item

-- what is found is a parcel
found_parcel : (found : Option Item) (parcel : Parcel) → option_and_then parcel_in found ≡ Some parcel → found ≡ Some (mail parcel)
found_parcel None parcel e = absurd (cc)
found_parcel (Some (start pid image)) parcel e = absurd (cc)
found_parcel (Some (mail other)) parcel e = let same : other ≡ parcel = cc in ap (λ parcel. Some (mail parcel)) same
found_parcel (Some (kill pid)) parcel e = absurd (cc)

-- ---- with other names for blocks

numbered-renamed : (rename : BlockId → BlockId) (number : ℕ) (item : Item) → is_numbered number (renamed_item rename item) ≡ is_numbered number item
numbered-renamed rename number (start pid image) = refl
numbered-renamed rename number (mail parcel) = refl
numbered-renamed rename number (kill pid) = refl

find-renamed : (rename : BlockId → BlockId) (number : ℕ) (items : List Item)
    → find (is_numbered number) (map (renamed_item rename) items) ≡ option_map (renamed_item rename) (find (is_numbered number) items)
find-renamed rename number [] = refl
find-renamed rename number (item ∷ items) =
    ap (λ (b : Bool). if b then Some (renamed_item rename item) else find (is_numbered number) (map (renamed_item rename) items)) (numbered-renamed rename number item)
    ∙ elim (cases_Bool (is_numbered number item)) [ inl is ↦ rw is refl | inr other ↦ rw other (find-renamed rename number items) ]

-- the parcel that this one is, with other names for blocks
abbrev IsRenamed : (BlockId → BlockId) → Option Item → Parcel → Type 0
IsRenamed rename found parcel = (inner : Parcel) × (found ≡ Some (mail inner)) × (parcel ≡ renamed_parcel rename inner)

parcel-renamed : (rename : BlockId → BlockId) (found : Option Item) (parcel : Parcel) → option_map (renamed_item rename) found ≡ Some (mail parcel)
    → IsRenamed rename found parcel
parcel-renamed rename None parcel e = absurd (cc)
parcel-renamed rename (Some (start pid image)) parcel e = absurd (cc)
parcel-renamed rename (Some (mail inner)) parcel e = let same : renamed_parcel rename inner ≡ parcel = cc in (inner, refl, sym same)
parcel-renamed rename (Some (kill pid)) parcel e = absurd (cc)

-- ---- among more

find-filter : {X : Type 0} (p q : X → Bool) (xs : List X) (x : X) → ((y : X) → p y ≡ true → q y ≡ true) → find p (filter q xs) ≡ Some x → find p xs ≡ Some x
find-filter p q [] x passes e = e
find-filter p q (y ∷ ys) x passes e =
    elim (cases_Bool (p y)) [
      | inl is ↦ let run_record = passes y is in let here : Some y ≡ Some x = rw (run_record, is) at e in rw is here
      | inr other ↦ rw other (find-filter p q ys x passes (skipped (q y) other e))
    ]
  where
    skipped : (b : Bool) → p y ≡ false → find p (if b then y ∷ filter q ys else filter q ys) ≡ Some x → find p (filter q ys) ≡ Some x
    skipped true other e = rw other at e
    skipped false other e = e

-- of two parcels of one number both were taken, or none
named-same : (number : ℕ) (x y : Item) (given : TakeResult) → is_numbered number x ≡ true → is_numbered number y ≡ true → is_named_by given x ≡ is_named_by given y
named-same number (mail p) (mail q) (Mail pid n) is is' = ap (λ m. n == m) (sym (eqb-true _ _ is) ∙ eqb-true _ _ is')
named-same number (mail p) (mail q) other is is' = refl
named-same number x y given is is' = absurd (cc)

any-same : (number : ℕ) (x y : Item) (taken : List TakeResult) → is_numbered number x ≡ true → is_numbered number y ≡ true
    → list_any (λ given. is_named_by given x) taken ≡ list_any (λ given. is_named_by given y) taken
any-same number x y [] is is' = refl
any-same number x y (given ∷ taken) is is' = ap₂ (λ a b. a || b) (named-same number x y given is is') (any-same number x y taken is is')

-- what is found among what waits is found among all that was sent
found_sent : (o : Standing) (number : ℕ) (t : List Entry) (parcel : Parcel) → find (is_numbered number) (waiting_items o HOST t) ≡ Some (mail parcel)
    → find (is_numbered number) (sent_items o HOST t) ≡ Some (mail parcel)
unfolding waiting_items
found_sent o number t parcel found =
    let taken = taken_results HOST t in
    let is = find-passes (is_numbered number) (filter (is_untaken taken) (sent_items o HOST t)) (mail parcel) found in
    let untaken = find-all (λ item. is_untaken taken item ≡ true) (is_numbered number) (filter (is_untaken taken) (sent_items o HOST t)) (mail parcel)
    (all-filtered (is_untaken taken) (sent_items o HOST t)) found in
    find-filter (is_numbered number) (is_untaken taken) (sent_items o HOST t) (mail parcel)
    (λ item numbered. ap not (any-same number item (mail parcel) taken numbered is) ∙ untaken) found

sent-append : (o : Standing) (r : ℕ) (t more : List Entry) → sent_items o r (t ++ more) ≡ sent_items o r t ++ flat_map (items_to r) more
unfolding sent_items
sent-append o r t more =
    ap (λ items. (o.node_record r).waiting_items ++ items) (flat_map-append (items_to r) t more)
    ∙ sym (append_assoc (o.node_record r).waiting_items (flat_map (items_to r) t) (flat_map (items_to r) more))

pub message : MessageIsSent
message parts history user cube holds machine lawful goes number parcel more numbered =
    let was = (projected parts history machine lawful).held user cube holds in
    let o = (opening (granted_cube parts cube)).standing in
    let t = view history cube.number in
    let rename = block_outward cube.grant in
    let run_record : cube.mail ≡ map (renamed_item rename) (waiting_items o HOST t) =
    (was.kept goes).mail ∙ ap (λ t. map (renamed_item rename) (waiting_items o HOST t)) (sym (view-is history cube.number cube.grant was.behind was.found)) in
    let inner = parcel-renamed rename (find (is_numbered number) (waiting_items o HOST t)) parcel
    (sym (find-renamed rename number (waiting_items o HOST t)) ∙ ap (find (is_numbered number)) (sym run_record) ∙ found_parcel (find (is_numbered number) cube.mail) parcel numbered) in
    let found : find (is_numbered number) (sent_items o HOST (t ++ more)) ≡ Some (mail inner.0) =
    ap (find (is_numbered number)) (sent-append o HOST t more)
    ∙ find-append_found (is_numbered number) (sent_items o HOST t) (flat_map (items_to HOST) more) (mail inner.0) (found_sent o number t inner.0 inner.1) in
    ap (λ found. message_reply (option_and_then parcel_in found)) found
    ∙ ap (λ (parcel : Parcel). Some (Message parcel.from parcel.block.bytes)) (sym inner.2)
