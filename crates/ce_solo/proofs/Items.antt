-- The items that wait at a node: their starts, kills, parcels and numbers, where lists of them are
-- joined or filtered.
use Rattle.std.proofs.Common.{◌≡◌, ℕ, ◌<◌, ◌≤◌, Bool, true, false, ◌||◌, ◌==◌, List, [], ◌∷◌, ◌++◌, map, filter, count_by, refl, ap, sym, ◌∙◌, subst, arith, inl, inr}
use Rattle.std.specs.List.{AllByRecursion}
use Rattle.std.proofs.lemmas.Bool.{cond_both, cases_Bool, cases_eq, both_ways, eq-eqb, ne_eqb, eqb-true}
use Rattle.std.proofs.lemmas.List.{map-append}
use Rattle.std.proofs.lemmas.List.Elements.{filter_map-append}
use Rattle.ce_model.specs.declared.topology.BlockId.{BlockId}
use Rattle.ce_model.specs.declared.entry.TakeResult.TheVariants.{Start, Mail, Kill}
use Rattle.ce_model.specs.Lists.{ArePairwise}
use Rattle.ce_model.specs.Parcels.{Parcel, Item, start, mail, kill, is_eligible, take_result_of, is_named_by, parcel_in, item_parcels}
use Rattle.ce_model.specs.Trace.{NodeRecord}
use Rattle.ce_model.specs.Answers.{is_among}
use Rattle.ce_model.specs.Cube.{Cube}
use Rattle.ce_model.specs.Sound.{is_start_of, is_kill_of, has_start, IsStartFirst, numbers_of, IsItemOf}
use Rattle.ce_solo.proofs.Lists.{all-filter, count_by-cons, truth_bit-true, truth_bit-false, count_by-none, any-none, none-from_any}

-- ---- parcels

-- the names of the blocks in the parcels among these items
abbrev pub parcel_ids : List Item → List BlockId
parcel_ids items = map (λ parcel. parcel.block.id) (item_parcels items)

pub among-append : (xs ys : List Item) → item_parcels (xs ++ ys) ≡ item_parcels xs ++ item_parcels ys
among-append xs ys = filter_map-append parcel_in xs ys

pub ids-append : (xs ys : List Item) → parcel_ids (xs ++ ys) ≡ parcel_ids xs ++ parcel_ids ys
ids-append xs ys =
    ap (map (λ parcel. parcel.block.id)) (among-append xs ys) ∙ map-append (λ (parcel : Parcel). parcel.block.id) (item_parcels xs) (item_parcels ys)

pub numbers-append : (xs ys : List Item) → numbers_of (xs ++ ys) ≡ numbers_of xs ++ numbers_of ys
numbers-append xs ys =
    ap (map (λ parcel. parcel.number)) (among-append xs ys) ∙ map-append (λ (parcel : Parcel). parcel.number) (item_parcels xs) (item_parcels ys)

pub among-mails : (ps : List Parcel) → item_parcels (map mail ps) ≡ ps
among-mails [] = refl
among-mails (p ∷ ps) = ap (λ qs. p ∷ qs) (among-mails ps)

pub all_numbers-filter : (P : ℕ → Type 0) (test : Item → Bool) (items : List Item) → AllByRecursion P (numbers_of items) → AllByRecursion P (numbers_of (filter test items))
all_numbers-filter P test [] all = tt
all_numbers-filter P test (start pid image ∷ items) all =
    cond_both (test (start pid image)) (start pid image ∷ filter test items) (filter test items) (λ xs. AllByRecursion P (numbers_of xs))
    (λ t. all_numbers-filter P test items all) (λ f. all_numbers-filter P test items all)
all_numbers-filter P test (mail parcel ∷ items) all =
    cond_both (test (mail parcel)) (mail parcel ∷ filter test items) (filter test items) (λ xs. AllByRecursion P (numbers_of xs))
    (λ t. (all.0, all_numbers-filter P test items all.1)) (λ f. all_numbers-filter P test items all.1)
all_numbers-filter P test (kill pid ∷ items) all =
    cond_both (test (kill pid)) (kill pid ∷ filter test items) (filter test items) (λ xs. AllByRecursion P (numbers_of xs))
    (λ t. all_numbers-filter P test items all) (λ f. all_numbers-filter P test items all)

abbrev pub AreRising : List ℕ → Type 0
AreRising numbers = ArePairwise (λ a b. a < b) numbers

pub rising-filter : (test : Item → Bool) (items : List Item) → AreRising (numbers_of items) → AreRising (numbers_of (filter test items))
rising-filter test [] rising = tt
rising-filter test (start pid image ∷ items) rising =
    cond_both (test (start pid image)) (start pid image ∷ filter test items) (filter test items) (λ xs. AreRising (numbers_of xs))
    (λ t. rising-filter test items rising) (λ f. rising-filter test items rising)
rising-filter test (mail parcel ∷ items) rising =
    cond_both (test (mail parcel)) (mail parcel ∷ filter test items) (filter test items) (λ xs. AreRising (numbers_of xs))
    (λ t. (all_numbers-filter (λ b. parcel.number < b) test items rising.0, rising-filter test items rising.1)) (λ f. rising-filter test items rising.1)
rising-filter test (kill pid ∷ items) rising =
    cond_both (test (kill pid)) (kill pid ∷ filter test items) (filter test items) (λ xs. AreRising (numbers_of xs))
    (λ t. rising-filter test items rising) (λ f. rising-filter test items rising)

-- ---- starts and kills

pub start-mails : (pid : ℕ) (ps : List Parcel) → has_start pid (map mail ps) ≡ false
start-mails pid [] = refl
start-mails pid (p ∷ ps) = start-mails pid ps

pub kill-mails : (pid : ℕ) (ps : List Parcel) → AllByRecursion (λ x. is_kill_of pid x ≡ false) (map mail ps)
kill-mails pid [] = tt
kill-mails pid (p ∷ ps) = (refl, kill-mails pid ps)

pub start_first-mails : (pid : ℕ) (ps : List Parcel) → IsStartFirst pid (map mail ps)
start_first-mails pid [] = tt
start_first-mails pid (p ∷ ps) = ((λ h. absurd (both_ways _ refl h)), start_first-mails pid ps)

or_false : (a b : Bool) → a ≡ false → (a || b) ≡ b
or_false true b e = absurd (both_ways _ e refl)
or_false false b e = refl

pub start-append : (pid : ℕ) (xs ys : List Item) → has_start pid ys ≡ false → has_start pid (xs ++ ys) ≡ has_start pid xs
start-append pid [] ys none = none
start-append pid (x ∷ xs) ys none = ap (λ b. is_start_of pid x || b) (start-append pid xs ys none)

-- where no start stands behind, or no kill before
pub start_first-append : (pid : ℕ) (xs ys : List Item) → has_start pid ys ≡ false → IsStartFirst pid xs → IsStartFirst pid ys → IsStartFirst pid (xs ++ ys)
start_first-append pid [] ys none of_xs of_ys = of_ys
start_first-append pid (x ∷ xs) ys none of_xs of_ys =
    ((λ h. start-append pid xs ys none ∙ of_xs.0 h), start_first-append pid xs ys none of_xs.1 of_ys)

pub start_first-after : (pid : ℕ) (xs ys : List Item) → AllByRecursion (λ x. is_kill_of pid x ≡ false) xs → IsStartFirst pid ys → IsStartFirst pid (xs ++ ys)
start_first-after pid [] ys none of_ys = of_ys
start_first-after pid (x ∷ xs) ys none of_ys = ((λ h. absurd (both_ways _ none.0 h)), start_first-after pid xs ys none.1 of_ys)

pub start_first-filter : (pid : ℕ) (test : Item → Bool) (xs : List Item) → IsStartFirst pid xs → IsStartFirst pid (filter test xs)
start_first-filter pid test [] of_xs = tt
start_first-filter pid test (x ∷ xs) of_xs =
    cond_both (test x) (x ∷ filter test xs) (filter test xs) (IsStartFirst pid)
    (λ t. (
      (λ h. any-none (is_start_of pid) (filter test xs) (all-filter (λ y. is_start_of pid y ≡ false) test xs (none-from_any (is_start_of pid) xs (of_xs.0 h)))),
      start_first-filter pid test xs of_xs.1,
    ))
    (λ f. start_first-filter pid test xs of_xs.1)

-- behind a kill no start of its process stands
pub start_first-at : (pid : ℕ) (before behind : List Item) → IsStartFirst pid (before ++ kill pid ∷ behind) → has_start pid behind ≡ false
start_first-at pid [] behind first = first.0 (eq-eqb pid pid refl)
start_first-at pid (x ∷ before) behind first = start_first-at pid before behind first.1

-- ---- what items an id has

same_among : (a b : ℕ) (pids : List ℕ) → (a == b) ≡ true → is_among a pids ≡ is_among b pids
same_among a b pids e = ap (λ pid. is_among pid pids) (eqb-true a b e)

pub own-starts : (cube : Cube) (r pid : ℕ) (node_record : NodeRecord) (items : List Item) → is_among pid node_record.spawned_ids ≡ false
    → AllByRecursion (IsItemOf cube r node_record) items → AllByRecursion (λ x. is_start_of pid x ≡ false) items
own-starts cube r pid node_record [] none own = tt
own-starts cube r pid node_record (start other image ∷ items) none own = (
  elim (cases_Bool (other == pid)) [
    | inl t ↦ absurd (both_ways _ none (sym (same_among other pid node_record.spawned_ids t) ∙ own.0.0))
    | inr f ↦ f
  ],
  own-starts cube r pid node_record items none own.1,
)
own-starts cube r pid node_record (mail parcel ∷ items) none own = (refl, own-starts cube r pid node_record items none own.1)
own-starts cube r pid node_record (kill other ∷ items) none own = (refl, own-starts cube r pid node_record items none own.1)

pub own-kills : (cube : Cube) (r pid : ℕ) (node_record : NodeRecord) (items : List Item) → is_among pid node_record.killed_ids ≡ false
    → AllByRecursion (IsItemOf cube r node_record) items → AllByRecursion (λ x. is_kill_of pid x ≡ false) items
own-kills cube r pid node_record [] none own = tt
own-kills cube r pid node_record (start other image ∷ items) none own = (refl, own-kills cube r pid node_record items none own.1)
own-kills cube r pid node_record (mail parcel ∷ items) none own = (refl, own-kills cube r pid node_record items none own.1)
own-kills cube r pid node_record (kill other ∷ items) none own = (
  elim (cases_Bool (other == pid)) [
    | inl t ↦ absurd (both_ways _ none (sym (same_among other pid node_record.killed_ids t) ∙ own.0))
    | inr f ↦ f
  ],
  own-kills cube r pid node_record items none own.1,
)

-- an item of a node stays one where more ids were spawned and killed
pub own-more : (cube : Cube) (r : ℕ) (node_record node_record' : NodeRecord) (items : List Item)
    → ((pid : ℕ) → is_among pid node_record.spawned_ids ≡ true → is_among pid node_record'.spawned_ids ≡ true)
    → ((pid : ℕ) → is_among pid node_record.killed_ids ≡ true → is_among pid node_record'.killed_ids ≡ true)
    → AllByRecursion (IsItemOf cube r node_record) items → AllByRecursion (IsItemOf cube r node_record') items
own-more cube r node_record node_record' [] spawned killed own = tt
own-more cube r node_record node_record' (start pid image ∷ items) spawned killed own =
    ((spawned pid own.0.0, own.0.1), own-more cube r node_record node_record' items spawned killed own.1)
own-more cube r node_record node_record' (mail parcel ∷ items) spawned killed own = (own.0, own-more cube r node_record node_record' items spawned killed own.1)
own-more cube r node_record node_record' (kill pid ∷ items) spawned killed own = (killed pid own.0, own-more cube r node_record node_record' items spawned killed own.1)

-- ---- the name of an item

pub named-itself : (item : Item) → is_named_by (take_result_of item) item ≡ true
named-itself (start pid image) = eq-eqb pid pid refl
named-itself (mail parcel) = eq-eqb parcel.number parcel.number refl
named-itself (kill pid) = eq-eqb pid pid refl

eqb-turned : (a b : ℕ) → (a == b) ≡ (b == a)
eqb-turned a b =
    elim (cases_eq a b) [
      | inl same ↦ eq-eqb a b same ∙ sym (eq-eqb b a (sym same))
      | inr differ ↦ ne_eqb a b differ ∙ sym (ne_eqb b a (λ e. differ (sym e)))
    ]

pub named-start : (pid image : ℕ) (item : Item) → is_named_by (Start pid image) item ≡ is_start_of pid item
named-start pid image (start other image') = eqb-turned pid other
named-start pid image (mail parcel) = refl
named-start pid image (kill other) = refl

pub named-kill : (pid : ℕ) (item : Item) → is_named_by (Kill pid) item ≡ is_kill_of pid item
named-kill pid (start other image) = refl
named-kill pid (mail parcel) = refl
named-kill pid (kill other) = eqb-turned pid other

unnamed : (pid number : ℕ) (items : List Item) → AllByRecursion (λ b. number < b) (numbers_of items)
    → AllByRecursion (λ x. is_named_by (Mail pid number) x ≡ false) items
unnamed pid number [] all = tt
unnamed pid number (start other image ∷ items) all = (refl, unnamed pid number items all)
unnamed pid number (mail parcel ∷ items) all = (ne_eqb number parcel.number (λ e. omega (arith, all.0)), unnamed pid number items all.1)
unnamed pid number (kill other ∷ items) all = (refl, unnamed pid number items all)

pub named-mail : (pid number : ℕ) (items : List Item) → AreRising (numbers_of items) → count_by (is_named_by (Mail pid number)) items ≤ 1
named-mail pid number [] rising = omega arith
named-mail pid number (start other image ∷ items) rising =
    omega (arith, count_by-cons (is_named_by (Mail pid number)) (start other image) items, named-mail pid number items rising)
named-mail pid number (mail parcel ∷ items) rising =
    elim (cases_Bool (number == parcel.number)) [
      | inl t ↦
          let above = subst (λ n. AllByRecursion (λ b. n < b) (numbers_of items)) (sym (eqb-true number parcel.number t)) rising.0 in
          omega (arith, count_by-cons (is_named_by (Mail pid number)) (mail parcel) items, truth_bit-true (number == parcel.number) t, count_by-none (is_named_by (Mail pid number)) items (unnamed pid number items above))
      | inr f ↦
          omega (arith, count_by-cons (is_named_by (Mail pid number)) (mail parcel) items, truth_bit-false (number == parcel.number) f, named-mail pid number items rising.1)
    ]
named-mail pid number (kill other ∷ items) rising =
    omega (arith, count_by-cons (is_named_by (Mail pid number)) (kill other) items, named-mail pid number items rising)

-- a start can always be given
pub start_can_be_given : (asking dead pid : ℕ) (item : Item) → is_eligible asking dead item ≡ false → is_start_of pid item ≡ false
start_can_be_given asking dead pid (start other image) h = absurd (both_ways _ h refl)
start_can_be_given asking dead pid (mail parcel) h = refl
start_can_be_given asking dead pid (kill other) h = refl
