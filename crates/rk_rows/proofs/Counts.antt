-- Names that are counted: how many there are, and those of parcels that wait.
use Rattle.std.proofs.Common.{◌≡◌, suc, ◌+◌, ◌≤◌, Bool, List, [], ◌∷◌, ◌++◌, length, find, Some, refl, ap, sym, ◌∙◌, arith, inl, inr}
use Rattle.std.proofs.lemmas.Bool.{cases_lt, cases_Bool}
use Rattle.ce_model.specs.declared.topology.BlockId.{BlockId}
use Rattle.ce_model.specs.Lists.{without_first}
use Rattle.ce_model.specs.Parcels.{Item}
use Rattle.ce_solo.proofs.Counting.{hit, hit-self, same_from_hit, count, count-nil, count-one, count-cons, count-append}
use Rattle.ce_solo.proofs.Items.{parcel_ids, ids-append}
use Rattle.rk_rows.specs.Lone.{HasQueued}

-- names without one that stands among them
record IsWithout (x : BlockId) (ys : List BlockId) : Type 0 where
  rest : List BlockId
  counts : (id : BlockId) → count id ys ≡ hit id x + count id rest
  fewer : length ys ≡ suc (length rest)

without : (x : BlockId) (ys : List BlockId) → 1 ≤ count x ys → IsWithout x ys
without x [] some = absurd (omega (arith, some, count-nil x))
without x (y ∷ ys) some =
    elim (cases_lt (hit x y) 1) [
      | inl other ↦ (let later = without x ys (omega (arith, some, other, count-cons x y ys)) in record {
        rest = y ∷ later.rest;
        counts = λ id. omega (arith, count-cons id y ys, later.counts id, count-cons id y later.rest);
        fewer = ap suc later.fewer;
      })
      | inr here ↦ record {
        rest = ys;
        counts = λ id. count-cons id y ys ∙ ap (λ name. hit id name + count id ys) (sym (same_from_hit x y here));
        fewer = refl;
      }
    ]

-- names of which each stands among others as often are no more than those
pub length-counts : (xs ys : List BlockId) → ((id : BlockId) → count id xs ≤ count id ys) → length xs ≤ length ys
length-counts [] ys within = omega arith
length-counts (x ∷ xs) ys within =
    let some = without x ys (omega (arith, within x, count-cons x x xs, hit-self x)) in
    omega (arith, some.fewer, length-counts xs some.rest (λ id. omega (arith, within id, count-cons id x xs, some.counts id)))

-- ---- parcels

pub ids-first : (id : BlockId) (x : Item) (xs : List Item) → count id (parcel_ids (x ∷ xs)) ≡ count id (parcel_ids (x ∷ [])) + count id (parcel_ids xs)
ids-first id x xs = ap (count id) (ids-append (x ∷ []) xs) ∙ count-append id (parcel_ids (x ∷ [])) (parcel_ids xs)

-- the first item that passes a test is taken out
pub taken-ids : (id : BlockId) (test : Item → Bool) (items : List Item) (item : Item) → find test items ≡ Some item
    → count id (parcel_ids (without_first test items)) + count id (parcel_ids (item ∷ [])) ≡ count id (parcel_ids items)
taken-ids id test [] item found = absurd (cc)
taken-ids id test (x ∷ xs) item found =
    elim (cases_Bool (test x)) [
      | inl t ↦ (let here : Some x ≡ Some item = rw t at found in
          let same : x ≡ item = cc in
          let rest : without_first test (x ∷ xs) ≡ xs = rw t refl in
          omega (arith, ap (λ ys. count id (parcel_ids ys)) rest, ap (λ y. count id (parcel_ids (y ∷ []))) same, ids-first id x xs))
      | inr f ↦ (let later : find test xs ≡ Some item = rw f at found in
          let rest : without_first test (x ∷ xs) ≡ x ∷ without_first test xs = rw f refl in
          omega (arith, ap (λ ys. count id (parcel_ids ys)) rest, ids-first id x (without_first test xs), ids-first id x xs, taken-ids id test xs item later))
    ]

-- an item that is added waits
pub posted : (before after : List Item) (item : Item) → after ≡ before ++ item ∷ [] → HasQueued (parcel_ids (item ∷ [])) before after
posted before after item is = record {
  counts = λ id. omega (
    arith,
    ap (λ items. count id (parcel_ids items)) is,
    ap (count id) (ids-append before (item ∷ [])),
    count-append id (parcel_ids before) (parcel_ids (item ∷ [])),
  );
}

-- nothing more waits
pub none-queued : (items : List Item) → HasQueued [] items items
none-queued items = record { counts = λ id. omega (arith, count-nil id) }

-- of the blocks of a message these are left, and the others wait or are gone
pub record AreSent (all left : List BlockId) (before after : List Item) : Type 0 where
  pub counts : (id : BlockId) → count id (parcel_ids after) + count id left ≤ count id (parcel_ids before) + count id all

pub none-sent : (ids : List BlockId) (items : List Item) → AreSent ids ids items items
none-sent ids items = record { counts = λ id. omega arith }

-- one block more goes its way
pub more-sent : (all ids left : List BlockId) (id : BlockId) (before now after : List Item) → AreSent all ids before now → ids ≡ id ∷ left → HasQueued (id ∷ []) now after
    → AreSent all left before after
more-sent all ids left id before now after sent is queued = record {
  counts = λ other. omega (
    arith,
    sent.counts other,
    queued.counts other,
    ap (count other) is,
    count-cons other id left,
    count-one other id,
  );
}

pub all-sent : (all ids : List BlockId) (before after : List Item) → AreSent all ids before after → HasQueued all before after
all-sent all ids before after sent = record { counts = λ id. omega (arith, sent.counts id) }
