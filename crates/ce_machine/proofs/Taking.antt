-- What a node or a host takes: the first item that it can be given is the one that the entry names,
-- and the only one of that name.
use Rattle.std.proofs.Common.{◌≡◌, ℕ, ◌≤◌, Bool, true, false, ◌==◌, if◌then◌else◌, List, [], ◌∷◌, map, find, count_by, Some, option_and_then, refl, ap, sym, ◌∙◌, inl, inr, arith}
use Rattle.std.proofs.lemmas.Bool.{cases_Bool}
use Rattle.ce_model.specs.declared.topology.BlockId.{BlockId}
use Rattle.ce_model.specs.declared.entry.Entry.{Entry}
use Rattle.ce_model.specs.declared.entry.TakeResult.{TakeResult}
use Rattle.ce_model.specs.declared.entry.TakeResult.TheVariants.{Mail}
use Rattle.ce_model.specs.Lists.{without_first}
use Rattle.ce_model.specs.Parcels.{Parcel, Item, start, mail, kill, is_eligible, take_result_of, is_named_by, parcel_in}
use Rattle.ce_model.specs.Cube.{parcel_numbered}
use Rattle.ce_model.specs.Trace.{NodeRecord}
use Rattle.ce_model.specs.Subcubes.{extract, is_inside}
use Rattle.ce_model.specs.Renaming.{block_outward, renamed_item}
use Rattle.ce_model.specs.Machine.{MachineParts, IsMachine, HeldCube, cube_held_by, after, IsLawful}
use Rattle.ce_model.proofs.Subcubes.{node_of-extract}
use Rattle.ce_solo.proofs.Lists.{count_by-cons, find-out, truth_bit-true}
use Rattle.ce_solo.proofs.Items.{named-itself}
use Rattle.ce_solo.proofs.Records.{named_once}
use Rattle.ce_solo.proofs.Projection.Numbers.{inside_below}
use Rattle.ce_solo.proofs.Projection.Entries.{named-renamed}
use Rattle.ce_solo.proofs.Projection.Law.{projected}
use Rattle.ce_machine.proofs.Called.{left_now, sound-now, own}

-- ---- lists

-- a member that is found counts
found-counts : {X : Type 0} (test named : X → Bool) (xs : List X) (x : X) → find test xs ≡ Some x → named x ≡ true → 1 ≤ count_by named xs
found-counts test named [] x found is = absurd (cc)
found-counts test named (y ∷ ys) x found is =
    elim (cases_Bool (test y)) [
      | inl t ↦
          let here : Some y ≡ Some x = rw t at found in
          let same : y ≡ x = cc in
          omega (arith, count_by-cons named y ys, truth_bit-true (named y) (ap named same ∙ is))
      | inr f ↦ let later : find test ys ≡ Some x = rw f at found in omega (arith, count_by-cons named y ys, found-counts test named ys x later is)
    ]

-- where only one member passes the second test, and it is the first that passes the first, both
-- take it out
same-without : {X : Type 0} (test named : X → Bool) (xs : List X) (x : X) → find test xs ≡ Some x → named x ≡ true → count_by named xs ≤ 1
    → without_first named xs ≡ without_first test xs
same-without test named [] x found is once = refl
same-without test named (y ∷ ys) x found is once =
    elim (cases_Bool (test y)) [
      | inl t ↦
          let here : Some y ≡ Some x = rw t at found in
          let same : y ≡ x = cc in
          let named_is : named y ≡ true = ap named same ∙ is in
          rw (t, named_is) refl
      | inr f ↦
          let later : find test ys ≡ Some x = rw f at found in
          elim (cases_Bool (named y)) [
            | inl n ↦ absurd (omega (arith, once, count_by-cons named y ys, truth_bit-true (named y) n, found-counts test named ys x later is))
            | inr n ↦ rw (f, n) (ap (λ rest. y ∷ rest) (same-without test named ys x later is (omega (arith, once, count_by-cons named y ys))))
          ]
    ]

-- ---- what waits at a node of the machine

count-renamed : (rename : BlockId → BlockId) (given : TakeResult) (items : List Item) → count_by (is_named_by given) (map (renamed_item rename) items) ≡ count_by (is_named_by given) items
count-renamed rename given [] = refl
count-renamed rename given (item ∷ items) =
    omega (
      arith,
      count_by-cons (is_named_by given) (renamed_item rename item) (map (renamed_item rename) items),
      count_by-cons (is_named_by given) item items,
      ap {B = ℕ} (λ b. if b then 1 else 0) (named-renamed rename given item),
      count-renamed rename given items,
    )

module _ (parts : MachineParts) (machine : IsMachine parts) (h : List Entry) (lawful : IsLawful parts h) (user : ℕ) (cube : HeldCube) (holds : cube_held_by (after h) user ≡ Some cube)
    (goes : cube.is_drained ≡ false) (node : ℕ) (inside : is_inside cube.grant.sub node ≡ true) where
  abbrev items : List Item
  items = ((after h).node_record node).waiting_items

  -- an item's name stands once among those that wait at a node of a cube
  pub waiting-once : (item : Item) → count_by (is_named_by (take_result_of item)) ((after h).node_record node).waiting_items ≤ 1
  waiting-once item =
      let was = (projected parts h machine lawful).held user cube holds in
      let s = left_now parts machine h lawful user cube holds in
      let r = extract node cube.grant.sub.mask in
      let below = inside_below parts.dim cube.grant was.placed node inside in
      let node_record = s.standing.node_record r in
      let is : items ≡ map (renamed_item (block_outward cube.grant)) node_record.waiting_items =
      ap (λ n. ((after h).node_record n).waiting_items) (sym (node_of-extract cube.grant.sub node inside)) ∙ ap (λ (k : NodeRecord). k.waiting_items) ((was.kept goes).nodes r below) in
      omega (
        arith,
        ap (count_by (is_named_by (take_result_of item))) is,
        count-renamed (block_outward cube.grant) (take_result_of item) node_record.waiting_items,
        named_once (own parts machine h lawful user cube holds) s.standing.parcel_count r node_record item ((sound-now parts machine h lawful user cube holds goes).records r below),
      )

  -- the first item that the node can be given is the one that the entry takes out
  pub taken-first : (asking dead : ℕ) (item : Item) → find (is_eligible asking dead) ((after h).node_record node).waiting_items ≡ Some item
      → without_first (is_named_by (take_result_of item)) ((after h).node_record node).waiting_items ≡ without_first (is_eligible asking dead) ((after h).node_record node).waiting_items
  taken-first asking dead item found = same-without (is_eligible asking dead) (is_named_by (take_result_of item)) items item found (named-itself item) (waiting-once item)

  -- and a parcel among them is the one of its number
  pub taken-parcel : (asking dead : ℕ) (parcel : Parcel) → find (is_eligible asking dead) ((after h).node_record node).waiting_items ≡ Some (mail parcel)
      → parcel_numbered parcel.number ((after h).node_record node).waiting_items ≡ Some parcel
  taken-parcel asking dead parcel found =
      ap (option_and_then parcel_in) (by_number items
      ∙ (find-out (is_eligible asking dead) (is_named_by (take_result_of (mail parcel))) items (mail parcel) found (named-itself (mail parcel)) (waiting-once (mail parcel))).found)
    where
      by_number : (items : List Item) → find (is_named_by (Mail 0 parcel.number)) items ≡ find (is_named_by (Mail parcel.to.pid parcel.number)) items
      by_number [] = refl
      by_number (start pid image ∷ items) = by_number items
      by_number (mail other ∷ items) = ap (λ rest. if parcel.number == other.number then Some (mail other) else rest) (by_number items)
      by_number (kill pid ∷ items) = by_number items
