-- In a drained cube nothing waits, and what a drain hands out.
use Rattle.std.proofs.Common.{◌≡◌, ℕ, Bool, true, false, ◌&&◌, ◌==◌, List, [], ◌∷◌, ◌++◌, map, flat_map, Some, None, refl, ap, sym, ◌∙◌, subst, inl, inr}
use Rattle.std.specs.List.{AllByRecursion, list_all}
use Rattle.std.proofs.lemmas.Bool.{cases_Bool, both_ways, eqb-true}
use Rattle.std.proofs.lemmas.List.{map-append}
use Rattle.ce_model.specs.declared.entry.Entry.{Entry}
use Rattle.ce_model.specs.Blocks.{Block}
use Rattle.ce_model.specs.Parcels.{Item, item_parcels}
use Rattle.ce_model.specs.Trace.{NodeRecord}
use Rattle.ce_model.specs.Subcubes.{is_inside}
use Rattle.ce_model.specs.Machine.{MachineParts, IsMachine, HeldCube, MachineState, cube_held_by, nodes_of, all_parcels, record_after_entry, cube_after_entry, after, IsLawfulEntry, IsLawful}
use Rattle.ce_model.proofs.Walked.{kept_by_each, each-more}
use Rattle.ce_solo.proofs.Items.{among-append}
use Rattle.ce_solo.proofs.Projection.Held.{held-own, record-own, granted-own, left-own}
use Rattle.ce_solo.proofs.Projection.Invariant.{IsProjected, IsNextState}
use Rattle.ce_solo.proofs.Projection.Law.{projected, lawful-entry}
use Rattle.ce_machine.proofs.Changes.{same_cube, next_state, user_grant, Change, nothing, grants, drains, frees, calls, change-of}

-- ---- nothing waits

-- in this state nothing waits in the cube
pub record IsEmpty (state : MachineState) (cube : HeldCube) : Type 0 where
  pub mail : cube.mail ≡ []
  pub nodes : (node : ℕ) → is_inside cube.grant.sub node ≡ true → (state.node_record node).waiting_items ≡ []

record AreEmpty (parts : MachineParts) (h : List Entry) : Type 0 where
  pub lawful : IsLawful parts h
  pub cubes : (user : ℕ) (cube : HeldCube) → cube_held_by (after h) user ≡ Some cube → cube.is_drained ≡ true → IsEmpty (after h) cube

module _ (parts : MachineParts) (machine : IsMachine parts) (h : List Entry) (entry : Entry) (empty : AreEmpty parts h) (is : IsLawfulEntry parts h entry) where
  abbrev before : IsProjected parts (after h) h
  before = projected parts h machine empty.lawful

  abbrev step : IsNextState parts (after h) h entry (next_state h entry)
  step = lawful-entry parts machine h before entry is

  own-empty : Change parts h entry → (cube : HeldCube) → cube_held_by (next_state h entry) entry.user ≡ Some cube → cube.is_drained ≡ true → IsEmpty (next_state h entry) cube
  own-empty (nothing e) cube held drained =
      subst (λ state. IsEmpty state cube) (sym e) (empty.cubes entry.user cube (ap (λ state. cube_held_by state entry.user) (sym e) ∙ held) drained)
  own-empty (grants dim sub none free e) cube held drained =
      let same = same_cube _ cube (sym (granted-own (user_grant entry.user dim sub) (after h) none) ∙ ap (λ state. cube_held_by state entry.user) (sym e) ∙ held) in
      absurd (both_ways _ (ap (λ (c : HeldCube). c.is_drained) (sym same)) drained)
  own-empty (drains was holds e) cube held drained =
      let change : HeldCube → HeldCube = λ cube. record cube { is_drained = true; mail = [] } in
      let change_record : HeldCube → ℕ → NodeRecord → NodeRecord = λ cube node node_record. record node_record { waiting_items = [] } in
      let now = held-own entry.user change (λ cube. refl) change_record (after h) was holds in
      let same = same_cube (change was) cube (sym now ∙ ap (λ state. cube_held_by state entry.user) (sym e) ∙ held) in
      subst (IsEmpty (next_state h entry)) same (record {
        mail = refl;
        nodes = λ node inside. ap (λ (state : MachineState). (state.node_record node).waiting_items) e
            ∙ ap (λ (node_record : NodeRecord). node_record.waiting_items) (record-own change_record node ((after h).node_record node) (cube_held_by (after h) entry.user) was holds inside);
      })
  own-empty (frees was holds drained_was e) cube held drained =
      let none : None ≡ Some cube = sym (left-own entry.user (after h)) ∙ ap (λ state. cube_held_by state entry.user) (sym e) ∙ held in absurd (cc)
  own-empty (calls call was holds fits what e) cube held drained =
      let now = held-own entry.user (cube_after_entry entry) (λ cube. refl) (λ cube. record_after_entry cube.grant.sub entry) (after h) was holds in
      let same = same_cube (cube_after_entry entry was) cube (sym now ∙ ap (λ state. cube_held_by state entry.user) (sym e) ∙ held) in
      absurd (both_ways _ (ap (λ (c : HeldCube). c.is_drained) (sym same) ∙ fits.not_drained) drained)

  other-empty : (user : ℕ) (cube : HeldCube) → (entry.user == user) ≡ false → cube_held_by (next_state h entry) user ≡ Some cube → cube.is_drained ≡ true → IsEmpty (next_state h entry) cube
  other-empty user cube differ held drained =
      let held_was = sym (step.others user differ) ∙ held in
      let was = empty.cubes user cube held_was drained in
      record {
        mail = was.mail;
        nodes = λ node inside.
            ap (λ (node_record : NodeRecord). node_record.waiting_items) (step.records node (λ own holds.
            elim (cases_Bool (is_inside own.grant.sub node)) [
              | inl both ↦ absurd (both_ways _ (before.apart entry.user user own cube differ holds held_was node both) inside)
              | inr outside ↦ outside
            ]))
            ∙ was.nodes node inside;
      }

  empty-next : AreEmpty parts (h ++ entry ∷ [])
  empty-next = record {
    lawful = each-more (IsLawfulEntry parts) h entry empty.lawful is;
    cubes = λ user cube held drained.
        elim (cases_Bool (entry.user == user)) [
          | inl own ↦ own-empty (change-of parts h entry is) cube (ap (cube_held_by (next_state h entry)) (eqb-true _ _ own) ∙ held) drained
          | inr differ ↦ other-empty user cube differ held drained
        ];
  }

empty-nil : (parts : MachineParts) → AreEmpty parts []
unfolding after
empty-nil parts = record { lawful = tt; cubes = λ user cube held drained. absurd (cc) }

-- in a drained cube nothing waits
pub drained-empty : (parts : MachineParts) (history : List Entry) → IsMachine parts → IsLawful parts history → (user : ℕ) (cube : HeldCube)
    → cube_held_by (after history) user ≡ Some cube → cube.is_drained ≡ true → IsEmpty (after history) cube
drained-empty parts history machine lawful user cube holds drained =
    (kept_by_each (IsLawfulEntry parts) (AreEmpty parts) (λ h entry empty is. empty-next parts machine h entry empty is) [] history (empty-nil parts) lawful).cubes user cube holds drained

-- ---- what a drain hands out

-- the blocks of the parcels among these items
abbrev pub blocks_among : List Item → List Block
blocks_among items = map (λ parcel. parcel.block) (item_parcels items)

pub blocks-append : (xs ys : List Item) → blocks_among (xs ++ ys) ≡ blocks_among xs ++ blocks_among ys
blocks-append xs ys = ap (map (λ parcel. parcel.block)) (among-append xs ys) ∙ map-append (λ parcel. parcel.block) (item_parcels xs) (item_parcels ys)

-- those that wait in a cube are those at its nodes, and behind them those for its host
pub all-blocks : (state : MachineState) (cube : HeldCube) → map (λ parcel. parcel.block) (all_parcels state cube)
    ≡ blocks_among (flat_map (λ node. (state.node_record node).waiting_items) (nodes_of cube.grant)) ++ blocks_among cube.mail
all-blocks state cube = blocks-append (flat_map (λ node. (state.node_record node).waiting_items) (nodes_of cube.grant)) cube.mail

-- ---- what is the same at each node

pub flat_map-same : {X Y : Type 0} (f g : X → List Y) (xs : List X) → AllByRecursion (λ x. f x ≡ g x) xs → flat_map f xs ≡ flat_map g xs
flat_map-same f g [] all = refl
flat_map-same f g (x ∷ xs) all = λ i. all.0 i ++ flat_map-same f g xs all.1 i

pub list_all-same : {X : Type 0} (f g : X → Bool) (xs : List X) → AllByRecursion (λ x. f x ≡ g x) xs → list_all f xs ≡ list_all g xs
list_all-same f g [] all = refl
list_all-same f g (x ∷ xs) all = λ i. all.0 i && list_all-same f g xs all.1 i
