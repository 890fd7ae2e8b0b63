-- What a change of a map leaves in its windows.
use Rattle.std.proofs.Common.{◌≡◌, ℕ, true, false, ◌==◌, List, [], ◌∷◌, Some, None, arith, refl, ap, ◌∙◌, sym, inl, inr}
use Rattle.std.proofs.lemmas.Bool.{cases_Bool}
use Rattle.std.proofs.lemmas.Bool.Decides.{nat_tests}
use Rattle.std.proofs.lemmas.Option.{none-some}
use Rattle.ce_model.specs.Blocks.{Block}
use Rattle.xm_owner.specs.Holdings.{Mapping, is_mapping_at, is_mapping_before, block_held_at, with_mapping, mappings_without, without_process, with_block_at, HasChangedOnly}

-- a mapping is at its own window, and at no other one
at-own : (mapping : Mapping) → is_mapping_at mapping.pid mapping.window mapping ≡ true
at-own mapping = grind (arith, nat_tests)

at-other : (pid window p w : ℕ) (mapping : Mapping) → is_mapping_at pid window mapping ≡ true → (p ≡ pid → w ≡ window → ⊥) → is_mapping_at p w mapping ≡ false
at-other pid window p w mapping h differs = grind (arith, nat_tests)

-- a window that holds nothing isn't the first one of the map, nor one behind it
pub vacant-head : (pid window : ℕ) (mapping : Mapping) (mappings : List Mapping) → block_held_at (mapping ∷ mappings) pid window ≡ None → is_mapping_at pid window mapping ≡ false
vacant-head pid window mapping mappings h = elim (cases_Bool (is_mapping_at pid window mapping)) [
  | inl t ↦ absurd (none-some mapping.block (sym h ∙ (rw t refl)))
  | inr f ↦ f
]

pub vacant-tail : (pid window : ℕ) (mapping : Mapping) (mappings : List Mapping) → block_held_at (mapping ∷ mappings) pid window ≡ None → block_held_at mappings pid window ≡ None
vacant-tail pid window mapping mappings h =
    let f = vacant-head pid window mapping mappings h in
    let same : block_held_at (mapping ∷ mappings) pid window ≡ block_held_at mappings pid window = rw f refl in
    sym same ∙ h

-- one mapping more
held_at-with_mapping : (added : Mapping) (mappings : List Mapping) → block_held_at mappings added.pid added.window ≡ None
    → block_held_at (with_mapping added mappings) added.pid added.window ≡ Some added.block
held_at-with_mapping added [] vacant = rw (at-own added) refl
held_at-with_mapping added (mapping ∷ mappings) vacant = elim (cases_Bool (is_mapping_before added mapping)) [
  | inl t ↦ rw (t, at-own added) refl
  | inr f ↦ rw (f, vacant-head added.pid added.window mapping mappings vacant)
      (held_at-with_mapping added mappings (vacant-tail added.pid added.window mapping mappings vacant))
]

held_at-with_other : (added : Mapping) (mappings : List Mapping) (p w : ℕ) → (p ≡ added.pid → w ≡ added.window → ⊥)
    → block_held_at (with_mapping added mappings) p w ≡ block_held_at mappings p w
held_at-with_other added [] p w differs = rw (at-other added.pid added.window p w added (at-own added) differs) refl
held_at-with_other added (mapping ∷ mappings) p w differs = elim (cases_Bool (is_mapping_before added mapping)) [
  | inl t ↦ rw (t, at-other added.pid added.window p w added (at-own added) differs) refl
  | inr f ↦ rw f (elim (cases_Bool (is_mapping_at p w mapping)) [
    | inl t ↦ rw t refl
    | inr g ↦ rw g (held_at-with_other added mappings p w differs)
  ])
]

pub changes-with_mapping : (added : Mapping) (mappings : List Mapping) → block_held_at mappings added.pid added.window ≡ None
    → HasChangedOnly mappings (with_mapping added mappings) added.pid added.window (Some added.block)
changes-with_mapping added mappings vacant = record {
  there_is = held_at-with_mapping added mappings vacant;
  others = held_at-with_other added mappings;
}

-- one mapping less
held_at-without : (pid window : ℕ) (mappings : List Mapping) → block_held_at (mappings_without pid window mappings) pid window ≡ None
held_at-without pid window [] = refl
held_at-without pid window (mapping ∷ mappings) = elim (cases_Bool (is_mapping_at pid window mapping)) [
  | inl t ↦ rw t (held_at-without pid window mappings)
  | inr f ↦ rw (f, f) (held_at-without pid window mappings)
]

held_at-without_other : (pid window : ℕ) (mappings : List Mapping) (p w : ℕ) → (p ≡ pid → w ≡ window → ⊥)
    → block_held_at (mappings_without pid window mappings) p w ≡ block_held_at mappings p w
held_at-without_other pid window [] p w differs = refl
held_at-without_other pid window (mapping ∷ mappings) p w differs = elim (cases_Bool (is_mapping_at pid window mapping)) [
  | inl t ↦ rw (t, at-other pid window p w mapping t differs) (held_at-without_other pid window mappings p w differs)
  | inr f ↦ rw f (elim (cases_Bool (is_mapping_at p w mapping)) [
    | inl t ↦ rw t refl
    | inr g ↦ rw g (held_at-without_other pid window mappings p w differs)
  ])
]

pub changes-without : (pid window : ℕ) (mappings : List Mapping) → HasChangedOnly mappings (mappings_without pid window mappings) pid window None
changes-without pid window mappings = record {
  there_is = held_at-without pid window mappings;
  others = held_at-without_other pid window mappings;
}

pub without-vacant : (pid window : ℕ) (mappings : List Mapping) → block_held_at mappings pid window ≡ None → mappings_without pid window mappings ≡ mappings
without-vacant pid window [] vacant = refl
without-vacant pid window (mapping ∷ mappings) vacant =
    rw (vacant-head pid window mapping mappings vacant)
    (ap (λ rest. mapping ∷ rest) (without-vacant pid window mappings (vacant-tail pid window mapping mappings vacant)))

pub changes-none : (pid window : ℕ) (mappings : List Mapping) → block_held_at mappings pid window ≡ None → HasChangedOnly mappings mappings pid window None
changes-none pid window mappings vacant = record { there_is = vacant; others = λ p w differs. refl }

-- another block in place of one
held_at-with_block : (pid window : ℕ) (block was : Block) (mappings : List Mapping) → block_held_at mappings pid window ≡ Some was
    → block_held_at (with_block_at pid window block mappings) pid window ≡ Some block
held_at-with_block pid window block was [] held = absurd (none-some was held)
held_at-with_block pid window block was (mapping ∷ mappings) held = elim (cases_Bool (is_mapping_at pid window mapping)) [
  | inl t ↦ rw (t, t) refl
  | inr f ↦ (let rest : block_held_at (mapping ∷ mappings) pid window ≡ block_held_at mappings pid window = rw f refl in
      rw (f, f) (held_at-with_block pid window block was mappings (sym rest ∙ held)))
]

held_at-with_block_other : (pid window : ℕ) (block : Block) (mappings : List Mapping) (p w : ℕ) → (p ≡ pid → w ≡ window → ⊥)
    → block_held_at (with_block_at pid window block mappings) p w ≡ block_held_at mappings p w
held_at-with_block_other pid window block [] p w differs = refl
held_at-with_block_other pid window block (mapping ∷ mappings) p w differs = elim (cases_Bool (is_mapping_at pid window mapping)) [
  | inl t ↦ rw (t, at-other pid window p w mapping t differs) refl
  | inr f ↦ rw f (elim (cases_Bool (is_mapping_at p w mapping)) [
    | inl t ↦ rw t refl
    | inr g ↦ rw g (held_at-with_block_other pid window block mappings p w differs)
  ])
]

pub changes-with_block : (pid window : ℕ) (block was : Block) (mappings : List Mapping) → block_held_at mappings pid window ≡ Some was
    → HasChangedOnly mappings (with_block_at pid window block mappings) pid window (Some block)
changes-with_block pid window block was mappings held = record {
  there_is = held_at-with_block pid window block was mappings held;
  others = held_at-with_block_other pid window block mappings;
}

-- without the mappings of a process
pub held_at-drained : (pid window : ℕ) (mappings : List Mapping) → block_held_at (without_process pid mappings) pid window ≡ None
held_at-drained pid window [] = refl
held_at-drained pid window (mapping ∷ mappings) = elim (cases_Bool (mapping.pid == pid)) [
  | inl t ↦ rw t (held_at-drained pid window mappings)
  | inr f ↦ (let apart : is_mapping_at pid window mapping ≡ false = grind (arith, nat_tests) in rw (f, apart) (held_at-drained pid window mappings))
]

pub held_at-drained_other : (pid : ℕ) (mappings : List Mapping) (p w : ℕ) → (p ≡ pid → ⊥) → block_held_at (without_process pid mappings) p w ≡ block_held_at mappings p w
held_at-drained_other pid [] p w differs = refl
held_at-drained_other pid (mapping ∷ mappings) p w differs = elim (cases_Bool (mapping.pid == pid)) [
  | inl t ↦ (let apart : is_mapping_at p w mapping ≡ false = grind (arith, nat_tests) in rw (t, apart) (held_at-drained_other pid mappings p w differs))
  | inr f ↦ rw f (elim (cases_Bool (is_mapping_at p w mapping)) [
    | inl u ↦ rw u refl
    | inr g ↦ rw g (held_at-drained_other pid mappings p w differs)
  ])
]
