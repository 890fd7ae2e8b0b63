-- What the windows of a process hold, by the map of its node.
use Rattle.std.proofs.Common.{◌≡◌, ℕ, zero, suc, ◌+◌, ◌<◌, ◌≤◌, true, false, ◌&&◌, nat_lt, nat_le, if◌then◌else◌, ◌==◌, List, [], ◌∷◌, length, map, set, Option, Some, None, option_map, Result, Ok, Err, OnOk, OnErr, arith, refl, ap, ◌∙◌, sym, inl, inr}
use Rattle.std.specs.List.{range_with_len, slice_get}
use Rattle.std.proofs.lemmas.Bool.{cases_Bool, cases_lt}
use Rattle.std.proofs.lemmas.Bool.Decides.{nat_tests}
use Rattle.std.proofs.lemmas.Option.{none-some, same_Some, some_pair_parts, slice_get-get_or, slice_get_past, slice_get-map}
use Rattle.std.proofs.lemmas.List.FromFn.{length-range_with_len, get_or-range_with_len}
use Rattle.std.proofs.lemmas.List.{length-map}
use Rattle.ce_model.specs.Limits.{window_base}
use Rattle.ce_model.specs.Blocks.{Block}
use Rattle.ce_model.specs.Space.{window_of, offset_of}
use Rattle.xm_owner.specs.Holdings.{Mapping, MappingTable, block_held_at, is_mapping_at, with_block_at, without_process}
use Rattle.xm_owner.proofs.Mappings.{changes-with_block}
use Rattle.rk_process.specs.OwnStates.{windows_of, place_of, rest_of}
use Rattle.rv_model.specs.declared.stop.Stop.{Stop}
use Rattle.ce_model.specs.Space.{result_map}
use Rattle.rk_process.specs.Windows.{window_at_address, stored_block, stored_windows}

pub length-windows_of : (mappings : List Mapping) (pid used : ℕ) → length (windows_of mappings pid used) ≡ used
unfolding windows_of
length-windows_of mappings pid used = length-map (range_with_len 0 used) (block_held_at mappings pid) ∙ length-range_with_len 0 used

slice_get-range : (n k : ℕ) → k < n → slice_get (range_with_len 0 n) k ≡ Some k
slice_get-range n k h =
    let long = length-range_with_len 0 n in
    slice_get-get_or (range_with_len 0 n) k 0 (omega arith) ∙ ap Some (get_or-range_with_len 0 n k 0 h ∙ omega arith)

-- a window that was used holds what is held there
pub slice_get-windows_of : (mappings : List Mapping) (pid used k : ℕ) → k < used → slice_get (windows_of mappings pid used) k ≡ Some (block_held_at mappings pid k)
unfolding windows_of
slice_get-windows_of mappings pid used k h =
    slice_get-map (block_held_at mappings pid) (range_with_len 0 used) k ∙ rw (slice_get-range used k h) refl

lt-true : (m n : ℕ) → m < n → nat_lt m n ≡ true
lt-true m n h = grind (arith, nat_tests)

lt-false : (m n : ℕ) → n ≤ m → nat_lt m n ≡ false
lt-false m n h = grind (arith, nat_tests)

le-true : (m n : ℕ) → m ≤ n → nat_le m n ≡ true
le-true m n h = grind (arith, nat_tests)

le-false : (m n : ℕ) → n < m → nat_le m n ≡ false
le-false m n h = grind (arith, nat_tests)

-- the window of an address holds what is held there, where it was used
pub window_found-of : (mappings : List Mapping) (pid used a : ℕ) → window_at_address (windows_of mappings pid used) a
    ≡ (if nat_le window_base a && nat_lt (window_of a) used then Some (block_held_at mappings pid (window_of a)) else None)
window_found-of mappings pid used a = elim (cases_lt a window_base) [
  | inl below ↦ rw (lt-true a window_base below, le-false window_base a below) refl
  | inr above ↦ elim (cases_lt (window_of a) used) [
    | inl h ↦ rw (lt-false a window_base above, le-true window_base a above, lt-true (window_of a) used h) (slice_get-windows_of mappings pid used (window_of a) h)
    | inr h ↦ (let long = length-windows_of mappings pid used in
        rw (lt-false a window_base above, le-true window_base a above, lt-false (window_of a) used h)
        (slice_get_past (windows_of mappings pid used) (window_of a) (omega arith)))
  ]
]

-- the block that a window holds, put there again, changes nothing
pub with_block_at-same : (pid window : ℕ) (block : Block) (mappings : List Mapping) → block_held_at mappings pid window ≡ Some block → with_block_at pid window block mappings ≡ mappings
with_block_at-same pid window block [] held = refl
with_block_at-same pid window block (mapping ∷ mappings) held = elim (cases_Bool (is_mapping_at pid window mapping)) [
  | inl t ↦ (let first : block_held_at (mapping ∷ mappings) pid window ≡ Some mapping.block = rw t refl in
      let same : mapping.block ≡ block = same_Some mapping.block block (sym first ∙ held) in
      rw (t, ← same) refl)
  | inr f ↦ (let rest : block_held_at (mapping ∷ mappings) pid window ≡ block_held_at mappings pid window = rw f refl in
      rw f (ap (λ ms. mapping ∷ ms) (with_block_at-same pid window block mappings (sym rest ∙ held))))
]

-- where an address lies is where its window's block is held
pub window_found-at : (mappings : List Mapping) (pid used a : ℕ) (place : Option (ℕ × ℕ))
    → place ≡ (if nat_le window_base a && nat_lt (window_of a) used then Some (window_of a, offset_of a) else None)
    → window_at_address (windows_of mappings pid used) a ≡ option_map (λ at. block_held_at mappings pid at.0) place
window_found-at mappings pid used a place e =
    window_found-of mappings pid used a ∙ rw e (elim (cases_Bool (nat_le window_base a && nat_lt (window_of a) used)) [
      | inl t ↦ rw t refl
      | inr f ↦ rw f refl
    ])

-- a function's values along a range, where it changes at one place
map-same : {X : Type 0} (f g : ℕ → X) (a n : ℕ) → ((j : ℕ) → a ≤ j → g j ≡ f j) → map g (range_with_len a n) ≡ map f (range_with_len a n)
map-same f g a zero same = refl
map-same f g a (suc n) same = rw (same a (omega arith)) (ap (λ xs. f a ∷ xs) (map-same f g (a + 1) n (λ j h. same j (omega arith))))

map-set : {X : Type 0} (f g : ℕ → X) (v : X) (a n i : ℕ) → i < n → g (a + i) ≡ v → ((j : ℕ) → (j ≡ a + i → ⊥) → g j ≡ f j)
    → map g (range_with_len a n) ≡ set (map f (range_with_len a n)) i v
map-set f g v a zero i h at others = absurd (omega arith)
map-set f g v a (suc n) zero h at others =
    let first : g a ≡ v = ap g (omega arith) ∙ at in
    rw first (ap (λ xs. v ∷ xs) (map-same f g (a + 1) n (λ j h. others j (λ e. absurd (omega arith)))))
map-set f g v a (suc n) (suc i) h at others =
    let first : g a ≡ f a = others a (λ e. absurd (omega arith)) in
    rw first (ap (λ xs. f a ∷ xs) (map-set f g v (a + 1) n i (omega arith) (ap g (omega arith) ∙ at) (λ j ne. others j (λ e. ne (omega arith)))))

-- another block in a window that was used
pub windows_of-set : (mappings : List Mapping) (pid used k : ℕ) (block was : Block) → k < used → block_held_at mappings pid k ≡ Some was
    → windows_of (with_block_at pid k block mappings) pid used ≡ set (windows_of mappings pid used) k (Some block)
unfolding windows_of
windows_of-set mappings pid used k block was h held =
    let change = changes-with_block pid k block was mappings held in
    map-set (block_held_at mappings pid) (block_held_at (with_block_at pid k block mappings) pid) (Some block) 0 used k h
    (ap (block_held_at (with_block_at pid k block mappings) pid) (omega arith) ∙ change.there_is)
    (λ j ne. change.others pid j (λ p w. ne (omega arith)))

-- it leaves all else as it is
windows-set : (pid k : ℕ) (block : Block) (mappings : List Mapping)
    → map place_of (with_block_at pid k block mappings) ≡ map place_of mappings
windows-set pid k block [] = refl
windows-set pid k block (mapping ∷ mappings) = elim (cases_Bool (is_mapping_at pid k mapping)) [
  | inl t ↦ rw t refl
  | inr f ↦ rw f (ap (λ ws. place_of mapping ∷ ws) (windows-set pid k block mappings))
]

others-set : (pid k : ℕ) (block : Block) (mappings : List Mapping) → without_process pid (with_block_at pid k block mappings) ≡ without_process pid mappings
others-set pid k block [] = refl
others-set pid k block (mapping ∷ mappings) = elim (cases_Bool (is_mapping_at pid k mapping)) [
  | inl t ↦ (let own : mapping.pid == pid ≡ true = grind (arith, nat_tests) in rw (t, own) refl)
  | inr f ↦ rw f (elim (cases_Bool (mapping.pid == pid)) [
    | inl own ↦ rw own (others-set pid k block mappings)
    | inr other ↦ rw other (ap (λ ms. mapping ∷ ms) (others-set pid k block mappings))
  ])
]

pub rest_of-set : (held : MappingTable) (pid used k : ℕ) (block : Block) → rest_of pid used (record held { mappings = with_block_at pid k block held.mappings }) ≡ rest_of pid used held
rest_of-set held pid used k block =
    let windows = windows-set pid k block held.mappings in
    let others = others-set pid k block held.mappings in
    λ t. record { pid = pid; used_count = used; windows = windows t; others = others t; spare = held.spare }

-- what the place of an address tells
pub place-tells : (used a w o : ℕ) → ◌≡◌ {A = Option (ℕ × ℕ)} (Some (w, o)) (if nat_le window_base a && nat_lt (window_of a) used then Some (window_of a, offset_of a) else None)
    → (w ≡ window_of a) × (w < used)
place-tells used a w o e = elim (cases_Bool (nat_le window_base a)) [
  | inr f ↦ (let none : ◌≡◌ {A = Option (ℕ × ℕ)} (Some (w, o)) None = e ∙ rw f refl in absurd (none-some (w, o) (sym none)))
  | inl t ↦ elim (cases_Bool (nat_lt (window_of a) used)) [
    | inr f ↦ (let none : ◌≡◌ {A = Option (ℕ × ℕ)} (Some (w, o)) None = e ∙ rw (t, f) refl in absurd (none-some (w, o) (sym none)))
    | inl u ↦ (let some : ◌≡◌ {A = Option (ℕ × ℕ)} (Some (w, o)) (Some (window_of a, offset_of a)) = e ∙ rw (t, u) refl in
        let parts = some_pair_parts w (window_of a) o (offset_of a) some in
        let below : window_of a < used = grind (arith, nat_tests) in
        (parts.0, omega arith))
  ]
]

-- a store into the block that a window holds
module _ (held : MappingTable) (pid used a size n w : ℕ) (was left : Block) (at : w ≡ window_of a) (within : w < used) (here : block_held_at held.mappings pid w ≡ Some was) where
  found : window_at_address (windows_of held.mappings pid used) a ≡ Some (block_held_at held.mappings pid w) → stored_block (window_at_address (windows_of held.mappings pid used) a) a size n ≡ stored_block (Some (Some was)) a size n
  found e = ap (λ window. stored_block window a size n) (e ∙ ap Some here)

  pub store-done : (r : Result (Unit {0}) Stop) → window_at_address (windows_of held.mappings pid used) a ≡ Some (block_held_at held.mappings pid w)
      → OnOk r (stored_block (Some (Some was)) a size n ≡ Ok left)
      → OnOk r (stored_windows (windows_of held.mappings pid used) a size n ≡ Ok (windows_of (with_block_at pid w left held.mappings) pid used))
  store-done (Err cause) e stored = tt
  store-done (Ok done) e stored =
      ap (result_map (λ block. set (windows_of held.mappings pid used) (window_of a) (Some block))) (found e ∙ stored)
      ∙ ap (λ k. Ok (set (windows_of held.mappings pid used) k (Some left))) (sym at)
      ∙ ap Ok (sym (windows_of-set held.mappings pid used w left was within here))

  pub store-refused : (r : Result (Unit {0}) Stop) → OnErr r (left ≡ was) → OnErr r (record held { mappings = with_block_at pid w left held.mappings } ≡ held)
  store-refused (Ok done) same = tt
  store-refused (Err cause) same =
      let unchanged : with_block_at pid w left held.mappings ≡ held.mappings = rw same (with_block_at-same pid w was held.mappings here) in
      λ t. record { mappings = unchanged t; spare = held.spare }
