-- What the windows of a process hold, by the map of its node, and what each change of the map makes
-- of them.
use Rattle.std.proofs.Common.{◌≡◌, ℕ, zero, suc, ◌+◌, ◌<◌, ◌≤◌, true, false, ◌==◌, List, [], ◌∷◌, ◌++◌, map, slice_set, Option, Some, None, add-zero, arith, refl, ap, ◌∙◌, sym, inl, inr}
use Rattle.std.specs.List.{range_with_len, AllByRecursion}
use Rattle.std.proofs.lemmas.Bool.{cases_Bool, eqb-true, and_parts}
use Rattle.std.proofs.lemmas.Bool.Decides.{nat_tests}
use Rattle.std.proofs.lemmas.Option.{none-some}
use Rattle.ce_model.specs.declared.topology.BlockId.{BlockId}
use Rattle.ce_model.specs.Blocks.{Block}
use Rattle.xm_block.specs.Stores.{ids_of}
use Rattle.xm_owner.specs.Holdings.{Mapping, is_mapping_at, block_held_at, process_blocks, HasChangedOnly}
use Rattle.rk_process.specs.OwnStates.{OwnState, windows_of, place_of}
use Rattle.ce_solo.proofs.Windows.{ids_at}
use Rattle.rk_node.specs.Tables.{used_count_of, AreUsedWindows, is_place_before, AreRisingPlaces}

-- ---- a run of windows

map-same : {X : Type 0} (f g : ℕ → X) (a n : ℕ) → ((w : ℕ) → a ≤ w → w < a + n → g w ≡ f w) → map g (range_with_len a n) ≡ map f (range_with_len a n)
map-same f g a zero same = refl
map-same f g a (suc n) same =
    ap (λ x. x ∷ map g (range_with_len (a + 1) n)) (same a (omega arith) (omega arith))
    ∙ ap (λ xs. f a ∷ xs) (map-same f g (a + 1) n (λ w low high. same w (omega arith) (omega arith)))

one : 0 + 1 ≡ 1
one = omega arith

suc-more : (n : ℕ) → suc n + 1 ≡ suc (n + 1)
suc-more n = omega arith

suc-behind : (a n : ℕ) → a + 1 + n ≡ a + suc n
suc-behind a n = omega arith

map-more : {X : Type 0} (f : ℕ → X) (a n : ℕ) → map f (range_with_len a (n + 1)) ≡ map f (range_with_len a n) ++ f (a + n) ∷ []
map-more f a zero = ap (λ k. map f (range_with_len a k)) one ∙ ap (λ w. f w ∷ []) (sym (add-zero a))
map-more f a (suc n) =
    ap (λ k. map f (range_with_len a k)) (suc-more n)
    ∙ ap (λ xs. f a ∷ xs) (map-more f (a + 1) n ∙ ap (λ w. map f (range_with_len (a + 1) n) ++ f w ∷ []) (suc-behind a n))

map-set : {X : Type 0} (f g : ℕ → X) (v : X) (a n k : ℕ) → k < n → g (a + k) ≡ v → ((w : ℕ) → (w ≡ a + k → ⊥) → g w ≡ f w)
    → map g (range_with_len a n) ≡ slice_set (map f (range_with_len a n)) k v
map-set f g v a zero k h at others = absurd (omega arith)
map-set f g v a (suc n) zero h at others =
    ap (λ x. x ∷ map g (range_with_len (a + 1) n)) (ap g (omega arith) ∙ at)
    ∙ ap (λ xs. v ∷ xs) (map-same f g (a + 1) n (λ w low high. others w (λ e. omega (arith, e))))
map-set f g v a (suc n) (suc k) h at others =
    ap (λ x. x ∷ map g (range_with_len (a + 1) n)) (others a (λ e. omega (arith, e)))
    ∙ ap (λ xs. f a ∷ xs) (map-set f g v (a + 1) n k (omega arith) (ap g (omega arith) ∙ at) (λ w ne. others w (λ e. ne (omega (arith, e)))))

map-const : {X Y : Type 0} (f : ℕ → X) (g : ℕ → Y) (v : Y) (a n : ℕ) → ((w : ℕ) → g w ≡ v) → map g (range_with_len a n) ≡ map (λ (x : X). v) (map f (range_with_len a n))
map-const f g v a zero same = refl
map-const f g v a (suc n) same = ap (λ y. y ∷ map g (range_with_len (a + 1) n)) (same a) ∙ ap (λ ys. v ∷ ys) (map-const f g v (a + 1) n same)

-- ---- what the map holds

-- a process whose windows hold the same
pub windows-same : (before after : List Mapping) (pid used : ℕ) → ((w : ℕ) → block_held_at after pid w ≡ block_held_at before pid w)
    → windows_of after pid used ≡ windows_of before pid used
unfolding windows_of
windows-same before after pid used same = map-same (block_held_at before pid) (block_held_at after pid) 0 used (λ w low high. same w)

-- a block more, at the next window
pub windows-mapped : (before after : List Mapping) (pid used : ℕ) (block : Block) → HasChangedOnly before after pid used (Some block)
    → windows_of after pid (used + 1) ≡ windows_of before pid used ++ Some block ∷ []
unfolding windows_of
windows-mapped before after pid used block changes =
    map-more (block_held_at after pid) 0 used
    ∙ ap (λ xs. xs ++ block_held_at after pid (0 + used) ∷ []) (map-same (block_held_at before pid) (block_held_at after pid) 0 used (λ w low high. changes.others pid w (λ p e. omega (arith, e))))
    ∙ ap (λ x. map (block_held_at before pid) (range_with_len 0 used) ++ x ∷ []) (ap (block_held_at after pid) (omega arith) ∙ changes.there_is)

-- a block less
pub windows-unmapped : (before after : List Mapping) (pid used k : ℕ) → k < used → HasChangedOnly before after pid k None
    → windows_of after pid used ≡ slice_set (windows_of before pid used) k None
unfolding windows_of
windows-unmapped before after pid used k h changes =
    map-set (block_held_at before pid) (block_held_at after pid) None 0 used k h (ap (block_held_at after pid) (omega arith) ∙ changes.there_is)
    (λ w ne. changes.others pid w (λ p e. ne (omega (arith, e))))

-- no block any longer
pub windows-emptied : (before after : List Mapping) (pid used : ℕ) → ((w : ℕ) → block_held_at after pid w ≡ None)
    → windows_of after pid used ≡ map (λ (window : Option Block). None) (windows_of before pid used)
unfolding windows_of
windows-emptied before after pid used none = map-const (block_held_at before pid) (block_held_at after pid) None 0 used none

-- ---- windows that were used

at-parts : (pid w : ℕ) (mapping : Mapping) → is_mapping_at pid w mapping ≡ true → (mapping.pid ≡ pid) × (mapping.window ≡ w)
at-parts pid w mapping t =
    let parts = and_parts (mapping.pid == pid) (mapping.window == w) t in (eqb-true mapping.pid pid parts.0, eqb-true mapping.window w parts.1)

-- a window that a process hasn't used holds nothing
pub vacant-unused : (owns : List OwnState) (mappings : List Mapping) (pid w : ℕ) → AreUsedWindows owns (map place_of mappings) → used_count_of owns pid ≤ w → block_held_at mappings pid w ≡ None
vacant-unused owns [] pid w within h = refl
vacant-unused owns (mapping ∷ mappings) pid w within h = elim (cases_Bool (is_mapping_at pid w mapping)) [
  | inl t ↦ (let parts = at-parts pid w mapping t in
      let used : used_count_of owns mapping.pid ≡ used_count_of owns pid = ap (used_count_of owns) parts.0 in
      absurd (omega (arith, within.0, parts.1)))
  | inr f ↦ rw f (vacant-unused owns mappings pid w within.1 h)
]

-- so a window that holds a block was used
pub used-held : (owns : List OwnState) (mappings : List Mapping) (pid w : ℕ) (block : Block) → AreUsedWindows owns (map place_of mappings) → block_held_at mappings pid w ≡ Some block
    → w < used_count_of owns pid
used-held owns [] pid w block within held = absurd (none-some block held)
used-held owns (mapping ∷ mappings) pid w block within held = elim (cases_Bool (is_mapping_at pid w mapping)) [
  | inl t ↦ (let parts = at-parts pid w mapping t in
      let used : used_count_of owns mapping.pid ≡ used_count_of owns pid = ap (used_count_of owns) parts.0 in
      omega (arith, within.0, parts.1))
  | inr f ↦ used-held owns mappings pid w block within.1 (rw f at held)
]

-- ---- the names of the blocks of a process

-- the mappings of a process are of windows from one on, and below another
abbrev AreBetween : ℕ → ℕ → ℕ → List Mapping → Type 0
AreBetween pid a n mappings = AllByRecursion (λ (mapping : Mapping). mapping.pid ≡ pid → (a ≤ mapping.window) × (mapping.window < a + n)) mappings

abbrev ids_between : ℕ → ℕ → ℕ → List Mapping → List BlockId
ids_between pid a n mappings = ids_at (map (block_held_at mappings pid) (range_with_len a n))

-- the claim for a run of windows
abbrev HasSameIds : ℕ → ℕ → Type 0
HasSameIds pid n = (a : ℕ) (mappings : List Mapping) → AreRisingPlaces (map place_of mappings) → AreBetween pid a n mappings → ids_between pid a n mappings ≡ ids_of (process_blocks pid mappings)

behind : (pid a n : ℕ) (mapping : Mapping) (mappings : List Mapping) → mapping.pid ≡ pid → AllByRecursion (λ other. is_place_before (place_of mapping) other ≡ true) (map place_of mappings)
    → AreBetween pid a (suc n) mappings → a ≤ mapping.window → AreBetween pid (a + 1) n mappings
behind pid a n mapping [] own before within low = tt
behind pid a n mapping (other ∷ mappings) own before within low = (
  λ same. let at = within.0 same in
      let up : mapping.window < other.window = grind (arith, nat_tests, before.0) in (omega arith, omega arith),
  behind pid a n mapping mappings own before.1 within.1 low,
)

vacant-below : (pid a n w : ℕ) (mappings : List Mapping) → AreBetween pid a n mappings → w < a → block_held_at mappings pid w ≡ None
vacant-below pid a n w [] within low = refl
vacant-below pid a n w (mapping ∷ mappings) within low = elim (cases_Bool (is_mapping_at pid w mapping)) [
  | inl t ↦ (let parts = at-parts pid w mapping t in let at = within.0 parts.0 in absurd (omega (arith, parts.1)))
  | inr f ↦ rw f (vacant-below pid a n w mappings within.1 low)
]

none_between : (pid a : ℕ) (mappings : List Mapping) → AreBetween pid a 0 mappings → process_blocks pid mappings ≡ []
none_between pid a [] within = refl
none_between pid a (mapping ∷ mappings) within = elim (cases_Bool (mapping.pid == pid)) [
  | inl t ↦ (let at = within.0 (eqb-true mapping.pid pid t) in absurd (omega arith))
  | inr f ↦ rw f (none_between pid a mappings within.1)
]

-- a mapping of another process in front
other-front : (pid a n : ℕ) (mapping : Mapping) (mappings : List Mapping) → (mapping.pid == pid) ≡ false → ids_between pid a n (mapping ∷ mappings) ≡ ids_between pid a n mappings
other-front pid a n mapping mappings f =
    ap ids_at (map-same (block_held_at mappings pid) (block_held_at (mapping ∷ mappings) pid) a n (λ w low high.
    let apart : is_mapping_at pid w mapping ≡ false = grind (arith, nat_tests) in rw apart refl))

more_ids : (pid n : ℕ) → HasSameIds pid n → HasSameIds pid (suc n)
more_ids pid n fewer a [] rise within = fewer (a + 1) [] tt tt
more_ids pid n fewer a (mapping ∷ mappings) rise within = elim (cases_Bool (mapping.pid == pid)) [
  | inr f ↦ other-front pid a (suc n) mapping mappings f ∙ more_ids pid n fewer a mappings rise.1 within.1 ∙ rw f refl
  | inl t ↦ (let own = eqb-true mapping.pid pid t in
      let at = within.0 own in
      let rest = behind pid a n mapping mappings own rise.0 within.1 at.0 in
      elim (cases_Bool (mapping.window == a)) [
        | inl here ↦ (let first : block_held_at (mapping ∷ mappings) pid a ≡ Some mapping.block = rw (t, here) refl in
            let others : map (block_held_at (mapping ∷ mappings) pid) (range_with_len (a + 1) n) ≡ map (block_held_at mappings pid) (range_with_len (a + 1) n) =
            map-same (block_held_at mappings pid) (block_held_at (mapping ∷ mappings) pid) (a + 1) n (λ w low high.
            let apart : is_mapping_at pid w mapping ≡ false = grind (arith, nat_tests) in rw apart refl) in
            ap (λ x. ids_at (x ∷ map (block_held_at (mapping ∷ mappings) pid) (range_with_len (a + 1) n))) first
            ∙ ap (λ xs. mapping.block.id ∷ ids_at xs) others ∙ ap (λ ids. mapping.block.id ∷ ids) (fewer (a + 1) mappings rise.1 rest) ∙ rw t refl)
        | inr later ↦ (let up : a < mapping.window = grind (arith, nat_tests, at) in
            let within' : AreBetween pid (a + 1) n (mapping ∷ mappings) = (λ same. (omega arith, omega (arith, at)), rest) in
            let first : block_held_at (mapping ∷ mappings) pid a ≡ None = vacant-below pid (a + 1) n a (mapping ∷ mappings) within' (omega arith) in
            ap (λ x. ids_at (x ∷ map (block_held_at (mapping ∷ mappings) pid) (range_with_len (a + 1) n))) first ∙ fewer (a + 1) (mapping ∷ mappings) rise within')
      ])
]

same_ids : (pid n : ℕ) → HasSameIds pid n
same_ids pid zero = λ a mappings rise within. sym (ap ids_of (none_between pid a mappings within))
same_ids pid (suc n) = more_ids pid n (same_ids pid n)

between-used : (owns : List OwnState) (pid : ℕ) (mappings : List Mapping) → AreUsedWindows owns (map place_of mappings) → AreBetween pid 0 (used_count_of owns pid) mappings
between-used owns pid [] within = tt
between-used owns pid (mapping ∷ mappings) within = (
  λ same. let used : used_count_of owns mapping.pid ≡ used_count_of owns pid = ap (used_count_of owns) same in (omega arith, omega (arith, within.0)),
  between-used owns pid mappings within.1,
)

-- the names of a process's blocks by its windows, and by the map
pub ids-held : (owns : List OwnState) (pid : ℕ) (mappings : List Mapping) → AreRisingPlaces (map place_of mappings) → AreUsedWindows owns (map place_of mappings)
    → ids_at (windows_of mappings pid (used_count_of owns pid)) ≡ ids_of (process_blocks pid mappings)
unfolding windows_of
ids-held owns pid mappings rising within =
    same_ids pid (used_count_of owns pid) 0 mappings rising (between-used owns pid mappings within)
