-- How many blocks a node has: those in its store, and those that its processes hold.
use Rattle.std.proofs.Common.{◌≡◌, ℕ, suc, ◌+◌, ◌<◌, true, false, ◌==◌, nat_le, List, [], ◌∷◌, length, map, filter, flat_map, slice_index_or, refl, ap, sym, ◌∙◌, subst, arith, length-append, add-zero, inl, inr}
use Rattle.std.proofs.lemmas.Bool.{cases_Bool, cases_lt}
use Rattle.std.proofs.lemmas.Bool.Decides.{nat_tests}
use Rattle.std.proofs.lemmas.List.{get_or_past}
use Rattle.ce_model.specs.Space.{mapped_ids}
use Rattle.ce_model.specs.Process.{Process}
use Rattle.ce_model.specs.Node.{blocks_of}
use Rattle.xm_block.specs.Stores.{ids_of}
use Rattle.xm_owner.specs.Holdings as holdings
use Rattle.xm_owner.specs.Holdings.{Mapping}
use Rattle.rk_process.specs.OwnStates.{OwnState, place_of, unborn_state, process_with_mappings}
use Rattle.rk_node.specs.declared.node.Node.{Node}
use Rattle.rk_node.specs.Standing.{node_model, later_processes}
use Rattle.rk_node.specs.Tables.{used_count_of, AreRisingPlaces, AreUsedWindows}
use Rattle.rk_node.proofs.Names.{length-ids_of}
use Rattle.rk_node.proofs.Windows.{ids-held}

-- the mappings of processes from an id on
from : ℕ → List Mapping → List Mapping
from pid m = filter (λ mapping. nat_le pid mapping.pid) m

all-from : (m : List Mapping) → length (from 0 m) ≡ length m
unfolding from
all-from [] = refl
all-from (x ∷ xs) = elim (cases_Bool (nat_le 0 x.pid)) [
  | inl t ↦ rw t (ap suc (all-from xs))
  | inr f ↦ (let no : x.pid < 0 = grind (arith, nat_tests) in absurd (omega arith))
]

-- those of one process, and those of the processes behind it
from-next : (pid : ℕ) (m : List Mapping) → length (from pid m) ≡ length (holdings.process_blocks pid m) + length (from (pid + 1) m)
unfolding from
from-next pid [] = refl
from-next pid (x ∷ xs) =
    let rest = from-next pid xs in
    elim (cases_lt x.pid pid) [
      | inl before ↦ (let a : nat_le pid x.pid ≡ false = grind (arith, nat_tests) in
          let b : (x.pid == pid) ≡ false = grind (arith, nat_tests) in
          let d : nat_le (pid + 1) x.pid ≡ false = grind (arith, nat_tests) in rw (a, b, d) rest)
      | inr after ↦ elim (cases_lt pid x.pid) [
        | inl behind ↦ (let a : nat_le pid x.pid ≡ true = grind (arith, nat_tests) in
            let b : (x.pid == pid) ≡ false = grind (arith, nat_tests) in
            let d : nat_le (pid + 1) x.pid ≡ true = grind (arith, nat_tests) in rw (a, b, d) (omega (arith, rest)))
        | inr here ↦ (let a : nat_le pid x.pid ≡ true = grind (arith, nat_tests) in
            let b : (x.pid == pid) ≡ true = grind (arith, nat_tests) in
            let d : nat_le (pid + 1) x.pid ≡ false = grind (arith, nat_tests) in rw (a, b, d) (omega (arith, rest)))
      ]
    ]

-- no mapping is of a process that isn't there
none-from : (owns : List OwnState) (m : List Mapping) → AreUsedWindows owns (map place_of m) → length (from (length owns) m) ≡ 0
unfolding from
none-from owns [] within = refl
none-from owns (x ∷ xs) within = elim (cases_lt x.pid (length owns)) [
  | inl there ↦ (let f : nat_le (length owns) x.pid ≡ false = grind (arith, nat_tests) in rw f (none-from owns xs within.1))
  | inr past ↦ (let none : used_count_of owns x.pid ≡ 0 = ap (λ (o : OwnState). o.used_count) (get_or_past owns x.pid unborn_state past) in absurd (omega (arith, none, within.0)))
]

-- each process of a run has the names that the map has for it
abbrev AreHeld : List Mapping → ℕ → List OwnState → Type 0
AreHeld m pid owns = (k : ℕ) → k < length owns → mapped_ids (process_with_mappings m (pid + k) (slice_index_or owns k unborn_state)).space ≡ ids_of (holdings.process_blocks (pid + k) m)

count-from : (m : List Mapping) (pid : ℕ) (owns : List OwnState) → AreHeld m pid owns → length (from (pid + length owns) m) ≡ 0
    → length (flat_map (λ (p : Process). mapped_ids p.space) (later_processes m pid owns)) ≡ length (from pid m)
count-from m pid [] held none = sym none ∙ ap (λ k. length (from k m)) (add-zero pid)
count-from m pid (own ∷ owns) held none =
    let zeroth : pid + 0 ≡ pid = add-zero pid in
    let here : mapped_ids (process_with_mappings m pid own).space ≡ ids_of (holdings.process_blocks pid m) = subst (λ q. mapped_ids (process_with_mappings m q own).space ≡ ids_of (holdings.process_blocks q m)) zeroth (held 0 (omega arith)) in
    let behind : pid + suc (length owns) ≡ pid + 1 + length owns = omega arith in
    let rest = count-from m (pid + 1) owns
    (λ k h. let same : pid + suc k ≡ pid + 1 + k = omega arith in
    subst (λ q. mapped_ids (process_with_mappings m q (slice_index_or owns k unborn_state)).space ≡ ids_of (holdings.process_blocks q m)) same (held (suc k) (omega arith)))
    (ap (λ k. length (from k m)) (sym behind) ∙ none) in
    omega (
      arith,
      rest,
      from-next pid m,
      ap {B = ℕ} length here,
      length-ids_of (holdings.process_blocks pid m),
      length-append (mapped_ids (process_with_mappings m pid own).space) (flat_map (λ (p : Process). mapped_ids p.space) (later_processes m (pid + 1) owns)),
    )

pub count-held : (m : List Mapping) (owns : List OwnState) → AreRisingPlaces (map place_of m) → AreUsedWindows owns (map place_of m)
    → length (flat_map (λ (p : Process). mapped_ids p.space) (later_processes m 0 owns)) ≡ length m
count-held m owns rising within =
    let zero_more : 0 + length owns ≡ length owns = omega arith in
    count-from m 0 owns
    (λ k h. let same : k ≡ 0 + k = omega arith in
    subst (λ q. mapped_ids (process_with_mappings m q (slice_index_or owns k unborn_state)).space ≡ ids_of (holdings.process_blocks q m)) same (ids-held owns k m rising within))
    (ap (λ k. length (from k m)) zero_more ∙ none-from owns m within)
    ∙ all-from m

-- a node has as many blocks as its tables
pub count-blocks : (node : Node) → length (blocks_of (node_model node)) ≡ length node.store.blocks + length node.held_blocks.mappings
count-blocks node =
    omega (
      arith,
      length-append (ids_of node.store.blocks) (flat_map (λ (p : Process). mapped_ids p.space) (node_model node).processes),
      length-ids_of node.store.blocks,
      count-held node.held_blocks.mappings node.processes.items node.stocked.rising node.stocked.windows,
    )
