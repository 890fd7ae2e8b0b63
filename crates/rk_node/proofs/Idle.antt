-- The ids of the processes that pass a test, gathered from the last process on.
use Rattle.std.proofs.Common.{◌≡◌, ℕ, ◌+◌, ◌*◌, ◌^◌, ◌<◌, ◌≤◌, Bool, true, false, if◌then◌else◌, List, [], ◌∷◌, length, drop, refl, ap, ◌∙◌, arith, length-drop}
use Rattle.std.proofs.Math.Nat.{pow-le-pow_right, pow-suc}
use mir.Val.{bool_byte}
use Rattle.ce_model.specs.declared.process.Status.{Status}
use Rattle.ce_model.specs.Limits.{process_count, process_count_lem}
use Rattle.ce_model.specs.Node.{process_set}
use Rattle.xm_owner.specs.Holdings.{Mapping}
use Rattle.rk_process.specs.OwnStates.{OwnState}
use Rattle.rk_node.specs.Standing.{later_processes}

-- the ids from a place of a list on, by the processes' own parts
abbrev pub ids_in : (Status → Bool) → List OwnState → ℕ
ids_in test [] = 0
ids_in test (own ∷ owns) = (if test own.status then 1 else 0) + 2 * ids_in test owns

ids_of-own : (test : Status → Bool) (owns : List OwnState) (mappings : List Mapping) (pid : ℕ) → ids_in test owns ≡ process_set test (later_processes mappings pid owns)
ids_of-own test [] mappings pid = refl
ids_of-own test (own ∷ owns) mappings pid = ap (λ n. (if test own.status then 1 else 0) + 2 * n) (ids_of-own test owns mappings (pid + 1))

bit-le : (b : Bool) → (if b then 1 else 0) ≤ 1
bit-le true = omega arith
bit-le false = omega arith

ids_in-less : (test : Status → Bool) (owns : List OwnState) → ids_in test owns < 2 ^ length owns
ids_in-less test [] = omega arith
ids_in-less test (own ∷ owns) = omega (arith, ids_in-less test owns, bit-le (test own.status), pow-suc 2 (length owns))

power-le : (i j : ℕ) → i ≤ j → 2 ^ i ≤ 2 ^ j
power-le i j h = pow-le-pow_right (omega arith) h

-- twice as many and one still fit a word
pub ids_behind : (test : Status → Bool) (owns : List OwnState) (i : ℕ) → length owns ≤ process_count → ids_in test (drop i owns) < 2 ^ 31
ids_behind test owns i few =
    let below = ids_in-less test (drop i owns) in
    let most = power-le (length (drop i owns)) 31 (omega (arith, process_count_lem, length-drop i owns)) in
    omega (arith, below, most)

-- all of them, once the loop is through
ids-through : (test : Status → Bool) (owns : List OwnState) (i ids : ℕ) → i ≡ 0 → ids ≡ ids_in test (drop i owns) → ids ≡ ids_in test owns
ids-through test owns i ids none e = e ∙ ap (λ k. ids_in test (drop k owns)) none

pub ids-all : (test : Status → Bool) (owns : List OwnState) (i ids : ℕ) → i ≡ 0 → ids ≡ ids_in test (drop i owns)
    → (mappings : List Mapping) (pid : ℕ) → ids ≡ process_set test (later_processes mappings pid owns)
ids-all test owns i ids none e mappings pid = ids-through test owns i ids none e ∙ ids_of-own test owns mappings pid

pub ids-less : (test : Status → Bool) (owns : List OwnState) (i ids : ℕ) → i ≡ 0 → ids ≡ ids_in test (drop i owns) → ids < 2 ^ length owns
ids-less test owns i ids none e = omega (arith, ids-through test owns i ids none e, ids_in-less test owns)

pub bit_of : (b : Bool) → bool_byte b ≤ 1
bit_of true = omega arith
bit_of false = omega arith
