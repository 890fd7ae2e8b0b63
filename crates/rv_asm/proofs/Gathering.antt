-- The operands of `.word` and `.byte`, judged one after the other.
use Rattle.std.proofs.Common.{◌≡◌, ℕ, suc, ◌<◌, ◌≤◌, List, ◌∷◌, length, map, Option, Some, None, Result, Bor, sym, ap, arith}
use Rattle.std.specs.Prelude.{fold, option_map, IfSome}
use Rattle.rv_asm.specs.declared.fault.AsmKind.{AsmKind}
use Rattle.rv_asm.specs.Line.{pieces, comma_pieces}
use Rattle.rv_asm.specs.Faults.{with_judgment}

-- the bytes that are left, if any
abbrev pub rest_bytes : Option (Bor (List ℕ)) → Option (List ℕ)
rest_bytes rest = option_map (λ bytes. bytes.now) rest

-- one more than how many bytes are left, and 0 at the end
abbrev pub rest_size : Option (Bor (List ℕ)) → ℕ
rest_size None = 0
rest_size (Some rest) = suc (length rest.now)

pub left_shorter : (rest : Option (Bor (List ℕ))) (n : ℕ) → IfSome rest (λ bytes. length bytes.now < n) → rest_size rest ≤ n
left_shorter None n h = omega arith
left_shorter (Some rest) n h = omega arith

-- the judgments so far, and those of the operands that are left
abbrev pub with_rest : {A : Type 0} → (List ℕ → Result A AsmKind) → Result (List A) AsmKind → Option (List ℕ) → Result (List A) AsmKind
with_rest judge judgment rest = fold with_judgment judgment (map judge (comma_pieces rest))

pub with_more : {A : Type 0} (judge : List ℕ → Result A AsmKind) (judgment : Result (List A) AsmKind) (bytes first : List ℕ) (after : Option (List ℕ)) → pieces bytes ≡ first ∷ comma_pieces after
    → with_rest judge (with_judgment judgment (judge first)) after ≡ with_rest judge judgment (Some bytes)
with_more judge judgment bytes first after e = ap (λ (operands : List (List ℕ)). fold with_judgment judgment (map judge operands)) (sym e)
