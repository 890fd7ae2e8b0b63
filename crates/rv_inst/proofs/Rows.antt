-- The rule of the table: what holds of the meaning of each row that a word matches holds of the
-- word's instruction.
use Rattle.std.proofs.Common.{◌≡◌, ℕ, true, false, cond, List, [], ◌∷◌, Some, refl, subst}
use Rattle.std.specs.Prelude.{find, option_map}
use Rattle.std.specs.List.{AllByRecursion}
use Rattle.rv_model.specs.declared.inst.Inst.{Inst}
use Rattle.rv_model.specs.Words.{DecodingRow, has_fixed_fields}

-- what holds of the meaning of each row that the word matches holds of the word's instruction
pub rule : (P : Inst → Type 0) (word : ℕ) (rows : List DecodingRow) → AllByRecursion (λ row. has_fixed_fields word row ≡ true → P (row.meaning word)) rows → (i : Inst) → option_map (λ row. row.meaning word) (find (has_fixed_fields word) rows) ≡ Some i → P i
rule P word [] h i e = absurd cc
rule P word (row ∷ rows) h i e =
    elim (has_fixed_fields word row) as (λ b. has_fixed_fields word row ≡ b → option_map (λ (r : DecodingRow). r.meaning word) (cond b (Some row) (find (has_fixed_fields word) rows)) ≡ Some i → P i) [
      | true ↦ λ m same. subst P (cc) (h.0 m)
      | false ↦ λ m rest. rule P word rows h.1 i rest
    ] refl e
