-- What the instructions of a statement do when they run.
use Rattle.std.specs.Prelude.{◌≡◌, ℕ, ◌+◌, suc, zero, List, [], ◌∷◌, length, Some, Ok}
use Rattle.rv_model.specs.declared.inst.Inst.{Inst}
use Rattle.rv_model.specs.Words.{instruction_of}
use Rattle.rv_model.specs.Exec.{Access, Outcome, next_state, call_state, stop_state, step_outcome, next_pc}
use Rattle.rv_asm.specs.SecondPass.{Part, Instruction, Plain}

-- from an address on, the memory has words that are decoded to these instructions
abbrev pub HasInstructions : Access (List ℕ) → List ℕ → ℕ → List Inst → Type 0
HasInstructions A m pc [] = Unit {0}
HasInstructions A m pc (inst ∷ insts) =
    (word : ℕ) × (A.fetch m pc ≡ Ok word) × (instruction_of word ≡ Some inst)
    × HasInstructions A m (next_pc pc) insts

-- the same of the parts of an image
abbrev pub HasParts : Access (List ℕ) → List ℕ → ℕ → List Part → Type 0
HasParts A m pc [] = Unit {0}
HasParts A m pc (Instruction inst ∷ parts) =
    (word : ℕ) × (A.fetch m pc ≡ Ok word) × (instruction_of word ≡ Some inst)
    × HasParts A m (next_pc pc) parts
HasParts A m pc (Plain bytes ∷ parts) = HasParts A m (pc + length bytes) parts

-- what comes after a step: so many more, if it went
abbrev pub outcome_after_step : (List ℕ → ℕ → List ℕ → Outcome (List ℕ)) → Outcome (List ℕ)
    → Outcome (List ℕ)
outcome_after_step next (next_state x pc m) = next x pc m
outcome_after_step next (call_state x pc m) = call_state x pc m
outcome_after_step next (stop_state cause) = stop_state cause

-- so many steps, one after the other
abbrev pub steps : ℕ → Access (List ℕ) → List ℕ → ℕ → List ℕ → Outcome (List ℕ)
steps zero A x pc m = next_state x pc m
steps (suc n) A x pc m = outcome_after_step (steps n A) (step_outcome A x pc m)

-- the address behind so many instructions
abbrev pub pc_behind : ℕ → ℕ → ℕ
pc_behind zero pc = pc
pc_behind (suc n) pc = pc_behind n (next_pc pc)
