-- What the instructions of a statement do when they run.
use Rattle.std.proofs.Common.{◌≡◌, ℕ, ◌+◌, ◌-◌, ◌%◌, ◌^◌, ◌<◌, ◌≤◌, Bool, true, false, cond, IsTrue, List, [], ◌∷◌, length, map, set, get_or, Some, Ok, Err, Result, refl, sym, ap, ◌∙◌, subst, arith, inl, inr, ◌⊎◌}
use Rattle.std.specs.Prelude.{◌==◌, nat_lt, nat_le, ℤ, pos, negsuc, ◌-ℤ◌, not, ◌||◌}
use Rattle.std.specs.Int.{w32, cast_unsigned}
use Rattle.std.proofs.lemmas.Int.{ints}
use Rattle.std.proofs.lemmas.Bool.{ltb-true, ltb-false, leb-true, cases_lt}
use Rattle.std.proofs.lemmas.List.{set-set, get_or-set_same}
use Rattle.rv_model.specs.declared.limits.TheConstants.{BRANCH_REACH, JUMP_REACH}
use Rattle.rv_model.specs.declared.inst.Inst.{Inst}
use Rattle.rv_model.specs.declared.inst.Inst.TheVariants.{Lui, Jal, Branch, OpImm}
use Rattle.rv_model.specs.declared.inst.ImmOp.TheVariants.{Addi}
use Rattle.rv_model.specs.declared.inst.BranchOp.{BranchOp}
use Rattle.rv_model.specs.Word.{wrapping_sum}
use Rattle.rv_model.specs.Words.{instruction_of}
use Rattle.rv_model.specs.Exec.{Access, Outcome, next_state, step_outcome, effect_of, register_value, with_register, next_pc, offset_by, jump_outcome, is_taken}
use Rattle.rv_inst.specs.Valid.{IsRegister}
use Rattle.rv_asm.specs.declared.fault.AsmKind.{AsmKind}
use Rattle.rv_asm.specs.declared.symbols.Symbol.TheVariants.{Label}
use Rattle.rv_asm.specs.declared.statement.Statement.TheVariants as statements
use Rattle.rv_asm.specs.declared.fault.AsmKind.TheVariants.{TooFar}
use Rattle.rv_asm.specs.Faults.{◌>>=◌, refusal}
use Rattle.rv_asm.specs.Names.{Names}
use Rattle.rv_asm.specs.Statements.{low_part, high_part, is_short, two_instructions, load_word}
use Rattle.rv_asm.specs.SecondPass.{Part, Instruction, parts_of, address_judgment, address_of, offset_to, is_reached}
use Rattle.rv_asm_laws.specs.Effects.{HasInstructions, HasParts, steps, outcome_after_step, pc_behind}

-- ---- arithmetic

cast_below : (a : ℕ) → a < 4096 → cast_unsigned w32 (pos a -ℤ pos 4096) ≡ 2 ^ 32 - 4096 + a
cast_below a lt = omega (arith, ints)

lands : (pc target : ℕ) → pc < 2 ^ 32 → target < 2 ^ 32 → offset_by pc (pos target -ℤ pos pc) ≡ target
lands pc target h k = lands_by pc target h k (cases_lt target pc)
  where
    ahead : (pc target : ℕ) → pc ≤ target → pos target -ℤ pos pc ≡ pos (target - pc)
    ahead pc target le = omega (arith, ints)

    back : (pc target : ℕ) → target < pc → pos target -ℤ pos pc ≡ negsuc (pc - target - 1)
    back pc target lt = omega (arith, ints)

    lands_by : (pc target : ℕ) → pc < 2 ^ 32 → target < 2 ^ 32 → (target < pc) ⊎ (pc ≤ target) → offset_by pc (pos target -ℤ pos pc) ≡ target
    lands_by pc target h k (inl lt) = rw (back pc target lt) (omega arith)
    lands_by pc target h k (inr le) = rw (ahead pc target le) (omega arith)

sum_by : (word : ℕ) (low : Bool) → nat_lt (word % 4096) 2048 ≡ low → word < 2 ^ 32
    → wrapping_sum (high_part word) (cast_unsigned w32 (cond low (pos (word % 4096)) (pos (word % 4096) -ℤ pos 4096))) ≡ word
sum_by word true e fits = let lt = ltb-true _ _ e in omega arith
sum_by word false e fits =
    let le = ltb-false _ _ e in
    let low = cast_below (word % 4096) (omega arith) in
    omega (arith, low)

sum_of_parts : (word : ℕ) → word < 2 ^ 32 → wrapping_sum (high_part word) (cast_unsigned w32 (low_part word)) ≡ word
sum_of_parts word fits = sum_by word (nat_lt (word % 4096) 2048) refl fits

short_by : (word : ℕ) (low : Bool) → nat_lt (word % 4096) 2048 ≡ low → word < 2 ^ 32 → (word < 2048 → ⊥) → 2 ^ 32 - 2048 ≤ word
    → wrapping_sum 0 (cast_unsigned w32 (cond low (pos (word % 4096)) (pos (word % 4096) -ℤ pos 4096))) ≡ word
short_by word true e fits some le = let lt = ltb-true _ _ e in absurd (omega arith)
short_by word false e fits some le =
    let low = cast_below (word % 4096) (omega arith) in
    omega (arith, low)

small_by : (word : ℕ) (low : Bool) → nat_lt (word % 4096) 2048 ≡ low → word < 2048
    → wrapping_sum 0 (cast_unsigned w32 (cond low (pos (word % 4096)) (pos (word % 4096) -ℤ pos 4096))) ≡ word
small_by word true e lt = omega arith
small_by word false e lt = let le = ltb-false _ _ e in absurd (omega arith)

short_sum : (word : ℕ) (small : Bool) → nat_lt word 2048 ≡ small → small || nat_le (2 ^ 32 - 2048) word ≡ true → word < 2 ^ 32 → wrapping_sum 0 (cast_unsigned w32 (low_part word)) ≡ word
short_sum word true e short fits = small_by word (nat_lt (word % 4096) 2048) refl (ltb-true _ _ e)
short_sum word false e short fits =
    let le = ltb-false _ _ e in
    short_by word (nat_lt (word % 4096) 2048) refl fits (λ lt. absurd (omega arith)) (leb-true _ _ short)

-- ---- one step

step_is : (A : Access (List ℕ)) (x m : List ℕ) (pc word : ℕ) (inst : Inst) → A.fetch m pc ≡ Ok word → instruction_of word ≡ Some inst → step_outcome A x pc m ≡ effect_of A inst x pc m
unfolding step_outcome
step_is A x m pc word inst f d = rw (f, d) refl

-- ---- `li` and `la`

-- a register that is written twice
written_by : (x : List ℕ) (rd first second word : ℕ) (none : Bool) → (rd == 0) ≡ none → rd < length x → wrapping_sum first second ≡ word
    → with_register (with_register x rd first) rd (wrapping_sum (register_value (with_register x rd first) rd) second) ≡ with_register x rd word
written_by x rd first second word true e lt sum = rw e refl
written_by x rd first second word false e lt sum =
    rw e (set-set x rd first (wrapping_sum (get_or (set x rd first) rd 0) second) ∙ ap (set x rd) (ap (λ n. wrapping_sum n second) (get_or-set_same x rd first 0 lt) ∙ sum))

two_load : (A : Access (List ℕ)) (x m : List ℕ) (pc rd word : ℕ) → length x ≡ 32 → IsRegister rd → word < 2 ^ 32 → HasInstructions A m pc (two_instructions rd word)
    → steps 2 A x pc m ≡ next_state (with_register x rd word) (pc_behind 2 pc) m
unfolding effect_of
two_load A x m pc rd word len register fits h =
    let x1 = with_register x rd (high_part word) in
    ap (outcome_after_step (steps 1 A)) (step_is A x m pc h.0 _ h.1 h.2)
    ∙ ap (outcome_after_step (steps 0 A)) (step_is A x1 m (next_pc pc) h.3.0 _ h.3.1 h.3.2)
    ∙ ap (λ (y : List ℕ). next_state y (pc_behind 2 pc) m) (written_by x rd (high_part word) (cast_unsigned w32 (low_part word)) word (rd == 0) refl (omega (arith, len, register)) (sum_of_parts word fits))

one_load : (A : Access (List ℕ)) (x m : List ℕ) (pc rd word : ℕ) → is_short word ≡ true → word < 2 ^ 32 → HasInstructions A m pc (OpImm Addi rd 0 (low_part word) ∷ [])
    → steps 1 A x pc m ≡ next_state (with_register x rd word) (pc_behind 1 pc) m
unfolding effect_of
one_load A x m pc rd word short fits h =
    ap (outcome_after_step (steps 0 A)) (step_is A x m pc h.0 _ h.1 h.2)
    ∙ ap (λ (n : ℕ). next_state (with_register x rd n) (pc_behind 1 pc) m) (short_sum word (nat_lt word 2048) refl short fits)

li_by : (A : Access (List ℕ)) (x m : List ℕ) (pc rd word : ℕ) (short : Bool) → is_short word ≡ short → length x ≡ 32 → IsRegister rd → word < 2 ^ 32
    → HasInstructions A m pc (cond short (OpImm Addi rd 0 (low_part word) ∷ []) (two_instructions rd word))
    → steps (length (cond short (OpImm Addi rd 0 (low_part word) ∷ []) (two_instructions rd word))) A x pc m
    ≡ next_state (with_register x rd word) (pc_behind (length (cond short (OpImm Addi rd 0 (low_part word) ∷ []) (two_instructions rd word))) pc) m
li_by A x m pc rd word true e len register fits h = one_load A x m pc rd word e fits h
li_by A x m pc rd word false e len register fits h = two_load A x m pc rd word len register fits h

pub li_loads : (A : Access (List ℕ)) (x m : List ℕ) (pc rd word : ℕ) → length x ≡ 32 → IsRegister rd → word < 2 ^ 32 → HasInstructions A m pc (load_word rd word)
    → steps (length (load_word rd word)) A x pc m ≡ next_state (with_register x rd word) (pc_behind (length (load_word rd word)) pc) m
li_loads A x m pc rd word len register fits h = li_by A x m pc rd word (is_short word) refl len register fits h

parts_in : Result (List Part) AsmKind → List Part
parts_in (Ok parts) = parts
parts_in (Err kind) = []

pub la_loads : (A : Access (List ℕ)) (names : Names) (x m label : List ℕ) (pc rd address : ℕ) (parts : List Part)
    → length x ≡ 32 → IsRegister rd → address < 2 ^ 32 → names label ≡ Some (Label address)
    → parts_of names pc (statements.La rd label) ≡ Ok parts → HasParts A m pc parts
    → steps 2 A x pc m ≡ next_state (with_register x rd address) (pc_behind 2 pc) m
unfolding parts_of address_of parts_in
la_loads A names x m label pc rd address parts len register fits known e h =
    let these : Instruction (Lui rd (high_part address)) ∷ Instruction (OpImm Addi rd rd (low_part address)) ∷ [] ≡ parts =
    sym (ap (λ meaning. parts_in (address_judgment meaning >>= λ target. Ok (map Instruction (two_instructions rd target)))) known) ∙ ap parts_in e in
    two_load A x m pc rd address len register fits (subst (HasParts A m pc) (sym these) h)

-- ---- jumps

reached_by : (reached : Bool) (make : ℤ → Inst) (offset : ℤ) (parts : List Part) → ((refusal (not reached) TooFar >>= λ near. Ok offset) >>= λ it. Ok (Instruction (make it) ∷ [])) ≡ Ok parts
    → Instruction (make offset) ∷ [] ≡ parts
unfolding parts_in
reached_by true make offset parts e = ap parts_in e
reached_by false make offset parts e = absurd cc

-- what a jump or a branch to a known label becomes
reaches : (reach : ℕ) (names : Names) (label : List ℕ) (pc address : ℕ) (make : ℤ → Inst) (parts : List Part) → names label ≡ Some (Label address)
    → (address_of names label >>= λ target. offset_to reach pc target >>= λ it. Ok (Instruction (make it) ∷ [])) ≡ Ok parts
    → Instruction (make (pos address -ℤ pos pc)) ∷ [] ≡ parts
unfolding address_of offset_to
reaches reach names label pc address make parts known e =
    reached_by (is_reached reach (pos address -ℤ pos pc)) make (pos address -ℤ pos pc) parts
    (sym (ap (λ meaning. address_judgment meaning >>= λ target. offset_to reach pc target >>= λ it. Ok (Instruction (make it) ∷ [])) known) ∙ e)

pub jal_jumps : (A : Access (List ℕ)) (names : Names) (x m label : List ℕ) (pc rd address : ℕ) (parts : List Part)
    → pc < 2 ^ 32 → address < 2 ^ 32 → names label ≡ Some (Label address)
    → parts_of names pc (statements.Jal rd label) ≡ Ok parts → HasParts A m pc parts
    → step_outcome A x pc m ≡ jump_outcome pc address (with_register x rd (next_pc pc)) m
unfolding parts_of effect_of
jal_jumps A names x m label pc rd address parts low fits known e h =
    let these = reaches JUMP_REACH names label pc address (λ it. Jal rd it) parts known e in
    let has = subst (HasParts A m pc) (sym these) h in
    step_is A x m pc has.0 _ has.1 has.2 ∙ ap (λ (n : ℕ). jump_outcome pc n (with_register x rd (next_pc pc)) m) (lands pc address low fits)

taken_by : {M : Type 0} (taken : Bool) (then_out else_out : Outcome M) → IsTrue taken → cond taken then_out else_out ≡ then_out
taken_by true then_out else_out h = refl
taken_by false then_out else_out h = absurd cc

pub branch_jumps : (A : Access (List ℕ)) (names : Names) (x m label : List ℕ) (pc rs1 rs2 address : ℕ) (op : BranchOp) (parts : List Part)
    → pc < 2 ^ 32 → address < 2 ^ 32 → names label ≡ Some (Label address)
    → parts_of names pc (statements.Branch op rs1 rs2 label) ≡ Ok parts → HasParts A m pc parts
    → IsTrue (is_taken op (register_value x rs1) (register_value x rs2)) → step_outcome A x pc m ≡ jump_outcome pc address x m
unfolding parts_of effect_of
branch_jumps A names x m label pc rs1 rs2 address op parts low fits known e h taken =
    let these = reaches BRANCH_REACH names label pc address (λ it. Branch op rs1 rs2 it) parts known e in
    let has = subst (HasParts A m pc) (sym these) h in
    step_is A x m pc has.0 _ has.1 has.2
    ∙ taken_by (is_taken op (register_value x rs1) (register_value x rs2)) _ _ taken
    ∙ ap (λ (n : ℕ). jump_outcome pc n x m) (lands pc address low fits)
