-- What an instruction keeps of a memory, where each store keeps it.
use Rattle.std.proofs.Common.{◌≡◌, ℕ, ◌%◌, ◌^◌, ◌==◌, List, Result, Ok, Err, refl, inl, inr}
use Rattle.std.specs.Option.{ok_or}
use Rattle.std.proofs.lemmas.Bool.{cases_Bool}
use Rattle.rv_model.specs.declared.stop.Stop.{Stop}
use Rattle.rv_model.specs.declared.inst.Inst.{Inst}
use Rattle.rv_model.specs.declared.inst.Inst.TheVariants.{Lui, Auipc, Jal, Jalr, Branch, Load, Store, OpImm, Op, Fence, Ecall, Ebreak}
use Rattle.rv_model.specs.Exec.{Access, Outcome, next_state, call_state, stop_state, ◌>>=◌, effect_of, jump_outcome, step_outcome, is_taken, register_value, with_register, next_pc, offset_by, load_size, store_size, loaded_number}
use Rattle.rv_model.specs.Words.{instruction_of}
use Rattle.rv_model.specs.declared.stop.Stop.TheVariants.{Illegal}

-- the memory that an instruction leaves, if it leaves one, has a property
abbrev pub IsLeftWith : {M : Type 0} → (M → Type 0) → Outcome M → Type 0
IsLeftWith P (next_state x pc m) = P m
IsLeftWith P (call_state x pc m) = P m
IsLeftWith P (stop_state cause) = Unit {0}

module _ {M : Type 0} (A : Access M) (P : M → Type 0) (stores : (m left : M) (a size n : ℕ) → A.store m a size n ≡ Ok left → P m → P left) where
  after : {X : Type 0} (r : Result X Stop) (f : X → Outcome M) → ((x : X) → r ≡ Ok x → IsLeftWith P (f x)) → IsLeftWith P (r >>= f)
  after (Ok x) f h = h x refl
  after (Err cause) f h = tt

  jumped-leaves : (pc target : ℕ) (x : List ℕ) (m : M) → P m → IsLeftWith P (jump_outcome pc target x m)
  jumped-leaves pc target x m p = elim (cases_Bool (target % 4 == 0)) [
    | inl t ↦ rw t p
    | inr f ↦ rw f tt
  ]

  performed-leaves : (inst : Inst) (x : List ℕ) (pc : ℕ) (m : M) → P m → IsLeftWith P (effect_of A inst x pc m)
  unfolding effect_of
  performed-leaves (Lui rd imm) x pc m p = p
  performed-leaves (Auipc rd imm) x pc m p = p
  performed-leaves (Jal rd offset) x pc m p = jumped-leaves pc _ _ m p
  performed-leaves (Jalr rd rs1 imm) x pc m p = jumped-leaves pc _ _ m p
  performed-leaves (Branch op rs1 rs2 offset) x pc m p = elim (cases_Bool (is_taken op (register_value x rs1) (register_value x rs2))) [
    | inl t ↦ rw t (jumped-leaves pc _ x m p)
    | inr f ↦ rw f p
  ]
  performed-leaves (Load op rd rs1 imm) x pc m p =
      after (A.load m (offset_by (register_value x rs1) imm) (load_size op)) (λ n. next_state (with_register x rd (loaded_number op n)) (next_pc pc) m) (λ n e. p)
  performed-leaves (Store op rs1 rs2 imm) x pc m p =
      let a = offset_by (register_value x rs1) imm in
      let n = register_value x rs2 % 256 ^ store_size op in
      after (A.store m a (store_size op) n) (λ left. next_state x (next_pc pc) left) (λ left e. stores m left a (store_size op) n e p)
  performed-leaves (OpImm op rd rs1 imm) x pc m p = p
  performed-leaves (Op op rd rs1 rs2) x pc m p = p
  performed-leaves (Fence word) x pc m p = p
  performed-leaves Ecall x pc m p = p
  performed-leaves Ebreak x pc m p = tt

  pub step_outcome-leaves : (x : List ℕ) (pc : ℕ) (m : M) → P m → IsLeftWith P (step_outcome A x pc m)
  unfolding step_outcome
  step_outcome-leaves x pc m p =
      after (A.fetch m pc) (λ word. ok_or (instruction_of word) (Illegal pc word) >>= (λ inst. effect_of A inst x pc m))
      (λ word e. after (ok_or (instruction_of word) (Illegal pc word)) (λ inst. effect_of A inst x pc m) (λ inst d. performed-leaves inst x pc m p))
